-- Sessions that come to wait, and how many do.
use Rattle.std.proofs.Common.{◌≡◌, ℕ, ◌+◌, ◌==◌, Bool, true, false, List, [], ◌∷◌, ◌++◌, nat_le, refl, sym, ap, ◌∙◌, arith, inl, inr}
use Rattle.std.specs.Prelude.{Option, Some, None}
use Rattle.std.proofs.lemmas.Bool.{cases_Bool}
use Rattle.host_types.specs.Site.{Site}
use Rattle.host_types.specs.declared.change.Change.{Change}
use Rattle.request_reader.specs.Request.{Request}
use Rattle.request_reader.specs.Verdict.{Verdict, Open, Early as EndedEarly, Whole, Bad, verdict}
use Rattle.site_replies.specs.Reply.{WholeAnswer, reply}
use Rattle.group_world.specs.World.{World, Phase, Heard, Waits, Reply, Early, phase_in, moved_in, others_in, one_waiting, count_waiting}
use Rattle.group_world.specs.Step.{StepResult, waits_or, settles, understood, listens, ends, draws, moves, settled, heard_by, most_waiting, then_is}
use Rattle.group_world.specs.declared.event.Outcome.TheVariants.{Waiting}

-- ---- how many wait

pub count_more : (xs ys : List (ℕ × Phase)) → count_waiting (xs ++ ys) ≡ count_waiting xs + count_waiting ys
count_more [] ys = omega arith
count_more (x ∷ xs) ys = (let rest = count_more xs ys in omega (arith, rest))

pub count_moved : (ss : List (ℕ × Phase)) (id : ℕ) (p q : Phase) → phase_in ss id ≡ Some p → count_waiting (moved_in ss id q) + one_waiting p ≡ count_waiting ss + one_waiting q
count_moved [] id p q there = absurd (cc there)
count_moved (s ∷ ss) id p q there =
    elim (cases_Bool (s.0 == id)) [
      | inl e ↦ (let here : Some s.1 ≡ Some p = sym (rw e refl) ∙ there in let is : s.1 ≡ p = cc here in let one : one_waiting s.1 ≡ one_waiting p = ap one_waiting is in rw e (omega (arith, one)))
      | inr n ↦ (let rest = count_moved ss id p q (sym (rw n refl) ∙ there) in rw n (omega (arith, rest)))
    ]

pub count_gone : (ss : List (ℕ × Phase)) (id : ℕ) (p : Phase) → phase_in ss id ≡ Some p → count_waiting (others_in ss id) + one_waiting p ≡ count_waiting ss
count_gone [] id p there = absurd (cc there)
count_gone (s ∷ ss) id p there =
    elim (cases_Bool (s.0 == id)) [
      | inl e ↦ (let here : Some s.1 ≡ Some p = sym (rw e refl) ∙ there in let is : s.1 ≡ p = cc here in let one : one_waiting s.1 ≡ one_waiting p = ap one_waiting is in rw e (omega (arith, one)))
      | inr n ↦ (let rest = count_gone ss id p (sym (rw n refl) ∙ there) in rw n (omega (arith, rest)))
    ]

-- ---- who comes to wait

-- a session within its request whose post is to wait
abbrev pub comes_to_wait : Phase → Phase → Bool
comes_to_wait (Heard stream) (Waits request since) = true
comes_to_wait (Heard stream) (Heard more) = false
comes_to_wait (Heard stream) (Reply rest) = false
comes_to_wait (Heard stream) Early = false
comes_to_wait (Waits request since) q = false
comes_to_wait (Reply rest) q = false
comes_to_wait Early q = false

settles_waits : (grouped : Bool) (request : Request) (now : ℕ) (a : WholeAnswer) → (settles grouped request now a).outcome ≡ Waiting → one_waiting (settles grouped request now a).phase ≡ 1
settles_waits true request now a is = by a.post is
  where
    by : (o : Option Change) → (waits_or request now a o).outcome ≡ Waiting → one_waiting (waits_or request now a o).phase ≡ 1
    by None is = absurd (cc is)
    by (Some post) is = refl
settles_waits false request now a is = absurd (cc is)

settles_none : (grouped : Bool) (request : Request) (now : ℕ) (a : WholeAnswer) → ((settles grouped request now a).outcome ≡ Waiting → ⊥) → one_waiting (settles grouped request now a).phase ≡ 0
settles_none true request now a not_so = by a.post not_so
  where
    by : (o : Option Change) → ((waits_or request now a o).outcome ≡ Waiting → ⊥) → one_waiting (waits_or request now a o).phase ≡ 0
    by None not_so = refl
    by (Some post) not_so = absurd (not_so refl)
settles_none false request now a not_so = refl

understood_waits : (grouped : Bool) (site : Site) (now : ℕ) (stream : List ℕ) (v : Verdict) → (understood grouped site now stream v).outcome ≡ Waiting → one_waiting (understood grouped site now stream v).phase ≡ 1
understood_waits grouped site now stream Open is = absurd (cc is)
understood_waits grouped site now stream EndedEarly is = absurd (cc is)
understood_waits grouped site now stream (Whole request) is = settles_waits grouped request now (reply site request now) is
understood_waits grouped site now stream (Bad cause) is = absurd (cc is)

understood_none : (grouped : Bool) (site : Site) (now : ℕ) (stream : List ℕ) (v : Verdict) → ((understood grouped site now stream v).outcome ≡ Waiting → ⊥) → one_waiting (understood grouped site now stream v).phase ≡ 0
understood_none grouped site now stream Open not_so = refl
understood_none grouped site now stream EndedEarly not_so = refl
understood_none grouped site now stream (Whole request) not_so = settles_none grouped request now (reply site request now) not_so
understood_none grouped site now stream (Bad cause) not_so = refl

-- What an answer to input tells of waiting.
pub record TellsWaiting (f : Phase → StepResult) : Type 0 where
  pub waits : (p : Phase) → (f p).outcome ≡ Waiting → one_waiting (f p).phase ≡ 1
  pub none : (p : Phase) → ((f p).outcome ≡ Waiting → ⊥) → one_waiting (f p).phase ≡ 0
  pub still : (p : Phase) → one_waiting p ≡ 1 → (f p).phase ≡ p
  pub replied : (p : Phase) → one_waiting p ≡ 0 → ((stream : List ℕ) → p ≡ Heard stream → ⊥) → (f p).outcome ≡ Waiting → ⊥

pub listens_tells : (grouped : Bool) (site : Site) (now : ℕ) (piece : List ℕ) → TellsWaiting (listens grouped site now piece)
listens_tells grouped site now piece = record { waits = waits; none = none; still = still; replied = replied }
  where
    waits : (p : Phase) → (listens grouped site now piece p).outcome ≡ Waiting → one_waiting (listens grouped site now piece p).phase ≡ 1
    waits (Heard stream) is = understood_waits grouped site now (stream ++ piece) (verdict (stream ++ piece) false) is
    waits (Waits request since) is = refl
    waits (Reply rest) is = absurd (cc is)
    waits Early is = absurd (cc is)

    none : (p : Phase) → ((listens grouped site now piece p).outcome ≡ Waiting → ⊥) → one_waiting (listens grouped site now piece p).phase ≡ 0
    none (Heard stream) not_so = understood_none grouped site now (stream ++ piece) (verdict (stream ++ piece) false) not_so
    none (Waits request since) not_so = absurd (not_so refl)
    none (Reply rest) not_so = refl
    none Early not_so = refl

    still : (p : Phase) → one_waiting p ≡ 1 → (listens grouped site now piece p).phase ≡ p
    still (Heard stream) one = absurd (cc one)
    still (Waits request since) one = refl
    still (Reply rest) one = absurd (cc one)
    still Early one = absurd (cc one)

    replied : (p : Phase) → one_waiting p ≡ 0 → ((stream : List ℕ) → p ≡ Heard stream → ⊥) → (listens grouped site now piece p).outcome ≡ Waiting → ⊥
    replied (Heard stream) zero not is = not stream refl
    replied (Waits request since) zero not is = absurd (cc zero)
    replied (Reply rest) zero not is = cc is
    replied Early zero not is = cc is

pub ends_tells : (grouped : Bool) (site : Site) (now : ℕ) → TellsWaiting (ends grouped site now)
ends_tells grouped site now = record { waits = waits; none = none; still = still; replied = replied }
  where
    waits : (p : Phase) → (ends grouped site now p).outcome ≡ Waiting → one_waiting (ends grouped site now p).phase ≡ 1
    waits (Heard stream) is = understood_waits grouped site now stream (verdict stream true) is
    waits (Waits request since) is = refl
    waits (Reply rest) is = absurd (cc is)
    waits Early is = absurd (cc is)

    none : (p : Phase) → ((ends grouped site now p).outcome ≡ Waiting → ⊥) → one_waiting (ends grouped site now p).phase ≡ 0
    none (Heard stream) not_so = understood_none grouped site now stream (verdict stream true) not_so
    none (Waits request since) not_so = absurd (not_so refl)
    none (Reply rest) not_so = refl
    none Early not_so = refl

    still : (p : Phase) → one_waiting p ≡ 1 → (ends grouped site now p).phase ≡ p
    still (Heard stream) one = absurd (cc one)
    still (Waits request since) one = refl
    still (Reply rest) one = absurd (cc one)
    still Early one = absurd (cc one)

    replied : (p : Phase) → one_waiting p ≡ 0 → ((stream : List ℕ) → p ≡ Heard stream → ⊥) → (ends grouped site now p).outcome ≡ Waiting → ⊥
    replied (Heard stream) zero not is = not stream refl
    replied (Waits request since) zero not is = absurd (cc zero)
    replied (Reply rest) zero not is = cc is
    replied Early zero not is = cc is

-- ---- what the world does with them

pub heard_moves : (w : World) (id now : ℕ) (r : StepResult) (p : Phase) → comes_to_wait p r.phase ≡ false → heard_by w id now r p ≡ moves w id now r
heard_moves w id now r (Heard stream) is = by r.phase is
  where
    by : (q : Phase) → comes_to_wait (Heard stream) q ≡ false → settled w id now r q ≡ moves w id now r
    by (Heard more) is = refl
    by (Waits request since) is = absurd (cc is)
    by (Reply rest) is = refl
    by Early is = refl
heard_moves w id now r (Waits request since) is = refl
heard_moves w id now r (Reply rest) is = refl
heard_moves w id now r Early is = refl

-- a post that comes to wait
pub record ComesToWait (p q : Phase) : Type 0 where
  pub stream : List ℕ
  pub request : Request
  pub since : ℕ
  pub heard : p ≡ Heard stream
  pub waits : q ≡ Waits request since

pub coming : (p q : Phase) → comes_to_wait p q ≡ true → ComesToWait p q
coming (Heard stream) (Waits request since) is = record { stream = stream; request = request; since = since; heard = refl; waits = refl }
coming (Heard stream) (Heard more) is = absurd (cc is)
coming (Heard stream) (Reply rest) is = absurd (cc is)
coming (Heard stream) Early is = absurd (cc is)
coming (Waits request since) q is = absurd (cc is)
coming (Reply rest) q is = absurd (cc is)
coming Early q is = absurd (cc is)

-- it does where it is told so, and the session is within its request
pub comes_by : (f : Phase → StepResult) (p : Phase) → TellsWaiting f → one_waiting p ≡ 0 → (f p).outcome ≡ Waiting → comes_to_wait p (f p).phase ≡ true
comes_by f (Heard stream) tells zero is = by (f (Heard stream)).phase (tells.waits (Heard stream) is)
  where
    by : (q : Phase) → one_waiting q ≡ 1 → comes_to_wait (Heard stream) q ≡ true
    by (Heard more) one = absurd (cc one)
    by (Waits request since) one = refl
    by (Reply rest) one = absurd (cc one)
    by Early one = absurd (cc one)
comes_by f (Waits request since) tells zero is = absurd (cc zero)
comes_by f (Reply rest) tells zero is = absurd (tells.replied (Reply rest) refl (λ stream e. cc e) is)
comes_by f Early tells zero is = absurd (tells.replied Early refl (λ stream e. cc e) is)

-- and NOT where it isn't told so, or where it waits already
pub stays_by : (f : Phase → StepResult) (p : Phase) → TellsWaiting f → ((f p).outcome ≡ Waiting → ⊥) → comes_to_wait p (f p).phase ≡ false
stays_by f (Heard stream) tells not_so = by (f (Heard stream)).phase (tells.none (Heard stream) not_so)
  where
    by : (q : Phase) → one_waiting q ≡ 0 → comes_to_wait (Heard stream) q ≡ false
    by (Heard more) zero = refl
    by (Waits request since) zero = absurd (cc zero)
    by (Reply rest) zero = refl
    by Early zero = refl
stays_by f (Waits request since) tells not_so = refl
stays_by f (Reply rest) tells not_so = refl
stays_by f Early tells not_so = refl

pub waited_stays : (p q : Phase) → one_waiting p ≡ 1 → comes_to_wait p q ≡ false
waited_stays (Heard stream) q one = absurd (cc one)
waited_stays (Waits request since) q one = refl
waited_stays (Reply rest) q one = absurd (cc one)
waited_stays Early q one = absurd (cc one)

pub waits_well : (w : World) (id now : ℕ) (r : StepResult) (request : Request) (since : ℕ) → nat_le most_waiting (count_waiting w.sessions) ≡ false → settled w id now r (Waits request since) ≡ then_is r.outcome (record w { sessions = others_in w.sessions id ++ (id, Waits request since) ∷ [] })
waits_well w id now r request since room = rw room refl

-- ---- a draw

pub draws_wait : (room : ℕ) (p : Phase) → one_waiting (draws room p).phase ≡ one_waiting p
draws_wait room (Heard stream) = refl
draws_wait room (Waits request since) = refl
draws_wait room Early = refl
draws_wait room (Reply []) = refl
draws_wait room (Reply (b ∷ rest)) = refl

-- ---- where posts wait, none is made at once

settles_posts : (request : Request) (now : ℕ) (a : WholeAnswer) → (settles true request now a).post ≡ None
settles_posts request now a = by a.post refl
  where
    by : (o : Option Change) → a.post ≡ o → (waits_or request now a o).post ≡ None
    by None is = is
    by (Some post) is = refl

understood_posts : (site : Site) (now : ℕ) (stream : List ℕ) (v : Verdict) → (understood true site now stream v).post ≡ None
understood_posts site now stream Open = refl
understood_posts site now stream EndedEarly = refl
understood_posts site now stream (Whole request) = settles_posts request now (reply site request now)
understood_posts site now stream (Bad cause) = refl

pub listens_posts : (grouped : Bool) (site : Site) (now : ℕ) (piece : List ℕ) (p : Phase) → grouped ≡ true → (listens grouped site now piece p).post ≡ None
listens_posts grouped site now piece (Heard stream) is = rw is (understood_posts site now (stream ++ piece) (verdict (stream ++ piece) false))
listens_posts grouped site now piece (Waits request since) is = refl
listens_posts grouped site now piece (Reply rest) is = refl
listens_posts grouped site now piece Early is = refl

pub ends_posts : (grouped : Bool) (site : Site) (now : ℕ) (p : Phase) → grouped ≡ true → (ends grouped site now p).post ≡ None
ends_posts grouped site now (Heard stream) is = rw is (understood_posts site now stream (verdict stream true))
ends_posts grouped site now (Waits request since) is = refl
ends_posts grouped site now (Reply rest) is = refl
ends_posts grouped site now Early is = refl

-- and where they don't, nobody comes to wait
understood_plain : (site : Site) (now : ℕ) (stream : List ℕ) (v : Verdict) → one_waiting (understood false site now stream v).phase ≡ 0
understood_plain site now stream Open = refl
understood_plain site now stream EndedEarly = refl
understood_plain site now stream (Whole request) = refl
understood_plain site now stream (Bad cause) = refl

pub listens_plain : (grouped : Bool) (site : Site) (now : ℕ) (piece : List ℕ) (p : Phase) → grouped ≡ false → one_waiting (listens grouped site now piece p).phase ≡ one_waiting p
listens_plain grouped site now piece (Heard stream) is = rw is (understood_plain site now (stream ++ piece) (verdict (stream ++ piece) false))
listens_plain grouped site now piece (Waits request since) is = refl
listens_plain grouped site now piece (Reply rest) is = refl
listens_plain grouped site now piece Early is = refl

pub ends_plain : (grouped : Bool) (site : Site) (now : ℕ) (p : Phase) → grouped ≡ false → one_waiting (ends grouped site now p).phase ≡ one_waiting p
ends_plain grouped site now (Heard stream) is = rw is (understood_plain site now stream (verdict stream true))
ends_plain grouped site now (Waits request since) is = refl
ends_plain grouped site now (Reply rest) is = refl
ends_plain grouped site now Early is = refl

-- ---- a post comes to wait with nothing made

made_none : (request : Request) (now : ℕ) (a : WholeAnswer) (o : Option Change) → one_waiting (waits_or request now a o).phase ≡ 1 → (waits_or request now a o).post ≡ None
made_none request now a None one = absurd (cc one)
made_none request now a (Some post) one = refl

settles_nothing : (grouped : Bool) (request : Request) (now : ℕ) (a : WholeAnswer) → one_waiting (settles grouped request now a).phase ≡ 1 → (settles grouped request now a).post ≡ None
settles_nothing true request now a one = made_none request now a a.post one
settles_nothing false request now a one = absurd (cc one)

understood_nothing : (grouped : Bool) (site : Site) (now : ℕ) (stream : List ℕ) (v : Verdict) → one_waiting (understood grouped site now stream v).phase ≡ 1 → (understood grouped site now stream v).post ≡ None
understood_nothing grouped site now stream Open one = refl
understood_nothing grouped site now stream EndedEarly one = refl
understood_nothing grouped site now stream (Whole request) one = settles_nothing grouped request now (reply site request now) one
understood_nothing grouped site now stream (Bad cause) one = refl

pub listens_nothing : (grouped : Bool) (site : Site) (now : ℕ) (piece stream : List ℕ) → one_waiting (listens grouped site now piece (Heard stream)).phase ≡ 1 → (listens grouped site now piece (Heard stream)).post ≡ None
listens_nothing grouped site now piece stream one = understood_nothing grouped site now (stream ++ piece) (verdict (stream ++ piece) false) one

pub ends_nothing : (grouped : Bool) (site : Site) (now : ℕ) (stream : List ℕ) → one_waiting (ends grouped site now (Heard stream)).phase ≡ 1 → (ends grouped site now (Heard stream)).post ≡ None
ends_nothing grouped site now stream one = understood_nothing grouped site now stream (verdict stream true) one
