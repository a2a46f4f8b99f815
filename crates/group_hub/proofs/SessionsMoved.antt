-- All sessions where one of them moves, or goes, and its pin with it.
use Rattle.std.proofs.Common.{◌≡◌, ℕ, zero, suc, ◌+◌, ◌<◌, List, [], ◌∷◌, ◌++◌, length, get_or, set, remove, refl, ap, sym, ◌∙◌, arith, subst}
use Rattle.std.specs.Prelude.{◌==◌, Option, Some, None}
use Rattle.std.specs.List.{position}
use Rattle.host_types.specs.SiteState.{SiteState}
use Rattle.host_types.specs.Pins.{Pinned, Copied, Numbered, pinned_items, viewed_among}
use Rattle.view_draws.specs.ViewDraw.{rest_of, IsOf}
use Rattle.group_world.specs.World as world
use Rattle.group_world.specs.World.{moved_in, others_in}
use Rattle.group_hub.specs.HeldPins.{times, count_numbered, listed, HoldsAll, MovesPins}
use Rattle.group_hub.specs.Sessions.{phase_of, session_of, sessions_of, pin_of, pins_of, IsSound, AreSound}
use Rattle.group_hub.specs.declared.session.Session.{Session}
use Rattle.group_hub.specs.declared.session.Phase.{Phase}
use Rattle.group_hub.specs.declared.session.Phase.TheVariants as phases
use Rattle.group_hub.proofs.PinsMoved.{EachIs, each, each_on, others_are_apart, kept_still, none_moves}
use Rattle.group_hub.proofs.SessionPlaces.{place_found, place_below}

-- ---- pins in another order

pub record SamePins (a b : List Pinned) : Type 0 where
  pub times : (n : ℕ) → times n a ≡ times n b
  pub count : count_numbered a ≡ count_numbered b

pub times_both : (n : ℕ) (a b : List Pinned) → times n (a ++ b) ≡ times n a + times n b
times_both n [] b = omega arith
times_both n (Copied items ∷ a) b = times_both n a b
times_both n (Numbered m ∷ a) b = let rest = times_both n a b in omega (arith, rest)

pub count_both : (a b : List Pinned) → count_numbered (a ++ b) ≡ count_numbered a + count_numbered b
count_both [] b = omega arith
count_both (Copied items ∷ a) b = count_both a b
count_both (Numbered m ∷ a) b = let rest = count_both a b in omega (arith, rest)

-- a list before another may stand behind the one that follows
swapped : (a b c rest : List Pinned) → SamePins rest (b ++ c) → SamePins (a ++ rest) (b ++ (a ++ c))
swapped a b c rest same = record {
  times = λ n. omega (arith, times_both n a rest, times_both n b c, times_both n b (a ++ c), times_both n a c, same.times n);
  count = omega (arith, count_both a rest, count_both b c, count_both b (a ++ c), count_both a c, same.count);
}

pub holds_same : (h : SiteState) (a b : List Pinned) → SamePins a b → HoldsAll h a → HoldsAll h b
holds_same h a b same holds = record { once = λ n. sym (same.times n) ∙ holds.once n; count = sym same.count ∙ holds.count }

pub back : (a b : List Pinned) → SamePins a b → SamePins b a
back a b same = record { times = λ n. sym (same.times n); count = sym same.count }

module _ {P : Type 0} (pinned : P → Pinned) where
  -- a session's pin, and those of all others
  pub parted : (items : List (Session P)) (at : ℕ) (x : Session P) → at < length items → x ≡ get_or items at x → SamePins (pins_of pinned items) (listed (pin_of pinned x.phase) ++ pins_of pinned (remove items at))
  parted [] at x within read = absurd (omega (arith, within))
  parted (s ∷ ss) zero x within read = let same : x ≡ s = read in record { times = λ n. ap (λ (y : Session P). times n (listed (pin_of pinned y.phase) ++ pins_of pinned ss)) (sym same); count = ap (λ (y : Session P). count_numbered (listed (pin_of pinned y.phase) ++ pins_of pinned ss)) (sym same) }
  parted (s ∷ ss) (suc at) x within read = swapped (listed (pin_of pinned s.phase)) (listed (pin_of pinned x.phase)) (pins_of pinned (remove ss at)) (pins_of pinned ss) (parted ss at x (omega (arith, within)) read)

  pub parted_set : (items : List (Session P)) (at : ℕ) (y : Session P) → at < length items → SamePins (pins_of pinned (set items at y)) (listed (pin_of pinned y.phase) ++ pins_of pinned (remove items at))
  parted_set [] at y within = absurd (omega (arith, within))
  parted_set (s ∷ ss) zero y within = record { times = λ n. refl; count = refl }
  parted_set (s ∷ ss) (suc at) y within = swapped (listed (pin_of pinned s.phase)) (listed (pin_of pinned y.phase)) (pins_of pinned (remove ss at)) (pins_of pinned (set ss at y)) (parted_set ss at y (omega (arith, within)))

  -- ---- sessions whose pins keep what they kept

  abbrev pub Same : SiteState → SiteState → Pinned → Type 0
  Same a b pin = pinned_items b pin ≡ pinned_items a pin

  pub seen_same : (a b : SiteState) (phase : Phase P) → EachIs (Same a b) (listed (pin_of pinned phase)) → phase_of pinned b phase ≡ phase_of pinned a phase
  seen_same a b (phases.Hearing s) same = refl
  seen_same a b (phases.Waiting w) same = refl
  seen_same a b (phases.Replying r) same = refl
  seen_same a b (phases.Drawing d) same = ap (λ items. world.Reply (rest_of d.view (viewed_among items d.view.source.selector d.view.source.view))) same.0
  seen_same a b phases.Drawn same = refl
  seen_same a b phases.Early same = refl

  pub sound_same : (a b : SiteState) (phase : Phase P) → EachIs (Same a b) (listed (pin_of pinned phase)) → IsSound pinned a phase → IsSound pinned b phase
  sound_same a b (phases.Hearing s) same sound = tt
  sound_same a b (phases.Waiting w) same sound = tt
  sound_same a b (phases.Replying r) same sound = tt
  sound_same a b (phases.Drawing d) same sound = subst (λ items. IsOf (viewed_among items d.view.source.selector d.view.source.view) d.view × (rest_of d.view (viewed_among items d.view.source.selector d.view.source.view) ≡ [] → ⊥)) (sym same.0) sound
  sound_same a b phases.Drawn same sound = tt
  sound_same a b phases.Early same sound = tt

  pub front_of : (p : Pinned → Type 0) (a b : List Pinned) → EachIs p (a ++ b) → EachIs p a × EachIs p b
  front_of p [] b all = (tt, all)
  front_of p (x ∷ a) b all = let rest = front_of p a b all.1 in ((all.0, rest.0), rest.1)

  pub all_seen : (a b : SiteState) (ss : List (Session P)) → EachIs (Same a b) (pins_of pinned ss) → (sessions_of pinned b ss ≡ sessions_of pinned a ss) × (AreSound pinned a ss → AreSound pinned b ss)
  all_seen a b [] same = (refl, λ sound. tt)
  all_seen a b (s ∷ ss) same =
      let parts = front_of (Same a b) (listed (pin_of pinned s.phase)) (pins_of pinned ss) same in
      let rest = all_seen a b ss parts.1 in (
        ap (λ (p : world.Phase). (s.id, p) ∷ sessions_of pinned b ss) (seen_same a b s.phase parts.0) ∙ ap (λ others. session_of pinned a s ∷ others) rest.0,
        λ sound. (sound_same a b s.phase parts.0 sound.0, rest.1 sound.1),
      )

  pub seen_set : (a b : SiteState) (items : List (Session P)) (at : ℕ) (y : Session P) → at < length items → EachIs (Same a b) (pins_of pinned (remove items at))
      → (sessions_of pinned b (set items at y) ≡ set (sessions_of pinned a items) at (session_of pinned b y)) × (AreSound pinned a items → IsSound pinned b y.phase → AreSound pinned b (set items at y))
  seen_set a b [] at y within same = absurd (omega (arith, within))
  seen_set a b (s ∷ ss) zero y within same = let rest = all_seen a b ss same in (ap (λ others. session_of pinned b y ∷ others) rest.0, λ sound own. (own, rest.1 sound.1))
  seen_set a b (s ∷ ss) (suc at) y within same =
      let parts = front_of (Same a b) (listed (pin_of pinned s.phase)) (pins_of pinned (remove ss at)) same in
      let rest = seen_set a b ss at y (omega (arith, within)) parts.1 in (
        ap (λ (p : world.Phase). (s.id, p) ∷ sessions_of pinned b (set ss at y)) (seen_same a b s.phase parts.0) ∙ ap (λ others. session_of pinned a s ∷ others) rest.0,
        λ sound own. (sound_same a b s.phase parts.0 sound.0, rest.1 sound.1 own),
      )

  seen_gone : (a b : SiteState) (items : List (Session P)) (at : ℕ) → at < length items → EachIs (Same a b) (pins_of pinned (remove items at))
      → (sessions_of pinned b (remove items at) ≡ remove (sessions_of pinned a items) at) × (AreSound pinned a items → AreSound pinned b (remove items at))
  seen_gone a b [] at within same = absurd (omega (arith, within))
  seen_gone a b (s ∷ ss) zero within same = let rest = all_seen a b ss same in (rest.0, λ sound. rest.1 sound.1)
  seen_gone a b (s ∷ ss) (suc at) within same =
      let parts = front_of (Same a b) (listed (pin_of pinned s.phase)) (pins_of pinned (remove ss at)) same in
      let rest = seen_gone a b ss at (omega (arith, within)) parts.1 in (
        ap (λ (p : world.Phase). (s.id, p) ∷ sessions_of pinned b (remove ss at)) (seen_same a b s.phase parts.0) ∙ ap (λ others. session_of pinned a s ∷ others) rest.0,
        λ sound. (sound_same a b s.phase parts.0 sound.0, rest.1 sound.1),
      )

  -- ---- what a move of one session comes to

  pub others_stay : (a b : SiteState) (items : List (Session P)) (at : ℕ) (x : Session P) (now : Option Pinned) → at < length items → x ≡ get_or items at x → HoldsAll a (pins_of pinned items) → MovesPins a b (pin_of pinned x.phase) now → EachIs (Same a b) (pins_of pinned (remove items at))
  others_stay a b items at x now within read holds moves =
      each_on _ (Same a b) (pins_of pinned (remove items at)) (λ pin out. moves.stay pin out.0 out.1)
      (others_are_apart a (pin_of pinned x.phase) (pins_of pinned (remove items at)) (holds_same a _ _ (parted items at x within read) holds))

  -- A session is in another phase: what the world sees, what is held, and what is drawn.
  pub record Moved (a b : SiteState) (items : List (Session P)) (id at : ℕ) (y : Session P) : Type 0 where
    pub seen : sessions_of pinned b (set items at y) ≡ moved_in (sessions_of pinned a items) id (phase_of pinned b y.phase)
    pub held : HoldsAll b (pins_of pinned (set items at y))
    pub sound : AreSound pinned a items → IsSound pinned b y.phase → AreSound pinned b (set items at y)

  pub session_moves : (a b : SiteState) (items : List (Session P)) (id at : ℕ) (x : Session P) (phase : Phase P) → position (λ s. s.id == id) items ≡ Some at → x ≡ get_or items at x
      → HoldsAll a (pins_of pinned items) → MovesPins a b (pin_of pinned x.phase) (pin_of pinned phase) → Moved a b items id at (record { id = x.id; phase = phase })
  session_moves a b items id at x phase found read holds moves =
      let y : Session P = record { id = x.id; phase = phase } in
      let within = place_below pinned items id at found in
      let stay = others_stay a b items at x (pin_of pinned phase) within read holds moves in
      let all = seen_set a b items at y within stay in
      record {
        seen = all.0 ∙ (place_found pinned a items id at x found read).moved (phase_of pinned b phase);
        held = holds_same b _ _ (back _ _ (parted_set items at y within)) (moves.all (pins_of pinned (remove items at)) (holds_same a _ _ (parted items at x within read) holds));
        sound = all.1;
      }

  -- A session is gone.
  pub record Gone (a b : SiteState) (items : List (Session P)) (id at : ℕ) : Type 0 where
    pub seen : sessions_of pinned b (remove items at) ≡ others_in (sessions_of pinned a items) id
    pub held : HoldsAll b (pins_of pinned (remove items at))
    pub sound : AreSound pinned a items → AreSound pinned b (remove items at)

  pub session_goes : (a b : SiteState) (items : List (Session P)) (id at : ℕ) (x : Session P) → position (λ s. s.id == id) items ≡ Some at → x ≡ get_or items at x
      → HoldsAll a (pins_of pinned items) → MovesPins a b (pin_of pinned x.phase) None → Gone a b items id at
  session_goes a b items id at x found read holds moves =
      let within = place_below pinned items id at found in
      let stay = others_stay a b items at x None within read holds moves in
      let all = seen_gone a b items at within stay in
      record {
        seen = all.0 ∙ (place_found pinned a items id at x found read).gone;
        held = moves.all (pins_of pinned (remove items at)) (holds_same a _ _ (parted items at x within read) holds);
        sound = all.1;
      }

  -- the pin of a session is out
  pub own_pin_is_held : (a : SiteState) (items : List (Session P)) (at : ℕ) (x : Session P) → at < length items → x ≡ get_or items at x → HoldsAll a (pins_of pinned items) → HoldsAll a (listed (pin_of pinned x.phase) ++ pins_of pinned (remove items at))
  own_pin_is_held a items at x within read holds = holds_same a _ _ (parted items at x within read) holds

  -- No session moves, and all pins stay.
  pub record Stayed (a b : SiteState) (items : List (Session P)) : Type 0 where
    pub seen : sessions_of pinned b items ≡ sessions_of pinned a items
    pub held : HoldsAll b (pins_of pinned items)
    pub sound : AreSound pinned a items → AreSound pinned b items

  pub sessions_stay : (a b : SiteState) (items : List (Session P)) → b.pins ≡ a.pins → HoldsAll a (pins_of pinned items) → Stayed a b items
  sessions_stay a b items same holds =
      let all = all_seen a b items (each (Same a b) (pins_of pinned items) (λ copy. refl) (λ n some. kept_still a b (Numbered n) same)) in
      record { seen = all.0; held = (none_moves a b None same).all (pins_of pinned items) holds; sound = all.1 }
