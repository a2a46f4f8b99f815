-- What is taken of a group.
use Rattle.std.proofs.Common.{◌≡◌, ℕ, suc, Bool, true, false, List, [], ◌∷◌, ◌++◌, ◌==◌, refl, sym, ap, ◌∙◌, inl, inr}
use Rattle.std.specs.Prelude.{take, Option, Some, None, Result, Ok, Err, IsOk}
use Rattle.std.proofs.lemmas.Bool.{cases_Bool}
use Rattle.host_types.specs.Site.{Site}
use Rattle.host_types.specs.Change.{apply}
use Rattle.host_types.specs.declared.change.Change.{Change}
use Rattle.common_types.specs.declared.refused.Refused.{Refused}
use Rattle.request_reader.specs.Request.{Request}
use Rattle.site_replies.specs.Reply.{reply}
use Rattle.site_replies.specs.PostReply.{IsRight}
use Rattle.site_replies.proofs.StoredPosts.{reply_right}
use Rattle.group_world.specs.World.{Phase, Heard, Waits, Reply, Early, phase_in}
use Rattle.group_world.specs.Step.{Changes, made_or, with_change, at_moment, post_from, site_from, without_form, without_forms, answered_from, taken}
use Rattle.group_world.specs.Laws.{all_made, and_more, GroupsAreRight, RepliesStay, FindsItsPlace}

-- ---- the changes of a group

-- one change before others
one_before : (s : Site) (now : ℕ) (post : Option Change) (changes : Changes) → IsRight s now post → all_made s (at_moment now post ++ changes) ≡ all_made (with_change s now post) changes
one_before s now None changes right = refl
one_before s now (Some change) changes right = by (apply s change now) right
  where
    by : (r : Result Site Refused) → IsOk r → and_more (λ t. all_made t changes) r ≡ all_made (made_or s r) changes
    by (Ok t) ok = refl
    by (Err refused) ok = absurd (cc ok)

-- that of one session
one_taken : (s : Site) (p : Phase) (changes : Changes) → all_made s (post_from s p ++ changes) ≡ all_made (site_from s p) changes
one_taken s (Heard stream) changes = refl
one_taken s (Waits request now) changes = one_before s now (reply s request now).post changes (reply_right s request now)
one_taken s (Reply rest) changes = refl
one_taken s Early changes = refl

pub groups_are_right : GroupsAreRight
groups_are_right s [] sessions = refl
groups_are_right s (takes ∷ choices) [] = refl
groups_are_right s (true ∷ choices) (x ∷ sessions) = one_taken s x.1 (taken (site_from s x.1) choices sessions).changes ∙ groups_are_right (site_from s x.1) choices sessions
groups_are_right s (false ∷ choices) (x ∷ sessions) = groups_are_right s choices sessions

-- ---- a reply stays

with_own : (s : ℕ × Phase) (rest : List ℕ) (others more : List (ℕ × Phase)) (q : Phase) (id : ℕ) → (s.1 ≡ Reply rest → q ≡ Reply rest) → (phase_in others id ≡ Some (Reply rest) → phase_in more id ≡ Some (Reply rest))
    → phase_in (s ∷ others) id ≡ Some (Reply rest) → phase_in ((s.0, q) ∷ more) id ≡ Some (Reply rest)
with_own s rest others more q id own behind h =
    elim (cases_Bool (s.0 == id)) [
      | inl e ↦ let here : Some s.1 ≡ Some (Reply rest) = sym (rw e refl) ∙ h in rw e (ap (λ (p : Phase). Some p) (own (cc here)))
      | inr n ↦ let there : phase_in others id ≡ Some (Reply rest) = sym (rw n refl) ∙ h in rw n (behind there)
    ]

answered_stays : (s : Site) (p : Phase) (rest : List ℕ) → p ≡ Reply rest → answered_from s p ≡ Reply rest
answered_stays s p rest is = ap (answered_from s) is

form_stays : (s : Site) (p : Phase) (rest : List ℕ) → p ≡ Reply rest → without_form s p ≡ Reply rest
form_stays s p rest is = ap (without_form s) is

stays_without_forms : (s : Site) (sessions : List (ℕ × Phase)) (id : ℕ) (rest : List ℕ) → phase_in sessions id ≡ Some (Reply rest) → phase_in (without_forms s sessions) id ≡ Some (Reply rest)
stays_without_forms s [] id rest h = h
stays_without_forms s (x ∷ sessions) id rest h = with_own x rest sessions (without_forms s sessions) (without_form s x.1) id (form_stays s x.1 rest) (stays_without_forms s sessions id rest) h

pub stays_taken : (s : Site) (choices : List Bool) (sessions : List (ℕ × Phase)) (id : ℕ) (rest : List ℕ) → phase_in sessions id ≡ Some (Reply rest) → phase_in (taken s choices sessions).sessions id ≡ Some (Reply rest)
stays_taken s [] sessions id rest h = h
stays_taken s (takes ∷ choices) [] id rest h = h
stays_taken s (true ∷ choices) (x ∷ sessions) id rest h = with_own x rest sessions (taken (site_from s x.1) choices sessions).sessions (answered_from s x.1) id (answered_stays s x.1 rest) (stays_taken (site_from s x.1) choices sessions id rest) h
stays_taken s (false ∷ choices) (x ∷ sessions) id rest h = with_own x rest sessions (taken s choices sessions).sessions x.1 id (λ is. is) (stays_taken s choices sessions id rest) h

pub replies_stay : RepliesStay
replies_stay w choices id rest h = stays_taken w.site choices (without_forms w.site w.sessions) id rest (stays_without_forms w.site w.sessions id rest h)

-- ---- each finds its place

not_waiting : (request : Request) (now : ℕ) (text : List ℕ) → Some (Waits request now) ≡ Some (Reply text) → ⊥
not_waiting request now text h = cc h

own_reply : (s : Site) (p : Phase) (request : Request) (now : ℕ) (text : List ℕ) → p ≡ Waits request now → answered_from s p ≡ Reply text → text ≡ (reply s request now).bytes
own_reply s p request now text is h = let same : Reply (reply s request now).bytes ≡ Reply text = sym (ap (answered_from s) is) ∙ h in sym (cc same)

abbrev IsAnsweredAt : Site → List Bool → List (ℕ × Phase) → Request → ℕ → List ℕ → Type 0
IsAnsweredAt s choices sessions request now text = (n : ℕ) × (text ≡ (reply (taken s (take n choices) sessions).site request now).bytes)

one_further : (s m : Site) (takes : Bool) (choices : List Bool) (x : ℕ × Phase) (sessions : List (ℕ × Phase)) (request : Request) (now : ℕ) (text : List ℕ) → ((cs : List Bool) → (taken s (takes ∷ cs) (x ∷ sessions)).site ≡ (taken m cs sessions).site)
    → IsAnsweredAt m choices sessions request now text → IsAnsweredAt s (takes ∷ choices) (x ∷ sessions) request now text
one_further s m takes choices x sessions request now text same (n, is) = (suc n, is ∙ ap (λ (t : Site). (reply t request now).bytes) (sym (same (take n choices))))

pub finds_its_place : FindsItsPlace
finds_its_place s [] sessions id request now text waits h = absurd (not_waiting request now text (sym waits ∙ h))
finds_its_place s (takes ∷ choices) [] id request now text waits h = absurd (cc waits)
finds_its_place s (true ∷ choices) (x ∷ sessions) id request now text waits h =
    elim (cases_Bool (x.0 == id)) [
      | inl e ↦
          let own : Some x.1 ≡ Some (Waits request now) = sym (rw e refl) ∙ waits in
          let made : Some (answered_from s x.1) ≡ Some (Reply text) = sym (rw e refl) ∙ h in
          (0, own_reply s x.1 request now text (cc own) (cc made))
      | inr n ↦
          let there : phase_in sessions id ≡ Some (Waits request now) = sym (rw n refl) ∙ waits in
          let made : phase_in (taken (site_from s x.1) choices sessions).sessions id ≡ Some (Reply text) = sym (rw n refl) ∙ h in
          one_further s (site_from s x.1) true choices x sessions request now text (λ cs. refl) (finds_its_place (site_from s x.1) choices sessions id request now text there made)
    ]
finds_its_place s (false ∷ choices) (x ∷ sessions) id request now text waits h =
    elim (cases_Bool (x.0 == id)) [
      | inl e ↦
          let own : Some x.1 ≡ Some (Waits request now) = sym (rw e refl) ∙ waits in
          let made : Some x.1 ≡ Some (Reply text) = sym (rw e refl) ∙ h in
          absurd (not_waiting request now text (sym own ∙ made))
      | inr n ↦
          let there : phase_in sessions id ≡ Some (Waits request now) = sym (rw n refl) ∙ waits in
          let made : phase_in (taken s choices sessions).sessions id ≡ Some (Reply text) = sym (rw n refl) ∙ h in
          one_further s s false choices x sessions request now text (λ cs. refl) (finds_its_place s choices sessions id request now text there made)
    ]
