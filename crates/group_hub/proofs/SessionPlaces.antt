-- Places of sessions, as a world sees them.
use Rattle.std.proofs.Common.{◌≡◌, ℕ, zero, suc, ◌+◌, ◌<◌, ◌≤◌, Bool, true, false, List, [], ◌∷◌, length, get_or, set, remove, refl, ap, sym, ◌∙◌, arith, nat_lt, inl, inr, subst, eqb-true}
use Rattle.std.specs.Prelude.{◌==◌, Some, None}
use Rattle.std.specs.List.{position, position_or_len}
use Rattle.std.proofs.lemmas.Bool.{cases_Bool, ltb-true, ltb-false}
use Rattle.host_types.specs.SiteState.{SiteState}
use Rattle.host_types.specs.Pins.{Pinned}
use Rattle.group_world.specs.World as world
use Rattle.group_world.specs.World.{phase_in, moved_in, others_in}
use Rattle.group_hub.specs.Sessions.{phase_of, session_of, sessions_of}
use Rattle.group_hub.specs.declared.session.Session.{Session}

position_is : {P : Type 0} (p : Session P → Bool) (xs : List (Session P)) (k : ℕ) → position p xs ≡ Some k → (position_or_len p xs ≡ k) × (position_or_len p xs < length xs)
position_is p xs k h =
    elim (cases_Bool (nat_lt (position_or_len p xs) (length xs))) [
      | inl t ↦ let e = rw t at h in (cc, ltb-true _ _ t)
      | inr f ↦ let e = rw f at h in cc
    ]

pub position_at : {P : Type 0} (p : Session P → Bool) (xs : List (Session P)) (k : ℕ) → position p xs ≡ Some k → position_or_len p xs ≡ k
position_at p xs k h = (position_is p xs k h).0

-- What the world sees of a session at its place.
pub record SessionPlace (all_sessions : List (ℕ × world.Phase)) (id at number : ℕ) (phase : world.Phase) : Type 0 where
  pub there : phase_in all_sessions id ≡ Some phase
  pub moved : (next : world.Phase) → set all_sessions at (number, next) ≡ moved_in all_sessions id next
  pub stays : moved_in all_sessions id phase ≡ all_sessions
  pub gone : remove all_sessions at ≡ others_in all_sessions id

module _ {P : Type 0} (pinned : P → Pinned) where
  place_here : (h : SiteState) (s : Session P) (ss : List (Session P)) (id : ℕ) (x : Session P) → (s.id == id) ≡ true → x ≡ s → SessionPlace (sessions_of pinned h (s ∷ ss)) id 0 x.id (phase_of pinned h x.phase)
  place_here h s ss id x e same =
      let number : x.id ≡ id = ap (λ (y : Session P). y.id) same ∙ eqb-true s.id id e in
      record {
        there = rw e (ap (λ (y : Session P). Some (phase_of pinned h y.phase)) (sym same));
        moved = λ phase. rw e (ap (λ (n : ℕ). (n, phase) ∷ sessions_of pinned h ss) number);
        stays = rw e (ap (λ (n : ℕ). (n, phase_of pinned h x.phase) ∷ sessions_of pinned h ss) (sym number) ∙ ap (λ (y : Session P). session_of pinned h y ∷ sessions_of pinned h ss) same);
        gone = rw e refl;
      }

  place_later : (h : SiteState) (s : Session P) (ss : List (Session P)) (id at : ℕ) (x : Session P) → (s.id == id) ≡ false → SessionPlace (sessions_of pinned h ss) id at x.id (phase_of pinned h x.phase) → SessionPlace (sessions_of pinned h (s ∷ ss)) id (suc at) x.id (phase_of pinned h x.phase)
  place_later h s ss id at x n place_found = record {
    there = rw n place_found.there;
    moved = λ phase. rw n (ap (λ others. session_of pinned h s ∷ others) (place_found.moved phase));
    stays = rw n (ap (λ others. session_of pinned h s ∷ others) place_found.stays);
    gone = rw n (ap (λ others. session_of pinned h s ∷ others) place_found.gone);
  }

  place_at : (h : SiteState) (items : List (Session P)) (id at : ℕ) (x : Session P) → position_or_len (λ s. s.id == id) items ≡ at → at < length items → x ≡ get_or items at x → SessionPlace (sessions_of pinned h items) id at x.id (phase_of pinned h x.phase)
  place_at h [] id at x first less read = absurd (omega arith)
  place_at h (s ∷ ss) id zero x first less read =
      elim (cases_Bool (s.id == id)) [
        | inl e ↦ place_here h s ss id x e read
        | inr n ↦ (let no : 1 + position_or_len (λ (t : Session P). t.id == id) ss ≡ 0 = sym (rw n refl) ∙ first in absurd (omega arith))
      ]
  place_at h (s ∷ ss) id (suc k) x first less read =
      elim (cases_Bool (s.id == id)) [
        | inl e ↦ (let no : 0 ≡ suc k = sym (rw e refl) ∙ first in absurd (omega arith))
        | inr n ↦
            let next : 1 + position_or_len (λ (t : Session P). t.id == id) ss ≡ suc k = sym (rw n refl) ∙ first in
            place_later h s ss id k x n (place_at h ss id k x (omega arith) (omega arith) read)
      ]

  pub place_found : (h : SiteState) (items : List (Session P)) (id at : ℕ) (x : Session P) → position (λ s. s.id == id) items ≡ Some at → x ≡ get_or items at x → SessionPlace (sessions_of pinned h items) id at x.id (phase_of pinned h x.phase)
  place_found h items id at x found read = let here = position_is (λ (s : Session P). s.id == id) items at found in place_at h items id at x here.0 (omega (arith, here.0, here.1)) read

  pub place_below : (items : List (Session P)) (id at : ℕ) → position (λ s. s.id == id) items ≡ Some at → at < length items
  place_below items id at found = let here = position_is (λ (s : Session P). s.id == id) items at found in omega (arith, here.0, here.1)

  -- a number that no session has
  none_from : (h : SiteState) (items : List (Session P)) (id : ℕ) → length items ≤ position_or_len (λ s. s.id == id) items → phase_in (sessions_of pinned h items) id ≡ None
  none_from h [] id past = refl
  none_from h (s ∷ ss) id past =
      elim (cases_Bool (s.id == id)) [
        | inl e ↦ (let no : length (s ∷ ss) ≤ 0 = subst (λ (n : ℕ). length (s ∷ ss) ≤ n) (rw e refl) past in absurd (omega arith))
        | inr n ↦
            let rest : length (s ∷ ss) ≤ 1 + position_or_len (λ (t : Session P). t.id == id) ss = subst (λ (n : ℕ). length (s ∷ ss) ≤ n) (rw n refl) past in
            rw n (none_from h ss id (omega arith))
      ]

  pub nobody : (h : SiteState) (items : List (Session P)) (id : ℕ) → position (λ s. s.id == id) items ≡ None → phase_in (sessions_of pinned h items) id ≡ None
  nobody h items id found =
      elim (cases_Bool (nat_lt (position_or_len (λ (s : Session P). s.id == id) items) (length items))) [
        | inl t ↦ (let e = rw t at found in absurd (cc e))
        | inr f ↦ none_from h items id (ltb-false _ _ f)
      ]
