-- What one call leaves, by what it made.
use Rattle.std.proofs.Common.{◌≡◌, ◌⊎◌, ⊎_elim, inl, inr, ℕ, ◌≤◌, Bool, true, false, List, [], ◌∷◌, ◌++◌, length, take, refl, sym, ap, subst, ◌∙◌, arith, if◌then◌else◌}
use Rattle.std.proofs.lemmas.List.{append-nil, take_all}
use Rattle.host_types.specs.Site.{Site}
use Rattle.host_types.specs.AllChanges.{Changes}
use Rattle.common_types.specs.CrashStates.{CrashStates, AddsOnly, AddsNone, may_crash_to}
use Rattle.group_world.specs.World.{World}
use Rattle.group_world.specs.Step.{Next, answer, failed_answer}
use Rattle.group_world.specs.Run.{changes_in, IsAnswer, IsFaulty}
use Rattle.group_world.specs.CrashStates.{CommitOfChanges, with_changes, with_commits, Stored, in_one_step, changes_at, stored_whole, Link, HoldsCommits, Leaves}
use Rattle.group_world.specs.declared.event.Event.{Event}
use Rattle.group_world.specs.declared.event.Outcome.{Outcome}
use Rattle.group_world.specs.declared.event.Outcome.TheVariants.{Fault}
use Rattle.group_world.specs.declared.fault.HubFault.{HubFault}
use Rattle.group_world.specs.declared.fault.HubFault.TheVariants as hub
use Rattle.group_world.proofs.Stored.{one_step_makes, whole_of, whole_none, whole_is, acknowledges, answer_fault}
use Rattle.group_world.proofs.Crashes.{stands_now}

-- a crash leaves what has P, and so what has R
pub weaker : {L : Type 0} (p q : CrashStates L) (P R : L → Type 0) → AddsOnly p q P → ((c : L) → P c → R c) → AddsOnly p q R
weaker p q P R only widen = record {
  later = only.later;
  keeps = only.keeps;
  nothing_else = λ t c le left. ⊎_elim (λ o. inl o) (λ x. inr (widen c x)) (only.nothing_else t c le left);
  now = λ c left. widen c (only.now c left);
}

-- ---- what is stored

abbrev pub nothing : Stored
nothing = record { commits = []; flying = [] }

abbrev pub all_in_one : Changes → Stored
all_in_one changes = record { commits = in_one_step changes; flying = [] }

abbrev pub all_in_flight : Changes → Stored
all_in_flight changes = record { commits = []; flying = in_one_step changes }

changes_of : (w : World) (e : Event) → w.failed ≡ false → changes_at w e ≡ changes_in w e
changes_of w e usable = ap (λ (b : Bool). if b then [] else changes_in w e) usable

-- an answer of a hub that hasn't failed stores the changes of its event
pub answer_stores : (w v : World) (e : Event) (o : Outcome) → w.failed ≡ false → IsAnswer w e o v → stored_whole w e o ≡ all_in_one (changes_in w e)
answer_stores w v e o usable is =
    let out : o ≡ (answer w e).outcome = is.0 ∙ ap (λ (b : Bool). (if b then failed_answer w e else answer w e).outcome) usable in
    whole_is w e o ∙ ap (λ (l : Changes). whole_of l o) (changes_of w e usable) ∙ acknowledges (changes_in w e) o (λ fault fails. answer_fault w e fault (sym fails ∙ out))

-- one that has stores nothing
pub closed_stores : (w : World) (e : Event) (o : Outcome) → w.failed ≡ true → stored_whole w e o ≡ nothing
closed_stores w e o failed = whole_is w e o ∙ ap (λ (b : Bool). whole_of (if b then [] else changes_in w e) o) failed ∙ whole_none o

-- and an event without changes does not
pub no_commits : (w : World) (e : Event) (o : Outcome) → changes_in w e ≡ [] → stored_whole w e o ≡ nothing
no_commits w e o none = whole_is w e o ∙ ap (λ (l : Changes). whole_of l o) (by w.failed) ∙ whole_none o
  where
    by : (b : Bool) → (if b then [] else changes_in w e) ≡ []
    by true = refl
    by false = none

-- nor does a fault in an answer's place
pub fault_stores : (w : World) (e : Event) (fault : HubFault) → (fault ≡ hub.Failed → ⊥) → stored_whole w e (Fault fault) ≡ nothing
fault_stores w e hub.Failed other = absurd (other refl)
fault_stores w e hub.Unknown other = refl
fault_stores w e hub.Crowded other = refl
fault_stores w e hub.Spent other = refl
fault_stores w e hub.Deep other = refl
fault_stores w e (hub.Refused r) other = refl
fault_stores w e (hub.Full need free) other = refl
fault_stores w e hub.Broken other = refl
fault_stores w e hub.Memory other = refl
fault_stores w e hub.NotReady other = refl

-- but for the first failure
pub failed_stores : (w : World) (e : Event) → w.failed ≡ false → stored_whole w e (Fault hub.Failed) ≡ all_in_flight (changes_in w e)
failed_stores w e usable = ap all_in_flight (changes_of w e usable)

-- ---- what is left

module _ {L : Type 0} (stands : L → Site → Type 0) where
  -- all commits
  holds_all : (s : Site) (commits : List CommitOfChanges) (c : L) → stands c (with_commits s commits) → HoldsCommits stands s commits (length commits) c
  holds_all s commits c here = record { count = length commits; at_least = omega arith; at_most = omega arith; represented = subst (λ (l : List CommitOfChanges). stands c (with_commits s l)) (sym (take_all (length commits) commits (omega arith))) here }

  holds_changes : (s : Site) (changes : Changes) (c : L) → stands c (with_changes s changes) → HoldsCommits stands s (in_one_step changes) (length (in_one_step changes)) c
  holds_changes s changes c here = holds_all s (in_one_step changes) c (subst (stands c) (sym (one_step_makes s changes)) here)

  fewer : (s : Site) (commits : List CommitOfChanges) (a b : ℕ) (c : L) → b ≤ a → HoldsCommits stands s commits a c → HoldsCommits stands s commits b c
  fewer s commits a b c le h = record { count = h.count; at_least = omega (arith, le, h.at_least); at_most = h.at_most; represented = h.represented }

  -- before the changes or with them
  one_of_two : (s : Site) (changes : Changes) (c : L) → stands c s ⊎ stands c (with_changes s changes) → HoldsCommits stands s (in_one_step changes) 0 c
  one_of_two s changes c (inl here) = stands_now stands s (in_one_step changes) c here
  one_of_two s changes c (inr made) = fewer s (in_one_step changes) (length (in_one_step changes)) 0 c (omega arith) (holds_changes s changes c made)

both : (b : Bool) → b ≡ false → b ≡ true → ⊥
both b off on = let no : false ≡ true = sym off ∙ on in cc no

module _ {S L : Type 0} (stands : L → Site → Type 0) where
  abbrev Linked : Type 0 → World → Event → Outcome → Stored → World → S → CrashStates L → CrashStates L → Type 0
  Linked split w e o stored v l before after =
      let call : Link S = record { event = e; outcome = o; stored = stored; world = v; keeper = l } in Leaves stands split w call before after

  -- a call that stores nothing and adds no crash state
  pub leaves_nothing : (split : Type 0) (w v : World) (e : Event) (o : Outcome) (l : S) (before after : CrashStates L) → IsAnswer w e o v ⊎ IsFaulty w e o v → stored_whole w e o ≡ nothing → AddsNone before after
      → (w.failed ≡ false → (c : L) → may_crash_to before c → stands c w.site) → Linked split w e o nothing v l before after
  leaves_nothing split w v e o l before after is stored only start = record {
    stored = inl (is, sym stored);
    adds = weaker before after (may_crash_to before) (λ c. may_crash_to before c ⊎ HoldsCommits stands w.site [] 0 c) only (λ c left. inl left);
    behind = λ usable c left. stands_now stands w.site [] c (start usable c (only.now c left));
    shut = λ failed. only;
  }

  -- an answer that makes the changes of its event
  pub leaves_changes : (split : Type 0) (w v : World) (e : Event) (o : Outcome) (l : S) (before after : CrashStates L) → w.failed ≡ false → IsAnswer w e o v
      → AddsOnly before after (λ c. stands c w.site ⊎ stands c (with_changes w.site (changes_in w e))) → v.site ≡ with_changes w.site (changes_in w e) → ((c : L) → may_crash_to after c → stands c v.site)
      → Linked split w e o (all_in_one (changes_in w e)) v l before after
  leaves_changes split w v e o l before after usable is only site now =
      let all : List CommitOfChanges = in_one_step (changes_in w e) in
      let same : all ++ [] ≡ all = append-nil all in
      record {
        stored = inl (inl is, sym (answer_stores w v e o usable is));
        adds = weaker before after _ (λ c. may_crash_to before c ⊎ HoldsCommits stands w.site (all ++ []) 0 c) only (λ c left. inr (subst (λ (x : List CommitOfChanges). HoldsCommits stands w.site x 0 c) (sym same) (one_of_two stands w.site (changes_in w e) c left)));
        behind = λ off c left. subst (λ (x : List CommitOfChanges). HoldsCommits stands w.site x (length all) c) (sym same) (holds_changes stands w.site (changes_in w e) c (subst (stands c) site (now c left)));
        shut = λ failed. absurd (both w.failed usable failed);
      }

  -- the first failure: nobody knows whether the changes are stored
  pub leaves_in_flight : (split : Type 0) (w v : World) (e : Event) (l : S) (before after : CrashStates L) → w.failed ≡ false → IsFaulty w e (Fault hub.Failed) v
      → AddsOnly before after (λ c. stands c w.site ⊎ stands c (with_changes w.site (changes_in w e))) → Linked split w e (Fault hub.Failed) (all_in_flight (changes_in w e)) v l before after
  leaves_in_flight split w v e l before after usable is only = record {
    stored = inl (inr is, sym (failed_stores w e usable));
    adds = weaker before after _ (λ c. may_crash_to before c ⊎ HoldsCommits stands w.site (in_one_step (changes_in w e)) 0 c) only (λ c left. inr (one_of_two stands w.site (changes_in w e) c left));
    behind = λ off c left. one_of_two stands w.site (changes_in w e) c (only.now c left);
    shut = λ failed. absurd (both w.failed usable failed);
  }
