-- Commits and their changes, made in turn.
use Rattle.std.proofs.Common.{◌≡◌, ℕ, List, [], ◌∷◌, ◌++◌, take, drop, refl, sym, ap, subst, ◌∙◌, append_assoc}
use Rattle.std.specs.Prelude.{Option, Some, None, Result, Ok, Err}
use Rattle.std.proofs.lemmas.List.{append-nil, take-append-drop}
use Rattle.host_types.specs.Site.{Site}
use Rattle.host_types.specs.Change.{apply}
use Rattle.host_types.specs.AllChanges.{Changes}
use Rattle.common_types.specs.declared.refused.Refused.{Refused}
use Rattle.group_world.specs.Step.{made_or}
use Rattle.group_world.specs.Laws.{all_made, and_more}
use Rattle.group_world.specs.CrashStates.{CommitOfChanges, with_changes, with_commits, in_one_step, one_by_one}
use Rattle.group_world.proofs.Stored.{right_make}
use Rattle.accepted_changes.specs.Accepted.{changes_of}

-- ---- the changes of commits

pub changes_of_both : (a b : List CommitOfChanges) → changes_of (a ++ b) ≡ changes_of a ++ changes_of b
changes_of_both [] b = refl
changes_of_both (c ∷ a) b = ap (λ (l : Changes). c ++ l) (changes_of_both a b) ∙ sym (append_assoc c (changes_of a) (changes_of b))

pub changes_in_one_step : (changes : Changes) → changes_of (in_one_step changes) ≡ changes
changes_in_one_step [] = refl
changes_in_one_step (c ∷ changes) = append-nil (c ∷ changes)

pub changes_one_by_one : (changes : Changes) → changes_of (one_by_one changes) ≡ changes
changes_one_by_one [] = refl
changes_one_by_one (c ∷ changes) = ap (λ (l : Changes). c ∷ l) (changes_one_by_one changes)

with_both : (s : Site) (a b : Changes) → with_changes s (a ++ b) ≡ with_changes (with_changes s a) b
with_both s [] b = refl
with_both s (c ∷ a) b = with_both (made_or s (apply s c.0 c.1)) a b

pub with_all : (s : Site) (commits : List CommitOfChanges) → with_commits s commits ≡ with_changes s (changes_of commits)
with_all s [] = refl
with_all s (c ∷ commits) = with_all (with_changes s c) commits ∙ sym (with_both s c (changes_of commits))

-- ---- changes that are all right

-- None is refused, each on the site with those before it.
abbrev pub AreRight : Site → Changes → Type 0
AreRight s changes = all_made s changes ≡ Some (with_changes s changes)

pub are_right : (s t : Site) (changes : Changes) → all_made s changes ≡ Some t → AreRight s changes
are_right s t changes is = is ∙ ap (λ (x : Site). Some x) (sym (right_make s t changes is))

-- so are the first of them
pub first_are_right : (s t : Site) (a b : Changes) → all_made s (a ++ b) ≡ Some t → AreRight s a
first_are_right s t [] b is = refl
first_are_right s t (c ∷ a) b is = by (λ v made. first_are_right v t a b made) (apply s c.0 c.1) is
  where
    by : ((v : Site) → all_made v (a ++ b) ≡ Some t → AreRight v a) → (r : Result Site Refused) → and_more (λ v. all_made v (a ++ b)) r ≡ Some t → and_more (λ v. all_made v a) r ≡ Some (with_changes (made_or s r) a)
    by first (Ok v) made = first v made
    by first (Err refused) made = absurd (cc made)

-- and others on the site that they make
pub both_are_right : (s t u : Site) (a b : Changes) → all_made s a ≡ Some t → all_made t b ≡ Some u → all_made s (a ++ b) ≡ Some u
both_are_right s t u [] b is later = (let same : s ≡ t = cc is in subst (λ (x : Site). all_made x b ≡ Some u) (sym same) later)
both_are_right s t u (c ∷ a) b is later = by (λ v made. both_are_right v t u a b made later) (apply s c.0 c.1) is
  where
    by : ((v : Site) → all_made v a ≡ Some t → all_made v (a ++ b) ≡ Some u) → (r : Result Site Refused) → and_more (λ v. all_made v a) r ≡ Some t → and_more (λ v. all_made v (a ++ b)) r ≡ Some u
    by both (Ok v) made = both v made
    by both (Err refused) made = absurd (cc made)

-- the first so many commits of some whose changes are all right
pub first_commits_are_right : (s t : Site) (commits : List CommitOfChanges) (n : ℕ) → all_made s (changes_of commits) ≡ Some t → AreRight s (changes_of (take n commits))
first_commits_are_right s t commits n is =
    let parts : changes_of commits ≡ changes_of (take n commits) ++ changes_of (drop n commits) = ap changes_of (sym (take-append-drop n commits)) ∙ changes_of_both (take n commits) (drop n commits) in
    first_are_right s t (changes_of (take n commits)) (changes_of (drop n commits)) (ap (all_made s) (sym parts) ∙ is)
