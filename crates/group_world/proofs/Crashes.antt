-- What a crash at any moment of a run leaves, by its calls.
use Rattle.std.proofs.Common.{◌≡◌, ◌⊎◌, inl, inr, ⊎_elim, ℕ, zero, suc, ◌+◌, ◌≤◌, true, false, List, [], ◌∷◌, ◌++◌, length, take, refl, sym, ap, subst, ◌∙◌, arith, append_assoc, length-append}
use Rattle.std.proofs.lemmas.Bool.{cases_Bool}
use Rattle.std.proofs.lemmas.List.{append-nil, take-append-le, take_all}
use Rattle.host_types.specs.Site.{Site}
use Rattle.common_types.specs.CrashStates.{CrashStates, may_crash_to}
use Rattle.group_world.specs.World.{World}
use Rattle.group_world.specs.declared.event.Event.{Event}
use Rattle.group_world.specs.CrashStates.{CommitOfChanges, with_changes, with_commits, Link, acknowledged, in_flight, accepted, HoldsCommits, IsRightlyStored, Leaves, LeavesInTurn, last_keeper, CallsLeave}
use Rattle.group_world.proofs.Stored.{what_is_stored_is_right}

-- ---- commits in a row

pub both_made : (s : Site) (first more : List CommitOfChanges) → with_commits s (first ++ more) ≡ with_commits (with_commits s first) more
both_made s [] more = refl
both_made s (c ∷ first) more = both_made (with_changes s c) first more

pub take_past : (n m : ℕ) (first more : List CommitOfChanges) → m ≡ length first + n → take m (first ++ more) ≡ first ++ take n more
take_past n m [] more is = (let same : m ≡ n = omega (arith, is) in ap (λ (k : ℕ). take k more) same)
take_past n zero (c ∷ first) more is = absurd (omega (arith, is))
take_past n (suc m) (c ∷ first) more is = ap (λ (l : List CommitOfChanges). c ∷ l) (take_past n m first more (omega (arith, is)))

module _ {L : Type 0} (stands : L → Site → Type 0) where
  -- further commits change nothing of what is left
  pub more_come : (s : Site) (commits more : List CommitOfChanges) (a b : ℕ) (c : L) → b ≤ a → HoldsCommits stands s commits a c → HoldsCommits stands s (commits ++ more) b c
  more_come s commits more a b c le h = record {
    count = h.count;
    at_least = omega (arith, le, h.at_least);
    at_most = omega (arith, h.at_most, length-append commits more);
    represented = subst (λ (l : List CommitOfChanges). stands c (with_commits s l)) (sym (take-append-le h.count commits more h.at_most)) h.represented;
  }

  -- what is left after the commits of an event
  pub comes_after : (s t : Site) (first more : List CommitOfChanges) (a b : ℕ) (c : L) → t ≡ with_commits s first → b ≤ length first + a → HoldsCommits stands t more a c → HoldsCommits stands s (first ++ more) b c
  comes_after s t first more a b c made le h = record {
    count = length first + h.count;
    at_least = omega (arith, le, h.at_least);
    at_most = omega (arith, h.at_most, length-append first more);
    represented = subst (stands c) (ap (λ (x : Site). with_commits x (take h.count more)) made ∙ sym (both_made s first (take h.count more)) ∙ ap (with_commits s) (sym (take_past h.count (length first + h.count) first more refl))) h.represented;
  }

  -- the site as it stands
  pub stands_now : (s : Site) (commits : List CommitOfChanges) (c : L) → stands c s → HoldsCommits stands s commits 0 c
  stands_now s commits c here = record { count = 0; at_least = omega arith; at_most = omega arith; represented = here }

module _ {S L : Type 0} (crash_states : S → CrashStates L) (stands : L → Site → Type 0) (split : S → World → Event → Type 0) where
  abbrev All : World → S → List (Link S) → Type 0
  All w k ls = LeavesInTurn crash_states stands split w k ls

  abbrev One : World → S → Link S → Type 0
  One w k l = Leaves stands (split k w l.event) w l (crash_states k) (crash_states l.keeper)

  right : (w : World) (k : S) (l : Link S) → One w k l → IsRightlyStored w l.world l.stored
  right w k l call = what_is_stored_is_right (split k w l.event) w l.world l.event l.outcome l.stored call.stored

  -- ---- moments

  abbrev at : S → List (Link S) → ℕ → ℕ
  at k [] n = (crash_states k).moment
  at k (l ∷ ls) zero = (crash_states k).moment
  at k (l ∷ ls) (suc n) = at l.keeper ls n

  at_first : (k : S) (ls : List (Link S)) → at k ls 0 ≡ (crash_states k).moment
  at_first k [] = refl
  at_first k (l ∷ ls) = refl

  last_is : (k : S) (ls : List (Link S)) → at k ls (length ls) ≡ (crash_states (last_keeper k ls)).moment
  last_is k [] = refl
  last_is k (l ∷ ls) = last_is l.keeper ls

  from_first : (w : World) (k : S) (ls : List (Link S)) (n : ℕ) → All w k ls → (crash_states k).moment ≤ at k ls n
  from_first w k [] n all = omega arith
  from_first w k (l ∷ ls) zero all = omega arith
  from_first w k (l ∷ ls) (suc n) all = omega (arith, all.0.adds.later, from_first l.world l.keeper ls n all.1)

  rises : (w : World) (k : S) (ls : List (Link S)) (m n : ℕ) → All w k ls → m ≤ n → at k ls m ≤ at k ls n
  rises w k [] m n all le = omega arith
  rises w k (l ∷ ls) zero n all le = from_first w k (l ∷ ls) n all
  rises w k (l ∷ ls) (suc m) zero all le = absurd (omega (arith, le))
  rises w k (l ∷ ls) (suc m) (suc n) all le = rises l.world l.keeper ls m n all.1 (omega (arith, le))

  keeps : (w : World) (k : S) (ls : List (Link S)) → All w k ls → (t : ℕ) (c : L) → t ≤ (crash_states k).moment → (crash_states k).possible_since t c → (crash_states (last_keeper k ls)).possible_since t c
  keeps w k [] all t c le left = left
  keeps w k (l ∷ ls) all t c le left = keeps l.world l.keeper ls all.1 t c (omega (arith, le, all.0.adds.later)) (all.0.adds.keeps t c le left)

  -- ---- a hub that has failed

  none_later : (w : World) (k : S) (ls : List (Link S)) → All w k ls → w.failed ≡ true → (acknowledged ls ≡ []) × (in_flight ls ≡ [])
  none_later w k [] all failed = (refl, refl)
  none_later w k (l ∷ ls) all failed =
      let none = (right w k l all.0).none failed in
      let later = none_later l.world l.keeper ls all.1 none.2 in
      (ap (λ (x : List CommitOfChanges). x ++ acknowledged ls) none.0 ∙ later.0, ap (λ (x : List CommitOfChanges). x ++ in_flight ls) none.1 ∙ later.1)

  -- the accepted commits are those of the first event, with what was in flight in it, and those of the others
  accepted_are : (w : World) (k : S) (l : Link S) (ls : List (Link S)) → One w k l → All l.world l.keeper ls → accepted (l ∷ ls) ≡ (l.stored.commits ++ l.stored.flying) ++ accepted ls
  accepted_are w k l ls call all = by (right w k l call).one
    where
      by : (l.stored.flying ≡ []) ⊎ (l.world.failed ≡ true) → accepted (l ∷ ls) ≡ (l.stored.commits ++ l.stored.flying) ++ accepted ls
      by (inl none) = rw none (append_assoc l.stored.commits (acknowledged ls) (in_flight ls) ∙ ap (λ (x : List CommitOfChanges). x ++ (acknowledged ls ++ in_flight ls)) (sym (append-nil l.stored.commits)))
      by (inr failed) =
          let later = none_later l.world l.keeper ls all failed in
          rw (later.0, later.1) (ap (λ (x : List CommitOfChanges). x ++ (l.stored.flying ++ [])) (append-nil l.stored.commits) ∙ sym (append_assoc l.stored.commits l.stored.flying []))

  -- ---- one call in front of others

  abbrev Holds : Site → List CommitOfChanges → ℕ → L → Type 0
  Holds s commits a c = HoldsCommits stands s commits a c

  -- the commits of one event
  abbrev own : Link S → List CommitOfChanges
  own l = l.stored.commits ++ l.stored.flying

  -- what was left before, or with what was in flight in this call
  abbrev InFlightThen : World → Link S → (L → Type 0) → L → Type 0
  InFlightThen w l P c = P c ⊎ ((l.world.failed ≡ true) × Holds w.site (own l) (length l.stored.commits) c)

  abbrev Starts : World → S → (L → Type 0) → Type 0
  Starts w k P = (c : L) → may_crash_to (crash_states k) c → stands c w.site ⊎ P c

  -- all commits of a call, where nothing is in flight
  all_made : (w : World) (l : Link S) (c : L) → l.world.site ≡ with_commits w.site l.stored.commits → l.stored.flying ≡ [] → Holds w.site (own l) (length l.stored.commits) c → stands c l.world.site
  all_made w l c made none h =
      let same : own l ≡ l.stored.commits = ap (λ (x : List CommitOfChanges). l.stored.commits ++ x) none ∙ append-nil l.stored.commits in
      let most : h.count ≤ length l.stored.commits = subst (λ (x : List CommitOfChanges). h.count ≤ length x) same h.at_most in
      let all : take h.count (own l) ≡ l.stored.commits = ap (take h.count) same ∙ take_all h.count l.stored.commits (omega (arith, h.at_least, most)) in
      subst (stands c) (ap (with_commits w.site) all ∙ sym made) h.represented

  then_starts : (w : World) (k : S) (l : Link S) (P : L → Type 0) → One w k l → Starts w k P → Starts l.world l.keeper (InFlightThen w l P)
  then_starts w k l P call start c left =
      elim (cases_Bool w.failed) [
        | inl failed ↦
            let stored = right w k l call in
            let none = stored.none failed in
            let same : w.site ≡ l.world.site = sym (stored.made ∙ ap (with_commits w.site) none.0) in
            ⊎_elim (λ here. inl (subst (stands c) same here)) (λ was. inr (inl was)) (start c ((call.shut failed).now c left))
        | inr usable ↦ behind usable
      ]
    where
      behind : w.failed ≡ false → stands c l.world.site ⊎ InFlightThen w l P c
      behind usable =
          let h = call.behind usable c left in
          let stored = right w k l call in
          ⊎_elim (λ none. inl (all_made w l c stored.made none h)) (λ failed. inr (inr (failed, h))) stored.one

  abbrev Or : World → List (Link S) → (L → Type 0) → ℕ → L → Type 0
  Or w ls P a c = Holds w.site (accepted ls) a c ⊎ P c

  lift_or : (w : World) (k : S) (l : Link S) (ls : List (Link S)) (P : L → Type 0) (a b : ℕ) (c : L) → One w k l → All l.world l.keeper ls → b ≤ length l.stored.commits + a → a ≤ length (acknowledged ls)
      → Or l.world ls (InFlightThen w l P) a c → Or w (l ∷ ls) P b c
  lift_or w k l ls P a b c call all le most (inl from) = inl (subst (λ (x : List CommitOfChanges). Holds w.site x b c) (sym (accepted_are w k l ls call all)) (by (right w k l call).one))
    where
      made : l.world.site ≡ with_commits w.site l.stored.commits
      made = (right w k l call).made

      by : (l.stored.flying ≡ []) ⊎ (l.world.failed ≡ true) → Holds w.site (own l ++ accepted ls) b c
      by (inl none) =
          let same : own l ≡ l.stored.commits = ap (λ (x : List CommitOfChanges). l.stored.commits ++ x) none ∙ append-nil l.stored.commits in
          subst (λ (x : List CommitOfChanges). Holds w.site (x ++ accepted ls) b c) (sym same) (comes_after stands w.site l.world.site l.stored.commits (accepted ls) a b c made le from)
      by (inr failed) =
          let later = none_later l.world l.keeper ls all failed in
          let nothing : accepted ls ≡ [] = ap (λ (x : List CommitOfChanges). x ++ in_flight ls) later.0 ∙ later.1 in
          let rest : List CommitOfChanges = l.stored.flying ++ accepted ls in
          let still : Holds l.world.site rest a c = record {
            count = from.count;
            at_least = from.at_least;
            at_most = (let most : from.count ≤ 0 = subst (λ (x : List CommitOfChanges). from.count ≤ length x) nothing from.at_most in omega (arith, most));
            represented =
                let none : from.count ≡ 0 = (let most : from.count ≤ 0 = subst (λ (x : List CommitOfChanges). from.count ≤ length x) nothing from.at_most in omega (arith, most)) in
                subst (λ (n : ℕ). stands c (with_commits l.world.site (take n rest))) (sym none) (subst (λ (n : ℕ). stands c (with_commits l.world.site (take n (accepted ls)))) none from.represented);
          } in
          subst (λ (x : List CommitOfChanges). Holds w.site x b c) (sym (append_assoc l.stored.commits l.stored.flying (accepted ls))) (comes_after stands w.site l.world.site l.stored.commits rest a b c made le still)
  lift_or w k l ls P a b c call all le most (inr (inl was)) = inr was
  lift_or w k l ls P a b c call all le most (inr (inr (failed, h))) =
      let later = none_later l.world l.keeper ls all failed in
      let none : length (acknowledged ls) ≡ 0 = ap (λ (x : List CommitOfChanges). length x) later.0 in
      inl (subst (λ (x : List CommitOfChanges). Holds w.site x b c) (sym (accepted_are w k l ls call all)) (more_come stands w.site (own l) (accepted ls) (length l.stored.commits) b c (omega (arith, le, most, none)) h))

  -- what the first call leaves
  first_of : (w : World) (k : S) (l : Link S) (ls : List (Link S)) (c : L) → One w k l → All l.world l.keeper ls → Holds w.site (own l) 0 c → Holds w.site (accepted (l ∷ ls)) 0 c
  first_of w k l ls c call all h = subst (λ (x : List CommitOfChanges). Holds w.site x 0 c) (sym (accepted_are w k l ls call all)) (more_come stands w.site (own l) (accepted ls) 0 0 c (omega arith) h)

  at_start : (w : World) (ls : List (Link S)) (P : L → Type 0) (c : L) → stands c w.site ⊎ P c → Or w ls P 0 c
  at_start w ls P c (inl here) = inl (stands_now stands w.site (accepted ls) c here)
  at_start w ls P c (inr was) = inr was

  -- ---- a run that begins with something in flight

  since : (w : World) (k : S) (ls : List (Link S)) (P : L → Type 0) → All w k ls → Starts w k P → (t : ℕ) (c : L) → t ≤ (crash_states k).moment → (crash_states (last_keeper k ls)).possible_since t c → (crash_states k).possible_since t c ⊎ Or w ls P 0 c
  since w k [] P all start t c le left = inl left
  since w k (l ∷ ls) P all start t c le left =
      ⊎_elim earlier (λ later. inr (lift_or w k l ls P 0 0 c all.0 all.1 (omega arith) (omega arith) later)) (since l.world l.keeper ls (InFlightThen w l P) all.1 (then_starts w k l P all.0 start) t c (omega (arith, le, all.0.adds.later)) left)
    where
      now : may_crash_to (crash_states k) c ⊎ Holds w.site (own l) 0 c → (crash_states k).possible_since t c ⊎ Or w (l ∷ ls) P 0 c
      now (inl may) = inr (at_start w (l ∷ ls) P c (start c may))
      now (inr by) = inr (inl (first_of w k l ls c all.0 all.1 by))

      earlier : (crash_states l.keeper).possible_since t c → (crash_states k).possible_since t c ⊎ Or w (l ∷ ls) P 0 c
      earlier was = ⊎_elim (λ before. inl before) now (all.0.adds.nothing_else t c le was)

  from_now : (w : World) (k : S) (ls : List (Link S)) (P : L → Type 0) → All w k ls → Starts w k P → (c : L) → (crash_states (last_keeper k ls)).possible_since (crash_states k).moment c → Or w ls P 0 c
  from_now w k ls P all start c left = ⊎_elim (λ may. at_start w ls P c (start c may)) (λ from. from) (since w k ls P all start (crash_states k).moment c (omega arith) left)

  fewer : (ls : List (Link S)) (n : ℕ) → length (acknowledged (take n ls)) ≤ length (acknowledged ls)
  fewer [] zero = omega arith
  fewer [] (suc n) = omega arith
  fewer (l ∷ ls) zero = omega arith
  fewer (l ∷ ls) (suc n) = omega (arith, fewer ls n, length-append l.stored.commits (acknowledged (take n ls)), length-append l.stored.commits (acknowledged ls))

  each : (w : World) (k : S) (ls : List (Link S)) (P : L → Type 0) → All w k ls → Starts w k P → (n : ℕ) (c : L) → n ≤ length ls → (crash_states (last_keeper k ls)).possible_since (at k ls n) c → Or w ls P (length (acknowledged (take n ls))) c
  each w k [] P all start zero c within left = from_now w k [] P all start c left
  each w k [] P all start (suc n) c within left = absurd (omega (arith, within))
  each w k (l ∷ ls) P all start zero c within left = from_now w k (l ∷ ls) P all start c left
  each w k (l ∷ ls) P all start (suc n) c within left =
      lift_or w k l ls P (length (acknowledged (take n ls))) (length (acknowledged (take (suc n) (l ∷ ls)))) c all.0 all.1 (omega (arith, length-append l.stored.commits (acknowledged (take n ls)))) (fewer ls n)
      (each l.world l.keeper ls (InFlightThen w l P) all.1 (then_starts w k l P all.0 start) n c (omega (arith, within)) left)

  only_from : (w : World) (ls : List (Link S)) (a : ℕ) (c : L) → Or w ls (λ x. ⊥) a c → Holds w.site (accepted ls) a c
  only_from w ls a c (inl from) = from
  only_from w ls a c (inr never) = absurd never

  pub calls_leave : CallsLeave crash_states stands split
  calls_leave w k ls start all =
      let starts : Starts w k (λ x. ⊥) = λ c may. inl (start c may) in
      record {
        at = at k ls;
        begins = at_first k ls;
        is_now = last_is k ls;
        rises = λ m n le. rises w k ls m n all le;
        each = λ n c within left. only_from w ls (length (acknowledged (take n ls))) c (each w k ls (λ x. ⊥) all starts n c within left);
        keeps = keeps w k ls all;
        since = λ t c le left. ⊎_elim (λ before. inl before) (λ from. inr (only_from w ls 0 c from)) (since w k ls (λ x. ⊥) all starts t c le left);
      }

  -- ---- the moment behind some links

  moment_behind : (k : S) (first more : List (Link S)) → at k (first ++ more) (length first) ≡ (crash_states (last_keeper k first)).moment
  moment_behind k [] more = at_first k more
  moment_behind k (l ∷ first) more = moment_behind l.keeper first more

  -- What is left since the moment behind some calls has at least the commits that they acknowledged.
  pub calls_since : (w : World) (k : S) (first more : List (Link S)) → ((c : L) → may_crash_to (crash_states k) c → stands c w.site) → All w k (first ++ more) → (c : L) →
      (crash_states (last_keeper k (first ++ more))).possible_since (crash_states (last_keeper k first)).moment c → HoldsCommits stands w.site (accepted (first ++ more)) (length (acknowledged first)) c
  calls_since w k first more start all c left =
      let starts : Starts w k (λ x. ⊥) = λ c may. inl (start c may) in
      let n = length first in
      let since = subst (λ (t : ℕ). (crash_states (last_keeper k (first ++ more))).possible_since t c) (sym (moment_behind k first more)) left in
      let front : take n (first ++ more) ≡ first = take-append-le n first more (omega arith) ∙ take_all n first (omega arith) in
      subst (λ (x : List (Link S)). HoldsCommits stands w.site (accepted (first ++ more)) (length (acknowledged x)) c) front
      (only_from w (first ++ more) (length (acknowledged (take n (first ++ more)))) c (each w k (first ++ more) (λ x. ⊥) all starts n c (omega (arith, length-append first more)) since))
