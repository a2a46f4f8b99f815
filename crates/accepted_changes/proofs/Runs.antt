-- The accepted changes of a run, made in turn.
use Rattle.std.proofs.Common.{◌≡◌, ◌⊎◌, inl, inr, ◌≤◌, ℕ, zero, suc, true, false, List, [], ◌∷◌, ◌++◌, length, take, refl, sym, ap, subst, ◌∙◌, arith, append_assoc, length-append}
use Rattle.std.specs.Prelude.{Some}
use Rattle.std.proofs.lemmas.List.{append-nil}
use Rattle.std.proofs.Math.Seq.{take-append_seam}
use Rattle.host_types.specs.Site.{Site}
use Rattle.host_types.specs.AllChanges.{Changes}
use Rattle.group_world.specs.World.{World}
use Rattle.group_world.specs.Laws.{all_made}
use Rattle.group_world.specs.CrashStates.{CommitOfChanges, Link, IsRightlyStored, with_changes, with_commits, acknowledged, in_flight, accepted}
use Rattle.group_world.specs.declared.event.Event.{Event}
use Rattle.group_world.specs.declared.event.Outcome.{Outcome}
use Rattle.group_world.proofs.Stored.{what_is_stored_is_right}
use Rattle.group_world.proofs.TakenMore.{all_are_applied}
use Rattle.host_on_disk.specs.Headline.{IsLink, IsRunFrom}
use Rattle.accepted_changes.specs.Accepted.{changes_of, world_behind}
use Rattle.accepted_changes.specs.Laws.{AcceptedAreValid, AcceptedAreInOrder}
use Rattle.accepted_changes.proofs.Commits.{AreRight, first_are_right, both_are_right, changes_of_both, with_all}
use Rattle.accepted_changes.proofs.OneCall.{stored_right, stored_flies}

module _ {D : Type 0} where
  right : (w : World) (e : Event) (o : Outcome) (l : Link D) → IsLink w e o l → IsRightlyStored w l.world l.stored
  right w e o l is = what_is_stored_is_right (Unit {0}) w l.world e o l.stored is.stored

  -- what a call acknowledges makes the site behind it
  sure : (w : World) (e : Event) (o : Outcome) (l : Link D) → IsLink w e o l → all_made w.site (changes_of l.stored.commits) ≡ Some l.world.site
  sure w e o l is =
      let all = stored_right (Unit {0}) w e o l.world l.stored is.stored in
      let parts = changes_of_both l.stored.commits l.stored.flying in
      first_are_right w.site _ (changes_of l.stored.commits) (changes_of l.stored.flying) (ap (all_made w.site) (sym parts) ∙ all) ∙ ap (λ (s : Site). Some s) (sym (with_all w.site l.stored.commits) ∙ sym (right w e o l is).made)

  -- ---- what a run acknowledges

  pub acknowledged_right : (w : World) (es : List Event) (os : List Outcome) (ls : List (Link D)) → IsRunFrom w es os ls → all_made w.site (changes_of (acknowledged ls)) ≡ Some (world_behind w ls).site
  acknowledged_right w [] [] [] run = refl
  acknowledged_right w (e ∷ es) (o ∷ os) (l ∷ ls) run =
      ap (all_made w.site) (changes_of_both l.stored.commits (acknowledged ls)) ∙ both_are_right w.site l.world.site (world_behind l.world ls).site (changes_of l.stored.commits) (changes_of (acknowledged ls)) (sure w e o l run.0) (acknowledged_right l.world es os ls run.1)
  acknowledged_right w [] [] (l ∷ ls) run = absurd run
  acknowledged_right w [] (o ∷ os) [] run = absurd run
  acknowledged_right w [] (o ∷ os) (l ∷ ls) run = absurd run
  acknowledged_right w (e ∷ es) [] [] run = absurd run
  acknowledged_right w (e ∷ es) [] (l ∷ ls) run = absurd run
  acknowledged_right w (e ∷ es) (o ∷ os) [] run = absurd run

  -- ---- with what was in flight

  none_later : (w : World) (es : List Event) (os : List Outcome) (ls : List (Link D)) → IsRunFrom w es os ls → w.failed ≡ true → (acknowledged ls ≡ []) × (in_flight ls ≡ [])
  none_later w [] [] [] run failed = (refl, refl)
  none_later w (e ∷ es) (o ∷ os) (l ∷ ls) run failed =
      let none = (right w e o l run.0).none failed in
      let later = none_later l.world es os ls run.1 none.2 in
      (ap (λ (x : List CommitOfChanges). x ++ acknowledged ls) none.0 ∙ later.0, ap (λ (x : List CommitOfChanges). x ++ in_flight ls) none.1 ∙ later.1)
  none_later w [] [] (l ∷ ls) run failed = absurd run
  none_later w [] (o ∷ os) [] run failed = absurd run
  none_later w [] (o ∷ os) (l ∷ ls) run failed = absurd run
  none_later w (e ∷ es) [] [] run failed = absurd run
  none_later w (e ∷ es) [] (l ∷ ls) run failed = absurd run
  none_later w (e ∷ es) (o ∷ os) [] run failed = absurd run

  -- the accepted commits are those of the first call, with what was in flight in it, and those of the others
  accepted_are : (w : World) (es : List Event) (os : List Outcome) (l : Link D) (ls : List (Link D)) → (l.stored.flying ≡ []) ⊎ (l.world.failed ≡ true) → IsRunFrom l.world es os ls → accepted (l ∷ ls) ≡ (l.stored.commits ++ l.stored.flying) ++ accepted ls
  accepted_are w es os l ls (inl none) run = rw none (append_assoc l.stored.commits (acknowledged ls) (in_flight ls) ∙ ap (λ (x : List CommitOfChanges). x ++ (acknowledged ls ++ in_flight ls)) (sym (append-nil l.stored.commits)))
  accepted_are w es os l ls (inr failed) run =
      let later = none_later l.world es os ls run failed in
      rw (later.0, later.1) (ap (λ (x : List CommitOfChanges). x ++ (l.stored.flying ++ [])) (append-nil l.stored.commits) ∙ sym (append_assoc l.stored.commits l.stored.flying []))

  pub accepted_right : (w : World) (es : List Event) (os : List Outcome) (ls : List (Link D)) → IsRunFrom w es os ls → (t : Site) × (all_made w.site (changes_of (accepted ls)) ≡ Some t)
  accepted_right w [] [] [] run = (w.site, refl)
  accepted_right w (e ∷ es) (o ∷ os) (l ∷ ls) run = by (right w e o l run.0).one (accepted_right l.world es os ls run.1)
    where
      by : (l.stored.flying ≡ []) ⊎ (l.world.failed ≡ true) → (t : Site) × (all_made l.world.site (changes_of (accepted ls)) ≡ Some t) → (t : Site) × (all_made w.site (changes_of (accepted (l ∷ ls))) ≡ Some t)
      by (inl none) later =
          let those : accepted (l ∷ ls) ≡ l.stored.commits ++ accepted ls = accepted_are w es os l ls (inl none) run.1 ∙ ap (λ (x : List CommitOfChanges). (l.stored.commits ++ x) ++ accepted ls) none ∙ ap (λ (x : List CommitOfChanges). x ++ accepted ls) (append-nil l.stored.commits) in (
            later.0,
            ap (λ (x : List CommitOfChanges). all_made w.site (changes_of x)) those ∙ ap (all_made w.site) (changes_of_both l.stored.commits (accepted ls))
                ∙ both_are_right w.site l.world.site later.0 (changes_of l.stored.commits) (changes_of (accepted ls)) (sure w e o l run.0) later.1,
          )
      by (inr failed) others =
          let later = none_later l.world es os ls run.1 failed in
          let nothing : accepted ls ≡ [] = ap (λ (x : List CommitOfChanges). x ++ in_flight ls) later.0 ∙ later.1 in
          let those : accepted (l ∷ ls) ≡ l.stored.commits ++ l.stored.flying = accepted_are w es os l ls (inr failed) run.1 ∙ ap (λ (x : List CommitOfChanges). (l.stored.commits ++ l.stored.flying) ++ x) nothing ∙ append-nil (l.stored.commits ++ l.stored.flying) in
          (_, ap (λ (x : List CommitOfChanges). all_made w.site (changes_of x)) those ∙ stored_right (Unit {0}) w e o l.world l.stored run.0.stored)
  accepted_right w [] [] (l ∷ ls) run = absurd run
  accepted_right w [] (o ∷ os) [] run = absurd run
  accepted_right w [] (o ∷ os) (l ∷ ls) run = absurd run
  accepted_right w (e ∷ es) [] [] run = absurd run
  accepted_right w (e ∷ es) [] (l ∷ ls) run = absurd run
  accepted_right w (e ∷ es) (o ∷ os) [] run = absurd run

  pub accepted_are_valid : AcceptedAreValid D
  accepted_are_valid = record {
    make_the_last_site = λ old events outcomes links run. all_are_applied old.site (world_behind old links).site (changes_of (acknowledged links)) (acknowledged_right old events outcomes links run);
    with_those_in_flight = λ old events outcomes links run. (let all = accepted_right old events outcomes links run in (all.0, all_are_applied old.site all.0 (changes_of (accepted links)) all.1));
  }

  -- ---- in order

  front : (ls : List (Link D)) (k : ℕ) → (rest : List CommitOfChanges) × (acknowledged ls ≡ acknowledged (take k ls) ++ rest)
  front [] zero = ([], refl)
  front [] (suc k) = ([], refl)
  front (l ∷ ls) zero = (acknowledged (l ∷ ls), refl)
  front (l ∷ ls) (suc k) = (let behind = front ls k in (behind.0, ap (λ (x : List CommitOfChanges). l.stored.commits ++ x) behind.1 ∙ sym (append_assoc l.stored.commits (acknowledged (take k ls)) behind.0)))

  first_are : (ls : List (Link D)) (k : ℕ) → take (length (acknowledged (take k ls))) (accepted ls) ≡ acknowledged (take k ls)
  first_are ls k =
      let before = acknowledged (take k ls) in
      let f = front ls k in
      ap (take (length before)) (ap (λ (x : List CommitOfChanges). x ++ in_flight ls) f.1 ∙ append_assoc before f.0 (in_flight ls)) ∙ take-append_seam before (f.0 ++ in_flight ls)

  one_at_most : (w : World) (es : List Event) (os : List Outcome) (ls : List (Link D)) → IsRunFrom w es os ls → length (in_flight ls) ≤ 1
  one_at_most w [] [] [] run = omega arith
  one_at_most w (e ∷ es) (o ∷ os) (l ∷ ls) run = by (right w e o l run.0).one (one_at_most l.world es os ls run.1)
    where
      by : (l.stored.flying ≡ []) ⊎ (l.world.failed ≡ true) → length (in_flight ls) ≤ 1 → length (l.stored.flying ++ in_flight ls) ≤ 1
      by (inl none) few = subst (λ (x : List CommitOfChanges). length (x ++ in_flight ls) ≤ 1) (sym none) few
      by (inr failed) few =
          let later = none_later l.world es os ls run.1 failed in
          subst (λ (x : List CommitOfChanges). length (l.stored.flying ++ x) ≤ 1) (sym later.1) (subst (λ (x : List CommitOfChanges). length x ≤ 1) (sym (append-nil l.stored.flying)) (stored_flies (Unit {0}) w e o l.world l.stored run.0.stored))
  one_at_most w [] [] (l ∷ ls) run = absurd run
  one_at_most w [] (o ∷ os) [] run = absurd run
  one_at_most w [] (o ∷ os) (l ∷ ls) run = absurd run
  one_at_most w (e ∷ es) [] [] run = absurd run
  one_at_most w (e ∷ es) [] (l ∷ ls) run = absurd run
  one_at_most w (e ∷ es) (o ∷ os) [] run = absurd run

  pub accepted_are_in_order : AcceptedAreInOrder D
  accepted_are_in_order = record {
    first = first_are;
    one = one_at_most;
    none_after = λ old events outcomes links run failed. (let none = none_later old events outcomes links run failed in ap (λ (x : List CommitOfChanges). x ++ in_flight links) none.0 ∙ none.1);
  }
