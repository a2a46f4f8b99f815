-- Where posts don't wait each commit is one change.
use Rattle.std.proofs.Common.{◌≡◌, inl, inr, ◌≤◌, ℕ, Bool, true, false, List, [], ◌∷◌, ◌++◌, length, refl, sym, ap, subst, arith, if◌then◌else◌}
use Rattle.std.specs.Prelude.{All}
use Rattle.std.proofs.lemmas.Bool.{cases_Bool}
use Rattle.std.proofs.lemmas.List.Elements.{All-nil, All-cons, All-append}
use Rattle.host_types.specs.AllChanges.{Changes}
use Rattle.group_world.specs.World.{World}
use Rattle.group_world.specs.Run.{changes_in}
use Rattle.group_world.specs.PlainHubs.{IsPlain}
use Rattle.group_world.specs.CrashStates.{CommitOfChanges, Link, Stored, in_one_step, one_by_one, changes_at, stored_singly, IsStored, acknowledged, in_flight, accepted}
use Rattle.group_world.specs.declared.event.Event.{Event}
use Rattle.group_world.specs.declared.event.Outcome.{Outcome}
use Rattle.group_world.specs.declared.event.Outcome.TheVariants.{Joined, More, Ready, Finished, Waiting, Drawn, Gone, Done, Flushed, Fault}
use Rattle.group_world.specs.declared.fault.HubFault.TheVariants as hub
use Rattle.group_world.proofs.PlainHubs.{plain_hubs_stay}
use Rattle.group_world.proofs.Stored.{whole_of, whole_is}
use Rattle.host_on_disk.specs.Headline.{IsRunFrom}
use Rattle.accepted_changes.specs.Laws.{EachIsOneChange}

abbrev Single : CommitOfChanges → Type 0
Single c = length c ≡ 1

abbrev Singles : List CommitOfChanges → Type 0
Singles commits = All Single commits

-- one change at most is one commit of one change, or none
single_step : (changes : Changes) → length changes ≤ 1 → Singles (in_one_step changes)
single_step [] few = All-nil Single
single_step (c ∷ []) few = All-cons Single (c ∷ []) [] refl (All-nil Single)
single_step (c ∷ d ∷ changes) few = absurd (omega (arith, few))

by_one : (changes : Changes) → Singles (one_by_one changes)
by_one [] = All-nil Single
by_one (c ∷ changes) = All-cons Single (c ∷ []) (one_by_one changes) refl (by_one changes)

abbrev Both : Stored → Type 0
Both stored = Singles stored.commits × Singles stored.flying

whole_single : (changes : Changes) (o : Outcome) → length changes ≤ 1 → Both (whole_of changes o)
whole_single changes (Fault hub.Failed) few = (All-nil Single, single_step changes few)
whole_single changes (Fault hub.Unknown) few = (All-nil Single, All-nil Single)
whole_single changes (Fault hub.Crowded) few = (All-nil Single, All-nil Single)
whole_single changes (Fault hub.Spent) few = (All-nil Single, All-nil Single)
whole_single changes (Fault hub.Deep) few = (All-nil Single, All-nil Single)
whole_single changes (Fault (hub.Refused r)) few = (All-nil Single, All-nil Single)
whole_single changes (Fault (hub.Full need free)) few = (All-nil Single, All-nil Single)
whole_single changes (Fault hub.Broken) few = (All-nil Single, All-nil Single)
whole_single changes (Fault hub.Memory) few = (All-nil Single, All-nil Single)
whole_single changes (Fault hub.NotReady) few = (All-nil Single, All-nil Single)
whole_single changes (Joined k) few = (single_step changes few, All-nil Single)
whole_single changes More few = (single_step changes few, All-nil Single)
whole_single changes Ready few = (single_step changes few, All-nil Single)
whole_single changes Finished few = (single_step changes few, All-nil Single)
whole_single changes Waiting few = (single_step changes few, All-nil Single)
whole_single changes (Drawn bytes) few = (single_step changes few, All-nil Single)
whole_single changes Gone few = (single_step changes few, All-nil Single)
whole_single changes Done few = (single_step changes few, All-nil Single)
whole_single changes (Flushed answered left) few = (single_step changes few, All-nil Single)

singly_single : (w : World) (choices : List Bool) (o : Outcome) → Both (stored_singly w choices o)
singly_single w choices (Fault fault) = (by_one _, by_one _)
singly_single w choices (Joined k) = (by_one _, All-nil Single)
singly_single w choices More = (by_one _, All-nil Single)
singly_single w choices Ready = (by_one _, All-nil Single)
singly_single w choices Finished = (by_one _, All-nil Single)
singly_single w choices Waiting = (by_one _, All-nil Single)
singly_single w choices (Drawn bytes) = (by_one _, All-nil Single)
singly_single w choices Gone = (by_one _, All-nil Single)
singly_single w choices Done = (by_one _, All-nil Single)
singly_single w choices (Flushed answered left) = (by_one _, All-nil Single)

few_at : (w : World) (e : Event) → length (changes_in w e) ≤ 1 → length (changes_at w e) ≤ 1
few_at w e few = elim (cases_Bool w.failed) [ inl failed ↦ rw failed (omega arith) | inr usable ↦ rw usable few ]

stored_single : (split : Type 0) (w : World) (e : Event) (o : Outcome) (v : World) (stored : Stored) → length (changes_in w e) ≤ 1 → IsStored split w e o v stored → Both stored
stored_single split w e o v stored few (inl (how, same)) = rw (same, whole_is w e o) (whole_single (changes_at w e) o (few_at w e few))
stored_single split w e o v stored few (inr (usable, why, (choices, how, same))) = rw same (singly_single w choices o)

module _ {D : Type 0} where
  run_single : (w : World) (es : List Event) (os : List Outcome) (ls : List (Link D)) → IsPlain w → IsRunFrom w es os ls → Singles (acknowledged ls) × Singles (in_flight ls)
  run_single w [] [] [] plain run = (All-nil Single, All-nil Single)
  run_single w (e ∷ es) (o ∷ os) (l ∷ ls) plain run =
      let stays = plain_hubs_stay w l.world e o plain run.0.step in
      let own = stored_single (Unit {0}) w e o l.world l.stored stays.one run.0.stored in
      let rest = run_single l.world es os ls stays.stays run.1 in
      (All-append Single l.stored.commits (acknowledged ls) own.0 rest.0, All-append Single l.stored.flying (in_flight ls) own.1 rest.1)
  run_single w [] [] (l ∷ ls) plain run = absurd run
  run_single w [] (o ∷ os) [] plain run = absurd run
  run_single w [] (o ∷ os) (l ∷ ls) plain run = absurd run
  run_single w (e ∷ es) [] [] plain run = absurd run
  run_single w (e ∷ es) [] (l ∷ ls) plain run = absurd run
  run_single w (e ∷ es) (o ∷ os) [] plain run = absurd run

  pub each_is_one_change : EachIsOneChange D
  each_is_one_change site first events outcomes links run =
      let all = run_single _ events outcomes links (record { plain = refl; none = refl }) run in
      All-append Single (acknowledged links) (in_flight links) all.0 all.1
