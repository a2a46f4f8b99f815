-- What a crash leaves, in accepted changes.
use Rattle.std.proofs.Common.{◌≡◌, ◌≤◌, ℕ, suc, List, [], ◌∷◌, length, take, refl, sym, ap, subst, ◌∙◌}
use Rattle.std.specs.Prelude.{Ok}
use Rattle.common_types.specs.CrashStates.{CrashStates}
use Rattle.host_types.specs.Site.{Site}
use Rattle.sector_device.specs.Device.{State}
use Rattle.page_store.specs.Sectors.{Image}
use Rattle.file_device.specs.FileCalls.{file_state}
use Rattle.group_world.specs.World.{World, started_as}
use Rattle.group_world.specs.CrashStates.{Link, HoldsCommits, with_commits, accepted}
use Rattle.group_world.specs.declared.event.Event.{Event}
use Rattle.group_world.specs.declared.event.Outcome.{Outcome}
use Rattle.group_world.proofs.TakenMore.{all_are_applied}
use Rattle.host_on_disk.specs.ImageSites.{ImageRepresents}
use Rattle.host_on_disk.specs.Headline.{IsRunFrom}
use Rattle.accepted_changes.specs.Accepted.{changes_of, HoldsAcknowledged}
use Rattle.accepted_changes.specs.Laws.{CrashesLeaveAPrefix, ImagesHoldTheAcknowledged, NextOpeningsFindThem, file_crash_states}
use Rattle.accepted_changes.proofs.Commits.{first_commits_are_right, with_all}
use Rattle.accepted_changes.proofs.Runs.{accepted_right}

holds : {L D : Type 0} (stands : L → Site → Type 0) (w : World) (es : List Event) (os : List Outcome) (ls : List (Link D)) (least : ℕ) (left : L) → IsRunFrom w es os ls → HoldsCommits stands w.site (accepted ls) least left → HoldsAcknowledged stands w.site (accepted ls) least left
holds stands w es os ls least left run h =
    let all = accepted_right w es os ls run in
    let first = take h.count (accepted ls) in
    let right = first_commits_are_right w.site all.0 (accepted ls) h.count all.1 in
    record {
      count = h.count;
      site = with_commits w.site first;
      at_least = h.at_least;
      at_most = h.at_most;
      made = all_are_applied w.site _ (changes_of first) right ∙ ap (λ (s : Site). Ok s) (sym (with_all w.site first));
      represented = h.represented;
    }

-- each event of a run is one call
as_many : {D : Type 0} (w : World) (es : List Event) (os : List Outcome) (ls : List (Link D)) → IsRunFrom w es os ls → length ls ≡ length es
as_many w [] [] [] run = refl
as_many w (e ∷ es) (o ∷ os) (l ∷ ls) run = ap suc (as_many l.world es os ls run.1)
as_many w [] [] (l ∷ ls) run = absurd run
as_many w [] (o ∷ os) [] run = absurd run
as_many w [] (o ∷ os) (l ∷ ls) run = absurd run
as_many w (e ∷ es) [] [] run = absurd run
as_many w (e ∷ es) [] (l ∷ ls) run = absurd run
as_many w (e ∷ es) (o ∷ os) [] run = absurd run

pub crashes_leave_a_prefix : {S L : Type 0} (crash_states : S → CrashStates L) (stands : L → Site → Type 0) → CrashesLeaveAPrefix crash_states stands
crashes_leave_a_prefix crash_states stands old before behind events outcomes links run h k left within possible = holds stands old events outcomes links _ left run (h.each k left within possible)

pub images_hold_the_acknowledged : {D : Type 0} → (state : D → State) (crash_states : D → CrashStates Image) → ImagesHoldTheAcknowledged state crash_states
images_hold_the_acknowledged state crash_states old new grouped first events outcomes h k image within possible =
    let start = started_as grouped h.site first in
    holds ImageRepresents start events outcomes h.links _ image h.run (h.at_crash.each k image (subst (λ n. k ≤ n) (sym (as_many start events outcomes h.links h.run)) within) possible)

pub next_openings_find_them : NextOpeningsFindThem
next_openings_find_them old new later grouped first events outcomes h k within found = images_hold_the_acknowledged file_state file_crash_states old new grouped first events outcomes h k (file_state later).disk.view within found
