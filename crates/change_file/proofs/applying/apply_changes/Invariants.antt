use Rattle.std.proofs.Common.{◌≡◌, ◌++◌, length}
use Rattle.change_file.specs.Applied.{numbered}
use Rattle.change_file.proofs.Fronts.{Between}
use Rattle.change_file.proofs.applying.apply_changes.Given as goal

abbrev pub invariant-loop-change : goal.invariant-loop-change
invariant-loop-change g l = record { so_far : Between g.S.SiteKeeper.site_state g.S.SiteKeeper.crash_states g.S.SiteKeeper.represents l.initial.site l.site l.yielded l.now; counted : l.number ≡ length l.yielded; seen : g.P.Progress.seen l.progress ≡ g.P.Progress.seen l.initial.progress ++ numbered (length l.yielded) l.count }
