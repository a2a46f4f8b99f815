use Rattle.std.proofs.Common.{Ok, IsTrue}
use Rattle.image_commands.proofs.DiskSites.{disk_state, disk_crash_states}
use Rattle.image_exports.specs.Looks.{Looks}
use Rattle.image_exports.proofs.Tellings.{IsToldTo}
use Rattle.image_exports.proofs.exporting.export_site.Given as goal

-- the items up to the selector are told
abbrev pub invariant-loop : goal.invariant-loop
invariant-loop g l =
    record {
      only : Looks {T = Unit {0}} disk_state disk_crash_states l.fn.site l.site (Ok tt);
      told : IsTrue (disk_state l.fn.site).honest → IsToldTo (disk_state l.fn.site).site l.out l.after;
    }
