use Rattle.std.specs.Prelude.{◌≡◌, IsTrue}
use Rattle.host_types.specs.SiteCalls.{ReadsOnly}
use Rattle.image_commands.proofs.ListedItems.{IsListedTo}
use Rattle.image_commands.proofs.DiskSites.{disk_state, disk_lacks, disk_crash_states}
use Rattle.image_commands.proofs.showing.show_site.Given as goal

-- the items up to the selector are listed
abbrev pub invariant-loop : goal.invariant-loop
invariant-loop g l =
    record {
      only : ReadsOnly disk_state disk_lacks disk_crash_states l.fn.site l.site;
      none : (disk_state l.site).failed_reads ≡ (disk_state l.fn.site).failed_reads;
      listed : IsTrue (disk_state l.fn.site).honest → IsListedTo l.form (disk_state l.fn.site).site l.text.items l.after;
    }
