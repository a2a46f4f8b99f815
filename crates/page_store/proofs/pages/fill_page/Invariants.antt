use Rattle.std.proofs.Common.{◌≡◌, ◌*◌, IsTrue, length, take}
use Rattle.sector_device.specs.Effects.{MadeExactly}
use Rattle.page_store.specs.DeviceEffects.{IsReadCall}
use Rattle.page_store.specs.Sectors.{sectors_from}
use Rattle.page_store.specs.Steps.{crash_states_of}
use Rattle.page_store.proofs.pages.fill_page.Given as goal

abbrev pub invariant-loop-part : goal.invariant-loop-part
invariant-loop-part g l =
    let d = g.D.Device in
    record {
      device : IsReadCall d.state (crash_states_of d.moment d.possible_since) l.fn.device l.device;
      reads : (d.state l.device).failed_reads ≡ (d.state l.fn.device).failed_reads;
      work : MadeExactly l.part 0 0 (d.state l.fn.device) (d.state l.device);
      long : length l.bytes ≡ 4096;
      front : IsTrue (d.state l.fn.device).honest → take (512 * l.part) l.bytes ≡ sectors_from (d.state l.fn.device).disk.view (8 * l.page) l.part;
    }
