use Rattle.std.proofs.Common.{◌≡◌, ◌<◌, ℕ, IsTrue, length}
use Rattle.sector_device.specs.Effects.{MadeExactly}
use Rattle.page_store.specs.DeviceEffects.{IsReadCall}
use Rattle.page_store.specs.Sectors.{sector}
use Rattle.page_store.specs.Steps.{crash_states_of}
use Rattle.page_store.proofs.roots.read_slots.Given as goal

abbrev pub invariant-loop-n : goal.invariant-loop-n
invariant-loop-n g l =
    let d = g.D.Device in
    record {
      device : IsReadCall d.state (crash_states_of d.moment d.possible_since) l.fn.device l.device;
      reads : (d.state l.device).failed_reads ≡ (d.state l.fn.device).failed_reads;
      work : MadeExactly l.n 0 0 (d.state l.fn.device) (d.state l.device);
      long : length l.sectors ≡ 16;
      front : IsTrue (d.state l.fn.device).honest → (k : ℕ) → k < l.n → sector (d.state l.fn.device).disk.view k ≡ sector l.sectors k;
    }
