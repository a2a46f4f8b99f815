use Rattle.std.proofs.Common.{◌≡◌, ◌*◌, ◌-◌, IsTrue}
use Rattle.sector_device.specs.Effects.{MadeExactly}
use Rattle.page_store.specs.Sectors.{page_of}
use Rattle.page_store.specs.Flat.{flat_walk, half_size, with_pairs}
use Rattle.page_store.specs.DeviceEffects.{IsReadCall}
use Rattle.page_store.specs.Steps.{crash_states_of}
use Rattle.page_store.proofs.flat_reading.read_half.Given as goal

abbrev pub invariant-loop-page : goal.invariant-loop-page
invariant-loop-page g l =
    let d = g.D.Device in
    record {
      device : IsReadCall d.state (crash_states_of d.moment d.possible_since) l.fn.device l.device;
      reads : (d.state l.device).failed_reads ≡ (d.state l.fn.device).failed_reads;
      work : MadeExactly (8 * (l.page - l.slot.root.tree)) 0 0 (d.state l.fn.device) (d.state l.device);
      walk : IsTrue (d.state l.fn.device).honest → with_pairs l.pairs.items (flat_walk (page_of (d.state l.fn.device).disk.view) l.slot.seal (half_size l.slot.root.pages - (l.page - l.slot.root.tree)) l.page l.room l.keys)
          ≡ flat_walk (page_of (d.state l.fn.device).disk.view) l.slot.seal (half_size l.slot.root.pages) l.slot.root.tree 0 l.slot.root.keys;
    }
