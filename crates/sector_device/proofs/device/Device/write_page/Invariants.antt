use Rattle.std.proofs.Common.{◌≡◌, ◌*◌, IsTrue}
use Rattle.sector_device.specs.Effects.{IsSameDevice, MadeExactly}
use Rattle.sector_device.specs.Steps.{crash_states_of, Makes, AreWritten, MayBeAllWritten}
use Rattle.sector_device.proofs.device.Device.write_page.Given as goal

abbrev pub invariant-loop-k : goal.invariant-loop-k
invariant-loop-k g l =
    let d = g.Self.Device in
    record {
      same : IsSameDevice (d.state l.fn.self) (d.state l.self);
      reads : (d.state l.self).failed_reads ≡ (d.state l.fn.self).failed_reads;
      work : MadeExactly 0 l.k 0 (d.state l.fn.self) (d.state l.self);
      writes : (d.state l.self).failed_writes ≡ (d.state l.fn.self).failed_writes;
      shows : IsTrue (d.state l.fn.self).honest → AreWritten (8 * l.n) l.k l.bytes (d.state l.fn.self).disk.view (d.state l.self).disk.view;
      leaves : IsTrue (d.state l.fn.self).honest → Makes (crash_states_of d.moment d.possible_since l.fn.self) (crash_states_of d.moment d.possible_since l.self) (MayBeAllWritten (8 * l.n) 8 l.bytes);
    }
