-- An image is opened by one sync, and then only read.
use Rattle.std.proofs.Common.{ℕ, arith}
use Rattle.sector_device.specs.Device.{State}
use Rattle.page_store.specs.Opening.{MadeToOpen}
use Rattle.page_store.specs.Work.{SyncsOnce}

pub synced_once : (r : ℕ) (old new : State) → MadeToOpen r old new → SyncsOnce old.made new.made
synced_once r old new made = record {
  reads = made.most.reads.0;
  writes = omega (arith, made.most.writes.0, made.most.writes.1);
  syncs = made.sync;
}
