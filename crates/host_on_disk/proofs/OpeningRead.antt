-- How many calls an opening makes: those of the tree, and then those of the walk over its pairs.
use Rattle.std.proofs.Common.{◌≡◌, ◌≤◌, ◌+◌, ◌-◌, ◌*◌, ℕ, ap, ◌∙◌, arith}
use Rattle.sector_device.specs.Device.{State}
use Rattle.page_store.specs.Opening.{MadeToOpen}
use Rattle.page_store.specs.StoreState.{StoreState}
use Rattle.page_store.specs.Work.{ReadsPages, WritesNothing, SyncsOnceAtMost, pages_tried}
use Rattle.host_on_disk.specs.OpeningWork.{opening_reads}

pub opened_once : (old mid new : State) (pages : ℕ) (h k : StoreState) → 16 ≤ pages → 8 * pages ≤ old.size → MadeToOpen (16 + 8 * (pages - 2)) old mid → ReadsPages ((h.keys + 1) * pages_tried h.height) mid.made new.made → k.keys ≡ h.keys → k.height ≡ h.height → MadeToOpen (opening_reads old.size k) old new
opened_once old mid new pages h k least fits first walk keys height =
    let same : (k.keys + 1) * pages_tried k.height ≡ (h.keys + 1) * pages_tried h.height = ap (λ (n : ℕ). (n + 1) * pages_tried k.height) keys ∙ ap (λ (n : ℕ). (h.keys + 1) * pages_tried n) height in
    let writes = walk.writes in
    let syncs = walk.syncs in
    record {
      sync = syncs ∙ first.sync;
      most = record {
        reads = (omega (arith, first.most.reads.0, walk.reads.0), omega (arith, least, fits, first.most.reads.1, walk.reads.1, same));
        writes = (omega (arith, writes, first.most.writes.0), omega (arith, writes, first.most.writes.1));
        syncs = (omega (arith, syncs, first.most.syncs.0), omega (arith, syncs, first.most.syncs.1));
      };
    }

pub refused_once : (r : ℕ) (old mid new : State) → MadeToOpen r old mid → WritesNothing mid.made new.made → SyncsOnceAtMost old.made new.made
refused_once r old mid new first walk =
    let reads = walk.reads in
    let writes = walk.writes in
    let syncs = walk.syncs in
    record {
      reads = omega (arith, reads, first.most.reads.0);
      writes = omega (arith, writes, first.most.writes.0, first.most.writes.1);
      syncs = (omega (arith, syncs, first.most.syncs.0), omega (arith, syncs, first.most.syncs.1));
    }
