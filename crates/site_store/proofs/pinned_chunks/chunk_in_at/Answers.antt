use Rattle.std.proofs.Common.{ℕ, sym, ◌∙◌}
use Rattle.site_store.proofs.AfterReads.{done, begins, ends}
use Rattle.site_store.proofs.Chunking.{no_chunk}
use Rattle.site_store.proofs.PinnedReads.{stood_after, pinned_fault_later}
use Rattle.site_store.proofs.pinned_chunks.chunk_in_at.Goals as goal

pub returns-in-Ok-false-clause-chunk : goal.returns-in-Ok-false-clause-chunk
returns-in-Ok-false-clause-chunk g c =
    let first = c.in-Ok-false.ensures.document in
    begins first (done first.reads.only first.reads.none (λ honest s stood. sym (no_chunk s c.args.selector.now c.args.view c.args.k (sym (first.reads.gives honest s stood) ∙ c.in-Ok-false.field-0-test))))

pub returns-in-Ok-true-clause-chunk : goal.returns-in-Ok-true-clause-chunk
returns-in-Ok-true-clause-chunk g c =
    let store_state = g.K.Keeper.store_state in
    let number = g.K.PinKeeper.number c.args.pin.now in
    let a = store_state c.args.keeper.now in
    let b = store_state c.has_document_at.new.keeper in
    let first = c.in-Ok-true.ensures.document in
    let read = first.reads.only.read in
    begins first (ends c.args.keeper.now c.has_document_at.new.keeper c.document_chunk_at.new.keeper c.document_chunk_at.result first.reads.only first.reads.none c.document_chunk_at.ensures.chunk.reads
    (λ honest n gives s stood. gives s (stood_after a b number s read honest stood) (sym (first.reads.gives honest s stood) ∙ c.in-Ok-true.field-0-test))
    (λ fault cause. pinned_fault_later number a b (store_state c.document_chunk_at.new.keeper) fault read first.reads.none cause))
