use Rattle.std.proofs.Common.{take, rules}
use Rattle.site_store.proofs.PinsMade.{out_there, known_chunk, pinned_fault_comes, pinned_counted}
use Rattle.site_store.proofs.StoreAsSite.{has_read, lacks_same}
use Rattle.site_store.proofs.site_calls.DiskSiteSiteKeeper.known_chunk.Goals as goal

pub document_chunk_at-requires : goal.document_chunk_at-requires
document_chunk_at-requires g c = record { out = out_there (g.K.Keeper.store_state c.args.self.now.keeper) c.args.self.now.kept (g.K.PinKeeper.number c.args.pin.now) c.requires.out }

pub returns-in-Ok-clause-gives : goal.returns-in-Ok-clause-gives
returns-in-Ok-clause-gives g c =
    let h = g.K.Keeper.store_state c.args.self.now.keeper in
    let number = g.K.PinKeeper.number c.args.pin.now in
    record {
      within = search rules;
      chunk = λ known. known_chunk h c.args.self.now.kept number (take c.in-Ok.length c.document_chunk_at.new.buffer) c.args.selector.now c.args.view c.args.k known.0 (out_there h c.args.self.now.kept number c.requires.out) (c.in-Ok.ensures.chunk.reads.gives known.0) known.1;
      behind = search rules;
      untouched = search rules;
    }

pub returns-in-Ok-clause-only : goal.returns-in-Ok-clause-only
returns-in-Ok-clause-only g c =
    record {
      kept = has_read (g.K.Keeper.store_state c.args.self.now.keeper) (g.K.Keeper.store_state c.document_chunk_at.new.keeper) c.args.self.now.kept c.self-1.given.0 c.document_chunk_at.ensures.chunk.reads.only.read;
      lacking = lacks_same g.K.Keeper.store_state g.K.Keeper.may_need g.K.Keeper.crash_states c.args.self.now.keeper c.document_chunk_at.new.keeper c.args.self.now.kept c.self-1.given.0 c.document_chunk_at.ensures.chunk.reads.only;
      no_new_crash_state = search rules;
    }

pub returns-in-Err-clause-only : goal.returns-in-Err-clause-only
returns-in-Err-clause-only g c =
    record {
      kept = has_read (g.K.Keeper.store_state c.args.self.now.keeper) (g.K.Keeper.store_state c.document_chunk_at.new.keeper) c.args.self.now.kept c.self-1.given.0 c.document_chunk_at.ensures.chunk.reads.only.read;
      lacking = lacks_same g.K.Keeper.store_state g.K.Keeper.may_need g.K.Keeper.crash_states c.args.self.now.keeper c.document_chunk_at.new.keeper c.args.self.now.kept c.self-1.given.0 c.document_chunk_at.ensures.chunk.reads.only;
      no_new_crash_state = search rules;
    }

pub returns-in-Err-clause-reads : goal.returns-in-Err-clause-reads
returns-in-Err-clause-reads g c =
    let h = g.K.Keeper.store_state c.args.self.now.keeper in
    let number = g.K.PinKeeper.number c.args.pin.now in
    record {
      fault = pinned_fault_comes h (g.K.Keeper.store_state c.document_chunk_at.new.keeper) c.args.self.now.kept c.self-1.given.0 number c.in-Err.fault c.to_site_fault.result (out_there h c.args.self.now.kept number c.requires.out) c.to_site_fault.ensures c.in-Err.ensures.chunk.reads.fault;
      reads = pinned_counted h (g.K.Keeper.store_state c.document_chunk_at.new.keeper) c.args.self.now.kept number c.in-Err.fault c.to_site_fault.result (out_there h c.args.self.now.kept number c.requires.out) c.to_site_fault.ensures c.in-Err.ensures.chunk.reads.fault;
      closed = search rules;
    }
