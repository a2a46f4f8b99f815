use Rattle.site_store.specs.Represented.{site_of, site_kept}
use Rattle.site_store.proofs.SiteCounts.{read_counted}
use Rattle.site_store.proofs.StoreAsSite.{has_read, lacks_same, read_fault_comes}
use Rattle.site_store.proofs.site_calls.DiskSiteSiteKeeper.card_front.Goals as goal

pub returns-in-Ok-clause-front : goal.returns-in-Ok-clause-front
returns-in-Ok-clause-front g c = λ honest.
    let h = g.K.Keeper.store_state c.args.self.now.keeper in
    c.in-Ok.ensures.front.reads.gives honest (site_of h c.args.self.now.kept) (site_kept h c.args.self.now.kept honest)

pub returns-in-Ok-clause-kept : goal.returns-in-Ok-clause-kept
returns-in-Ok-clause-kept g c = has_read (g.K.Keeper.store_state c.args.self.now.keeper) (g.K.Keeper.store_state c.front_at.new.from) c.args.self.now.kept c.self-1.given.0 c.front_at.ensures.front.reads.only.read

pub returns-in-Err-clause-kept : goal.returns-in-Err-clause-kept
returns-in-Err-clause-kept g c = has_read (g.K.Keeper.store_state c.args.self.now.keeper) (g.K.Keeper.store_state c.front_at.new.from) c.args.self.now.kept c.self-1.given.0 c.front_at.ensures.front.reads.only.read

pub returns-in-Ok-clause-lacking : goal.returns-in-Ok-clause-lacking
returns-in-Ok-clause-lacking g c = lacks_same g.K.Keeper.store_state g.K.Keeper.may_need g.K.Keeper.crash_states c.args.self.now.keeper c.front_at.new.from c.args.self.now.kept c.self-1.given.0 c.front_at.ensures.front.reads.only

pub returns-in-Err-clause-lacking : goal.returns-in-Err-clause-lacking
returns-in-Err-clause-lacking g c = lacks_same g.K.Keeper.store_state g.K.Keeper.may_need g.K.Keeper.crash_states c.args.self.now.keeper c.front_at.new.from c.args.self.now.kept c.self-1.given.0 c.front_at.ensures.front.reads.only

pub returns-in-Err-clause-fault : goal.returns-in-Err-clause-fault
returns-in-Err-clause-fault g c = read_fault_comes (g.K.Keeper.store_state c.args.self.now.keeper) (g.K.Keeper.store_state c.front_at.new.from) c.args.self.now.kept c.self-1.given.0 c.in-Err.fault c.to_site_fault.result c.to_site_fault.ensures c.in-Err.ensures.front.reads.fault

pub returns-in-Err-clause-reads : goal.returns-in-Err-clause-reads
returns-in-Err-clause-reads g c = read_counted (g.K.Keeper.store_state c.args.self.now.keeper) (g.K.Keeper.store_state c.front_at.new.from) c.args.self.now.kept c.in-Err.fault c.to_site_fault.result c.to_site_fault.ensures c.in-Err.ensures.front.reads.fault
