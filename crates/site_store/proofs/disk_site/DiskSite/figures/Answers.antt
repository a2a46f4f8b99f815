use Rattle.site_store.specs.Represented.{site_of, site_kept}
use Rattle.site_store.proofs.SiteCounts.{read_counted}
use Rattle.site_store.proofs.StoreAsSite.{has_read, lacks_same, read_fault_comes}
use Rattle.site_store.proofs.disk_site.DiskSite.figures.Goals as goal

pub returns-in-Ok-clause-figures : goal.returns-in-Ok-clause-figures
returns-in-Ok-clause-figures g c =
    let h = g.K.Keeper.store_state c.args.self.now.keeper in
    record {
      items = λ honest. c.in-Ok.ensures.items.gives honest (site_of h c.args.self.now.kept) (site_kept h c.args.self.now.kept honest);
      store = c.figures-store.ensures;
    }

pub returns-in-Ok-clause-only : goal.returns-in-Ok-clause-only
returns-in-Ok-clause-only g c =
    let only = c.items_in.ensures.items.only in
    record {
      kept = has_read (g.K.Keeper.store_state c.args.self.now.keeper) (g.K.Keeper.store_state c.items_in.new.keeper) c.args.self.now.kept c.self-1.given.0 only.read;
      lacking = lacks_same g.K.Keeper.store_state g.K.Keeper.may_need g.K.Keeper.crash_states c.args.self.now.keeper c.items_in.new.keeper c.args.self.now.kept c.self-1.given.0 only;
      no_new_crash_state = only.no_new_crash_state;
    }

pub returns-in-Err-clause-only : goal.returns-in-Err-clause-only
returns-in-Err-clause-only g c =
    let only = c.items_in.ensures.items.only in
    record {
      kept = has_read (g.K.Keeper.store_state c.args.self.now.keeper) (g.K.Keeper.store_state c.items_in.new.keeper) c.args.self.now.kept c.self-1.given.0 only.read;
      lacking = lacks_same g.K.Keeper.store_state g.K.Keeper.may_need g.K.Keeper.crash_states c.args.self.now.keeper c.items_in.new.keeper c.args.self.now.kept c.self-1.given.0 only;
      no_new_crash_state = only.no_new_crash_state;
    }

pub returns-in-Err-clause-ended : goal.returns-in-Err-clause-ended
returns-in-Err-clause-ended g c =
    let h0 = g.K.Keeper.store_state c.args.self.now.keeper in
    let h1 = g.K.Keeper.store_state c.items_in.new.keeper in
    let why = c.in-Err.ensures.items.fault in
    record {
      fault = read_fault_comes h0 h1 c.args.self.now.kept c.self-1.given.0 c.in-Err.fault c.to_site_fault.result c.to_site_fault.ensures why;
      reads = read_counted h0 h1 c.args.self.now.kept c.in-Err.fault c.to_site_fault.result c.to_site_fault.ensures why;
      closed = λ closed. absurd (cc (closed, c.if-not-is_usable.false));
    }
