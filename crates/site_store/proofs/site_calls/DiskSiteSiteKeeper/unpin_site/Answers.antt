use Rattle.site_store.proofs.PinsMade.{has_given_back, keeps_unpinned, pin_port, lacks_repinned, out_there}
use Rattle.site_store.proofs.site_calls.DiskSiteSiteKeeper.unpin_site.Goals as goal

pub unpin-requires : goal.unpin-requires
unpin-requires g c = record { out = out_there (g.K.Keeper.store_state c.args.self.now.keeper) c.args.self.now.kept (g.K.PinKeeper.number c.args.pin) c.requires.out }

pub invariant_of-self : goal.invariant_of-self
invariant_of-self g c =
    let h0 = g.K.Keeper.store_state c.args.self.now.keeper in
    let h1 = g.K.Keeper.store_state c.unpin.new.self in
    record {
      kept = keeps_unpinned h0 h1 (g.K.PinKeeper.number c.args.pin) c.unpin.ensures.unpinned c.args.self.now.kept;
      port = pin_port h0 h1 c.unpin.ensures.unpinned.same c.args.self.now.port;
    }

pub returns-clause-unpinned : goal.returns-clause-unpinned
returns-clause-unpinned g c = has_given_back (g.K.Keeper.store_state c.args.self.now.keeper) (g.K.Keeper.store_state c.unpin.new.self) c.args.self.now.kept c.self-1.given.0 (g.K.PinKeeper.number c.args.pin) c.unpin.ensures.unpinned

pub returns-clause-lacking : goal.returns-clause-lacking
returns-clause-lacking g c = lacks_repinned g.K.Keeper.store_state g.K.Keeper.may_need c.args.self.now.keeper c.unpin.new.self c.args.self.now.kept c.self-1.given.0 c.unpin.ensures.need c.unpin.ensures.unpinned.same
