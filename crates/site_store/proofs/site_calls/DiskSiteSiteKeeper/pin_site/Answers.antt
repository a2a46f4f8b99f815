use Rattle.site_store.proofs.PinsMade.{has_numbered, pin_keeps, pin_port, pin_repins, lacks_repinned, pin_fault_comes}
use Rattle.site_store.proofs.site_calls.DiskSiteSiteKeeper.pin_site.Goals as goal

pub invariant_of-self : goal.invariant_of-self
invariant_of-self g c =
    let h0 = g.K.Keeper.store_state c.args.self.now.keeper in
    let h1 = g.K.Keeper.store_state c.pin.new.self in
    record {
      kept = pin_keeps c.pin.result g.K.PinKeeper.number h0 h1 c.pin.ensures.pinned c.pin.ensures.fault c.args.self.now.kept;
      port = pin_port h0 h1 (pin_repins c.pin.result g.K.PinKeeper.number h0 h1 c.pin.ensures.pinned c.pin.ensures.fault) c.args.self.now.port;
    }

pub returns-in-Ok-clause-pinned : goal.returns-in-Ok-clause-pinned
returns-in-Ok-clause-pinned g c = has_numbered (g.K.Keeper.store_state c.args.self.now.keeper) (g.K.Keeper.store_state c.pin.new.self) c.args.self.now.kept c.self-1.given.0 (g.K.PinKeeper.number c.in-Ok.pin) c.in-Ok.ensures.pinned

pub returns-in-Ok-clause-lacking : goal.returns-in-Ok-clause-lacking
returns-in-Ok-clause-lacking g c =
    let repins = pin_repins c.pin.result g.K.PinKeeper.number (g.K.Keeper.store_state c.args.self.now.keeper) (g.K.Keeper.store_state c.pin.new.self) c.pin.ensures.pinned c.pin.ensures.fault in
    lacks_repinned g.K.Keeper.store_state g.K.Keeper.may_need c.args.self.now.keeper c.pin.new.self c.args.self.now.kept c.self-1.given.0 c.pin.ensures.need repins

pub returns-in-Err-clause-lacking : goal.returns-in-Err-clause-lacking
returns-in-Err-clause-lacking g c =
    let repins = pin_repins c.pin.result g.K.PinKeeper.number (g.K.Keeper.store_state c.args.self.now.keeper) (g.K.Keeper.store_state c.pin.new.self) c.pin.ensures.pinned c.pin.ensures.fault in
    lacks_repinned g.K.Keeper.store_state g.K.Keeper.may_need c.args.self.now.keeper c.pin.new.self c.args.self.now.kept c.self-1.given.0 c.pin.ensures.need repins

pub returns-in-Err-clause-fault : goal.returns-in-Err-clause-fault
returns-in-Err-clause-fault g c = pin_fault_comes (g.K.Keeper.store_state c.args.self.now.keeper) (g.K.Keeper.store_state c.pin.new.self) c.args.self.now.kept c.self-1.given.0 c.in-Err.fault c.pin_fault_comes.result c.pin_fault_comes.ensures c.in-Err.ensures.fault
