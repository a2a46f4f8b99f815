use Rattle.std.proofs.Common.{rules}
use Rattle.host_types.specs.Change.{apply}
use Rattle.common_types.specs.CrashStates.{no_new_crash_state}
use Rattle.site_store.specs.Represented.{site_of}
use Rattle.site_store.proofs.StoreAsSite.{none_at_crash, alone_at_crash}
use Rattle.site_store.proofs.site_calls.DiskSiteSiteKeeper.change.Goals as goal

pub returns-in_err-changes-clause-at_crash : goal.returns-in_err-changes-clause-at_crash
returns-in_err-changes-clause-at_crash g c =
    let store_state = g.K.Keeper.store_state in
    let states = g.K.Keeper.crash_states c.args.self.now.keeper in
    let d = c.args.self.now in
    record {
      at_crash = λ honest up. none_at_crash g.K.Keeper.has_content (store_state d.keeper) d.kept (apply (site_of (store_state d.keeper) d.kept) c.args.change c.args.now) states states honest (no_new_crash_state states) (λ i left. g.met.K.Keeper.crash_states_represent d.keeper i honest up left);
      no_new_crash_state = search rules;
      no_new_crash_state_when_closed = search rules;
    }

pub returns-in-Err-clause-at_crash : goal.returns-in-Err-clause-at_crash
returns-in-Err-clause-at_crash g c =
    let d = c.args.self.now in
    record {
      at_crash = λ honest up. alone_at_crash g.K.Keeper.has_content (site_of (g.K.Keeper.store_state d.keeper) d.kept) c.args.change c.args.now c.in_ok-changes.changes.items (g.K.Keeper.crash_states d.keeper) (g.K.Keeper.crash_states c.change_all.new.self.keeper) c.in_ok-changes.ensures (c.change_all.ensures.at_crash.at_crash honest up);
      no_new_crash_state = search rules;
      no_new_crash_state_when_closed = search rules;
    }

pub returns-in-Ok-clause-at_crash : goal.returns-in-Ok-clause-at_crash
returns-in-Ok-clause-at_crash g c =
    let d = c.args.self.now in
    record {
      at_crash = λ honest up. alone_at_crash g.K.Keeper.has_content (site_of (g.K.Keeper.store_state d.keeper) d.kept) c.args.change c.args.now c.in_ok-changes.changes.items (g.K.Keeper.crash_states d.keeper) (g.K.Keeper.crash_states c.change_all.new.self.keeper) c.in_ok-changes.ensures (c.change_all.ensures.at_crash.at_crash honest up);
      no_new_crash_state = search rules;
      no_new_crash_state_when_closed = search rules;
    }
