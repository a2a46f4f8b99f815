use Rattle.std.specs.Prelude.{◌≡◌, true}
use Rattle.common_types.specs.CrashStates.{AddsNone}
use Rattle.site_store.proofs.SitesCompacted.{stays, same_site_kept, pins_as_before, content_represents, where_refused}
use Rattle.site_store.proofs.disk_site.DiskSite.compact.Goals as goal

pub returns-in-Ok-clause-kept : goal.returns-in-Ok-clause-kept
returns-in-Ok-clause-kept g c =
    let h0 = g.K.Keeper.store_state c.args.self.now.keeper in
    let h1 = g.K.Keeper.store_state c.compact.new.self in
    let still = stays g.K.Keeper.store_state g.K.CompactKeeper.compact_need g.K.Keeper.may_need _ c.compact.result c.args.self.now.keeper c.compact.new.self c.compact.ensures.done c.compact.ensures.fault in
    record {
      site = same_site_kept h0 h1 c.compact.ensures.counts.tried.honest still c.args.self.now.kept c.self-1.given.0;
      pins = pins_as_before h0 h1 c.compact.ensures.counts.tried.honest still c.args.self.now.kept c.self-1.given.0;
    }

pub returns-in-Ok-clause-at_crash : goal.returns-in-Ok-clause-at_crash
returns-in-Ok-clause-at_crash g c =
    let crash_states = g.K.Keeper.crash_states in
    let crash = c.compact.ensures.at_crash in
    record {
      at_crash = λ honest up. content_represents g.K.Keeper.has_content (g.K.Keeper.store_state c.args.self.now.keeper) c.args.self.now.kept (crash_states c.args.self.now.keeper) (crash_states c.compact.new.self) honest (crash.at_crash honest up);
      no_new_crash_state = λ honest. tt;
      no_new_crash_state_when_closed = crash.no_new_crash_state_when_closed;
    }

pub returns-in-Err-clause-kept : goal.returns-in-Err-clause-kept
returns-in-Err-clause-kept g c =
    let h0 = g.K.Keeper.store_state c.args.self.now.keeper in
    let h1 = g.K.Keeper.store_state c.compact.new.self in
    let still = stays g.K.Keeper.store_state g.K.CompactKeeper.compact_need g.K.Keeper.may_need _ c.compact.result c.args.self.now.keeper c.compact.new.self c.compact.ensures.done c.compact.ensures.fault in
    record {
      site = same_site_kept h0 h1 c.compact.ensures.counts.tried.honest still c.args.self.now.kept c.self-1.given.0;
      pins = pins_as_before h0 h1 c.compact.ensures.counts.tried.honest still c.args.self.now.kept c.self-1.given.0;
    }

pub returns-in-Err-clause-at_crash : goal.returns-in-Err-clause-at_crash
returns-in-Err-clause-at_crash g c =
    let crash_states = g.K.Keeper.crash_states in
    let crash = c.compact.ensures.at_crash in
    record {
      at_crash = λ honest up. content_represents g.K.Keeper.has_content (g.K.Keeper.store_state c.args.self.now.keeper) c.args.self.now.kept (crash_states c.args.self.now.keeper) (crash_states c.compact.new.self) honest (crash.at_crash honest up);
      no_new_crash_state = λ honest. where_refused ((g.K.Keeper.store_state c.compact.new.self).usable ≡ true → AddsNone (crash_states c.args.self.now.keeper) (crash_states c.compact.new.self)) c.compact.result c.in-Err.fault c.in-Err.is (crash.no_new_crash_state honest);
      no_new_crash_state_when_closed = crash.no_new_crash_state_when_closed;
    }
