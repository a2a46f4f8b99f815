use Rattle.std.proofs.Common.{length, ◌≡◌, ◌<◌, true, sym, ap, subst, ◌∙◌, rules}
use Rattle.std.proofs.lemmas.Result.{err_from_is_err_and}
use Rattle.host_types.specs.AllChanges.{all_applied, one_refusal}
use Rattle.host_types.specs.ChangesFaults.{one_fault, IsChangesFault}
use Rattle.page_store.specs.declared.banner.Banner.{Banner}
use Rattle.page_store.specs.Work.{nothing_at_most}
use Rattle.site_pairs.specs.Edits.{batch_of, edits_of}
use Rattle.site_store.specs.Lacking.{MayNeedForEdits, IsLacking}
use Rattle.site_store.specs.Planned.{banner_after}
use Rattle.site_store.specs.Represented.{site_of, site_state_of, site_kept}
use Rattle.site_store.proofs.StoreAsSite.{not_changed, lacks_same, none_at_crash, plan_reads_only, plan_fault_comes, plan_makes, done_made, crash_states_made, commit_fault_comes, commit_fault_of_all, one_commit_fault, keeps_written, port_written, after_port, has_tried, has_tried_reading}
use Rattle.host_types.specs.Counting.{IsReadCounted, writes_after}
use Rattle.host_types.specs.declared.site_fault.SiteFault.{SiteFault}
use Rattle.site_store.proofs.PagesSearched.{wrote_behind}
use Rattle.site_store.proofs.AfterRefusals.{lacks_behind}
use Rattle.site_store.proofs.PinsKept.{pins_stay_written}
use Rattle.site_store.proofs.SiteCounts.{plan_counted, plan_writes, commit_reads, commit_writes}
use Rattle.site_store.proofs.site_calls.DiskSiteSiteKeeper.change_all.Goals as goal

pub returns-in-Err-clause-fault : goal.returns-in-Err-clause-fault
returns-in-Err-clause-fault g c =
    let store_state = g.K.Keeper.store_state in
    let crash_states = g.K.Keeper.crash_states in
    let d = c.args.self.now in
    let d1 = c.plan_all.new.lookup in
    let reads_only = plan_reads_only (λ d. d.keeper) store_state g.K.Keeper.may_need crash_states d d1 (λ s. one_refusal (all_applied s c.args.changes.items)) (one_fault c.in-Err.fault) c.in-Err.ensures.fault.cause c.in-Err.ensures.reads_only in
    record {
      cause = plan_fault_comes (λ d. d.keeper) store_state g.K.Keeper.may_need crash_states (IsLacking store_state g.K.Keeper.may_need d.keeper (site_of (store_state d.keeper) d.kept) c.args.changes.items) d d1 d.kept d1.kept c.args.changes.items (one_fault c.in-Err.fault) reads_only.read (sym c.is_usable.ensures ∙ c.if-not-is_usable.false) c.in-Err.ensures.fault.cause;
      place = λ n refused told honest. let kept = site_kept (store_state d.keeper) d.kept honest in c.in-Err.ensures.fault.place n refused told (site_of (store_state d.keeper) d.kept) ((honest, kept), kept.valid);
    }

pub returns-in-Err-clause-at_crash : goal.returns-in-Err-clause-at_crash
returns-in-Err-clause-at_crash g c =
    record {
      at_crash = λ honest up.
          let store_state = g.K.Keeper.store_state in
          let crash_states = g.K.Keeper.crash_states in
          let d = c.args.self.now in
          let d1 = c.plan_all.new.lookup in
          let reads_only = plan_reads_only (λ d. d.keeper) store_state g.K.Keeper.may_need crash_states d d1 (λ s. one_refusal (all_applied s c.args.changes.items)) (one_fault c.in-Err.fault) c.in-Err.ensures.fault.cause c.in-Err.ensures.reads_only in
          none_at_crash g.K.Keeper.has_content (store_state d.keeper) d.kept (all_applied (site_of (store_state d.keeper) d.kept) c.args.changes.items) (crash_states d.keeper) (crash_states d1.keeper) honest (reads_only.no_new_crash_state honest) (λ i left. g.met.K.Keeper.crash_states_represent d.keeper i honest up left);
      no_new_crash_state = search rules;
      no_new_crash_state_when_closed = search rules;
    }

pub returns-in_err-banner-clause-fault : goal.returns-in_err-banner-clause-fault
returns-in_err-banner-clause-fault g c =
    let d = c.args.self.now in
    let d1 = c.plan_all.new.lookup in
    let p = err_from_is_err_and c.from_residual.result c.from_residual.ensures.1 in
    rw (p.1, p.2) record { cause = not_changed (g.K.Keeper.store_state d.keeper) (g.K.Keeper.store_state d1.keeper) d.kept d1.kept c.in-Ok.ensures.reads_only.reads_only.read; place = λ n refused told honest. absurd (cc told) }

pub returns-in_err-banner-clause-at_crash : goal.returns-in_err-banner-clause-at_crash
returns-in_err-banner-clause-at_crash g c =
    record {
      at_crash = λ honest up.
          let store_state = g.K.Keeper.store_state in
          let crash_states = g.K.Keeper.crash_states in
          let d = c.args.self.now in
          let d1 = c.plan_all.new.lookup in
          let reads_only = c.in-Ok.ensures.reads_only.reads_only in
          none_at_crash g.K.Keeper.has_content (store_state d.keeper) d.kept (all_applied (site_of (store_state d.keeper) d.kept) c.args.changes.items) (crash_states d.keeper) (crash_states d1.keeper) honest (reads_only.no_new_crash_state honest) (λ i left. g.met.K.Keeper.crash_states_represent d.keeper i honest up left);
      no_new_crash_state = search rules;
      no_new_crash_state_when_closed = search rules;
    }

pub returns-in-Err-clause-work : goal.returns-in-Err-clause-work
returns-in-Err-clause-work g c =
    let reads_only = plan_reads_only (λ d. d.keeper) g.K.Keeper.store_state g.K.Keeper.may_need g.K.Keeper.crash_states c.args.self.now c.plan_all.new.lookup (λ s. one_refusal (all_applied s c.args.changes.items)) (one_fault c.in-Err.fault) c.in-Err.ensures.fault.cause c.in-Err.ensures.reads_only in
    nothing_at_most reads_only.read.same.calls _

pub returns-in_err-banner-clause-work : goal.returns-in_err-banner-clause-work
returns-in_err-banner-clause-work g c = nothing_at_most c.in-Ok.ensures.reads_only.reads_only.read.same.calls _

pub returns-in-Ok-write_replacements-clause-work : goal.returns-in-Ok-write_replacements-clause-work
returns-in-Ok-write_replacements-clause-work g c =
    wrote_behind (g.K.Keeper.store_state c.args.self.now.keeper) (g.K.Keeper.store_state c.plan_all.new.lookup.keeper) c.in-Ok.ensures.reads_only.reads_only.read c.write_replacements.ensures.counts.work

pub returns-clause-work : goal.returns-clause-work
returns-clause-work g c =
    wrote_behind (g.K.Keeper.store_state c.args.self.now.keeper) (g.K.Keeper.store_state c.plan_all.new.lookup.keeper) c.in-Ok.ensures.reads_only.reads_only.read c.write_replacements.ensures.counts.work

pub invariant_of-self : goal.invariant_of-self
invariant_of-self g c =
    let store_state = g.K.Keeper.store_state in
    let d = c.args.self.now in
    let h0 = store_state d.keeper in
    let d1 = c.plan_all.new.lookup in
    let h1 = store_state d1.keeper in
    let h2 = store_state c.write_replacements.new.keeper in
    let reads_only = c.in-Ok.ensures.reads_only.reads_only in
    let read = reads_only.read in
    let plan = c.in-Ok.plan in
    let replacements = c.deref.result.now in
    let banner = c.in_ok-banner.banner in
    let named : banner ≡ banner_after h1.banner plan.host plan.admin = c.in_ok-banner.ensures ∙ ap (λ (b : Banner). banner_after b plan.host plan.admin) c.banner.ensures in
    let make = plan_makes h0 h1 d.kept c.args.changes.items plan replacements banner c.deref.ensures.value named read (λ s shown. c.in-Ok.ensures.plan s shown) in
    let batch = batch_of (edits_of replacements) in
    let may = MayNeedForEdits g.K.Keeper.may_need d1.keeper batch in
    let new : 0 < banner.port = subst (λ (b : Banner). 0 < b.port) (sym named) (after_port h1.banner plan.host plan.admin d1.port c.in-Ok.ensures.port) in
    let needs = g.K.Keeper.may_need d1.keeper in
    let now = g.K.Keeper.may_need c.write_replacements.new.keeper in
    let stay = pins_stay_written c.write_replacements.result h1 h2 batch banner (length batch) may needs now c.write_replacements.ensures.done c.write_replacements.ensures.fault in
    record {
      kept = keeps_written c.write_replacements.result h0 h1 h2 d.kept c.args.changes.items replacements banner (length batch) may needs now read c.write_replacements.ensures.counts.tried.honest stay make c.write_replacements.ensures.done c.write_replacements.ensures.fault;
      port = port_written c.write_replacements.result h0 h1 h2 batch banner (length batch) may needs now read d.port new c.write_replacements.ensures.done c.write_replacements.ensures.fault;
    }

pub returns-in-Ok-write_replacements-clause-done : goal.returns-in-Ok-write_replacements-clause-done
returns-in-Ok-write_replacements-clause-done g c =
    record {
      done = λ honest0.
          let store_state = g.K.Keeper.store_state in
          let d = c.args.self.now in
          let h0 = store_state d.keeper in
          let d1 = c.plan_all.new.lookup in
          let h1 = store_state d1.keeper in
          let h2 = store_state c.write_replacements.new.keeper in
          let reads_only = c.in-Ok.ensures.reads_only.reads_only in
          let read = reads_only.read in
          let plan = c.in-Ok.plan in
          let replacements = c.deref.result.now in
          let banner = c.in_ok-banner.banner in
          let named : banner ≡ banner_after h1.banner plan.host plan.admin = c.in_ok-banner.ensures ∙ ap (λ (b : Banner). banner_after b plan.host plan.admin) c.banner.ensures in
          let make = plan_makes h0 h1 d.kept c.args.changes.items plan replacements banner c.deref.ensures.value named read (λ s shown. c.in-Ok.ensures.plan s shown) in
          let honest1 = read.honest ∙ honest0 in
          done_made h0 h1 h2 d.kept c.self-1.given.0 c.args.changes.items replacements banner (make honest0) (c.write_replacements.ensures.counts.tried.honest ∙ honest1) (c.in-Ok-write_replacements.ensures.done.done honest1) c.in-Ok-write_replacements.ensures.done.banner;
      still_usable = search rules;
    }

pub returns-in-Ok-write_replacements-clause-at_crash : goal.returns-in-Ok-write_replacements-clause-at_crash
returns-in-Ok-write_replacements-clause-at_crash g c =
    record {
      at_crash = λ honest0 up.
          let store_state = g.K.Keeper.store_state in
          let d = c.args.self.now in
          let h0 = store_state d.keeper in
          let d1 = c.plan_all.new.lookup in
          let h1 = store_state d1.keeper in
          let h2 = store_state c.write_replacements.new.keeper in
          let reads_only = c.in-Ok.ensures.reads_only.reads_only in
          let read = reads_only.read in
          let plan = c.in-Ok.plan in
          let replacements = c.deref.result.now in
          let banner = c.in_ok-banner.banner in
          let named : banner ≡ banner_after h1.banner plan.host plan.admin = c.in_ok-banner.ensures ∙ ap (λ (b : Banner). banner_after b plan.host plan.admin) c.banner.ensures in
          let make = plan_makes h0 h1 d.kept c.args.changes.items plan replacements banner c.deref.ensures.value named read (λ s shown. c.in-Ok.ensures.plan s shown) in
          let crash_states = g.K.Keeper.crash_states in
          crash_states_made g.K.Keeper.has_content h0 h1 d.kept c.args.changes.items replacements banner (crash_states d.keeper) (crash_states d1.keeper) (crash_states c.write_replacements.new.keeper) honest0 (reads_only.no_new_crash_state honest0)
          (λ i left. g.met.K.Keeper.crash_states_represent d.keeper i honest0 up left) (make honest0) (c.write_replacements.ensures.at_crash.at_crash (read.honest ∙ honest0) (read.same.usable ∙ up));
      no_new_crash_state = search rules;
      no_new_crash_state_when_closed = search rules;
    }

pub returns-clause-fault : goal.returns-clause-fault
returns-clause-fault g c =
    let store_state = g.K.Keeper.store_state in
    let d = c.args.self.now in
    let h0 = store_state d.keeper in
    let d1 = c.plan_all.new.lookup in
    let h1 = store_state d1.keeper in
    let h2 = store_state c.write_replacements.new.keeper in
    let reads_only = c.in-Ok.ensures.reads_only.reads_only in
    let read = reads_only.read in
    let plan = c.in-Ok.plan in
    let replacements = c.deref.result.now in
    let banner = c.in_ok-banner.banner in
    let named : banner ≡ banner_after h1.banner plan.host plan.admin = c.in_ok-banner.ensures ∙ ap (λ (b : Banner). banner_after b plan.host plan.admin) c.banner.ensures in
    let make = plan_makes h0 h1 d.kept c.args.changes.items plan replacements banner c.deref.ensures.value named read (λ s shown. c.in-Ok.ensures.plan s shown) in
    let lacks = IsLacking store_state g.K.Keeper.may_need d.keeper (site_of h0 d.kept) c.args.changes.items in
    let applied = all_applied (site_of h0 d.kept) c.args.changes.items in
    subst (IsChangesFault lacks (site_state_of h0 d.kept) (site_state_of h2 c.self-1.given.0) applied) (sym c.changes_fault_comes.ensures)
    (commit_fault_of_all lacks (site_state_of h0 d.kept) (site_state_of h2 c.self-1.given.0) applied 0 c.in-Err-write_replacements.fault
    (commit_fault_comes store_state g.K.Keeper.may_need d.keeper d1.keeper c.write_replacements.new.keeper d.kept c.self-1.given.0 c.args.changes.items replacements banner c.in-Err-write_replacements.fault read reads_only.need c.write_replacements.ensures.counts.tried
    (read.same.usable ∙ sym c.is_usable.ensures ∙ c.if-not-is_usable.false) make c.in-Err-write_replacements.ensures.fault.cause))

pub returns-clause-at_crash : goal.returns-clause-at_crash
returns-clause-at_crash g c =
    record {
      at_crash = λ honest0 up.
          let store_state = g.K.Keeper.store_state in
          let d = c.args.self.now in
          let h0 = store_state d.keeper in
          let d1 = c.plan_all.new.lookup in
          let h1 = store_state d1.keeper in
          let h2 = store_state c.write_replacements.new.keeper in
          let reads_only = c.in-Ok.ensures.reads_only.reads_only in
          let read = reads_only.read in
          let plan = c.in-Ok.plan in
          let replacements = c.deref.result.now in
          let banner = c.in_ok-banner.banner in
          let named : banner ≡ banner_after h1.banner plan.host plan.admin = c.in_ok-banner.ensures ∙ ap (λ (b : Banner). banner_after b plan.host plan.admin) c.banner.ensures in
          let make = plan_makes h0 h1 d.kept c.args.changes.items plan replacements banner c.deref.ensures.value named read (λ s shown. c.in-Ok.ensures.plan s shown) in
          let crash_states = g.K.Keeper.crash_states in
          crash_states_made g.K.Keeper.has_content h0 h1 d.kept c.args.changes.items replacements banner (crash_states d.keeper) (crash_states d1.keeper) (crash_states c.write_replacements.new.keeper) honest0 (reads_only.no_new_crash_state honest0)
          (λ i left. g.met.K.Keeper.crash_states_represent d.keeper i honest0 up left) (make honest0) (c.write_replacements.ensures.at_crash.at_crash (read.honest ∙ honest0) (read.same.usable ∙ up));
      no_new_crash_state = search rules;
      no_new_crash_state_when_closed = search rules;
    }

pub returns-in-Err-clause-counts : goal.returns-in-Err-clause-counts
returns-in-Err-clause-counts g c =
    record {
      tried = let store_state = g.K.Keeper.store_state in
          let d = c.args.self.now in
          let d1 = c.plan_all.new.lookup in
          let reads_only = plan_reads_only (λ d. d.keeper) store_state g.K.Keeper.may_need g.K.Keeper.crash_states d d1 (λ s. one_refusal (all_applied s c.args.changes.items)) (one_fault c.in-Err.fault) c.in-Err.ensures.fault.cause c.in-Err.ensures.reads_only in
          has_tried_reading (store_state d.keeper) (store_state d1.keeper) d.kept d1.kept reads_only.read;
      reads = let store_state = g.K.Keeper.store_state in
          let d = c.args.self.now in
          let d1 = c.plan_all.new.lookup in
          plan_counted (λ d. d.keeper) store_state g.K.Keeper.may_need g.K.Keeper.crash_states d d1 d.kept (λ s. one_refusal (all_applied s c.args.changes.items)) (one_fault c.in-Err.fault) (sym c.is_usable.ensures ∙ c.if-not-is_usable.false) c.in-Err.ensures.fault.cause c.in-Err.ensures.reads_only;
      writes = let store_state = g.K.Keeper.store_state in
          let d = c.args.self.now in
          let d1 = c.plan_all.new.lookup in
          let reads_only = plan_reads_only (λ d. d.keeper) store_state g.K.Keeper.may_need g.K.Keeper.crash_states d d1 (λ s. one_refusal (all_applied s c.args.changes.items)) (one_fault c.in-Err.fault) c.in-Err.ensures.fault.cause c.in-Err.ensures.reads_only in
          plan_writes (λ d. d.keeper) store_state g.K.Keeper.may_need g.K.Keeper.crash_states d d1 (λ s. one_refusal (all_applied s c.args.changes.items)) (one_fault c.in-Err.fault) (sym c.is_usable.ensures ∙ c.if-not-is_usable.false) c.in-Err.ensures.fault.cause reads_only.read.writes;
    }

pub returns-in_err-banner-clause-counts : goal.returns-in_err-banner-clause-counts
returns-in_err-banner-clause-counts g c =
    record {
      tried = let d = c.args.self.now in
          let d1 = c.plan_all.new.lookup in
          has_tried_reading (g.K.Keeper.store_state d.keeper) (g.K.Keeper.store_state d1.keeper) d.kept d1.kept c.in-Ok.ensures.reads_only.reads_only.read;
      reads = let p = err_from_is_err_and c.from_residual.result c.from_residual.ensures.1 in
          rw (p.1, p.2) c.in-Ok.ensures.reads_only.none;
      writes = let p = err_from_is_err_and c.from_residual.result c.from_residual.ensures.1 in
          let up : (g.K.Keeper.store_state c.args.self.now.keeper).usable ≡ true = sym c.is_usable.ensures ∙ c.if-not-is_usable.false in
          rw (p.1, p.2, up) c.in-Ok.ensures.reads_only.reads_only.read.writes;
    }

pub returns-in-Ok-write_replacements-clause-counts : goal.returns-in-Ok-write_replacements-clause-counts
returns-in-Ok-write_replacements-clause-counts g c =
    record {
      tried = let store_state = g.K.Keeper.store_state in
          let d = c.args.self.now in
          let h1 = store_state c.plan_all.new.lookup.keeper in
          let h2 = store_state c.write_replacements.new.keeper in
          let batch = batch_of (edits_of c.deref.result.now) in
          let stay = pins_stay_written c.write_replacements.result h1 h2 batch c.in_ok-banner.banner (length batch) (MayNeedForEdits g.K.Keeper.may_need c.plan_all.new.lookup.keeper batch) (g.K.Keeper.may_need c.plan_all.new.lookup.keeper) (g.K.Keeper.may_need c.write_replacements.new.keeper) c.write_replacements.ensures.done c.write_replacements.ensures.fault in
          has_tried (store_state d.keeper) h1 h2 d.kept c.self-1.given.0 c.in-Ok.ensures.reads_only.reads_only.read c.write_replacements.ensures.counts.tried stay;
      reads = c.in-Ok-write_replacements.ensures.counts.reads ∙ c.in-Ok.ensures.reads_only.none;
      writes = c.in-Ok-write_replacements.ensures.counts.writes ∙ c.in-Ok.ensures.reads_only.reads_only.read.writes;
    }

pub returns-clause-counts : goal.returns-clause-counts
returns-clause-counts g c =
    record {
      tried = let store_state = g.K.Keeper.store_state in
          let d = c.args.self.now in
          let h1 = store_state c.plan_all.new.lookup.keeper in
          let h2 = store_state c.write_replacements.new.keeper in
          let batch = batch_of (edits_of c.deref.result.now) in
          let stay = pins_stay_written c.write_replacements.result h1 h2 batch c.in_ok-banner.banner (length batch) (MayNeedForEdits g.K.Keeper.may_need c.plan_all.new.lookup.keeper batch) (g.K.Keeper.may_need c.plan_all.new.lookup.keeper) (g.K.Keeper.may_need c.write_replacements.new.keeper) c.write_replacements.ensures.done c.write_replacements.ensures.fault in
          has_tried (store_state d.keeper) h1 h2 d.kept c.self-1.given.0 c.in-Ok.ensures.reads_only.reads_only.read c.write_replacements.ensures.counts.tried stay;
      reads = let store_state = g.K.Keeper.store_state in
          let h0 = store_state c.args.self.now.keeper in
          let h1 = store_state c.plan_all.new.lookup.keeper in
          let h2 = store_state c.write_replacements.new.keeper in
          let batch = batch_of (edits_of c.deref.result.now) in
          subst (λ (f : SiteFault). IsReadCounted h0.honest f h0.failed_reads h2.failed_reads) (sym (ap one_fault c.changes_fault_comes.ensures ∙ one_commit_fault 0 c.in-Err-write_replacements.fault))
          (commit_reads h0 h1 h2 (length batch) (MayNeedForEdits g.K.Keeper.may_need c.plan_all.new.lookup.keeper batch) c.in-Err-write_replacements.fault c.in-Ok.ensures.reads_only.reads_only.read c.in-Ok.ensures.reads_only.none c.in-Err-write_replacements.ensures.fault.cause c.in-Err-write_replacements.ensures.counts.reads);
      writes = let store_state = g.K.Keeper.store_state in
          let h0 = store_state c.args.self.now.keeper in
          let h1 = store_state c.plan_all.new.lookup.keeper in
          let h2 = store_state c.write_replacements.new.keeper in
          subst (λ (f : SiteFault). h2.failed_writes ≡ writes_after h0.usable f h0.failed_writes) (sym (ap one_fault c.changes_fault_comes.ensures ∙ one_commit_fault 0 c.in-Err-write_replacements.fault))
          (commit_writes h0 h1 h2 c.in-Err-write_replacements.fault c.in-Ok.ensures.reads_only.reads_only.read (sym c.is_usable.ensures ∙ c.if-not-is_usable.false) c.in-Err-write_replacements.ensures.counts.writes);
    }

pub returns-in-Err-clause-lacking : goal.returns-in-Err-clause-lacking
returns-in-Err-clause-lacking g c = λ same.
    let store_state = g.K.Keeper.store_state in
    let crash_states = g.K.Keeper.crash_states in
    let d = c.args.self.now in
    let d1 = c.plan_all.new.lookup in
    lacks_same store_state g.K.Keeper.may_need crash_states d.keeper d1.keeper d.kept d1.kept
    (plan_reads_only (λ d. d.keeper) store_state g.K.Keeper.may_need crash_states d d1 (λ s. one_refusal (all_applied s c.args.changes.items)) (one_fault c.in-Err.fault) c.in-Err.ensures.fault.cause c.in-Err.ensures.reads_only)

pub returns-in_err-banner-clause-lacking : goal.returns-in_err-banner-clause-lacking
returns-in_err-banner-clause-lacking g c =
    let d = c.args.self.now in
    let d1 = c.plan_all.new.lookup in
    let p = err_from_is_err_and c.from_residual.result c.from_residual.ensures.1 in
    rw p.1 (λ same. lacks_same g.K.Keeper.store_state g.K.Keeper.may_need g.K.Keeper.crash_states d.keeper d1.keeper d.kept d1.kept c.in-Ok.ensures.reads_only.reads_only)

pub returns-clause-lacking : goal.returns-clause-lacking
returns-clause-lacking g c = λ same.
    let store_state = g.K.Keeper.store_state in
    let d = c.args.self.now in
    let k1 = c.plan_all.new.lookup.keeper in
    let k2 = c.write_replacements.new.keeper in
    let reads_only = c.in-Ok.ensures.reads_only.reads_only in
    let batch = batch_of (edits_of c.deref.result.now) in
    let up : (store_state k1).usable ≡ true = reads_only.read.same.usable ∙ sym c.is_usable.ensures ∙ c.if-not-is_usable.false in
    lacks_behind store_state g.K.Keeper.may_need d.keeper k1 k2 d.kept c.self-1.given.0 reads_only.read (length batch) (MayNeedForEdits g.K.Keeper.may_need k1 batch) c.in-Err-write_replacements.fault reads_only.need c.write_replacements.ensures.counts.tried up c.in-Err-write_replacements.ensures.fault.cause
    c.in-Err-write_replacements.ensures.fault.need same
