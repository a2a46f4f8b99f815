use Rattle.std.proofs.Common.{ℕ, sym, subst, ◌∙◌, IsTrue, true, Err}
use Rattle.site_store.specs.Represented.{site_of, site_kept}
use Rattle.site_replies.proofs.AfterReads.{only_on, fault_since, counts_since}
use Rattle.image_commands.proofs.DiskSites.{disk_state, disk_lacks, disk_crash_states}
use Rattle.image_commands.proofs.ListedItems.{goes_on, ends_all}
use Rattle.image_commands.proofs.showing.show_site.Goals as goal

pub loop-preserved : goal.loop-preserved
loop-preserved g c =
    let so_far = c.loop.invariant in
    let next = c.in-Ok-Some.ensures.next in
    let h = g.K.Keeper.store_state c.args.site.now.keeper in
    let s = site_of h c.args.site.now.kept in
    record {
      only = only_on disk_state disk_lacks disk_crash_states c.args.site.now c.loop.site c.list_next.new.site so_far.only next.only;
      none = c.in-Ok-Some.ensures.counts ∙ so_far.none;
      listed = λ honest. goes_on c.args.form s (disk_state c.loop.site).site c.loop.text.items c.list_next.new.text.items c.loop.after _ _ c.in-Ok-Some.next (site_kept h c.args.site.now.kept honest).valid (so_far.only.kept.site honest) c.as_ref.ensures.value c.in-Ok-Some.field-0-is (so_far.listed honest) (next.gives (subst IsTrue (sym so_far.only.kept.honest) honest));
    }

pub returns-in-Ok-None-clause-listing : goal.returns-in-Ok-None-clause-listing
returns-in-Ok-None-clause-listing g c =
    let so_far = c.loop.invariant in
    let next = c.in-Ok-None.ensures.next in
    let h = g.K.Keeper.store_state c.args.site.now.keeper in
    let s = site_of h c.args.site.now.kept in
    record {
      gives = λ honest. ends_all c.args.form s (disk_state c.loop.site).site c.loop.text.items c.list_next.new.text.items c.loop.after _ _ (so_far.only.kept.site honest) c.as_ref.ensures.value c.in-Ok-None.field-0-is (so_far.listed honest) (next.gives (subst IsTrue (sym so_far.only.kept.honest) honest));
      only = only_on disk_state disk_lacks disk_crash_states c.args.site.now c.loop.site c.list_next.new.site so_far.only next.only;
      fault = tt;
      counts = c.in-Ok-None.ensures.counts ∙ so_far.none;
    }

pub returns-in-Err-clause-listing : goal.returns-in-Err-clause-listing
returns-in-Err-clause-listing g c =
    let so_far = c.loop.invariant in
    let next = c.in-Err.ensures.next in
    let old = disk_state c.args.site.now in
    let mid = disk_state c.loop.site in
    let new = disk_state c.list_next.new.site in
    record {
      gives = λ honest. tt;
      only = only_on disk_state disk_lacks disk_crash_states c.args.site.now c.loop.site c.list_next.new.site so_far.only next.only;
      fault = fault_since true old mid new c.in-Err.fault so_far.only.kept next.only.kept next.fault;
      counts = counts_since {T = ℕ} (Err c.in-Err.fault) old mid new so_far.only.kept.honest so_far.none next.counts;
    }
