use Rattle.std.proofs.Common.{sym, subst, IsTrue, Ok}
use Rattle.site_store.specs.Represented.{site_of, site_kept}
use Rattle.image_commands.proofs.DiskSites.{disk_state, disk_crash_states}
use Rattle.image_exports.proofs.Looked.{as_value, then}
use Rattle.image_exports.proofs.Tellings.{ends_all, export_is, goes_on}
use Rattle.image_exports.proofs.exporting.export_site.Goals as goal

pub loop-preserved : goal.loop-preserved
loop-preserved g c =
    let so_far = c.loop.invariant in
    let h = g.K.Keeper.store_state c.args.site.now.keeper in
    let s = site_of h c.args.site.now.kept in
    record {
      only = then disk_state disk_crash_states c.args.site.now c.loop.site c.tell_next.new.site tt (Ok tt) so_far.only (as_value disk_state disk_crash_states c.loop.site c.tell_next.new.site _ tt c.in-Ok-Some.ensures.looks);
      told = λ honest. goes_on s (disk_state c.loop.site).site c.loop.out c.tell_next.new.out c.loop.after _ _ c.in-Ok-Some.next (site_kept h c.args.site.now.kept honest).valid (so_far.only.looked.site honest) c.as_ref.ensures.value c.in-Ok-Some.field-0-is (so_far.told honest) (c.in-Ok-Some.ensures.next (subst IsTrue (sym so_far.only.looked.honest) honest));
    }

pub returns-in-Ok-None-clause-export : goal.returns-in-Ok-None-clause-export
returns-in-Ok-None-clause-export g c = λ honest.
    let so_far = c.loop.invariant in
    let h = g.K.Keeper.store_state c.args.site.now.keeper in
    let s = site_of h c.args.site.now.kept in
    let told = ends_all s (disk_state c.loop.site).site c.loop.out c.tell_next.new.out c.loop.after _ _ (so_far.only.looked.site honest) c.as_ref.ensures.value c.in-Ok-None.field-0-is (so_far.told honest) (c.in-Ok-None.ensures.next (subst IsTrue (sym so_far.only.looked.honest) honest)) in
    export_is s c.tell_next.new.out c.in_ok-text_of-in-Ok-None.field-0.items told c.in_ok-text_of-in-Ok-None.ensures.utf8 c.in_ok-text_of-in-Ok-None.ensures.begins c.in_ok-text_of-in-Ok-None.ensures.reads
