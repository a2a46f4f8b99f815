use Rattle.std.proofs.Common.{◌≡◌, List, length, ap, subst, sym, ◌∙◌}
use Rattle.page_store.specs.Pages.{Pair}
use Rattle.site_store.proofs.UpgradesCommitted.{upgrade_whole}
use Rattle.site_store.proofs.upgrading.upgrade_batch.Goals as goal

pub returns-clause-whole : goal.returns-clause-whole
returns-clause-whole g c =
    let store_state = g.K.Keeper.store_state in
    let read = c.in_ok-pairs.ensures.pairs.reads.only.read in
    upgrade_whole c.batch_for.result (store_state c.args.keeper.now) c.in_ok-pairs.pairs.items c.banner.result.now (c.banner.ensures ∙ read.same.banner) c.in_ok-pairs.ensures.counted c.batch_for.ensures.upgrade
