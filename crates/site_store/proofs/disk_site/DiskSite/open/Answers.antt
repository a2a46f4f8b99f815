use Rattle.std.proofs.Common.{ap, sym, ◌∙◌}
use Rattle.page_store.specs.declared.banner.Banner.{Banner}
use Rattle.site_store.proofs.SitesRead.{site_before, told_apart}
use Rattle.site_store.proofs.disk_site.DiskSite.open.Goals as goal

pub returns-in-Ok-clause-site : goal.returns-in-Ok-clause-site
returns-in-Ok-clause-site g c = λ honest. site_before (g.K.Keeper.store_state c.args.keeper) (g.K.Keeper.store_state c.check.new.keeper) c.result-1.given.0 c.check.ensures.kept.reads.only.read honest

pub returns-in-Err-clause-fault : goal.returns-in-Err-clause-fault
returns-in-Err-clause-fault g c = told_apart c.check.result (g.K.Keeper.store_state c.args.keeper) (g.K.Keeper.store_state c.check.new.keeper) c.in-Err.fault c.in-Err.is (ap (λ (b : Banner). b.version) (sym c.banner.ensures) ∙ c.if-banner-ne-VERSION.false) c.check.ensures.kept.closed c.in-Err.ensures.kept.reads.fault
