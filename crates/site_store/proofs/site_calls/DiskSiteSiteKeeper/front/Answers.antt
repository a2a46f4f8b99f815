use Rattle.std.proofs.Common.{ap, ◌∙◌}
use Rattle.page_store.specs.declared.banner.Banner.{Banner}
use Rattle.site_store.specs.Represented.{site_kept}
use Rattle.site_store.proofs.site_calls.DiskSiteSiteKeeper.front.Goals as goal

pub returns : goal.returns
returns g c = λ honest.
    let kept = site_kept (g.K.Keeper.store_state c.args.self.now.keeper) c.args.self.now.kept honest in
    let e = c.banner-banner.ensures in
    λ i. record { host = (ap (λ (b : Banner). b.host) e ∙ kept.host) i; port = (ap (λ (b : Banner). b.port) e ∙ kept.port) i; admin = (ap (λ (b : Banner). b.admin) e ∙ kept.admin) i }
