use Rattle.std.proofs.Common.{sym, subst, IsTrue}
use Rattle.site_store.specs.Seen.{seen_site}
use Rattle.image_exports.proofs.image.export_image.Goals as goal

pub returns-in-Ok-exported-clause-exported : goal.returns-in-Ok-exported-clause-exported
returns-in-Ok-exported-clause-exported g c = λ honest.
    let opened = c.in-Ok.ensures.opened in
    (seen_site c.in-Ok.site, c.in-Ok.ensures.site honest, c.in-Ok-exported.ensures.export (subst IsTrue (sym opened.honest) honest))
