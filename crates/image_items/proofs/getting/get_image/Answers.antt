use Rattle.std.proofs.Common.{sym, subst, IsTrue}
use Rattle.site_store.specs.Seen.{seen_site}
use Rattle.image_items.proofs.getting.get_image.Goals as goal

pub returns-in-Ok-found-clause-got : goal.returns-in-Ok-found-clause-got
returns-in-Ok-found-clause-got g c = λ honest.
    let opened = c.in-Ok.ensures.opened in
    (seen_site c.in-Ok.site, c.in-Ok.ensures.site honest, c.in-Ok-found.ensures.found (subst IsTrue (sym opened.honest) honest))

pub into_keeper-requires : goal.into_keeper-requires
into_keeper-requires g c = record { unpinned = c.document-found.ensures.looked.pins c.in-Ok.ensures.opened.none_pinned }
