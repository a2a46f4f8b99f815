use Rattle.std.proofs.Common.{sym, subst, ◌∙◌, IsTrue}
use Rattle.site_store.specs.Seen.{seen_site}
use Rattle.image_commands.proofs.showing.show_image.Goals as goal

pub returns-in-Ok-shown-clause-shown : goal.returns-in-Ok-shown-clause-shown
returns-in-Ok-shown-clause-shown g c = λ honest.
    let opened = c.in-Ok.ensures.opened in
    (seen_site c.in-Ok.site, c.in-Ok.ensures.site honest, c.in-Ok-shown.ensures.listing.gives (subst IsTrue (sym opened.honest) honest))

pub into_keeper-requires : goal.into_keeper-requires
into_keeper-requires g c = record { unpinned = c.show_site-shown.ensures.listing.only.kept.pins ∙ c.in-Ok.ensures.opened.none_pinned }
