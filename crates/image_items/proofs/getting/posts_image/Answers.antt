use Rattle.std.proofs.Common.{◌∙◌, sym, subst, IsTrue}
use Rattle.site_store.specs.Seen.{seen_site}
use Rattle.image_items.proofs.getting.posts_image.Goals as goal

pub returns-in-Ok-listed-clause-posts : goal.returns-in-Ok-listed-clause-posts
returns-in-Ok-listed-clause-posts g c = λ honest.
    let opened = c.in-Ok.ensures.opened in
    (seen_site c.in-Ok.site, c.in-Ok.ensures.site honest, c.in-Ok-listed.ensures.gives (subst IsTrue (sym opened.honest) honest))

pub into_keeper-requires : goal.into_keeper-requires
into_keeper-requires g c = record { unpinned = c.board_posts-listed.ensures.only.kept.pins ∙ c.in-Ok.ensures.opened.none_pinned }
