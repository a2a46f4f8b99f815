use Rattle.std.proofs.Common.{List, sym, ap, ◌∙◌}
use Rattle.host_types.specs.declared.card.CardBody.TheVariants as cards
use Rattle.host_types.specs.declared.card.CardView.{CardView}
use Rattle.host_types.specs.declared.item.Body.TheVariants as bodies
use Rattle.host_types.specs.declared.view.View.{View}
use Rattle.image_exports.proofs.Viewed.{document_of}
use Rattle.image_exports.proofs.whole.whole_body.Goals as goal

pub whole_views-requires-clause-stands : goal.whole_views-requires-clause-stands
whole_views-requires-clause-stands g c = λ honest.
    let s = (g.S.SiteKeeper.site_state c.args.site.now).site in
    let found = c.requires.stands honest in
    let is = c.in-Views.is ∙ ap (λ (l : List CardView). cards.Views c.in-Views.kind l) (sym c.as_slice.ensures) in
    let views = document_of s c.args.selector.now c.in-Views.kind c.as_slice.result.now c.args.card found.0 is found.1 in
    (views.0, views.2)

pub returns-in_ok-views-in-Views-clause-whole : goal.returns-in_ok-views-in-Views-clause-whole
returns-in_ok-views-in-Views-clause-whole g c = λ honest body at.
    let s = (g.S.SiteKeeper.site_state c.args.site.now).site in
    let is = c.in-Views.is ∙ ap (λ (l : List CardView). cards.Views c.in-Views.kind l) (sym c.as_slice.ensures) in
    let views = document_of s c.args.selector.now c.in-Views.kind c.as_slice.result.now c.args.card body is at in
    ap (λ (l : List View). bodies.Views c.in-Views.kind l) (c.in_ok-views-in-Views.ensures.whole honest views.0 views.2) ∙ sym views.1
