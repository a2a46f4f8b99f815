use Rattle.std.proofs.Common.{◌≡◌, arith}
use Rattle.std.proofs.lemmas.Grind.{common_steps}
use Rattle.host_types.specs.Card.{viewed_at}
use Rattle.host_types.specs.Visible.{visible}
use Rattle.host_types.specs.declared.card.CardBody.TheVariants as cards
use Rattle.site_replies.proofs.Cards.{view_lengths_in}
use Rattle.site_replies.proofs.requests.card_reply.Goals as goal

pub returns-in-Views-default-clause-sized : goal.returns-in-Views-default-clause-sized
returns-in-Views-default-clause-sized g c = λ honest lengths.
    let site = visible (g.S.SiteKeeper.site_state c.args.site.now).site c.args.now in
    let named : c.args.card.now.body ≡ cards.Views c.in-Views-default.kind c.as_slice.result.now = grind (arith, common_steps) in
    let each = view_lengths_in c.args.card.now.body c.in-Views-default.kind c.as_slice.result.now (viewed_at site c.args.selector.now) named lengths in
    c.in_ok-reply-in-Views-default.ensures.sized site each
