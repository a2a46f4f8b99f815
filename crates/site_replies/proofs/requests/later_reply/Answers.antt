use Rattle.std.proofs.Common.{◌≡◌, false, sym, ◌∙◌, arith}
use Rattle.std.proofs.lemmas.Grind.{common_steps}
use Rattle.host_types.specs.Names.{is_url_name}
use Rattle.request_reader.specs.Seen.{request_of}
use Rattle.site_replies.proofs.AfterReads.{ok_gives}
use Rattle.site_replies.proofs.Cards.{found, found_up, sized}
use Rattle.site_replies.proofs.requests.later_reply.Goals as goal

pub returns-clause-reply : goal.returns-clause-reply
returns-clause-reply g c = λ honest.
    let before = g.S.SiteKeeper.site_state c.args.site.now in
    let request = request_of c.args.request in
    let here : is_url_name request.selector ≡ false = grind (arith, common_steps) in
    let same : c.in-Ok.selector ≡ request.selector = grind (arith, common_steps) in
    let after = g.S.SiteKeeper.site_state c.card_at.new.site in
    let is = sym c.in-Some.is ∙ ok_gives c.in_ok-card.field-0 c.card_at.ensures.card c.in_ok-card.was honest in
    found_up before after c.args.before.now request c.args.now c.in-Ok.selector c.in-Some.card c.card_reply.result here same c.card_at.ensures.card.only.kept honest is c.card_reply.ensures.sized
    (found before after c.in-Ok.selector c.args.before.now request c.args.now c.in-Some.card c.card_reply.result
    c.card_at.ensures.card.only.kept honest same is c.card_reply.ensures.reply)

pub returns-clause-sized : goal.returns-clause-sized
returns-clause-sized g c = λ honest.
    sized (g.S.SiteKeeper.site_state c.args.site.now) (g.S.SiteKeeper.site_state c.card_at.new.site) c.in-Ok.selector c.args.now c.in-Some.card c.card_reply.result
    c.card_at.ensures.card.only.kept honest (sym c.in-Some.is ∙ ok_gives c.in_ok-card.field-0 c.card_at.ensures.card c.in_ok-card.was honest) c.card_reply.ensures.sized
