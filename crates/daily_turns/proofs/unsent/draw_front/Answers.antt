use Rattle.std.proofs.Common.{◌≡◌, ◌∙◌, ap, sym, subst, length, take, arith}
use Rattle.group_hub.specs.Calls.{HubCall}
use Rattle.group_world.specs.Outcomes.{draw_outcome}
use Rattle.group_world.specs.declared.event.Event.TheVariants.{Draw}
use Rattle.turns.specs.Turns.{drawn_bytes}
use Rattle.daily_turns.specs.DrawSizes.{draw_size}
use Rattle.daily_turns.proofs.Draws.{kept_tell}
use Rattle.daily_turns.proofs.unsent.draw_front.Goals as goal

pub returns-clause-call : goal.returns-clause-call
returns-clause-call g c =
    let room = c.draw-drawn.new.out in
    let size : length c.args.room.now ≡ draw_size = omega (arith, c.requires) in
    let is = c.count_of-count.ensures.front room (c.draw-drawn.auto.out ∙ size) in
    let call = subst (λ o. HubCall g.S.SiteKeeper.site_state g.S.SiteKeeper.lacks g.S.SiteKeeper.crash_states g.S.SiteKeeper.represents c.args.hub.now (Draw c.args.id (length c.args.room.now)) o c.draw-drawn.new.self)
    (sym (kept_tell c.draw-drawn.result room (take c.count_of-count.result room) is)) c.draw-drawn.ensures.call in
    subst (λ n. HubCall g.S.SiteKeeper.site_state g.S.SiteKeeper.lacks g.S.SiteKeeper.crash_states g.S.SiteKeeper.represents c.args.hub.now (Draw c.args.id n) (draw_outcome c.draw-drawn.result (take c.count_of-count.result room)) c.draw-drawn.new.self) size call

pub returns-clause-bytes : goal.returns-clause-bytes
returns-clause-bytes g c =
    let room = c.draw-drawn.new.out in
    let size : length c.args.room.now ≡ draw_size = omega (arith, c.requires) in
    let is = c.count_of-count.ensures.front room (c.draw-drawn.auto.out ∙ size) in
    is ∙ sym (ap drawn_bytes (kept_tell c.draw-drawn.result room (take c.count_of-count.result room) is))
