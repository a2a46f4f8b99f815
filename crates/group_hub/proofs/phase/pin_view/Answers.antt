use Rattle.std.proofs.Common.{◌≡◌, ◌<◌, ℕ, List, [], sym, ap, subst, ◌∙◌, rules}
use Rattle.host_types.specs.Site.{Items}
use Rattle.host_types.specs.Pins.{pinned_items, viewed_among}
use Rattle.view_draws.specs.ViewDraw.{rest_of, IsOf}
use Rattle.group_hub.proofs.PinsMoved.{pinned_keeps}
use Rattle.group_hub.proofs.ViewsLeft.{view_left}
use Rattle.group_hub.proofs.phase.pin_view.Goals as goal

pub returns-in-Ok-clause-sends : goal.returns-in-Ok-clause-sends
returns-in-Ok-clause-sends g c = record {
  phase = search rules;
  sound = λ honest.
      let s = g.S.SiteKeeper in
      let view = c.new.result in
      let k = s.site_state c.args.site.now in
      let l = s.site_state c.pin_site.new.self in
      let keeps = pinned_keeps k l (s.pinned c.in-Ok.pin) c.in-Ok.ensures.pinned honest in
      let body = viewed_among k.site.items c.args.reply.selector c.args.reply.view in
      let sized = c.requires.sized honest in
      let body_is : viewed_among (pinned_items l (s.pinned c.in-Ok.pin)) view.source.selector view.source.view ≡ body =
      ap (λ (items : Items). viewed_among items view.source.selector view.source.view) keeps ∙ ap (λ (name : List ℕ). viewed_among k.site.items name view.source.view) c.new.ensures.selector ∙ ap (λ (n : ℕ). viewed_among k.site.items c.args.reply.selector n) c.new.ensures.view in
      subst (λ (b : List ℕ). IsOf b view × (rest_of view b ≡ [] → ⊥)) (sym body_is)
      (c.new.ensures.of body sized.1, λ none. view_left c.args.reply.head c.args.reply.is_text body (subst (λ (n : ℕ). 0 < n) (sym sized.1) sized.0) (sym (c.new.ensures.rest body) ∙ none));
  ready = search rules;
  pins = search rules;
  pins_after_fault = search rules;
}
