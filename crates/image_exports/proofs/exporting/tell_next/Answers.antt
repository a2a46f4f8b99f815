use Rattle.std.proofs.Common.{ap, sym, subst, ◌∙◌, IsTrue}
use Rattle.std.specs.Option.{option_map}
use Rattle.host_types.specs.Card.{card_at}
use Rattle.host_types.specs.Site.{Site, item_at}
use Rattle.site_store.specs.Represented.{site_of, site_kept}
use Rattle.image_exports.proofs.Tellings.{card_there}
use Rattle.image_exports.proofs.exporting.tell_next.Goals as goal

pub tell_item-requires-clause-stands : goal.tell_item-requires-clause-stands
tell_item-requires-clause-stands g c = λ still.
    let h = g.K.Keeper.store_state c.args.site.now.keeper in
    let s = site_of h c.args.site.now.kept in
    let kept = c.in-Ok-Some.ensures.kept in
    let honest = subst IsTrue kept.honest still in
    let there = card_there s (option_map (λ selector. selector.now) c.args.after) c.in-Ok-Some.selector c.in-Ok-Some.card (site_kept h c.args.site.now.kept honest).valid (sym c.in-Ok-Some.field-0-is ∙ c.in-Ok-Some.ensures.next honest) in
    there.3 ∙ sym (ap (λ (x : Site). card_at x c.in-Ok-Some.selector) (kept.site honest))

pub returns-in_ok-tell_item-in-Ok-Some-clause-next : goal.returns-in_ok-tell_item-in-Ok-Some-clause-next
returns-in_ok-tell_item-in-Ok-Some-clause-next g c = λ honest.
    let h = g.K.Keeper.store_state c.args.site.now.keeper in
    let s = site_of h c.args.site.now.kept in
    let kept = c.in-Ok-Some.ensures.kept in
    let there = card_there s (option_map (λ selector. selector.now) c.args.after) c.in-Ok-Some.selector c.in-Ok-Some.card (site_kept h c.args.site.now.kept honest).valid (sym c.in-Ok-Some.field-0-is ∙ c.in-Ok-Some.ensures.next honest) in
    let here = ap (λ (x : Site). item_at x c.in-Ok-Some.selector) (kept.site honest) ∙ there.2 in
    (there.0, there.1, c.in_ok-tell_item-in-Ok-Some.ensures.told (subst IsTrue (sym kept.honest) honest) there.0 here)
