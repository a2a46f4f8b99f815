use Rattle.std.proofs.Common.{◌≡◌, Option, Some, None, option_copied, sym, ap, subst, ◌∙◌}
use Rattle.std.specs.Prelude.{IfOk, is_some}
use Rattle.host_types.specs.declared.item.Item.{Item}
use Rattle.change_plan.specs.AheadLaws.{found_there}
use Rattle.change_plan.proofs.ahead.AheadItemLookup.has_item.Goals as goal

pub returns-in-Some-clause-there : goal.returns-in-Some-clause-there
returns-in-Some-clause-there g c = λ t shown.
    let a = c.args.self.now in
    c.is_some.ensures ∙ ap (λ (o : Option Item). is_some o) (sym (found_there g.L.ItemLookup.shows a.lookup.now a.plan.now t c.args.selector.now c.deref.result.now (Some c.in-Some.replacement.now) c.deref.ensures.value (ap option_copied (sym c.in-Some.is) ∙ c.last_at.ensures) shown))

pub returns-in-None-clause-there : goal.returns-in-None-clause-there
returns-in-None-clause-there g c = λ t shown.
    let a = c.args.self.now in
    subst (λ (o : Option Item). IfOk c.has_item.result (λ there. there ≡ is_some o)) (sym (found_there g.L.ItemLookup.shows a.lookup.now a.plan.now t c.args.selector.now c.deref.result.now None c.deref.ensures.value (ap option_copied (sym c.in-None.is) ∙ c.last_at.ensures) shown))
    (c.has_item.ensures.there shown.0 shown.1.0)
