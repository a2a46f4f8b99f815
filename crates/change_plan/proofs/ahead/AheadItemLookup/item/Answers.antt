use Rattle.std.proofs.Common.{◌≡◌, Option, Some, None, option_copied, sym, ap, subst, ◌∙◌}
use Rattle.std.specs.Prelude.{IfOk, IfSome}
use Rattle.host_types.specs.declared.item.Item.{Item}
use Rattle.change_plan.specs.AllPlans.{last_at}
use Rattle.change_plan.specs.AheadLaws.{found_there, fit_there}
use Rattle.change_plan.proofs.ahead.AheadItemLookup.item.Goals as goal

pub returns-in_ok-copy_of-in-Some-clause-item : goal.returns-in_ok-copy_of-in-Some-clause-item
returns-in_ok-copy_of-in-Some-clause-item g c = λ t shown.
    let a = c.args.self.now in
    c.in_ok-copy_of-in-Some.ensures ∙ sym (found_there g.L.ItemLookup.shows a.lookup.now a.plan.now t c.args.selector.now c.deref.result.now (Some c.in-Some.replacement.now) c.deref.ensures.value (ap option_copied (sym c.in-Some.is) ∙ c.last_at.ensures) shown)

pub returns-in_ok-copy_of-in-Some-clause-fits : goal.returns-in_ok-copy_of-in-Some-clause-fits
returns-in_ok-copy_of-in-Some-clause-fits g c =
    let a = c.args.self.now in
    let last = ap option_copied (sym c.in-Some.is) ∙ c.last_at.ensures ∙ ap (λ l. last_at l c.args.selector.now) c.deref.ensures.value in
    subst (λ (o : Option Item). IfSome o g.L.ItemLookup.fits) (sym c.in_ok-copy_of-in-Some.ensures) (fit_there g.L.ItemLookup.fits g.met.L.ItemLookup.fits_or_not a.plan.now.replacements.items c.args.selector.now c.in-Some.replacement.now last a.fit)

pub returns-in-None-clause-item : goal.returns-in-None-clause-item
returns-in-None-clause-item g c = λ t shown.
    let a = c.args.self.now in
    subst (λ (o : Option Item). IfOk c.item.result (λ item. item ≡ o)) (sym (found_there g.L.ItemLookup.shows a.lookup.now a.plan.now t c.args.selector.now c.deref.result.now None c.deref.ensures.value (ap option_copied (sym c.in-None.is) ∙ c.last_at.ensures) shown))
    (c.item.ensures.item shown.0 shown.1.0)
