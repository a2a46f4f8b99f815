use Rattle.std.proofs.Common.{rules, ◌≡◌, ◌≤◌, ◌-◌, List, Option, ℕ, map, subst, ◌∙◌}
use Rattle.page_store.specs.Pages.{Pair}
use Rattle.page_store.specs.declared.banner.Banner.{Banner}
use Rattle.site_store.specs.Opening.{CountsItem}
use Rattle.site_store.proofs.LayoutsCounted.{next_item, item_lacks}
use Rattle.site_store.proofs.whole_layout.are_counted.Goals as goal

pub returns-in_default-2 : goal.returns-in_default-2
returns-in_default-2 c =
    let item = c.item-item.result in
    let here = subst (λ (r : List Pair × Banner). CountsItem r.0 item.0.now item.1.now c.in_ok-count.field-0) c.loop-rest.invariant.0 c.in_ok-count.ensures.count in
    let lacks = subst (λ (o : Option ℕ). CountsItem c.args.read.now.0 item.0.now item.1.now o) c.in_default-2.is here in
    item_lacks (λ e. (e.0.now, e.1.now)) c.args.read.now.0 (map (λ e. (e.0.now, e.1.now)) c.args.items.now) c.loop-rest.rest.now c.loop-rest.left c.item-item.result c.in-len1-up.len_at_least c.item-item.is lacks c.loop-rest.invariant.1

pub loop-rest-preserved : goal.loop-rest-preserved
loop-rest-preserved c =
    let item = c.item-item.result in
    let here = subst (λ (r : List Pair × Banner). CountsItem r.0 item.0.now item.1.now c.in_ok-count.field-0) c.loop-rest.invariant.0 c.in_ok-count.ensures.count in
    let counts = subst (λ (o : Option ℕ). CountsItem c.args.read.now.0 item.0.now item.1.now o) c.in-Some.is here in
    let room : c.in-Some.count ≤ c.loop-rest.left = search rules in
    let size : c.in-Some-checked_sub.fewer ≡ c.loop-rest.left - c.in-Some.count = search rules in (
      c.count_of.ensures.same ∙ c.loop-rest.invariant.0,
      next_item (λ e. (e.0.now, e.1.now)) c.args.read.now.0 (map (λ e. (e.0.now, e.1.now)) c.args.items.now) c.loop-rest.rest.now c.loop-rest.left c.in-Some-checked_sub.fewer c.in-Some.count c.item-item.result c.in-len1-up.len_at_least c.item-item.is counts room size c.loop-rest.invariant.1,
    )
