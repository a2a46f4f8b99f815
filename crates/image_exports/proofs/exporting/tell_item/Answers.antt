use Rattle.std.proofs.Common.{◌≡◌, ℕ, List, Err, refl, ap, sym, ◌∙◌, rules}
use Rattle.host_types.specs.declared.card.Card.{Card}
use Rattle.host_types.specs.declared.change.Change.TheVariants.{Put}
use Rattle.host_types.specs.declared.item.Item.{Item}
use Rattle.image_exports.proofs.Tellings.{adds_name, adds_put, post_unput, unsaid_unput}
use Rattle.image_exports.proofs.Viewed.{body_of_item}
use Rattle.image_exports.proofs.exporting.tell_item.Goals as goal

pub returns-then-is_reserved-clause-told : goal.returns-then-is_reserved-clause-told
returns-then-is_reserved-clause-told g c = λ honest item at.
    let selector = c.args.selector.now in
    let body = body_of_item (g.S.SiteKeeper.site_state c.args.site.now).site selector c.args.card item (c.requires.stands honest) at in
    adds_name c.name_item.result c.args.out.now (record { file = c.args.out.now.file; comments = c.name_item.new.comments }) selector item c.reason-why.result.now c.args.card.body refl (post_unput selector item (sym c.is_reserved.ensures ∙ c.if-is_reserved.true)) c.reason-why.ensures (ap (λ (x : Card). x.body) body.0) c.name_item.ensures.named

pub returns-in-Ok-clause-told : goal.returns-in-Ok-clause-told
returns-in-Ok-clause-told g c = λ honest item at.
    let selector = c.args.selector.now in
    let name : c.in_ok-clone.field-0 ≡ selector = search rules in
    let whole : c.in_ok-item.item ≡ item = c.in_ok-item.ensures.whole honest item at in
    let change = ap (λ (s : List ℕ). Put s c.in_ok-item.item) name ∙ ap (λ (i : Item). Put selector i) whole in
    adds_put c.args.out.now (record { file = c.add.new.self; comments = c.args.out.now.comments }) (Put c.in_ok-clone.field-0 c.in_ok-item.item) selector item c.in-Ok.ensures.added refl change c.in-Ok.ensures.said (sym c.is_reserved.ensures ∙ c.if-is_reserved.false)

pub returns-in-Err-Unsaid-clause-told : goal.returns-in-Err-Unsaid-clause-told
returns-in-Err-Unsaid-clause-told g c = λ honest item at.
    let selector = c.args.selector.now in
    let body = body_of_item (g.S.SiteKeeper.site_state c.args.site.now).site selector c.args.card item (c.requires.stands honest) at in
    let name : c.in_ok-clone.field-0 ≡ selector = search rules in
    let whole : c.in_ok-item.item ≡ item = c.in_ok-item.ensures.whole honest item at in
    let change = ap (λ (s : List ℕ). Put s c.in_ok-item.item) name ∙ ap (λ (i : Item). Put selector i) whole in
    let said = c.add.ensures.unsaid (c.in-Err-Unsaid.is ∙ ap (λ e. Err e) c.in-Err-Unsaid.field-0-is) in
    adds_name c.name_item-in-Err-Unsaid.result c.args.out.now (record { file = c.add.new.self; comments = c.name_item-in-Err-Unsaid.new.comments }) selector item c.reason-why.result.now c.args.card.body c.in-Err-Unsaid.ensures.same (unsaid_unput (Put c.in_ok-clone.field-0 c.in_ok-item.item) selector item change said) c.reason-why.ensures (ap (λ (x : Card). x.body) body.0) c.name_item-in-Err-Unsaid.ensures.named
