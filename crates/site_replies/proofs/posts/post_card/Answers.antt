use Rattle.std.proofs.Common.{◌≡◌, subst, sym, arith}
use Rattle.std.specs.Prelude.{IsTrue}
use Rattle.std.proofs.lemmas.Grind.{common_steps}
use Rattle.host_types.specs.Card.{has_short_views}
use Rattle.host_types.specs.Site.{text_item}
use Rattle.host_types.specs.declared.item.Item.{Item}
use Rattle.site_replies.proofs.Posted.{is_short}
use Rattle.site_replies.proofs.posts.post_card.Goals as goal

pub card-requires : goal.card-requires
card-requires c =
    let made : c.in_ok-item.item ≡ text_item c.args.title.now c.args.now c.args.text.now = grind (arith, common_steps) in
    subst (λ (item : Item). IsTrue (has_short_views item.body)) (sym made) (is_short c.args.title.now c.args.text.now c.args.now c.requires)
