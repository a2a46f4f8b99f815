use Rattle.std.proofs.Common.{◌≡◌, ◌≤◌, length, [], Option, Some, sym, subst, ◌∙◌, arith}
use Rattle.std.specs.Prelude.{IfSome}
use Rattle.std.proofs.lemmas.Result.{IfOk-weaker}
use Rattle.host_types.specs.Site.{item_at}
use Rattle.host_types.specs.declared.item.Item.{Item}
use Rattle.change_plan.proofs.Posting.{short_posted}
use Rattle.change_plan.proofs.Planning.{post_made}
use Rattle.change_plan.proofs.plan_post.plan_post.Goals as goal

pub returns-clause-plan : goal.returns-clause-plan
returns-clause-plan g c = λ s shown.
    let fits : length c.args.text ≤ 65536 = let l = c.len.ensures in let h = c.if-len-gt-MOST_POST_BYTES.false in omega (arith, l, h) in
    let shown1 = g.met.L.ItemLookup.shows_still c.args.lookup.now c.item.new.self s c.in-Ok-Some.ensures.reads_only shown in
    let stands : Some c.in-Ok-Some.item ≡ item_at s c.args.board = sym c.in-Ok-Some.field-0-is ∙ c.in-Ok-Some.ensures.item s shown in
    post_made c.post_on.result (λ l. l.items) s c.args.board c.args.title c.args.text c.args.now c.in-Ok-Some.item c.in-Ok.posted c.in-Some.numbers fits stands (sym c.in-Some.ensures) (λ e. c.if-numbers.false e) c.in-Ok.ensures (IfOk-weaker c.post_on.result _ _ (λ l made. made stands) (c.post_on.ensures.plan.gives s shown1))

pub returns-clause-fit : goal.returns-clause-fit
returns-clause-fit g c =
    let found : g.L.ItemLookup.fits c.in-Ok-Some.item = subst (λ (o : Option Item). IfSome o g.L.ItemLookup.fits) c.in-Ok-Some.field-0-is c.in-Ok-Some.ensures.fits in
    let fits : length c.args.text ≤ 65536 = let l = c.len.ensures in let h = c.if-len-gt-MOST_POST_BYTES.false in omega (arith, l, h) in
    c.post_on.ensures.fit found (g.met.L.ItemLookup.short_fits [] c.in-Ok.posted (short_posted c.in-Ok.posted c.args.title c.args.text c.args.now c.in-Ok.ensures fits))
