use Rattle.std.proofs.Common.{◌∙◌, sym, ap, [], ◌∷◌, ◌++◌, ◌-◌, ◌+◌, length}
use Rattle.std.specs.Prelude.{filter, nat_le}
use Rattle.host_types.specs.Site.{post_selector}
use Rattle.site_replies.specs.Reply.{post_names}
use Rattle.std.proofs.lemmas.List.{append_assoc}
use Rattle.site_replies.proofs.PostNames.{next_post}
use Rattle.site_replies.proofs.entries.post_names.Goals as goal

pub loop-preserved : goal.loop-preserved
loop-preserved c =
    let board = c.args.board.now in
    let rest = post_names board (c.args.cap - (c.loop.counter + 1)) (c.loop.number - 1) in
    ap (λ l. l ++ rest) (c.in_ok-add_post.ensures {u = tt})
    ∙ append_assoc c.loop.names (filter (λ name. nat_le (length name) 255) (post_selector board (c.loop.number - 1) ∷ [])) rest
    ∙ ap (λ l. c.loop.names ++ l) (sym (next_post board c.args.cap c.loop.counter c.loop.number c.loop-test.true c.if-number-le1.false))
    ∙ c.loop.invariant
