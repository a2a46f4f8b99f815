use Rattle.std.proofs.Common.{arith, ◌≡◌, ◌∙◌, ap, take, ℕ}
use Rattle.std.proofs.lemmas.Grind.{common_steps}
use Rattle.host_types.specs.declared.change.Change.{Change}
use Rattle.host_types.specs.AllChanges.{Changes}
use Rattle.site_replies.specs.LaterReply.{one_on, posts_on}
use Rattle.site_replies.proofs.BoardCounts.{one_more}
use Rattle.site_replies.proofs.board_count.posts_on.Goals as goal

pub loop-change-preserved : goal.loop-change-preserved
loop-change-preserved c =
    let board = c.args.board.now in
    let inv = c.loop-change.invariant in
    let more = one_more board c.args.changes.now c.loop-change.change-index c.change-item.result c.loop-change-test.true in
    let one = c.one_on-count.ensures.count ∙ ap (λ (x : Change × ℕ). one_on board x.0) c.change-item.is in
    record {
      so_far = omega (arith, inv.so_far, more, one);
      few = omega (arith, inv.few, c.one_on-count.ensures.most);
    }

pub returns : goal.returns
returns c =
    let all : take c.loop-change.change-index c.args.changes.now ≡ c.args.changes.now = grind (arith, common_steps) in
    c.loop-change.invariant.so_far ∙ ap (λ (l : Changes). posts_on c.args.board.now l) all
