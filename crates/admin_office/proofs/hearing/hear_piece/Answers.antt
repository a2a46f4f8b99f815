use Rattle.std.proofs.Common.{ap, inl, inr}
use Rattle.admin_office.specs.Tasks.{Telling}
use Rattle.daily_turns.proofs.ConnectionsMade.{some_left}
use Rattle.admin_office.proofs.Steps.{all_gone, hears_end, hears_more}
use Rattle.admin_office.proofs.hearing.hear_piece.Goals as goal

pub returns-then-is_empty : goal.returns-then-is_empty
returns-then-is_empty c = hears_end c.args.heard.items c.args.piece.now _ (all_gone c.args.piece.now c.is_empty.result c.is_empty.ensures c.if-is_empty.true) (rw c.request_line.ensures at c.refuse.ensures)

pub returns-in-Ok : goal.returns-in-Ok
returns-in-Ok c = hears_more c.args.heard.items c.args.piece.now _ (some_left c.args.piece.now c.is_empty.result c.is_empty.ensures c.if-is_empty.false) (inl (rw c.in-Ok.ensures.items at c.heard_so_far.ensures))

pub returns-in-Err : goal.returns-in-Err
returns-in-Err c = hears_more c.args.heard.items c.args.piece.now _ (some_left c.args.piece.now c.is_empty.result c.is_empty.ensures c.if-is_empty.false) (inr (ap (λ u. Telling u) c.new.ensures.not_made))
