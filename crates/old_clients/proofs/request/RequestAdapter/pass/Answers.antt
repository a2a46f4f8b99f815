use Rattle.std.proofs.Common.{◌≤◌, length, ap, sym, ◌∙◌, subst, arith, length-drop}
use Rattle.old_clients.proofs.Clients.{empty_is, end_passed, piece_passed, some_are}
use Rattle.old_clients.proofs.request.RequestAdapter.pass.Goals as goal

pub returns-then-is_empty-clause-heard : goal.returns-then-is_empty-clause-heard
returns-then-is_empty-clause-heard c =
    let e = c.finish.ensures in
    end_passed c.args.self.now c.finish.new.self c.args.piece.now c.finish.new.out c.finish.result
    (omega (arith, c.self.invariant.0.1, length-drop c.self.inside.given c.self.inside.held.items, ap (λ a. length a.held) c.self.view_is)) (omega (arith, c.requires, c.finish.auto.out)) e.within e.given e.rewrites e.ended e.progress
    (empty_is c.args.piece.now c.is_empty.result c.is_empty.ensures c.if-is_empty.true)

pub returns-else-is_empty-clause-heard : goal.returns-else-is_empty-clause-heard
returns-else-is_empty-clause-heard c =
    let e = c.next.ensures in
    piece_passed c.args.self.now c.next.new.self c.args.piece.now c.next.new.out c.next.result.taken c.next.result.given
    (omega (arith, c.self.invariant.0.1, length-drop c.self.inside.given c.self.inside.held.items, ap (λ a. length a.held) c.self.view_is)) (omega (arith, c.requires, c.next.auto.out)) e.within e.passes e.rewrites e.ended e.progress
    (some_are c.args.piece.now c.is_empty.result c.is_empty.ensures c.if-is_empty.false)
