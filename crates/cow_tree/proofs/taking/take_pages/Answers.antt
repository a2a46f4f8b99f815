use Rattle.std.proofs.Common.{◌+◌, ℕ, List, [], ◌∷◌, sym, subst, arith}
use Rattle.page_alloc.specs.LedgerState.{LedgerState}
use Rattle.cow_tree.specs.Drafts.{OnlyMarks}
use Rattle.cow_tree.specs.Taken.{TakesPages}
use Rattle.cow_tree.proofs.Taken.{marks_only, taking_marks, takes_more}
use Rattle.cow_tree.proofs.taking.take_pages.Goals as goal

pub loop-so_far-preserved : goal.loop-so_far-preserved
loop-so_far-preserved c =
    let first = c.args.ledger.now in
    let i = c.loop-so_far.invariant in
    let old = c.loop-so_far.ledger in
    let taken = c.take-page.ensures.taken in
    record {
      taken = subst (λ (ns : List ℕ). TakesPages (c.loop-so_far.so_far + 1) first c.take-page.new.self ns) (sym c.in_ok-push.ensures.items) (takes_more c.loop-so_far.so_far first old c.take-page.new.self c.loop-so_far.pages.items c.take-page.result i.taken c.take-page.ensures.free taken);
      left = let count = c.take-page.ensures.count in let left = i.left in omega (arith, count, left);
      marks = marks_only i.marks (subst (λ (s : LedgerState). OnlyMarks old s) (sym taken) (taking_marks old (c.take-page.result ∷ [])));
    }
