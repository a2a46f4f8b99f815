use Rattle.std.proofs.Common.{List, length, get_or, refl, sym, ap, ◌∙◌, arith, subst}
use Rattle.page_alloc.specs.declared.life.Life.TheVariants.{Never}
use Rattle.page_alloc.specs.LedgerState.{Mark, Taken, LedgerState, is_free, free_count}
use Rattle.page_alloc.specs.Calls.{taking}
use Rattle.page_alloc.specs.Kept.{Suits}
use Rattle.page_alloc.specs.Runs.{Use, Taken as Coming}
use Rattle.page_alloc.proofs.ConsistentLedgers.{keeps_one}
use Rattle.page_alloc.proofs.Marks.{marks_one}
use Rattle.page_alloc.proofs.Uses.{is_free_use, free_is, free_count_is}
use Rattle.page_alloc.proofs.ledger.Ledger.take.Goals as goal

pub take-requires : goal.take-requires
take-requires c =
    let a = c.self.inside in
    let old = free_count_is a.runs.starts a.runs.order.pages.items a.runs.order.places.items a.lives.items a.generation a.pins a.runs.order.inverse a.runs.runs c.self.invariant in
    let same = ap free_count c.self.view_is in
    omega (arith, old, same, c.requires)

pub returns-clause-free : goal.returns-clause-free
returns-clause-free c =
    let a = c.self.inside in
    let page = c.take.result in
    ap (λ (s : LedgerState). is_free s page) (sym c.self.view_is)
    ∙ free_is a.runs.starts a.runs.order.pages.items a.runs.order.places.items a.lives.items a.generation a.pins a.runs.order.inverse a.runs.runs c.self.invariant page c.take.ensures.within
    ∙ ap is_free_use c.take.ensures.was

pub returns-clause-taken : goal.returns-clause-taken
returns-clause-taken c =
    let a = c.self.inside in
    let b = c.take.new.self in
    let page = c.take.result in
    let marks = marks_one a.runs.starts b.starts a.runs.order.places.items b.order.places.items (length a.runs.order.pages.items) page Coming a.runs.order.inverse.same (b.order.inverse.same ∙ c.take.ensures.moves.size) c.take.ensures.within c.take.ensures.moves.uses Taken refl in
    ap (λ (ms : List Mark). record { lives = a.lives.items; marks = ms; generation = a.generation; pins = a.pins }) marks ∙ ap (taking page) c.self.view_is

pub returns-clause-count : goal.returns-clause-count
returns-clause-count c =
    let a = c.self.inside in
    let b = c.take.new.self in
    let page = c.take.result in
    let within = c.take.ensures.within in
    let suits = subst (λ (u : Use). Suits a.generation a.pins page (get_or a.lives.items page Never) u) c.take.ensures.was (c.self.invariant.suits page within) in
    let keeps = keeps_one a.runs.starts b.starts a.runs.order.places.items b.order.places.items (length a.runs.order.pages.items) (length b.order.pages.items) page a.lives.items a.generation a.pins c.self.invariant c.take.ensures.moves.size within Coming c.take.ensures.moves.uses suits in
    let old = free_count_is a.runs.starts a.runs.order.pages.items a.runs.order.places.items a.lives.items a.generation a.pins a.runs.order.inverse a.runs.runs c.self.invariant in
    let new = free_count_is b.starts b.order.pages.items b.order.places.items a.lives.items a.generation a.pins b.order.inverse b.runs keeps in
    let same = ap free_count c.self.view_is in
    omega (arith, old, new, same, c.take.ensures.count, c.take.ensures.moves.size)
