use Rattle.std.proofs.Common.{List, length, get_or, refl, ap, ◌∙◌, arith, subst}
use Rattle.page_alloc.specs.declared.life.Life.TheVariants.{Never}
use Rattle.page_alloc.specs.LedgerState.{Mark, Retired, LedgerState, is_alive, free_count}
use Rattle.page_alloc.specs.Calls.{retiring}
use Rattle.page_alloc.specs.Kept.{Suits}
use Rattle.page_alloc.specs.Runs.{Use, Retired as Leaving}
use Rattle.page_alloc.proofs.ConsistentLedgers.{keeps_one}
use Rattle.page_alloc.proofs.Marks.{marks_one}
use Rattle.page_alloc.proofs.Uses.{alive_inside, alive_is_held, free_count_is}
use Rattle.page_alloc.proofs.ledger.Ledger.retire.Goals as goal

pub retire-requires : goal.retire-requires
retire-requires c =
    let a = c.self.inside in
    let alive = ap (λ (s : LedgerState). is_alive s c.args.page) c.self.view_is ∙ c.requires in
    record {
      within = alive_inside a.runs.starts a.runs.order.pages.items a.runs.order.places.items a.lives.items a.generation a.pins a.runs.order.inverse a.runs.runs c.self.invariant c.args.page alive;
      held = alive_is_held a.runs.starts a.runs.order.pages.items a.runs.order.places.items a.lives.items a.generation a.pins a.runs.order.inverse a.runs.runs c.self.invariant c.args.page alive;
    }

pub returns-clause-retired : goal.returns-clause-retired
returns-clause-retired c =
    let a = c.self.inside in
    let b = c.retire.new.self in
    let alive = ap (λ (s : LedgerState). is_alive s c.args.page) c.self.view_is ∙ c.requires in
    let within = alive_inside a.runs.starts a.runs.order.pages.items a.runs.order.places.items a.lives.items a.generation a.pins a.runs.order.inverse a.runs.runs c.self.invariant c.args.page alive in
    let size = length a.runs.order.pages.items in
    let marks = marks_one a.runs.starts b.starts a.runs.order.places.items b.order.places.items size c.args.page Leaving a.runs.order.inverse.same (b.order.inverse.same ∙ c.retire.ensures.moves.size) within c.retire.ensures.moves.uses Retired refl in
    ap (λ (ms : List Mark). record { lives = a.lives.items; marks = ms; generation = a.generation; pins = a.pins }) marks ∙ ap (retiring c.args.page) c.self.view_is

pub returns-clause-count : goal.returns-clause-count
returns-clause-count c =
    let a = c.self.inside in
    let b = c.retire.new.self in
    let alive = ap (λ (s : LedgerState). is_alive s c.args.page) c.self.view_is ∙ c.requires in
    let within = alive_inside a.runs.starts a.runs.order.pages.items a.runs.order.places.items a.lives.items a.generation a.pins a.runs.order.inverse a.runs.runs c.self.invariant c.args.page alive in
    let held = alive_is_held a.runs.starts a.runs.order.pages.items a.runs.order.places.items a.lives.items a.generation a.pins a.runs.order.inverse a.runs.runs c.self.invariant c.args.page alive in
    let size = length a.runs.order.pages.items in
    let suits = subst (λ (u : Use). Suits a.generation a.pins c.args.page (get_or a.lives.items c.args.page Never) u) held (c.self.invariant.suits c.args.page within) in
    let keeps = keeps_one a.runs.starts b.starts a.runs.order.places.items b.order.places.items size (length b.order.pages.items) c.args.page a.lives.items a.generation a.pins c.self.invariant c.retire.ensures.moves.size within Leaving c.retire.ensures.moves.uses suits in
    let old = free_count_is a.runs.starts a.runs.order.pages.items a.runs.order.places.items a.lives.items a.generation a.pins a.runs.order.inverse a.runs.runs c.self.invariant in
    let new = free_count_is b.starts b.order.pages.items b.order.places.items a.lives.items a.generation a.pins b.order.inverse b.runs keeps in
    let same = ap free_count c.self.view_is in
    omega (arith, old, new, same, c.retire.ensures.free, c.retire.ensures.moves.size)
