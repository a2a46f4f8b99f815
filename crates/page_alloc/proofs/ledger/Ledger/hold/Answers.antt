use Rattle.std.proofs.Common.{◌≤◌, List, length, get_or, set, sym, ap, ◌∙◌, arith, subst}
use Rattle.page_alloc.specs.declared.life.Life.TheVariants.{Never, Since}
use Rattle.page_alloc.specs.LedgerState.{Mark, LedgerState, is_free}
use Rattle.page_alloc.specs.Calls.{holding}
use Rattle.page_alloc.specs.Kept.{mark_at, Suits}
use Rattle.page_alloc.specs.Runs.{Use, Held}
use Rattle.page_alloc.proofs.ConsistentLedgers.{keeps_held}
use Rattle.page_alloc.proofs.Marks.{marks_stay}
use Rattle.page_alloc.proofs.Uses.{free_inside, free_is_free}
use Rattle.page_alloc.proofs.ledger.Ledger.hold.Goals as goal

pub hold-requires : goal.hold-requires
hold-requires c =
    let a = c.self.inside in
    let free = ap (λ (s : LedgerState). is_free s c.args.page) c.self.view_is ∙ c.requires in
    record {
      within = free_inside a.runs.starts a.runs.order.pages.items a.runs.order.places.items a.lives.items a.generation a.pins a.runs.order.inverse a.runs.runs c.self.invariant c.args.page free;
      free = free_is_free a.runs.starts a.runs.order.pages.items a.runs.order.places.items a.lives.items a.generation a.pins a.runs.order.inverse a.runs.runs c.self.invariant c.args.page free;
    }

pub invariant_of-self : goal.invariant_of-self
invariant_of-self c =
    let a = c.self.inside in
    let b = c.hold.new.self in
    let page = c.args.page in
    let free = ap (λ (s : LedgerState). is_free s page) c.self.view_is ∙ c.requires in
    let within = free_inside a.runs.starts a.runs.order.pages.items a.runs.order.places.items a.lives.items a.generation a.pins a.runs.order.inverse a.runs.runs c.self.invariant page free in
    let was = free_is_free a.runs.starts a.runs.order.pages.items a.runs.order.places.items a.lives.items a.generation a.pins a.runs.order.inverse a.runs.runs c.self.invariant page free in
    let suits = subst (λ (u : Use). Suits a.generation a.pins page (get_or a.lives.items page Never) u) was (c.self.invariant.suits page within) in
    let here : a.generation ≤ a.generation = omega arith in
    keeps_held a.runs.starts b.starts a.runs.order.places.items b.order.places.items (length a.runs.order.pages.items) (length b.order.pages.items) page a.lives.items a.generation a.pins c.self.invariant c.hold.ensures.moves.size within Held (Since a.generation) c.hold.ensures.moves.uses (suits.0, here)

pub returns : goal.returns
returns c =
    let a = c.self.inside in
    let b = c.hold.new.self in
    let page = c.args.page in
    let free = ap (λ (s : LedgerState). is_free s page) c.self.view_is ∙ c.requires in
    let within = free_inside a.runs.starts a.runs.order.pages.items a.runs.order.places.items a.lives.items a.generation a.pins a.runs.order.inverse a.runs.runs c.self.invariant page free in
    let was = free_is_free a.runs.starts a.runs.order.pages.items a.runs.order.places.items a.lives.items a.generation a.pins a.runs.order.inverse a.runs.runs c.self.invariant page free in
    let marks = marks_stay a.runs.starts b.starts a.runs.order.places.items b.order.places.items (length a.runs.order.pages.items) page Held a.runs.order.inverse.same (b.order.inverse.same ∙ c.hold.ensures.moves.size) within c.hold.ensures.moves.uses (sym (ap mark_at was)) in
    ap (λ (ms : List Mark). record { lives = set a.lives.items page (Since a.generation); marks = ms; generation = a.generation; pins = a.pins }) marks ∙ ap (holding page) c.self.view_is
