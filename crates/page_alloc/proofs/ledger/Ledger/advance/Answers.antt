use Rattle.std.proofs.Common.{◌≡◌, ◌<◌, ℕ, List, ◌++◌, length, get_or, None, take, drop, sym, ap, ◌∙◌, arith, subst}
use Rattle.std.specs.Prelude.{IfSome}
use Rattle.std.proofs.lemmas.List.{take_at}
use Rattle.page_alloc.specs.declared.life.Life.{Life}
use Rattle.page_alloc.specs.declared.life.Life.TheVariants.{Never}
use Rattle.page_alloc.specs.LedgerState.{Mark, LedgerState, has_page, has_page_next}
use Rattle.page_alloc.specs.Calls.{advanced, lives_from}
use Rattle.page_alloc.specs.Kept.{state, marks_of, mark_at, swept}
use Rattle.page_alloc.specs.Runs.{Use, use_of, after_switch}
use Rattle.page_alloc.proofs.ConsistentLedgers.{keeps_advanced}
use Rattle.page_alloc.proofs.Next.{next_pages, pinned_pages}
use Rattle.page_alloc.proofs.Marks.{marks_gone, settled_is_unmarked}
use Rattle.page_alloc.proofs.ledger.Ledger.advance.Goals as goal

pub invariant_of-self : goal.invariant_of-self
invariant_of-self c =
    let a = c.self.inside in
    let b = c.sweep.new.runs in
    let size = length a.runs.order.pages.items in
    let made = c.settle_lives.new.lives in
    let lived = take a.lives.len (made ++ drop (length made) a.lives.items) in
    let count : length made ≡ a.lives.len = c.settle_lives.auto.lives ∙ ap length c.deref_mut.ensures.value ∙ sym a.lives.ok.0 in
    let kept : lived ≡ made = take_at made (drop (length made) a.lives.items) a.lives.len count in
    let marks = marks_of a.runs.starts a.runs.order.places.items in
    let lives : lived ≡ lives_from c.args.generation a.lives.items marks = kept ∙ c.settle_lives.ensures ∙ ap (λ (ls : List Life). lives_from c.args.generation ls marks) c.deref_mut.ensures.value in
    let passed : c.deref.result.now ≡ lived = c.deref.ensures.value in
    let later : a.generation < c.args.generation = subst (λ (s : LedgerState). s.generation < c.args.generation) (sym c.self.view_is) c.requires in
    keeps_advanced a.runs.starts b.starts a.runs.order.places.items b.order.places.items size (length b.order.pages.items) a.lives.items lived a.generation c.args.generation a.pins c.self.invariant a.runs.order.inverse.same (c.sweep.ensures.size ∙ c.settle.ensures.size) later lives
    (λ p lt.
    c.sweep.ensures.uses p (omega (arith, lt, ap length passed, ap length kept, count, a.lives.ok.0, c.self.invariant.size))
    ∙ ap (λ (u : Use). swept a.pins (get_or c.deref.result.now p Never) u) (c.settle.ensures.uses p)
    ∙ ap (λ (ls : List Life). swept a.pins (get_or ls p Never) (after_switch (use_of a.runs.starts a.runs.order.places.items p))) passed)

pub returns-clause-advanced : goal.returns-clause-advanced
returns-clause-advanced c =
    let a = c.self.inside in
    let b = c.sweep.new.runs in
    let made = c.settle_lives.new.lives in
    let lived = take a.lives.len (made ++ drop (length made) a.lives.items) in
    let count : length made ≡ a.lives.len = c.settle_lives.auto.lives ∙ ap length c.deref_mut.ensures.value ∙ sym a.lives.ok.0 in
    let kept : lived ≡ made = take_at made (drop (length made) a.lives.items) a.lives.len count in
    let marks = marks_of a.runs.starts a.runs.order.places.items in
    let lives : lived ≡ lives_from c.args.generation a.lives.items marks = kept ∙ c.settle_lives.ensures ∙ ap (λ (ls : List Life). lives_from c.args.generation ls marks) c.deref_mut.ensures.value in
    let passed : c.deref.result.now ≡ lived = c.deref.ensures.value in
    let gone = marks_gone a.runs.starts b.starts a.runs.order.places.items b.order.places.items (b.order.inverse.same ∙ c.sweep.ensures.size ∙ c.settle.ensures.size ∙ sym a.runs.order.inverse.same)
    (λ p lt.
    ap mark_at (c.sweep.ensures.uses p (omega (arith, lt, ap length passed, ap length kept, count, a.lives.ok.0, c.self.invariant.size, b.order.inverse.same, c.sweep.ensures.size, c.settle.ensures.size)) ∙ ap (λ (u : Use). swept a.pins (get_or c.deref.result.now p Never) u) (c.settle.ensures.uses p))
    ∙ settled_is_unmarked a.pins (get_or c.deref.result.now p Never) (use_of a.runs.starts a.runs.order.places.items p)) in
    ap (λ (ls : List Life). state b.starts b.order.places.items ls c.args.generation a.pins) lives
    ∙ ap (λ (ms : List Mark). record { lives = lives_from c.args.generation a.lives.items marks; marks = ms; generation = c.args.generation; pins = a.pins }) gone
    ∙ ap (advanced c.args.generation) c.self.view_is

pub returns-clause-pages : goal.returns-clause-pages
returns-clause-pages c =
    let a = c.self.inside in
    let g = c.args.generation in
    let later : a.generation < g = subst (λ (s : LedgerState). s.generation < g) (sym c.self.view_is) c.requires in
    let pages = subst (λ (s : LedgerState). (page : ℕ) → page < length s.lives → has_page (advanced g s) g page ≡ has_page_next s page) c.self.view_is
    (next_pages a.runs.starts a.runs.order.places.items (length a.runs.order.pages.items) a.lives.items a.generation g a.pins c.self.invariant a.runs.order.inverse.same later) in
    λ page lt. ap (λ (s : LedgerState). has_page s g page) (returns-clause-advanced c) ∙ pages page lt

pub returns-clause-pinned : goal.returns-clause-pinned
returns-clause-pinned c =
    let a = c.self.inside in
    let g = c.args.generation in
    let later : a.generation < g = subst (λ (s : LedgerState). s.generation < g) (sym c.self.view_is) c.requires in
    let pages = subst (λ (s : LedgerState). (number : ℕ) → IfSome (get_or s.pins number None) (λ kept. (page : ℕ) → page < length s.lives → has_page (advanced g s) kept page ≡ has_page s kept page)) c.self.view_is
    (pinned_pages a.runs.starts a.runs.order.places.items (length a.runs.order.pages.items) a.lives.items a.generation g a.pins c.self.invariant a.runs.order.inverse.same later) in
    subst (λ (new : LedgerState). (number : ℕ) → IfSome (get_or c.args.self.now.pins number None) (λ kept. (page : ℕ) → page < length c.args.self.now.lives → has_page new kept page ≡ has_page c.args.self.now kept page)) (sym (returns-clause-advanced c)) pages
