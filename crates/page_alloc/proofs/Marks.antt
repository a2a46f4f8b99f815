-- What the running commit did, by the uses of the pages.
use Rattle.std.proofs.Common.{◌≡◌, ◌<◌, ℕ, zero, suc, Bool, true, false, List, [], ◌∷◌, cond, length, get_or, set, replicate, ltb, Option, refl, sym, ap, ◌∙◌, arith, inl, inr}
use Rattle.std.proofs.lemmas.Bool.{cases_eq, eq-eqb, ne_eqb}
use Rattle.std.proofs.lemmas.List.{get_or-map, length-map, length-set, ext_get_or, get_or-set_same, get_or-set_other, length-replicate, get_or-replicate}
use Rattle.page_alloc.specs.declared.life.Life.{Life}
use Rattle.page_alloc.specs.declared.life.Life.TheVariants.{Never}
use Rattle.page_alloc.specs.declared.runs.Starts.{Starts}
use Rattle.page_alloc.specs.LedgerState.{Mark, Untouched}
use Rattle.page_alloc.specs.Calls.{unmarked, life_from, lives_from}
use Rattle.page_alloc.specs.Kept.{mark_at, marks_of, swept, is_pinned}
use Rattle.page_alloc.specs.Runs.{Use, Root, Waiting, Retired, Held, Taken, Free, use_at, use_of, undone, after_switch, OneChanges}

pub mark_get : (starts : Starts) (places : List ℕ) (p : ℕ) → p < length places → get_or (marks_of starts places) p Untouched ≡ mark_at (use_of starts places p)
mark_get starts places p lt = get_or-map (λ place. mark_at (use_at starts place)) places p 0 Untouched lt

pub marks_count : (starts : Starts) (places : List ℕ) → length (marks_of starts places) ≡ length places
marks_count starts places = length-map places (λ place. mark_at (use_at starts place))

pub marks_are : (starts : Starts) (places : List ℕ) (marks : List Mark) → length places ≡ length marks → ((p : ℕ) → p < length marks → mark_at (use_of starts places p) ≡ get_or marks p Untouched) → marks_of starts places ≡ marks
marks_are starts places marks e each =
    ext_get_or Untouched (marks_of starts places) marks (marks_count starts places ∙ e)
    (λ p lt. let within : p < length places = omega (arith, lt, marks_count starts places) in mark_get starts places p within ∙ each p (omega (arith, within, e)))

module _ (starts after : Starts) (places placed : List ℕ) (n page : ℕ) (now : Use) (size : length places ≡ n) (sized : length placed ≡ n) (within : page < n) (one : OneChanges n page now (use_of starts places) (use_of after placed)) where
  pub marks_one : (mark : Mark) → mark_at now ≡ mark → marks_of after placed ≡ set (marks_of starts places) page mark
  marks_one mark is =
      let marks = marks_of starts places in
      let count = marks_count starts places in
      marks_are after placed (set marks page mark) (omega (arith, size, sized, count, length-set marks page mark)) (λ p lt.
      let inside : p < n = omega (arith, lt, size, count, length-set marks page mark) in
      elim (cases_eq p page) [
        | inl same ↦
            ap mark_at (one p inside ∙ ap (λ (b : Bool). cond b now (use_of starts places p)) (eq-eqb p page same)) ∙ is
            ∙ sym (ap (λ (k : ℕ). get_or (set marks page mark) k Untouched) same ∙ get_or-set_same marks page mark Untouched (omega (arith, within, size, count)))
        | inr other ↦
            ap mark_at (one p inside ∙ ap (λ (b : Bool). cond b now (use_of starts places p)) (ne_eqb p page other))
            ∙ sym (get_or-set_other marks page p mark Untouched other ∙ mark_get starts places p (omega (arith, inside, size)))
      ])

  -- a mark that stays
  pub marks_stay : mark_at now ≡ mark_at (use_of starts places page) → marks_of after placed ≡ marks_of starts places
  marks_stay is =
      let marks = marks_of starts places in
      let count = marks_count starts places in
      marks_are after placed marks (omega (arith, size, sized, count)) (λ p lt.
      let inside : p < n = omega (arith, lt, size, count) in
      let get = mark_get starts places p (omega (arith, inside, size)) in
      elim (cases_eq p page) [
        | inl same ↦ ap mark_at (one p inside ∙ ap (λ (b : Bool). cond b now (use_of starts places p)) (eq-eqb p page same)) ∙ is ∙ ap (λ (k : ℕ). mark_at (use_of starts places k)) (sym same) ∙ sym get
        | inr other ↦ ap mark_at (one p inside ∙ ap (λ (b : Bool). cond b now (use_of starts places p)) (ne_eqb p page other)) ∙ sym get
      ])

pub unmarked_get : (marks : List Mark) (p : ℕ) → get_or (unmarked marks) p Untouched ≡ Untouched
unmarked_get [] p = refl
unmarked_get (mark ∷ marks) zero = refl
unmarked_get (mark ∷ marks) (suc p) = unmarked_get marks p

pub unmarked_count : (marks : List Mark) → length (unmarked marks) ≡ length marks
unmarked_count marks = length-map marks (λ mark. Untouched)

-- no page has a mark
pub marks_gone : (starts after : Starts) (places placed : List ℕ) → length placed ≡ length places → ((p : ℕ) → p < length placed → mark_at (use_of after placed p) ≡ Untouched) → marks_of after placed ≡ unmarked (marks_of starts places)
marks_gone starts after places placed e each =
    let marks = marks_of starts places in
    let count = unmarked_count marks in
    let size = marks_count starts places in
    marks_are after placed (unmarked marks) (omega (arith, e, count, size)) (λ p lt. each p (omega (arith, lt, count, size, e)) ∙ sym (unmarked_get marks p))

pub lives_from_get : (generation : ℕ) (lives : List Life) (marks : List Mark) (p : ℕ) → length marks ≡ length lives → p < length lives → get_or (lives_from generation lives marks) p Never ≡ life_from generation (get_or lives p Never) (get_or marks p Untouched)
lives_from_get g [] marks p e lt = absurd (omega (arith, lt))
lives_from_get g (life ∷ lives) [] p e lt = absurd (omega (arith, e))
lives_from_get g (life ∷ lives) (mark ∷ marks) zero e lt = refl
lives_from_get g (life ∷ lives) (mark ∷ marks) (suc p) e lt = lives_from_get g lives marks p (omega (arith, e)) (omega (arith, lt))

pub undone_is_unmarked : (now : Use) → mark_at (undone now) ≡ Untouched
undone_is_unmarked Root = refl
undone_is_unmarked Waiting = refl
undone_is_unmarked Retired = refl
undone_is_unmarked Held = refl
undone_is_unmarked Taken = refl
undone_is_unmarked Free = refl

pub swept_is_unmarked : (pins : List (Option ℕ)) (life : Life) → mark_at (swept pins life Waiting) ≡ Untouched
swept_is_unmarked pins life = either_way (is_pinned pins life)
  where
    either_way : (b : Bool) → mark_at (cond b Waiting Free) ≡ Untouched
    either_way true = refl
    either_way false = refl

pub settled_is_unmarked : (pins : List (Option ℕ)) (life : Life) (now : Use) → mark_at (swept pins life (after_switch now)) ≡ Untouched
settled_is_unmarked pins life Root = refl
settled_is_unmarked pins life Waiting = swept_is_unmarked pins life
settled_is_unmarked pins life Retired = swept_is_unmarked pins life
settled_is_unmarked pins life Held = refl
settled_is_unmarked pins life Taken = refl
settled_is_unmarked pins life Free = refl

-- a sweep leaves all marks
pub swept_keeps_marks : (pins : List (Option ℕ)) (life : Life) (now : Use) → mark_at (swept pins life now) ≡ mark_at now
swept_keeps_marks pins life Root = refl
swept_keeps_marks pins life Waiting = swept_is_unmarked pins life
swept_keeps_marks pins life Retired = refl
swept_keeps_marks pins life Held = refl
swept_keeps_marks pins life Taken = refl
swept_keeps_marks pins life Free = refl

pub marks_none : (starts : Starts) (places : List ℕ) (n : ℕ) → length places ≡ n → ((p : ℕ) → p < n → use_of starts places p ≡ cond (ltb p 2) Root Free) → marks_of starts places ≡ replicate n Untouched
marks_none starts places n size uses =
    marks_are starts places (replicate n Untouched) (size ∙ sym (length-replicate n Untouched)) (λ p lt.
    let within : p < n = omega (arith, lt, length-replicate n Untouched) in
    ap mark_at (uses p within) ∙ either_way (ltb p 2) ∙ sym (get_or-replicate n p Untouched Untouched within))
  where
    either_way : (b : Bool) → mark_at (cond b Root Free) ≡ Untouched
    either_way true = refl
    either_way false = refl
