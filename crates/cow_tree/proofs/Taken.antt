-- Pages that a commit takes: each was free, so the current generation doesn't have it, and no page is taken twice.
use Rattle.std.proofs.Common.{◌≡◌, ◌≢◌, inl, inr, ℕ, ◌<◌, ◌≤◌, ◌+◌, Bool, true, false, List, [], ◌∷◌, ◌++◌, Option, length, refl, sym, ap, ◌∙◌, arith, eq-eqb, ne_eqb, get_or-set_same, get_or-set_other}
use Rattle.std.specs.Prelude.{◌&&◌, ◌||◌, ◌==◌, not, nat_le, nat_lt, if◌then◌else◌}
use Rattle.std.proofs.lemmas.Bool.{cases_eq, cases_lt, leb-true, ltb-true}
use Rattle.std.proofs.lemmas.List.{length-set, length-append}
use Rattle.page_alloc.specs.declared.life.Life.{Life}
use Rattle.page_alloc.specs.LedgerState.{LedgerState, Mark, Untouched, Taken, mark_of, has_page, has_page_next, have_page, pinned, is_taken, is_retired, is_held, is_free, is_alive}
use Rattle.page_alloc.specs.Calls.{taking, unmarked, abandoned}
use Rattle.page_alloc.proofs.Marks.{unmarked_get}
use Rattle.page_store.specs.Content.{is_among}
use Rattle.tree_nodes.proofs.KeyOrder.{both_true, not_both}
use Rattle.tree_pages.specs.Reached.{times}
use Rattle.tree_pages.proofs.Counted.{first_or_later}
use Rattle.cow_tree.specs.Drafts.{OnlyMarks}
use Rattle.cow_tree.specs.Taken.{taking_all, are_free, TakesPages}

-- ---- a page that is free

not_true : (b : Bool) → not b ≡ true → b ≡ false
not_true true h = absurd (cc h)
not_true false h = refl

record Unused (s : LedgerState) (m : ℕ) : Type 0 where
  low : 2 ≤ m
  within : m < length s.lives
  unheld : is_held s m ≡ false

free_is : (s : LedgerState) (m : ℕ) → is_free s m ≡ true → Unused s m
free_is s m h =
    let a = both_true (nat_le 2 m) (nat_lt m (length s.lives) && (not (is_taken (mark_of s m)) && not (is_held s m))) h in
    let b = both_true (nat_lt m (length s.lives)) (not (is_taken (mark_of s m)) && not (is_held s m)) a.1 in
    let d = both_true (not (is_taken (mark_of s m))) (not (is_held s m)) b.1 in
    record { low = leb-true 2 m a.0; within = ltb-true m (length s.lives) b.0; unheld = not_true (is_held s m) d.1 }

-- a free page is one of the image, and no root slot
pub free_inside : (s : LedgerState) (m : ℕ) → is_free s m ≡ true → (2 ≤ m) × (m < length s.lives)
free_inside s m h = let f = free_is s m h in (f.low, f.within)

-- no generation in use has a free page
pub free_not_held : (s : LedgerState) (m : ℕ) → is_free s m ≡ true → is_held s m ≡ false
free_not_held s m h = (free_is s m h).unheld

-- the current generation doesn't have a free page
pub free_unheld : (s : LedgerState) (m : ℕ) → is_free s m ≡ true → has_page s s.generation m ≡ false
free_unheld s m h = neither (has_page s s.generation m) (have_page s (pinned s.pins) m) (free_is s m h).unheld
  where
    neither : (a b : Bool) → (a || b) ≡ false → a ≡ false
    neither true b h = absurd (cc h)
    neither false b h = refl

-- ---- one page that is taken

mark_here : (s : LedgerState) (n : ℕ) → n < length s.marks → mark_of (taking n s) n ≡ Taken
mark_here s n lt = get_or-set_same s.marks n Taken Untouched lt

mark_there : (s : LedgerState) (n m : ℕ) → m ≢ n → mark_of (taking n s) m ≡ mark_of s m
mark_there s n m ne = get_or-set_other s.marks n m Taken Untouched ne

marks_fit : (s : LedgerState) (n : ℕ) → length s.marks ≡ length s.lives → length (taking n s).marks ≡ length (taking n s).lives
marks_fit s n fit = length-set s.marks n Taken ∙ fit

free_here : (s : LedgerState) (n : ℕ) → n < length s.marks → is_free (taking n s) n ≡ false
free_here s n lt = ap (λ (k : Mark). free_with (nat_le 2 n) (nat_lt n (length s.lives)) (is_taken k) (is_held s n)) (mark_here s n lt) ∙ none (nat_le 2 n) (nat_lt n (length s.lives)) (is_held s n)
  where
    free_with : Bool → Bool → Bool → Bool → Bool
    free_with a b c d = a && (b && (not c && not d))

    none : (a b d : Bool) → (a && (b && (not true && not d))) ≡ false
    none true true d = refl
    none true false d = refl
    none false b d = refl

free_there : (s : LedgerState) (n m : ℕ) → m ≢ n → is_free (taking n s) m ≡ is_free s m
free_there s n m ne = ap (λ (k : Mark). nat_le 2 m && (nat_lt m (length s.lives) && (not (is_taken k) && not (is_held s m)))) (mark_there s n m ne)

alive_one : (s : LedgerState) (n m : ℕ) → is_free s n ≡ true → is_alive (taking n s) m ≡ is_alive s m
alive_one s n m free =
    elim (cases_eq m n) [
      | inl e ↦ let none = ap (has_page s s.generation) e ∙ free_unheld s n free in neither (has_page s s.generation m) (is_retired (mark_of (taking n s) m)) (is_retired (mark_of s m)) none
      | inr ne ↦ ap (λ (k : Mark). has_page s s.generation m && not (is_retired k)) (mark_there s n m ne)
    ]
  where
    neither : (a b c : Bool) → a ≡ false → (a && not b) ≡ (a && not c)
    neither true b c h = absurd (cc h)
    neither false b c h = refl

taken_one : (s : LedgerState) (n m : ℕ) → n < length s.marks → is_taken (mark_of (taking n s) m) ≡ (m == n || is_taken (mark_of s m))
taken_one s n m lt =
    elim (cases_eq m n) [
      | inl e ↦ ap (λ (k : ℕ). is_taken (mark_of (taking n s) k)) e ∙ ap is_taken (mark_here s n lt) ∙ sym (ap (λ (b : Bool). b || is_taken (mark_of s m)) (eq-eqb m n e))
      | inr ne ↦ ap is_taken (mark_there s n m ne) ∙ sym (ap (λ (b : Bool). b || is_taken (mark_of s m)) (ne_eqb m n ne))
    ]

-- ---- several pages

free_parts : (s : LedgerState) (n : ℕ) (ns : List ℕ) → are_free s (n ∷ ns) ≡ true → (is_free s n ≡ true) × (are_free (taking n s) ns ≡ true)
free_parts s n ns free = both_true (is_free s n) (are_free (taking n s) ns) free

within_marks : (s : LedgerState) (n : ℕ) → length s.marks ≡ length s.lives → is_free s n ≡ true → n < length s.marks
within_marks s n fit free = let inside = free_inside s n free in omega (arith, fit, inside.1)

-- each was free before any was taken
pub taken_was_free : (s : LedgerState) (ns : List ℕ) → are_free s ns ≡ true → (m : ℕ) → 1 ≤ times m ns → is_free s m ≡ true
taken_was_free s [] free m h = absurd (omega (arith, h))
taken_was_free s (n ∷ ns) free m h =
    let parts = free_parts s n ns free in
    elim (cases_eq m n) [
      | inl e ↦ ap (is_free s) e ∙ parts.0
      | inr ne ↦ first_or_later m n ns h (λ e. absurd (ne e)) (λ later. sym (free_there s n m ne) ∙ taken_was_free (taking n s) ns parts.1 m later)
    ]

-- no page is taken twice
pub taken_once : (s : LedgerState) (ns : List ℕ) → are_free s ns ≡ true → length s.marks ≡ length s.lives → (m : ℕ) → times m ns ≤ 1
taken_once s [] free fit m = omega arith
taken_once s (n ∷ ns) free fit m =
    let parts = free_parts s n ns free in
    elim (cases_eq m n) [
      | inl e ↦ elim (cases_lt (times m ns) 1) [ inl none ↦ at_most (m == n) (times m ns) (omega (arith, none)) | inr some ↦ not_both (is_free (taking n s) m) (taken_was_free (taking n s) ns parts.1 m some) (ap (is_free (taking n s)) e ∙ free_here s n (within_marks s n fit parts.0)) ]
      | inr ne ↦ let one = taken_once (taking n s) ns parts.1 (marks_fit s n fit) m in not_first (m == n) (times m ns) (ne_eqb m n ne) one
    ]
  where
    at_most : (b : Bool) (k : ℕ) → k ≡ 0 → (if b then 1 else 0) + k ≤ 1
    at_most true k e = omega (arith, e)
    at_most false k e = omega (arith, e)

    not_first : (b : Bool) (k : ℕ) → b ≡ false → k ≤ 1 → (if b then 1 else 0) + k ≤ 1
    not_first true k e le = absurd (cc e)
    not_first false k e le = omega (arith, le)

-- the same pages are alive
pub alive_still : (s : LedgerState) (ns : List ℕ) → are_free s ns ≡ true → length s.marks ≡ length s.lives → (m : ℕ) → is_alive (taking_all s ns) m ≡ is_alive s m
alive_still s [] free fit m = refl
alive_still s (n ∷ ns) free fit m = let parts = free_parts s n ns free in alive_still (taking n s) ns parts.1 (marks_fit s n fit) m ∙ alive_one s n m parts.0

taken_are : (s : LedgerState) (ns : List ℕ) → are_free s ns ≡ true → length s.marks ≡ length s.lives → (m : ℕ) → is_taken (mark_of (taking_all s ns) m) ≡ (is_among m ns || is_taken (mark_of s m))
taken_are s [] free fit m = refl
taken_are s (n ∷ ns) free fit m =
    let parts = free_parts s n ns free in
    taken_are (taking n s) ns parts.1 (marks_fit s n fit) m
    ∙ ap (λ (b : Bool). is_among m ns || b) (taken_one s n m (within_marks s n fit parts.0))
    ∙ swap (is_among m ns) (m == n) (is_taken (mark_of s m))
  where
    swap : (a b c : Bool) → (a || (b || c)) ≡ ((b || a) || c)
    swap true true c = refl
    swap true false c = refl
    swap false true c = refl
    swap false false c = refl

-- where none was taken before, the next generation has the pages that are alive and these
pub next_are : (s : LedgerState) (ns : List ℕ) → are_free s ns ≡ true → length s.marks ≡ length s.lives → ((m : ℕ) → is_taken (mark_of s m) ≡ false) → (m : ℕ) → has_page_next (taking_all s ns) m ≡ (is_alive s m || is_among m ns)
next_are s ns free fit untaken m =
    ap (λ (b : Bool). b || is_taken (mark_of (taking_all s ns) m)) (alive_still s ns free fit m)
    ∙ ap (λ (b : Bool). is_alive s m || b) (taken_are s ns free fit m ∙ ap (λ (b : Bool). is_among m ns || b) (untaken m) ∙ or_none (is_among m ns))
  where
    or_none : (b : Bool) → (b || false) ≡ b
    or_none true = refl
    or_none false = refl

-- ---- all else of a ledger

pub marks_only : {a b c : LedgerState} → OnlyMarks a b → OnlyMarks b c → OnlyMarks a c
marks_only first second = record { lives = second.lives ∙ first.lives; size = second.size ∙ first.size; generation = second.generation ∙ first.generation; pins = second.pins ∙ first.pins }

pub taking_marks : (s : LedgerState) (ns : List ℕ) → OnlyMarks s (taking_all s ns)
taking_marks s [] = record { lives = refl; size = refl; generation = refl; pins = refl }
taking_marks s (n ∷ ns) = marks_only {b = taking n s} (record { lives = refl; size = length-set s.marks n Taken; generation = refl; pins = refl }) (taking_marks (taking n s) ns)

pub marks_fit_still : (old new : LedgerState) → OnlyMarks old new → length old.marks ≡ length old.lives → length new.marks ≡ length new.lives
marks_fit_still old new only fit = only.size ∙ fit ∙ sym (ap length only.lives)

-- where no commit runs, no page has a mark
pub untaken_at_rest : (s : LedgerState) → unmarked s.marks ≡ s.marks → (m : ℕ) → mark_of s m ≡ Untouched
untaken_at_rest s rest m = sym (ap (λ (marks : List Mark). mark_of (record s { marks = marks }) m) rest) ∙ unmarked_get s.marks m

same_length : (xs ys : List Mark) → length xs ≡ length ys → unmarked xs ≡ unmarked ys
same_length [] [] e = refl
same_length [] (y ∷ ys) e = absurd (omega (arith, e))
same_length (x ∷ xs) [] e = absurd (omega (arith, e))
same_length (x ∷ xs) (y ∷ ys) e = ap (λ (marks : List Mark). Untouched ∷ marks) (same_length xs ys (omega (arith, e)))

same_state : (a b : LedgerState) → a.lives ≡ b.lives → a.marks ≡ b.marks → a.generation ≡ b.generation → a.pins ≡ b.pins → a ≡ b
same_state a b lives marks generation pins =
    ap (λ (x : List Life). state x a.marks a.generation a.pins) lives
    ∙ ap (λ (x : List Mark). state b.lives x a.generation a.pins) marks
    ∙ ap (λ (x : ℕ). state b.lives b.marks x a.pins) generation
    ∙ ap (λ (x : List (Option ℕ)). state b.lives b.marks b.generation x) pins
  where
    state : List Life → List Mark → ℕ → List (Option ℕ) → LedgerState
    state lives marks generation pins = record { lives = lives; marks = marks; generation = generation; pins = pins }

-- a commit that is given up leaves a ledger as it was before
pub abandoned_again : (old new : LedgerState) → OnlyMarks old new → unmarked old.marks ≡ old.marks → abandoned new ≡ old
abandoned_again old new only rest = same_state (abandoned new) old only.lives (same_length new.marks old.marks only.size ∙ rest) only.generation only.pins

-- ---- one page after others

free_both : (s : LedgerState) (xs ys : List ℕ) → are_free s (xs ++ ys) ≡ (are_free s xs && are_free (taking_all s xs) ys)
free_both s [] ys = refl
free_both s (x ∷ xs) ys = ap (λ (b : Bool). is_free s x && b) (free_both (taking x s) xs ys) ∙ and_more (is_free s x) (are_free (taking x s) xs) (are_free (taking_all (taking x s) xs) ys)
  where
    and_more : (a b c : Bool) → (a && (b && c)) ≡ ((a && b) && c)
    and_more true b c = refl
    and_more false b c = refl

taken_both : (s : LedgerState) (xs ys : List ℕ) → taking_all s (xs ++ ys) ≡ taking_all (taking_all s xs) ys
taken_both s [] ys = refl
taken_both s (x ∷ xs) ys = taken_both (taking x s) xs ys

-- none of no pages
pub takes_none : (s : LedgerState) → TakesPages 0 s s []
takes_none s = record { count_is = refl; free = refl; taken = refl }

pub takes_more : (count : ℕ) (old mid new : LedgerState) (ns : List ℕ) (page : ℕ) → TakesPages count old mid ns → is_free mid page ≡ true → new ≡ taking page mid → TakesPages (count + 1) old new (ns ++ (page ∷ []))
takes_more count old mid new ns page takes free is = record {
  count_is = let more = length-append ns (page ∷ []) in let counted = takes.count_is in omega (arith, more, counted);
  free = free_both old ns (page ∷ []) ∙ both (are_free old ns) (is_free (taking_all old ns) page && true) takes.free (both (is_free (taking_all old ns) page) true (sym (ap (λ (s : LedgerState). is_free s page) takes.taken) ∙ free) refl);
  taken = is ∙ ap (taking page) takes.taken ∙ sym (taken_both old ns (page ∷ []));
}
  where
    both : (a b : Bool) → a ≡ true → b ≡ true → (a && b) ≡ true
    both true b h k = k
    both false b h k = absurd (cc h)
