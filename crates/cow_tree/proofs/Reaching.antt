-- Pages that were reached, as a ledger has them.
use Rattle.std.proofs.Common.{◌≡◌, ◌≢◌, inl, inr, ℕ, zero, suc, ◌<◌, ◌≤◌, ◌+◌, Bool, true, false, List, [], ◌∷◌, ◌++◌, length, refl, sym, ap, subst, ◌∙◌, IsTrue, arith, eq-eqb, ne_eqb, get_or-set_same, get_or-set_other, cond, replicate, None}
use Rattle.std.specs.Prelude.{◌&&◌, ◌||◌, ◌==◌, not, nat_le, nat_lt}
use Rattle.std.specs.List.{list_any}
use Rattle.std.proofs.lemmas.Bool.{cases_eq, cases_lt, cases_Bool, le-leb, lt-ltb, ltb-true}
use Rattle.std.proofs.lemmas.List.{length-set, length-replicate, get_or-replicate, get_or_past}
use Rattle.page_alloc.specs.declared.life.Life.{Life}
use Rattle.page_alloc.specs.declared.life.Life.TheVariants.{Never, Since}
use Rattle.page_alloc.specs.Lives.{lives_at}
use Rattle.page_alloc.specs.LedgerState.{LedgerState, Mark, Untouched, mark_of, life_of, has_page, is_taken, is_retired, is_held, is_free, is_alive, free_count, count_below, generations_in_use}
use Rattle.page_alloc.specs.Calls.{fresh, holding, unmarked}
use Rattle.page_alloc.proofs.Counting.{count_more}
use Rattle.page_store.specs.Content.{is_among, are_distinct}
use Rattle.tree_nodes.proofs.KeyOrder.{both_true}
use Rattle.page_store.specs.declared.slot.Slot.{Slot}
use Rattle.page_store.specs.Sectors.{Image, page_of}
use Rattle.cow_tree.specs.Walks.{OnlyHolds, HoldsWhole}
use Rattle.cow_tree.specs.Opening.{LivePagesAreWhole}
use Rattle.cow_tree.specs.TreeState.{IsAtRest}
use Rattle.cow_tree.specs.Reached.{are_fresh, holding_all}

not_is : (b : Bool) → not b ≡ true → b ≡ false
not_is true h = absurd (cc h)
not_is false h = refl

both : (a b : Bool) → a ≡ true → b ≡ true → (a && b) ≡ true
both true b h k = k
both false b h k = absurd (cc h)

and_false : (a b : Bool) → a ≡ false → (a && b) ≡ false
and_false true b h = absurd (cc h)
and_false false b h = refl

not_free : (a b c d : Bool) → d ≡ true → (a && (b && (c && not d))) ≡ false
not_free true true true d h = rw h refl
not_free true true false d h = refl
not_free true false c d h = refl
not_free false b c d h = refl

or_first : (a b : Bool) → a ≡ true → (a || b) ≡ true
or_first true b h = refl
or_first false b h = absurd (cc h)

-- ---- several pages

pub fresh_both : (s : LedgerState) (xs ys : List ℕ) → are_fresh s (xs ++ ys) ≡ (are_fresh s xs && are_fresh (holding_all s xs) ys)
fresh_both s [] ys = refl
fresh_both s (x ∷ xs) ys = ap (λ (b : Bool). is_free s x && b) (fresh_both (holding x s) xs ys) ∙ and_more (is_free s x) (are_fresh (holding x s) xs) (are_fresh (holding_all (holding x s) xs) ys)
  where
    and_more : (a b c : Bool) → (a && (b && c)) ≡ ((a && b) && c)
    and_more true b c = refl
    and_more false b c = refl

pub held_both : (s : LedgerState) (xs ys : List ℕ) → holding_all s (xs ++ ys) ≡ holding_all (holding_all s xs) ys
held_both s [] ys = refl
held_both s (x ∷ xs) ys = held_both (holding x s) xs ys

pub held_lives : (s : LedgerState) (ns : List ℕ) → length (holding_all s ns).lives ≡ length s.lives
held_lives s [] = refl
held_lives s (n ∷ ns) = held_lives (holding n s) ns ∙ length-set s.lives n (Since s.generation)

pub held_generation : (s : LedgerState) (ns : List ℕ) → (holding_all s ns).generation ≡ s.generation
held_generation s [] = refl
held_generation s (n ∷ ns) = held_generation (holding n s) ns

-- ---- a page that is held

pub within_lives : (s : LedgerState) (n : ℕ) → is_free s n ≡ true → n < length s.lives
within_lives s n h =
    let a = both_true (nat_le 2 n) (nat_lt n (length s.lives) && (not (is_taken (mark_of s n)) && not (is_held s n))) h in
    let b = both_true (nat_lt n (length s.lives)) (not (is_taken (mark_of s n)) && not (is_held s n)) a.1 in
    ltb-true n (length s.lives) b.0

life_here : (s : LedgerState) (n : ℕ) → n < length s.lives → life_of (holding n s) n ≡ Since s.generation
life_here s n lt = get_or-set_same s.lives n (Since s.generation) Never lt

life_there : (s : LedgerState) (n m : ℕ) → m ≢ n → life_of (holding n s) m ≡ life_of s m
life_there s n m ne = get_or-set_other s.lives n m (Since s.generation) Never ne

has_here : (s : LedgerState) (n : ℕ) → n < length s.lives → has_page (holding n s) s.generation n ≡ true
has_here s n lt = ap (lives_at s.generation) (life_here s n lt) ∙ le-leb s.generation s.generation (omega arith)

pub free_here : (s : LedgerState) (n : ℕ) → n < length s.lives → is_free (holding n s) n ≡ false
free_here s n lt = not_free (nat_le 2 n) (nat_lt n (length (holding n s).lives)) (not (is_taken (mark_of (holding n s) n))) (is_held (holding n s) n) (or_first (has_page (holding n s) s.generation n) _ (has_here s n lt))

pub free_there : (s : LedgerState) (n m : ℕ) → m ≢ n → is_free (holding n s) m ≡ is_free s m
free_there s n m ne =
    let life = life_there s n m ne in
    let size = length-set s.lives n (Since s.generation) in
    ap (λ (l : Life). is_free_with (length (holding n s).lives) l) life ∙ ap (λ (k : ℕ). is_free_with k (life_of s m)) size
  where
    is_free_with : ℕ → Life → Bool
    is_free_with k l = nat_le 2 m && (nat_lt m k && (not (is_taken (mark_of s m)) && not (list_any (λ generation. lives_at generation l) (generations_in_use s))))

-- ---- free pages are apart, and there are no more of them than pages

was_free : (s : LedgerState) (ns : List ℕ) (m : ℕ) → are_fresh s ns ≡ true → IsTrue (is_among m ns) → is_free s m ≡ true
was_free s [] m f h = absurd (cc h)
was_free s (n ∷ ns) m f h =
    let b = both_true (is_free s n) (are_fresh (holding n s) ns) f in
    elim (cases_eq m n) [
      | inl e ↦ ap (is_free s) e ∙ b.0
      | inr ne ↦ sym (free_there s n m ne) ∙ was_free (holding n s) ns m b.1 (among_rest m n ns ne h)
    ]
  where
    rest : (b : Bool) (m : ℕ) (ns : List ℕ) → b ≡ false → IsTrue (b || is_among m ns) → IsTrue (is_among m ns)
    rest true m ns e h = absurd (cc e)
    rest false m ns e h = h

    among_rest : (m n : ℕ) (ns : List ℕ) → m ≢ n → IsTrue (is_among m (n ∷ ns)) → IsTrue (is_among m ns)
    among_rest m n ns ne h = rest (m == n) m ns (ne_eqb m n ne) h

pub fresh_are_distinct : (s : LedgerState) (ns : List ℕ) → are_fresh s ns ≡ true → are_distinct ns ≡ true
fresh_are_distinct s [] f = refl
fresh_are_distinct s (n ∷ ns) f =
    let b = both_true (is_free s n) (are_fresh (holding n s) ns) f in
    let gone = free_here s n (within_lives s n b.0) in
    let alone : is_among n ns ≡ false = elim (cases_Bool (is_among n ns)) [ inl t ↦ let u = was_free (holding n s) ns n b.1 t in absurd (cc (u, gone)) | inr e ↦ e ] in
    both (not (is_among n ns)) (are_distinct ns) (ap not alone) (fresh_are_distinct (holding n s) ns b.1)

pub count_most : (f : ℕ → Bool) (n : ℕ) → count_below f n ≤ n
count_most f zero = omega arith
count_most f (suc n) = step (f n) (count_below f n) (count_most f n)
  where
    step : (b : Bool) (k : ℕ) → k ≤ n → cond b (1 + k) k ≤ suc n
    step true k le = omega arith
    step false k le = omega arith

pub free_less : (s : LedgerState) (n : ℕ) → is_free s n ≡ true → free_count s ≡ free_count (holding n s) + 1
free_less s n h =
    let lt = within_lives s n h in
    let size = length-set s.lives n (Since s.generation) in
    count_more (is_free s) (is_free (holding n s)) n (length s.lives) lt h (free_here s n lt) (λ m below ne. sym (free_there s n m ne))
    ∙ ap (λ (k : ℕ). count_below (is_free (holding n s)) k + 1) (sym size)

fresh_count : (s : LedgerState) (ns : List ℕ) → are_fresh s ns ≡ true → length ns ≤ free_count s
fresh_count s [] f = omega arith
fresh_count s (n ∷ ns) f =
    let b = both_true (is_free s n) (are_fresh (holding n s) ns) f in
    let less = free_less s n b.0 in
    let more = fresh_count (holding n s) ns b.1 in
    omega arith

pub fresh_few : (s : LedgerState) (ns : List ℕ) → are_fresh s ns ≡ true → length ns ≤ length s.lives
fresh_few s ns f = let a = fresh_count s ns f in let b = count_most (is_free s) (length s.lives) in omega arith

-- ---- pages that are apart are free in a new ledger

distinct_are_free : (s : LedgerState) (ns : List ℕ) → ((m : ℕ) → IsTrue (is_among m ns) → is_free s m ≡ true) → are_distinct ns ≡ true → are_fresh s ns ≡ true
distinct_are_free s [] free d = refl
distinct_are_free s (n ∷ ns) free d =
    let b = both_true (not (is_among n ns)) (are_distinct ns) d in
    let alone = not_is (is_among n ns) b.0 in
    both (is_free s n) (are_fresh (holding n s) ns) (free n (first n ns))
    (distinct_are_free (holding n s) ns (λ m t. free_there s n m (other m n ns t alone) ∙ free m (or_right (m == n) (is_among m ns) t)) b.1)
  where
    or_right : (a b : Bool) → IsTrue b → IsTrue (a || b)
    or_right true b h = refl
    or_right false b h = h

    first : (n : ℕ) (ns : List ℕ) → IsTrue (is_among n (n ∷ ns))
    first n ns = or_first (n == n) (is_among n ns) (eq-eqb n n refl)

    other : (m n : ℕ) (ns : List ℕ) → IsTrue (is_among m ns) → is_among n ns ≡ false → m ≢ n
    other m n ns t f e = let u : is_among n ns ≡ true = subst (λ (k : ℕ). is_among k ns ≡ true) e t in absurd (cc (u, f))

-- pages of an image of so many
abbrev pub AreWithin : ℕ → List ℕ → Type 0
AreWithin pages [] = Unit {0}
AreWithin pages (n ∷ ns) = (2 ≤ n) × (n < pages) × AreWithin pages ns

pub within_both : (pages : ℕ) (xs ys : List ℕ) → AreWithin pages xs → AreWithin pages ys → AreWithin pages (xs ++ ys)
within_both pages [] ys h k = k
within_both pages (x ∷ xs) ys h k = (h.0, h.1, within_both pages xs ys h.2 k)

pub among_within : (pages m : ℕ) (ns : List ℕ) → AreWithin pages ns → IsTrue (is_among m ns) → (2 ≤ m) × (m < pages)
among_within pages m [] w h = absurd (cc h)
among_within pages m (n ∷ ns) w h =
    elim (cases_eq m n) [
      | inl e ↦ (omega (arith, e, w.0), omega (arith, e, w.1))
      | inr ne ↦ among_within pages m ns w.2 (rest (m == n) (ne_eqb m n ne) h)
    ]
  where
    rest : (b : Bool) → b ≡ false → IsTrue (b || is_among m ns) → IsTrue (is_among m ns)
    rest true e h = absurd (cc e)
    rest false e h = h

no_life : (pages generation m : ℕ) → life_of (fresh pages generation) m ≡ Never
no_life pages generation m = elim (cases_lt m pages) [ inl lt ↦ get_or-replicate pages m Never Never lt | inr le ↦ get_or_past (replicate pages Never) m Never (omega (arith, length-replicate pages Never, le)) ]

no_mark : (pages generation m : ℕ) → mark_of (fresh pages generation) m ≡ Untouched
no_mark pages generation m = elim (cases_lt m pages) [ inl lt ↦ get_or-replicate pages m Untouched Untouched lt | inr le ↦ get_or_past (replicate pages Untouched) m Untouched (omega (arith, length-replicate pages Untouched, le)) ]

pub free_at_first : (pages generation m : ℕ) → 2 ≤ m → m < pages → is_free (fresh pages generation) m ≡ true
free_at_first pages generation m low high =
    let life = no_life pages generation m in
    let mark = no_mark pages generation m in
    both (nat_le 2 m) _ (le-leb 2 m low)
    (both (nat_lt m (length (fresh pages generation).lives)) _ (lt-ltb m (length (fresh pages generation).lives) (omega (arith, length-replicate pages Never, high)))
    (both (not (is_taken (mark_of (fresh pages generation) m))) (not (is_held (fresh pages generation) m)) (ap (λ (k : Mark). not (is_taken k)) mark) (ap (λ (l : Life). not (lives_at generation l || false)) life)))

pub distinct_are_fresh : (pages generation : ℕ) (ns : List ℕ) → AreWithin pages ns → are_distinct ns ≡ true → are_fresh (fresh pages generation) ns ≡ true
distinct_are_fresh pages generation ns w d =
    distinct_are_free (fresh pages generation) ns (λ m t. let i = among_within pages m ns w t in free_at_first pages generation m i.0 i.1) d

-- ---- the pages that are alive

and_not : (a b : Bool) → a ≡ false → (a && b) ≡ false
and_not true b h = absurd (cc h)
and_not false b h = refl

alive_more : (s : LedgerState) (n m : ℕ) → is_retired (mark_of s n) ≡ false → n < length s.lives → is_alive (holding n s) m ≡ (m == n || is_alive s m)
alive_more s n m marked lt =
    elim (cases_eq m n) [
      | inl e ↦
          ap (is_alive (holding n s)) e
          ∙ both (has_page (holding n s) s.generation n) (not (is_retired (mark_of s n))) (has_here s n lt) (ap not marked)
          ∙ sym (or_first (m == n) (is_alive s m) (eq-eqb m n e))
      | inr ne ↦
          ap (λ (l : Life). lives_at s.generation l && not (is_retired (mark_of s m))) (life_there s n m ne)
          ∙ ap (λ (b : Bool). b || is_alive s m) (sym (ne_eqb m n ne))
    ]

pub alive_are : (s : LedgerState) (ns : List ℕ) (m : ℕ) → ((k : ℕ) → is_retired (mark_of s k) ≡ false) → are_fresh s ns ≡ true → is_alive (holding_all s ns) m ≡ (is_among m ns || is_alive s m)
alive_are s [] m marks f = refl
alive_are s (n ∷ ns) m marks f =
    let b = both_true (is_free s n) (are_fresh (holding n s) ns) f in
    alive_are (holding n s) ns m marks b.1
    ∙ ap (λ (t : Bool). is_among m ns || t) (alive_more s n m (marks n) (within_lives s n b.0))
    ∙ swap (is_among m ns) (m == n) (is_alive s m)
  where
    swap : (a b c : Bool) → (a || (b || c)) ≡ ((b || a) || c)
    swap true true c = refl
    swap true false c = refl
    swap false true c = refl
    swap false false c = refl

not_alive : (pages generation m : ℕ) → is_alive (fresh pages generation) m ≡ false
not_alive pages generation m = ap (λ (l : Life). lives_at generation l && not (is_retired (mark_of (fresh pages generation) m))) (no_life pages generation m)

-- of a new ledger, exactly the pages that were reached
pub alive_exactly : (pages generation : ℕ) (ns : List ℕ) (m : ℕ) → are_fresh (fresh pages generation) ns ≡ true → is_alive (holding_all (fresh pages generation) ns) m ≡ is_among m ns
alive_exactly pages generation ns m f =
    alive_are (fresh pages generation) ns m (λ k. ap is_retired (no_mark pages generation k)) f
    ∙ ap (λ (t : Bool). is_among m ns || t) (not_alive pages generation m)
    ∙ or_none (is_among m ns)
  where
    or_none : (b : Bool) → (b || false) ≡ b
    or_none true = refl
    or_none false = refl

-- ---- pages that were read whole

pub holds_none : (image : Image) (s : LedgerState) → HoldsWhole image s s
holds_none image s = record { each = λ m t. inl t }

-- one page that was read
pub holds_read : (image : Image) (s now : LedgerState) (n : ℕ) → now ≡ holding n s → length (page_of image n) ≡ 4096 → HoldsWhole image s now
holds_read image s now n held long = record {
  each = λ m t.
      elim (cases_eq m n) [
        | inl e ↦ inr (ap (λ (k : ℕ). length (page_of image k)) e ∙ long)
        | inr ne ↦ inl (sym (there m ne) ∙ t)
      ];
}
  where
    there : (m : ℕ) → m ≢ n → is_alive now m ≡ is_alive s m
    there m ne = ap (λ (l : LedgerState). is_alive l m) held ∙ ap (λ (l : Life). lives_at s.generation l && not (is_retired (mark_of s m))) (life_there s n m ne)

pub wholes_again : {image : Image} {a b c : LedgerState} → HoldsWhole image a b → HoldsWhole image b c → HoldsWhole image a c
wholes_again first second = record { each = λ m t. elim (second.each m t) [ inl before ↦ first.each m before | inr long ↦ inr long ] }

-- of a new ledger, all pages that are alive
pub all_whole : (image : Image) (pages generation : ℕ) (first now : LedgerState) → first ≡ fresh pages generation → HoldsWhole image first now → LivePagesAreWhole image now
all_whole image pages generation first now is w m t =
    elim (w.each m t) [
      | inl before ↦ let none : is_alive first m ≡ false = ap (λ (s : LedgerState). is_alive s m) is ∙ not_alive pages generation m in absurd (cc (before, none))
      | inr long ↦ long
    ]

-- ---- all else of a ledger

pub holds_again : {a b c : LedgerState} → OnlyHolds a b → OnlyHolds b c → OnlyHolds a c
holds_again first second = record { pages = second.pages ∙ first.pages; marks = second.marks ∙ first.marks; generation = second.generation ∙ first.generation; pins = second.pins ∙ first.pins }

no_marks : (pages : ℕ) → unmarked (replicate pages Untouched) ≡ replicate pages Untouched
no_marks zero = refl
no_marks (suc n) = ap (λ (ms : List Mark). Untouched ∷ ms) (no_marks n)

-- no pin of a new ledger is out
pub no_pins : (slot : Slot) (first new : LedgerState) → first ≡ fresh slot.root.pages slot.seal → OnlyHolds first new → new.pins ≡ replicate 32 None
no_pins slot first new is only = only.pins ∙ ap (λ (s : LedgerState). s.pins) is

-- what was held of a new ledger is at rest
pub at_rest : (slot : Slot) (first new : LedgerState) → first ≡ fresh slot.root.pages slot.seal → OnlyHolds first new → IsAtRest slot new
at_rest slot first new is only = record {
  pages = only.pages ∙ ap (λ (s : LedgerState). length s.lives) is ∙ length-replicate slot.root.pages Never;
  generation = only.generation ∙ ap (λ (s : LedgerState). s.generation) is;
  marked = ap (λ (ms : List Mark). length ms) marks ∙ length-replicate slot.root.pages Untouched;
  unmarked = ap unmarked marks ∙ no_marks slot.root.pages ∙ sym marks;
}
  where
    marks : new.marks ≡ replicate slot.root.pages Untouched
    marks = only.marks ∙ ap (λ (s : LedgerState). s.marks) is
