-- What a page's use says of it.
use Rattle.std.proofs.Common.{◌≡◌, ◌<◌, ◌≤◌, ◌+◌, ◌-◌, ℕ, Bool, true, false, List, leb, ltb, length, get_or, refl, sym, ap, ◌∙◌, arith, inl, inr}
use Rattle.std.specs.Prelude.{◌&&◌, ◌||◌, not, Option}
use Rattle.std.proofs.lemmas.Bool.{le-leb, lt-leb, lt-ltb, ltb-true, and_parts, cases_lt, false≢true}
use Rattle.std.proofs.lemmas.Bool.Decides.{nat_tests}
use Rattle.std.proofs.lemmas.List.{get_or-map, get_or_past}
use Rattle.page_alloc.specs.declared.life.Life.{Life}
use Rattle.page_alloc.specs.declared.life.Life.TheVariants.{Never, Since, Between}
use Rattle.page_alloc.specs.declared.runs.Starts.{Starts}
use Rattle.page_alloc.specs.Lives.{lives_at}
use Rattle.page_alloc.specs.LedgerState.{Mark, Untouched, is_taken, is_retired, is_free, is_alive, free_count, count_below}
use Rattle.page_alloc.specs.Kept.{mark_at, marks_of, state, is_pinned, HasEnded, GoesOn, Suits, KeepsLedger}
use Rattle.page_alloc.specs.Runs.{Use, Root, Waiting, Retired, Held, Taken, Free, use_at, use_of, at, IsInverse, AreRuns}
use Rattle.page_alloc.proofs.Counting.{count_same, count_from}

abbrev pub is_free_use : Use → Bool
is_free_use Free = true
is_free_use other = false

abbrev pub is_held_use : Use → Bool
is_held_use Held = true
is_held_use other = false

-- an ended life is not that of the generation
pub ended_before : (generation : ℕ) (life : Life) → HasEnded generation life → lives_at generation life ≡ false
ended_before g Never h = refl
ended_before g (Since from) h = absurd h
ended_before g (Between from until) h = grind (arith, nat_tests, h)

pub goes_on : (generation : ℕ) (life : Life) → GoesOn generation life → lives_at generation life ≡ true
goes_on g Never h = absurd h
goes_on g (Since from) h = le-leb from g h
goes_on g (Between from until) h = absurd h

pub waiting_at : (starts : Starts) (place : ℕ) → 2 ≤ place → place < starts.retired → use_at starts place ≡ Waiting
waiting_at starts place low high = grind (arith, nat_tests, low, high)

pub at_waiting : (starts : Starts) (place : ℕ) → use_at starts place ≡ Waiting → place < starts.retired
at_waiting starts place is = grind (arith, nat_tests, is)

pub use_is_free : (starts : Starts) (n place : ℕ) → AreRuns starts n → is_free_use (use_at starts place) ≡ leb starts.free place
use_is_free starts n place runs = grind (arith, nat_tests, runs.retired, runs.held, runs.taken, runs.free)

blocked : (a b c d : Bool) → d ≡ true → (a && (b && (c && not d))) ≡ false
blocked true true true d e = ap not e
blocked true true false d e = refl
blocked true false c d e = refl
blocked false b c d e = refl

either : (a b : Bool) → b ≡ true → (a || b) ≡ true
either true b e = refl
either false b e = e

neither : (a b : Bool) → a ≡ false → b ≡ false → (a || b) ≡ false
neither true b e f = absurd (cc e)
neither false b e f = f

first_of_two : (a b : Bool) → a ≡ true → (a || b) ≡ true
first_of_two true b e = refl
first_of_two false b e = absurd (cc e)

untaken : (a b d : Bool) → a ≡ true → b ≡ true → d ≡ false → (a && (b && (true && not d))) ≡ true
untaken true true d e f h = ap not h
untaken true false d e f h = absurd (cc f)
untaken false b d e f h = absurd (cc e)

excluded : (a b c : Bool) → (a && (b && (false && c))) ≡ false
excluded true true c = refl
excluded true false c = refl
excluded false b c = refl

pub free_by_use : (generation : ℕ) (pins : List (Option ℕ)) (p n : ℕ) (life : Life) (now : Use) → p < n → Suits generation pins p life now
    → (leb 2 p && (ltb p n && (not (is_taken (mark_at now)) && not (lives_at generation life || is_pinned pins life)))) ≡ is_free_use now
free_by_use g pins p n life Root lt h = ap (λ (b : Bool). b && (ltb p n && (true && not (lives_at g life || is_pinned pins life)))) (lt-leb 2 p h.0)
free_by_use g pins p n life Waiting lt h = blocked (leb 2 p) (ltb p n) true (lives_at g life || is_pinned pins life) (either (lives_at g life) (is_pinned pins life) h.2)
free_by_use g pins p n life Retired lt h = blocked (leb 2 p) (ltb p n) true (lives_at g life || is_pinned pins life) (first_of_two (lives_at g life) (is_pinned pins life) (goes_on g life h.1))
free_by_use g pins p n life Held lt h = blocked (leb 2 p) (ltb p n) true (lives_at g life || is_pinned pins life) (first_of_two (lives_at g life) (is_pinned pins life) (goes_on g life h.1))
free_by_use g pins p n life Taken lt h = excluded (leb 2 p) (ltb p n) (not (lives_at g life || is_pinned pins life))
free_by_use g pins p n life Free lt h = untaken (leb 2 p) (ltb p n) (lives_at g life || is_pinned pins life) (le-leb 2 p h.0) (lt-ltb p n lt) (neither (lives_at g life) (is_pinned pins life) (ended_before g life h.1) h.2)

with_true : (a b : Bool) → a ≡ b → (a && true) ≡ b
with_true true b e = e
with_true false b e = e

with_false : (a : Bool) → (a && false) ≡ false
with_false true = refl
with_false false = refl

pub alive_by_use : (generation : ℕ) (pins : List (Option ℕ)) (p : ℕ) (life : Life) (now : Use) → Suits generation pins p life now
    → (lives_at generation life && not (is_retired (mark_at now))) ≡ is_held_use now
alive_by_use g pins p life Root h = ap (λ (l : Life). lives_at g l && true) h.1
alive_by_use g pins p life Waiting h = with_true (lives_at g life) false (ended_before g life h.1)
alive_by_use g pins p life Retired h = with_false (lives_at g life)
alive_by_use g pins p life Held h = with_true (lives_at g life) true (goes_on g life h.1)
alive_by_use g pins p life Taken h = with_true (lives_at g life) false (ended_before g life h.1)
alive_by_use g pins p life Free h = with_true (lives_at g life) false (ended_before g life h.1)

-- the use of which a test by use is true
pub only_free : (now : Use) → is_free_use now ≡ true → now ≡ Free
only_free Root e = absurd (cc e)
only_free Waiting e = absurd (cc e)
only_free Retired e = absurd (cc e)
only_free Held e = absurd (cc e)
only_free Taken e = absurd (cc e)
only_free Free e = refl

pub only_held : (now : Use) → is_held_use now ≡ true → now ≡ Held
only_held Root e = absurd (cc e)
only_held Waiting e = absurd (cc e)
only_held Retired e = absurd (cc e)
only_held Held e = refl
only_held Taken e = absurd (cc e)
only_held Free e = absurd (cc e)

-- a ledger's fields, and what they say of its state
module _ (starts : Starts) (pages places : List ℕ) (lives : List Life) (generation : ℕ) (pins : List (Option ℕ)) (inverse : IsInverse pages places) (runs : AreRuns starts (length pages)) (keeps : KeepsLedger starts places (length pages) lives generation pins) where
  pub mark_is : (p : ℕ) → p < length pages → get_or (marks_of starts places) p Untouched ≡ mark_at (use_of starts places p)
  mark_is p lt = get_or-map (λ place. mark_at (use_at starts place)) places p 0 Untouched (omega (arith, lt, inverse.same))

  pub free_is : (p : ℕ) → p < length pages → is_free (state starts places lives generation pins) p ≡ is_free_use (use_of starts places p)
  free_is p lt =
      let life : Life = get_or lives p Never in
      ap (λ (m : Mark). leb 2 p && (ltb p (length lives) && (not (is_taken m) && not (lives_at generation life || is_pinned pins life)))) (mark_is p lt)
      ∙ free_by_use generation pins p (length lives) life (use_of starts places p) (omega (arith, lt, keeps.size)) (keeps.suits p lt)

  pub alive_is : (p : ℕ) → p < length pages → is_alive (state starts places lives generation pins) p ≡ is_held_use (use_of starts places p)
  alive_is p lt =
      let life : Life = get_or lives p Never in
      ap (λ (m : Mark). lives_at generation life && not (is_retired m)) (mark_is p lt)
      ∙ alive_by_use generation pins p life (use_of starts places p) (keeps.suits p lt)

  pub alive_past : (p : ℕ) → length pages ≤ p → is_alive (state starts places lives generation pins) p ≡ false
  alive_past p le = ap (λ (l : Life). lives_at generation l && not (is_retired (get_or (marks_of starts places) p Untouched))) (get_or_past lives p Never (omega (arith, le, keeps.size)))

  pub free_count_is : free_count (state starts places lives generation pins) + starts.free ≡ length pages
  free_count_is =
      let s = state starts places lives generation pins in
      let same = count_same (is_free s) (λ p. leb starts.free (at places p)) (length pages) (λ p lt. free_is p lt ∙ use_is_free starts (length pages) (at places p) runs) in
      let all = count_from pages places inverse (length pages - starts.free) starts.free (omega (arith, runs.within)) in
      let size = ap (count_below (is_free s)) keeps.size in
      omega (arith, same, all, size, runs.within)

  pub alive_inside : (p : ℕ) → is_alive (state starts places lives generation pins) p ≡ true → p < length pages
  alive_inside p alive =
      elim (cases_lt p (length pages)) [
        | inl within ↦ within
        | inr past ↦ absurd (false≢true (sym (alive_past p past) ∙ alive))
      ]

  pub alive_is_held : (p : ℕ) → is_alive (state starts places lives generation pins) p ≡ true → use_of starts places p ≡ Held
  alive_is_held p alive = only_held (use_of starts places p) (sym (alive_is p (alive_inside p alive)) ∙ alive)

  pub free_inside : (p : ℕ) → is_free (state starts places lives generation pins) p ≡ true → p < length pages
  free_inside p free =
      let life : Life = get_or lives p Never in
      let held = lives_at generation life || is_pinned pins life in
      let inside = and_parts (ltb p (length lives)) (not (is_taken (get_or (marks_of starts places) p Untouched)) && not held) (and_parts (leb 2 p) (ltb p (length lives) && (not (is_taken (get_or (marks_of starts places) p Untouched)) && not held)) free).1 in
      omega (arith, ltb-true p (length lives) inside.0, keeps.size)

  pub free_is_free : (p : ℕ) → is_free (state starts places lives generation pins) p ≡ true → use_of starts places p ≡ Free
  free_is_free p free = only_free (use_of starts places p) (sym (free_is p (free_inside p free)) ∙ free)
