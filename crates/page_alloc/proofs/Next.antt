-- Which pages a generation has after a switch.
use Rattle.std.proofs.Common.{◌≡◌, ◌<◌, ◌≤◌, ℕ, Bool, true, false, List, Option, Some, None, length, get_or, refl, sym, ap, ◌∙◌, arith}
use Rattle.std.specs.Prelude.{◌&&◌, ◌||◌, not, IfSome}
use Rattle.std.proofs.lemmas.Bool.{lt-leb, le-leb}
use Rattle.std.proofs.lemmas.Bool.Decides.{nat_tests}
use Rattle.page_alloc.specs.declared.life.Life.{Life}
use Rattle.page_alloc.specs.declared.life.Life.TheVariants.{Never, Since, Between}
use Rattle.page_alloc.specs.declared.runs.Starts.{Starts}
use Rattle.page_alloc.specs.Lives.{lives_at}
use Rattle.page_alloc.specs.LedgerState.{Mark, is_taken, is_retired, has_page, has_page_next}
use Rattle.page_alloc.specs.Calls.{life_from, lives_from, advanced}
use Rattle.page_alloc.specs.Kept.{mark_at, marks_of, state, HasEnded, Suits, AtMost, KeepsLedger}
use Rattle.page_alloc.specs.Runs.{Use, Root, Waiting, Retired, Held, Taken, Free, use_of}
use Rattle.page_alloc.proofs.Marks.{mark_get, marks_count, lives_from_get}
use Rattle.page_alloc.proofs.Sets.{none_of}

ended_later : (old new : ℕ) (life : Life) → old < new → HasEnded old life → lives_at new life ≡ false
ended_later old new Never lt h = refl
ended_later old new (Since from) lt h = absurd h
ended_later old new (Between from until) lt h = grind (arith, nat_tests, lt, h)

ended_now : (old : ℕ) (life : Life) → HasEnded old life → lives_at old life ≡ false
ended_now old Never h = refl
ended_now old (Since from) h = absurd h
ended_now old (Between from until) h = grind (arith, nat_tests, h)

-- the next generation has what is alive, and what was taken
pub next_has : (old new : ℕ) (pins : List (Option ℕ)) (page : ℕ) (life : Life) (now : Use) → old < new → Suits old pins page life now
    → lives_at new (life_from new life (mark_at now)) ≡ ((lives_at old life && not (is_retired (mark_at now))) || is_taken (mark_at now))
next_has old new pins page life Root lt h = ap (lives_at new) h.1 ∙ sym (ap (λ (l : Life). (lives_at old l && true) || false) h.1)
next_has old new pins page life Waiting lt h = ended_later old new life lt h.1 ∙ sym (ap (λ (b : Bool). (b && true) || false) (ended_now old life h.1))
next_has old new pins page Never Retired lt h = absurd h.1
next_has old new pins page (Since from) Retired lt h = grind (arith, nat_tests)
next_has old new pins page (Between from until) Retired lt h = absurd h.1
next_has old new pins page Never Held lt h = absurd h.1
next_has old new pins page (Since from) Held lt h = grind (arith, nat_tests, lt, h.1)
next_has old new pins page (Between from until) Held lt h = absurd h.1
next_has old new pins page life Taken lt h = le-leb new new (omega arith) ∙ sym (ap (λ (b : Bool). (b && true) || true) (ended_now old life h.1))
next_has old new pins page life Free lt h = ended_later old new life lt h.1 ∙ sym (ap (λ (b : Bool). (b && true) || false) (ended_now old life h.1))

-- a pinned generation has the pages that it had
pub pinned_has : (old new : ℕ) (pins : List (Option ℕ)) (page : ℕ) (life : Life) (now : Use) (number kept : ℕ) → old < new → kept ≤ old → get_or pins number None ≡ Some kept → Suits old pins page life now
    → lives_at kept (life_from new life (mark_at now)) ≡ lives_at kept life
pinned_has old new pins page life Root number kept lt le is h = refl
pinned_has old new pins page life Waiting number kept lt le is h = refl
pinned_has old new pins page Never Retired number kept lt le is h = refl
pinned_has old new pins page (Since from) Retired number kept lt le is h = grind (arith, nat_tests, lt, le)
pinned_has old new pins page (Between from until) Retired number kept lt le is h = refl
pinned_has old new pins page life Held number kept lt le is h = refl
pinned_has old new pins page life Taken number kept lt le is h = lt-leb new kept (omega (arith, lt, le)) ∙ sym (none_of (λ g. lives_at g life) pins h.2 number kept is)
pinned_has old new pins page life Free number kept lt le is h = refl

module _ (starts : Starts) (places : List ℕ) (n : ℕ) (lives : List Life) (old new : ℕ) (pins : List (Option ℕ)) (keeps : KeepsLedger starts places n lives old pins) (size : length places ≡ n) (later : old < new) where
  life_next : (page : ℕ) → page < length lives → get_or (lives_from new lives (marks_of starts places)) page Never ≡ life_from new (get_or lives page Never) (mark_at (use_of starts places page))
  life_next page lt =
      lives_from_get new lives (marks_of starts places) page (omega (arith, marks_count starts places, size, keeps.size)) lt
      ∙ ap (λ (mark : Mark). life_from new (get_or lives page Never) mark) (mark_get starts places page (omega (arith, lt, size, keeps.size)))

  pub next_pages : (page : ℕ) → page < length lives → has_page (advanced new (state starts places lives old pins)) new page ≡ has_page_next (state starts places lives old pins) page
  next_pages page lt =
      ap (lives_at new) (life_next page lt)
      ∙ next_has old new pins page (get_or lives page Never) (use_of starts places page) later (keeps.suits page (omega (arith, lt, keeps.size)))
      ∙ sym (ap (λ (mark : Mark). (lives_at old (get_or lives page Never) && not (is_retired mark)) || is_taken mark) (mark_get starts places page (omega (arith, lt, size, keeps.size))))

  pinned_at : (number : ℕ) (pin : Option ℕ) → get_or pins number None ≡ pin → AtMost old pin → IfSome pin (λ kept. (page : ℕ) → page < length lives → has_page (advanced new (state starts places lives old pins)) kept page ≡ has_page (state starts places lives old pins) kept page)
  pinned_at number None is most = tt
  pinned_at number (Some kept) is most = λ page lt.
      ap (lives_at kept) (life_next page lt)
      ∙ pinned_has old new pins page (get_or lives page Never) (use_of starts places page) number kept later most is (keeps.suits page (omega (arith, lt, keeps.size)))

  pub pinned_pages : (number : ℕ) → IfSome (get_or pins number None) (λ kept. (page : ℕ) → page < length lives → has_page (advanced new (state starts places lives old pins)) kept page ≡ has_page (state starts places lives old pins) kept page)
  pinned_pages number = pinned_at number (get_or pins number None) refl (keeps.past number)
