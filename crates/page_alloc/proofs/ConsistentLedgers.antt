-- What a ledger keeps true of its fields, after each call.
use Rattle.std.proofs.Common.{◌≡◌, ◌<◌, ◌≤◌, ℕ, zero, suc, ltb, Bool, List, [], ◌∷◌, Option, Some, None, cond, length, get_or, set, replicate, refl, sym, ap, ◌∙◌, arith, inl, inr, subst}
use Rattle.std.proofs.lemmas.Bool.{cases_eq, eq-eqb, ne_eqb, cases_Bool, cases_lt, lt-ltb, le-ltb}
use Rattle.std.proofs.lemmas.List.{length-set, length-replicate, get_or-set_same, get_or-set_other, set_past}
use Rattle.page_alloc.specs.declared.life.Life.{Life}
use Rattle.page_alloc.specs.declared.life.Life.TheVariants.{Never, Since, Between}
use Rattle.page_alloc.specs.declared.runs.Starts.{Starts}
use Rattle.page_alloc.specs.Lives.{lives_at, ended_at}
use Rattle.page_alloc.specs.LedgerState.{Mark}
use Rattle.page_alloc.specs.Calls.{life_from, lives_from}
use Rattle.page_alloc.specs.Kept.{mark_at, marks_of, is_pinned, swept, HasEnded, GoesOn, Suits, AtMost, KeepsLedger}
use Rattle.page_alloc.specs.Runs.{Use, Root, Waiting, Retired, Held, Taken, Free, use_of, after_switch, OneChanges}
use Rattle.page_alloc.proofs.Marks.{mark_get, marks_count, lives_from_get}
use Rattle.page_alloc.proofs.Pins.{any_less, any_more}
use Rattle.page_alloc.proofs.Uses.{ended_before}

module _ (starts after : Starts) (places placed : List ℕ) (n m page : ℕ) (lives : List Life) (generation : ℕ) (pins : List (Option ℕ)) (keeps : KeepsLedger starts places n lives generation pins) (size : m ≡ n) (within : page < n) where
  -- one page has another use
  pub keeps_one : (now : Use) → OneChanges n page now (use_of starts places) (use_of after placed) → Suits generation pins page (get_or lives page Never) now → KeepsLedger after placed m lives generation pins
  keeps_one now one suits = record {
    size = keeps.size ∙ sym size;
    pin_count = keeps.pin_count;
    past = keeps.past;
    suits = λ p lt.
        let inside : p < n = omega (arith, lt, size) in
        elim (cases_eq p page) [
          | inl same ↦
              let is : use_of after placed p ≡ now = one p inside ∙ ap (λ (b : Bool). cond b now (use_of starts places p)) (eq-eqb p page same) in
              subst (λ (u : Use). Suits generation pins p (get_or lives p Never) u) (sym is) (subst (λ (k : ℕ). Suits generation pins k (get_or lives k Never) now) (sym same) suits)
          | inr other ↦
              let is : use_of after placed p ≡ use_of starts places p = one p inside ∙ ap (λ (b : Bool). cond b now (use_of starts places p)) (ne_eqb p page other) in
              subst (λ (u : Use). Suits generation pins p (get_or lives p Never) u) (sym is) (keeps.suits p inside)
        ];
  }

  -- one page has another use and another life
  pub keeps_held : (now : Use) (life : Life) → OneChanges n page now (use_of starts places) (use_of after placed) → Suits generation pins page life now → KeepsLedger after placed m (set lives page life) generation pins
  keeps_held now life one suits = record {
    size = length-set lives page life ∙ keeps.size ∙ sym size;
    pin_count = keeps.pin_count;
    past = keeps.past;
    suits = λ p lt.
        let inside : p < n = omega (arith, lt, size) in
        elim (cases_eq p page) [
          | inl same ↦
              let is : use_of after placed p ≡ now = one p inside ∙ ap (λ (b : Bool). cond b now (use_of starts places p)) (eq-eqb p page same) in
              let lived : get_or (set lives page life) p Never ≡ life = ap (λ (k : ℕ). get_or (set lives page life) k Never) same ∙ get_or-set_same lives page life Never (omega (arith, within, keeps.size)) in
              subst (λ (u : Use). Suits generation pins p (get_or (set lives page life) p Never) u) (sym is) (subst (λ (l : Life). Suits generation pins p l now) (sym lived) (subst (λ (k : ℕ). Suits generation pins k life now) (sym same) suits))
          | inr other ↦
              let is : use_of after placed p ≡ use_of starts places p = one p inside ∙ ap (λ (b : Bool). cond b now (use_of starts places p)) (ne_eqb p page other) in
              subst (λ (u : Use). Suits generation pins p (get_or (set lives page life) p Never) u) (sym is) (subst (λ (l : Life). Suits generation pins p l (use_of starts places p)) (sym (get_or-set_other lives page p life Never other)) (keeps.suits p inside))
        ];
  }

later_end : (old new : ℕ) (life : Life) → old < new → HasEnded old life → HasEnded new life
later_end old new Never lt h = h
later_end old new (Since from) lt h = absurd h
later_end old new (Between from until) lt h = omega (arith, lt, h)

goes_on_later : (old new : ℕ) (life : Life) → old < new → GoesOn old life → GoesOn new life
goes_on_later old new Never lt h = absurd h
goes_on_later old new (Since from) lt h = omega (arith, lt, h)
goes_on_later old new (Between from until) lt h = absurd h

just_ended : (old new : ℕ) (life : Life) → GoesOn old life → HasEnded new (ended_at new life)
just_ended old new Never h = absurd h
just_ended old new (Since from) h = omega arith
just_ended old new (Between from until) h = absurd h

at_most_later : (old new : ℕ) (pin : Option ℕ) → old < new → AtMost old pin → AtMost new pin
at_most_later old new None lt h = h
at_most_later old new (Some g) lt h = omega (arith, lt, h)

-- a waiting page after a sweep
swept_suits : (generation : ℕ) (pins : List (Option ℕ)) (page : ℕ) (life : Life) → 2 ≤ page → HasEnded generation life → Suits generation pins page life (swept pins life Waiting)
swept_suits g pins page life low ended =
    elim (cases_Bool (is_pinned pins life)) [
      | inl pinned ↦ subst (λ (u : Use). Suits g pins page life u) (sym (ap (λ (b : Bool). cond b Waiting Free) pinned)) (low, ended, pinned)
      | inr loose ↦ subst (λ (u : Use). Suits g pins page life u) (sym (ap (λ (b : Bool). cond b Waiting Free) loose)) (low, ended, loose)
    ]

settled_suits : (old new : ℕ) (pins : List (Option ℕ)) (page : ℕ) (life : Life) (now : Use) → old < new → Suits old pins page life now → Suits new pins page (life_from new life (mark_at now)) (swept pins (life_from new life (mark_at now)) (after_switch now))
settled_suits old new pins page life Root lt h = h
settled_suits old new pins page life Waiting lt h = swept_suits new pins page life h.0 (later_end old new life lt h.1)
settled_suits old new pins page life Retired lt h = swept_suits new pins page (ended_at new life) h.0 (just_ended old new life h.1)
settled_suits old new pins page life Held lt h = (h.0, goes_on_later old new life lt h.1)
settled_suits old new pins page life Taken lt h = (h.0, omega arith)
settled_suits old new pins page life Free lt h = (h.0, later_end old new life lt h.1, h.2)

lives_from_count : (generation : ℕ) (lives : List Life) (marks : List Mark) → length (lives_from generation lives marks) ≡ length lives
lives_from_count g [] marks = refl
lives_from_count g (life ∷ lives) [] = refl
lives_from_count g (life ∷ lives) (mark ∷ marks) = ap suc (lives_from_count g lives marks)

-- once the running commit has switched
pub keeps_advanced : (starts after : Starts) (places placed : List ℕ) (n m : ℕ) (lives lived : List Life) (old new : ℕ) (pins : List (Option ℕ)) → KeepsLedger starts places n lives old pins → length places ≡ n → m ≡ n → old < new
    → lived ≡ lives_from new lives (marks_of starts places)
    → ((p : ℕ) → p < n → use_of after placed p ≡ swept pins (get_or lived p Never) (after_switch (use_of starts places p)))
    → KeepsLedger after placed m lived new pins
keeps_advanced starts after places placed n m lives lived old new pins keeps count size lt are uses = record {
  size = ap length are ∙ lives_from_count new lives (marks_of starts places) ∙ keeps.size ∙ sym size;
  pin_count = keeps.pin_count;
  past = λ number. at_most_later old new (get_or pins number None) lt (keeps.past number);
  suits = λ p below.
      let inside : p < n = omega (arith, below, size) in
      let now = use_of starts places p in
      let marks = marks_of starts places in
      let life : get_or lived p Never ≡ life_from new (get_or lives p Never) (mark_at now) =
      ap (λ (ls : List Life). get_or ls p Never) are
      ∙ lives_from_get new lives marks p (omega (arith, marks_count starts places, count, keeps.size)) (omega (arith, inside, keeps.size))
      ∙ ap (λ (mark : Mark). life_from new (get_or lives p Never) mark) (mark_get starts places p (omega (arith, inside, count))) in
      subst (λ (u : Use). Suits new pins p (get_or lived p Never) u) (sym (uses p inside))
      (subst (λ (l : Life). Suits new pins p l (swept pins l (after_switch now))) (sym life) (settled_suits old new pins p (get_or lives p Never) now lt (keeps.suits p inside)));
}

unpinned_suits : (generation : ℕ) (pins : List (Option ℕ)) (number page : ℕ) (life : Life) (now : Use) → Suits generation pins page life now → Suits generation (set pins number None) page life (swept (set pins number None) life now)
unpinned_suits g pins number page life Root h = h
unpinned_suits g pins number page life Waiting h = swept_suits g (set pins number None) page life h.0 h.1
unpinned_suits g pins number page life Retired h = h
unpinned_suits g pins number page life Held h = h
unpinned_suits g pins number page life Taken h = (h.0, h.1, any_less (λ generation. lives_at generation life) pins number h.2)
unpinned_suits g pins number page life Free h = (h.0, h.1, any_less (λ generation. lives_at generation life) pins number h.2)

past_of : (generation : ℕ) (pins : List (Option ℕ)) (number : ℕ) (pin : Option ℕ) → AtMost generation pin → ((k : ℕ) → AtMost generation (get_or pins k None)) → (k : ℕ) → AtMost generation (get_or (set pins number pin) k None)
past_of g pins number pin most all k =
    elim (cases_eq k number) [
      | inl same ↦
          elim (cases_lt number (length pins)) [
            | inl within ↦ subst (λ (o : Option ℕ). AtMost g o) (sym (ap (λ (i : ℕ). get_or (set pins number pin) i None) same ∙ get_or-set_same pins number pin None within)) most
            | inr past ↦ subst (λ (os : List (Option ℕ)). AtMost g (get_or os k None)) (sym (set_past pins number pin past)) (all k)
          ]
      | inr other ↦ subst (λ (o : Option ℕ). AtMost g o) (sym (get_or-set_other pins number k pin None other)) (all k)
    ]

-- once a pin is spent
pub keeps_unpinned : (starts after : Starts) (places placed : List ℕ) (n m : ℕ) (lives : List Life) (generation : ℕ) (pins : List (Option ℕ)) (number : ℕ) → KeepsLedger starts places n lives generation pins → m ≡ n
    → ((p : ℕ) → p < n → use_of after placed p ≡ swept (set pins number None) (get_or lives p Never) (use_of starts places p))
    → KeepsLedger after placed m lives generation (set pins number None)
keeps_unpinned starts after places placed n m lives g pins number keeps size uses = record {
  size = keeps.size ∙ sym size;
  pin_count = length-set pins number None ∙ keeps.pin_count;
  past = past_of g pins number None tt keeps.past;
  suits = λ p below.
      let inside : p < n = omega (arith, below, size) in
      subst (λ (u : Use). Suits g (set pins number None) p (get_or lives p Never) u) (sym (uses p inside)) (unpinned_suits g pins number p (get_or lives p Never) (use_of starts places p) (keeps.suits p inside));
}

pinned_suits : (generation : ℕ) (pins : List (Option ℕ)) (number page : ℕ) (life : Life) (now : Use) → get_or pins number None ≡ None → Suits generation pins page life now → Suits generation (set pins number (Some generation)) page life now
pinned_suits g pins number page life Root none h = h
pinned_suits g pins number page life Waiting none h = (h.0, h.1, any_more (λ generation. lives_at generation life) pins number g (ended_before g life h.1) none ∙ h.2)
pinned_suits g pins number page life Retired none h = h
pinned_suits g pins number page life Held none h = h
pinned_suits g pins number page life Taken none h = (h.0, h.1, any_more (λ generation. lives_at generation life) pins number g (ended_before g life h.1) none ∙ h.2)
pinned_suits g pins number page life Free none h = (h.0, h.1, any_more (λ generation. lives_at generation life) pins number g (ended_before g life h.1) none ∙ h.2)

-- once the current generation is pinned
pub keeps_pinned : (starts : Starts) (places : List ℕ) (n : ℕ) (lives : List Life) (generation : ℕ) (pins : List (Option ℕ)) (number : ℕ) → KeepsLedger starts places n lives generation pins → get_or pins number None ≡ None → KeepsLedger starts places n lives generation (set pins number (Some generation))
keeps_pinned starts places n lives g pins number keeps none = record {
  size = keeps.size;
  pin_count = length-set pins number (Some g) ∙ keeps.pin_count;
  past = past_of g pins number (Some g) (omega arith) keeps.past;
  suits = λ p below. pinned_suits g pins number p (get_or lives p Never) (use_of starts places p) none (keeps.suits p below);
}

same_everywhere : {X : Type 0} (n p : ℕ) (x : X) → get_or (replicate n x) p x ≡ x
same_everywhere zero p x = refl
same_everywhere (suc n) zero x = refl
same_everywhere (suc n) (suc p) x = same_everywhere n p x

-- before any call
pub keeps_fresh : (starts : Starts) (places : List ℕ) (n : ℕ) (generation : ℕ) → ((p : ℕ) → p < n → use_of starts places p ≡ cond (ltb p 2) Root Free) → KeepsLedger starts places n (replicate n Never) generation (replicate 32 None)
keeps_fresh starts places n g uses = record {
  size = length-replicate n Never;
  pin_count = refl;
  past = λ number. subst (λ (o : Option ℕ). AtMost g o) (sym (same_everywhere 32 number None)) tt;
  suits = λ p lt. subst (λ (l : Life). Suits g (replicate 32 None) p l (use_of starts places p)) (sym (same_everywhere n p Never))
      (elim (cases_lt p 2) [
        | inl low ↦ subst (λ (u : Use). Suits g (replicate 32 None) p Never u) (sym (uses p lt ∙ ap (λ (b : Bool). cond b Root Free) (lt-ltb p 2 low))) (low, refl)
        | inr high ↦ subst (λ (u : Use). Suits g (replicate 32 None) p Never u) (sym (uses p lt ∙ ap (λ (b : Bool). cond b Root Free) (le-ltb p 2 high))) (high, tt, refl)
      ]);
}
