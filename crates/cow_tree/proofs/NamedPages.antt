-- Pages that are new where some were reached, as lists and as a ledger have them.
use Rattle.std.proofs.Common.{◌≡◌, ◌≢◌, inl, inr, ℕ, Bool, true, false, List, [], ◌∷◌, ◌++◌, length, refl, sym, ap, subst, ◌∙◌, arith, eq-eqb, ne_eqb, append_assoc}
use Rattle.std.specs.Prelude.{◌&&◌, ◌||◌, ◌==◌, not, nat_le, nat_lt}
use Rattle.std.proofs.lemmas.Bool.{cases_eq, cases_Bool, leb-true}
use Rattle.std.proofs.lemmas.List.{length-replicate, length-set, append-nil}
use Rattle.page_alloc.specs.declared.life.Life.TheVariants.{Never, Since}
use Rattle.page_alloc.specs.LedgerState.{LedgerState, is_free, is_held, is_taken, mark_of}
use Rattle.page_alloc.specs.Calls.{fresh, holding}
use Rattle.page_store.specs.Content.{is_among, are_distinct}
use Rattle.tree_nodes.proofs.KeyOrder.{both_true}
use Rattle.cow_tree.specs.Reached.{are_fresh, holding_all}
use Rattle.cow_tree.specs.Walks.{AreHeld}
use Rattle.cow_tree.proofs.Reaching.{free_at_first, free_here, free_there, within_lives}

not_is : (b : Bool) → not b ≡ true → b ≡ false
not_is true h = absurd (cc h)
not_is false h = refl

both : (a b : Bool) → a ≡ true → b ≡ true → (a && b) ≡ true
both true b h k = k
both false b h k = absurd (cc h)

-- ---- lists

-- each page is new, where those before it were reached too
abbrev pub are_new : List ℕ → List ℕ → Bool
are_new reached [] = true
are_new reached (n ∷ ns) = not (is_among n reached) && are_new (reached ++ n ∷ []) ns

among_both : (n : ℕ) (xs ys : List ℕ) → is_among n (xs ++ ys) ≡ (is_among n xs || is_among n ys)
among_both n [] ys = refl
among_both n (x ∷ xs) ys = ap (λ (b : Bool). n == x || b) (among_both n xs ys) ∙ or_more (n == x) (is_among n xs) (is_among n ys)
  where
    or_more : (a b c : Bool) → (a || (b || c)) ≡ ((a || b) || c)
    or_more true b c = refl
    or_more false b c = refl

or_parts : (a b : Bool) → (a || b) ≡ false → (a ≡ false) × (b ≡ false)
or_parts true b h = absurd (cc h)
or_parts false b h = (refl, h)

or_none : (a b : Bool) → a ≡ false → b ≡ false → (a || b) ≡ false
or_none true b h k = absurd (cc h)
or_none false b h k = k

-- a page among one more
among_last : (n m : ℕ) (reached : List ℕ) → is_among n (reached ++ m ∷ []) ≡ false → (is_among n reached ≡ false) × ((n == m) ≡ false)
among_last n m reached h =
    let parts = or_parts (is_among n reached) (n == m || false) (sym (among_both n reached (m ∷ [])) ∙ h) in
    (parts.0, (or_parts (n == m) false parts.1).0)

not_last : (n m : ℕ) (reached : List ℕ) → is_among n reached ≡ false → (n == m) ≡ false → is_among n (reached ++ m ∷ []) ≡ false
not_last n m reached h ne = among_both n reached (m ∷ []) ∙ or_none (is_among n reached) (n == m || false) h (or_none (n == m) false ne refl)

-- the list with one page and then others
one_more : (reached : List ℕ) (n : ℕ) (ns : List ℕ) → (reached ++ n ∷ []) ++ ns ≡ reached ++ n ∷ ns
one_more reached n ns = append_assoc reached (n ∷ []) ns

pub new_both : (reached xs ys : List ℕ) → are_new reached (xs ++ ys) ≡ (are_new reached xs && are_new (reached ++ xs) ys)
new_both reached [] ys = ap (λ (l : List ℕ). are_new l ys) (sym (append-nil reached))
new_both reached (x ∷ xs) ys =
    ap (λ (b : Bool). not (is_among x reached) && b) (new_both (reached ++ x ∷ []) xs ys ∙ ap (λ (l : List ℕ). are_new (reached ++ x ∷ []) xs && are_new l ys) (one_more reached x xs))
    ∙ and_more (not (is_among x reached)) (are_new (reached ++ x ∷ []) xs) (are_new (reached ++ x ∷ xs) ys)
  where
    and_more : (a b c : Bool) → (a && (b && c)) ≡ ((a && b) && c)
    and_more true b c = refl
    and_more false b c = refl

-- new pages weren't reached
new_unreached : (reached ns : List ℕ) (m : ℕ) → are_new reached ns ≡ true → is_among m ns ≡ true → is_among m reached ≡ false
new_unreached reached [] m new h = absurd (cc h)
new_unreached reached (n ∷ ns) m new h =
    let b = both_true (not (is_among n reached)) (are_new (reached ++ n ∷ []) ns) new in
    elim (cases_eq m n) [
      | inl e ↦ ap (λ (k : ℕ). is_among k reached) e ∙ not_is (is_among n reached) b.0
      | inr ne ↦ (among_last m n reached (new_unreached (reached ++ n ∷ []) ns m b.1 (rest (m == n) (is_among m ns) (ne_eqb m n ne) h))).0
    ]
  where
    rest : (a b : Bool) → a ≡ false → (a || b) ≡ true → b ≡ true
    rest true b e h = absurd (cc e)
    rest false b e h = h

pub new_are_distinct : (reached ns : List ℕ) → are_new reached ns ≡ true → are_distinct ns ≡ true
new_are_distinct reached [] new = refl
new_are_distinct reached (n ∷ ns) new =
    let b = both_true (not (is_among n reached)) (are_new (reached ++ n ∷ []) ns) new in
    let alone : is_among n ns ≡ false = elim (cases_Bool (is_among n ns)) [
      | inl t ↦
          let one = among_last n n reached (new_unreached (reached ++ n ∷ []) ns n b.1 t) in
          let same = eq-eqb n n refl in
          absurd (cc (one.1, same))
      | inr e ↦ e
    ] in
    both (not (is_among n ns)) (are_distinct ns) (ap not alone) (new_are_distinct (reached ++ n ∷ []) ns b.1)

distinct_are_new_after : (reached ns : List ℕ) → are_distinct ns ≡ true → ((m : ℕ) → is_among m ns ≡ true → is_among m reached ≡ false) → are_new reached ns ≡ true
distinct_are_new_after reached [] d apart = refl
distinct_are_new_after reached (n ∷ ns) d apart =
    let b = both_true (not (is_among n ns)) (are_distinct ns) d in
    let alone = not_is (is_among n ns) b.0 in
    both (not (is_among n reached)) (are_new (reached ++ n ∷ []) ns)
    (ap not (apart n (first (n == n) (is_among n ns) (eq-eqb n n refl))))
    (distinct_are_new_after (reached ++ n ∷ []) ns b.1 (λ m t. not_last m n reached (apart m (later (m == n) (is_among m ns) t)) (other m t alone)))
  where
    first : (a b : Bool) → a ≡ true → (a || b) ≡ true
    first true b h = refl
    first false b h = absurd (cc h)

    later : (a b : Bool) → b ≡ true → (a || b) ≡ true
    later true b h = refl
    later false b h = h

    other : (m : ℕ) → is_among m ns ≡ true → is_among n ns ≡ false → (m == n) ≡ false
    other m t alone = ne_eqb m n (λ e. let same = ap (λ (k : ℕ). is_among k ns) e in absurd (cc (t, alone, same)))

pub distinct_are_new : (ns : List ℕ) → are_distinct ns ≡ true → are_new [] ns ≡ true
distinct_are_new ns d = distinct_are_new_after [] ns d (λ m t. refl)

-- ---- a ledger

pub held_at_first : (pages generation : ℕ) → AreHeld (fresh pages generation) []
held_at_first pages generation = record { each = λ n least most. let size = length-replicate pages Never in free_at_first pages generation n least (omega (arith, most, size)) }

pub free_is_new : (held : LedgerState) (reached : List ℕ) (n : ℕ) → AreHeld held reached → is_free held n ≡ true → is_among n reached ≡ false
free_is_new held reached n are free =
    let a = both_true (nat_le 2 n) (nat_lt n (length held.lives) && (not (is_taken (mark_of held n)) && not (is_held held n))) free in
    let least = leb-true 2 n a.0 in
    not_is (is_among n reached) (sym (are.each n least (within_lives held n free)) ∙ free)

pub held_more : (held : LedgerState) (reached : List ℕ) (n : ℕ) → AreHeld held reached → is_free held n ≡ true → AreHeld (holding n held) (reached ++ n ∷ [])
held_more held reached n are free = record {
  each = λ m least most.
      elim (cases_eq m n) [
        | inl e ↦ ap (is_free (holding n held)) e ∙ free_here held n (within_lives held n free) ∙ ap not (sym (there m e))
        | inr ne ↦ free_there held n m ne ∙ are.each m least (omega (arith, most, length-set held.lives n (Since held.generation))) ∙ ap not (sym (as_before m ne))
      ];
}
  where
    last_is : (a b : Bool) → b ≡ true → (a || (b || false)) ≡ true
    last_is true b h = refl
    last_is false true h = refl
    last_is false false h = absurd (cc h)

    last_not : (a b : Bool) → b ≡ false → (a || (b || false)) ≡ a
    last_not true b h = refl
    last_not false true h = absurd (cc h)
    last_not false false h = refl

    there : (m : ℕ) → m ≡ n → is_among m (reached ++ n ∷ []) ≡ true
    there m e = among_both m reached (n ∷ []) ∙ last_is (is_among m reached) (m == n) (eq-eqb m n e)

    as_before : (m : ℕ) → m ≢ n → is_among m (reached ++ n ∷ []) ≡ is_among m reached
    as_before m ne = among_both m reached (n ∷ []) ∙ last_not (is_among m reached) (m == n) (ne_eqb m n ne)

pub held_all_more : (held : LedgerState) (reached ns : List ℕ) → AreHeld held reached → are_fresh held ns ≡ true → AreHeld (holding_all held ns) (reached ++ ns)
held_all_more held reached [] are f = subst (λ (l : List ℕ). AreHeld held l) (sym (append-nil reached)) are
held_all_more held reached (n ∷ ns) are f =
    let b = both_true (is_free held n) (are_fresh (holding n held) ns) f in
    subst (λ (l : List ℕ). AreHeld (holding_all (holding n held) ns) l) (one_more reached n ns) (held_all_more (holding n held) (reached ++ n ∷ []) ns (held_more held reached n are b.0) b.1)

pub fresh_are_new : (held : LedgerState) (reached ns : List ℕ) → AreHeld held reached → are_fresh held ns ≡ true → are_new reached ns ≡ true
fresh_are_new held reached [] are f = refl
fresh_are_new held reached (n ∷ ns) are f =
    let b = both_true (is_free held n) (are_fresh (holding n held) ns) f in
    both (not (is_among n reached)) (are_new (reached ++ n ∷ []) ns) (ap not (free_is_new held reached n are b.0)) (fresh_are_new (holding n held) (reached ++ n ∷ []) ns (held_more held reached n are b.0) b.1)
