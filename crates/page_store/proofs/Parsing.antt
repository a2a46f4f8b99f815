-- Entries and pages that are read one after another.
use Rattle.std.proofs.Common.{◌≡◌, ℕ, zero, suc, ◌+◌, ◌-◌, ◌<◌, ◌≤◌, Bool, true, false, List, [], ◌∷◌, ◌++◌, length, Option, Some, None, refl, sym, ap, subst, ◌∙◌, arith, append_assoc, append-nil, eq-eqb, drop, ◌⊎◌, inl, inr}
use Rattle.std.specs.Prelude.{◌==◌, ◌&&◌, nat_le}
use Rattle.std.proofs.lemmas.Bool.{ne_eqb, lt-leb, le-leb}
use Rattle.std.proofs.lemmas.List.{drop_at}
use Rattle.page_store.specs.Reading.{◌>>=◌, where_true}
use Rattle.page_store.specs.Pages.{Pair, pair_at, entries_at}
use Rattle.page_store.specs.Flat.{flat_page, is_over, HasNext, flat_next, flat_walk, with_front, with_pairs}
use Rattle.page_store.proofs.Fields.{bind_again}

with_more : {R : Type 0} (front : List Pair) (pair : Pair) (r : Option (List Pair × R)) → with_front (front ++ pair ∷ []) r ≡ with_front front (r >>= λ others. Some (pair ∷ others.0, others.1))
with_more front pair None = refl
with_more front pair (Some x) = ap (λ (l : List Pair). Some (l, x.1)) (append_assoc front (pair ∷ []) x.0)

pub entries_more : (front : List Pair) (m n : ℕ) (pair : Pair) (rest after : List ℕ) (all : Option (List Pair × List ℕ)) → m ≡ suc n → pair_at rest ≡ Some (pair, after) → with_front front (entries_at pair_at m rest) ≡ all
    → with_front (front ++ pair ∷ []) (entries_at pair_at n after) ≡ all
entries_more front m n pair rest after all is read whole =
    with_more front pair (entries_at pair_at n after)
    ∙ ap (with_front front) (sym (bind_again (pair_at rest) (λ entry. entries_at pair_at n entry.1 >>= λ others. Some (entry.0 ∷ others.0, others.1)) (pair, after) (entries_at pair_at n after >>= λ others. Some (pair ∷ others.0, others.1)) read refl))
    ∙ ap (λ (k : ℕ). with_front front (entries_at pair_at k rest)) (sym is) ∙ whole

with_others : (front here : List Pair) (r : Option (List Pair)) → with_pairs (front ++ here) r ≡ with_pairs front (r >>= λ others. Some (here ++ others))
with_others front here None = refl
with_others front here (Some others) = ap (λ (l : List Pair). Some l) (append_assoc front here others)

-- one page more
pub pages_more : (bytes : ℕ → List ℕ) (front now : List Pair) (seal left page room keys more : ℕ) (here : List Pair × ℕ) (all : Option (List Pair)) → left ≡ suc more → 0 < keys → flat_next seal page room keys (bytes page) ≡ Some here
    → now ≡ front ++ here.0 → with_pairs front (flat_walk bytes seal left page room keys) ≡ all → with_pairs now (flat_walk bytes seal more (page + 1) here.1 (keys - length here.0)) ≡ all
pages_more bytes front now seal left page room keys more here all is some read pushed whole =
    let pos : (keys == 0) ≡ false = ne_eqb keys 0 (λ e. absurd (omega (arith, e, some))) in
    let next : page + 1 ≡ suc page = omega arith in
    let rest = flat_walk bytes seal more (suc page) here.1 (keys - length here.0) in
    let step : flat_walk bytes seal (suc more) page room keys ≡ (rest >>= λ others. Some (here.0 ++ others)) =
    rw pos (bind_again (flat_next seal page room keys (bytes page)) (λ h. flat_walk bytes seal more (suc page) h.1 (keys - length h.0) >>= λ others. Some (h.0 ++ others)) here (rest >>= λ others. Some (here.0 ++ others)) read refl) in
    rw (pushed, next) (with_others front here.0 rest ∙ ap (with_pairs front) (sym step) ∙ ap (λ (k : ℕ). with_pairs front (flat_walk bytes seal k page room keys)) (sym is) ∙ whole)

-- no further page
pub no_more : (bytes : ℕ → List ℕ) (front : List Pair) (seal left page room keys : ℕ) (all : Option (List Pair)) → keys ≡ 0 → with_pairs front (flat_walk bytes seal left page room keys) ≡ all → all ≡ Some front
no_more bytes front seal zero page room keys all is whole = sym whole ∙ rw (eq-eqb keys 0 is) (ap (λ (l : List Pair). Some l) (append-nil front))
no_more bytes front seal (suc left) page room keys all is whole = sym whole ∙ rw (eq-eqb keys 0 is) (ap (λ (l : List Pair). Some l) (append-nil front))

-- a page that is not as it should be
pub none_more : (bytes : ℕ → List ℕ) (front : List Pair) (seal left page room keys more : ℕ) (all : Option (List Pair)) → left ≡ suc more → 0 < keys → flat_next seal page room keys (bytes page) ≡ None
    → with_pairs front (flat_walk bytes seal left page room keys) ≡ all → all ≡ None
none_more bytes front seal left page room keys more all is some read whole =
    let pos : (keys == 0) ≡ false = ne_eqb keys 0 (λ e. absurd (omega (arith, e, some))) in
    sym whole ∙ ap (λ (k : ℕ). with_pairs front (flat_walk bytes seal k page room keys)) is ∙ rw (pos, read) refl

-- too few pages
pub too_few : (bytes : ℕ → List ℕ) (front : List Pair) (seal left page room keys : ℕ) (all : Option (List Pair)) → left ≡ 0 → 0 < keys → with_pairs front (flat_walk bytes seal left page room keys) ≡ all → all ≡ None
too_few bytes front seal left page room keys all is some whole =
    let pos : (keys == 0) ≡ false = ne_eqb keys 0 (λ e. absurd (omega (arith, e, some))) in
    sym whole ∙ ap (λ (k : ℕ). with_pairs front (flat_walk bytes seal k page room keys)) is ∙ rw pos refl

-- ---- the next page

abbrev some : List Pair × ℕ → Option (List Pair × ℕ)
some x = Some x

both_are : (x y : List Pair × ℕ) → some x ≡ some y → x ≡ y
both_are x y e = cc

front_some : (front new : List Pair) (n : ℕ) (r : Option (List Pair × ℕ)) → Some (new, n) ≡ with_front front r → (here : List Pair) × (r ≡ Some (here, n)) × (new ≡ front ++ here)
front_some front new n None e = absurd (cc e)
front_some front new n (Some x) e =
    let same = both_are (new, n) (front ++ x.0, x.1) e in
    let second : n ≡ x.1 = ap (λ (p : List Pair × ℕ). p.1) same in
    (x.0, ap (λ (m : ℕ). Some (x.0, m)) (sym second), ap (λ (p : List Pair × ℕ). p.0) same)

front_none : (front : List Pair) (r : Option (List Pair × ℕ)) → None ≡ with_front front r → r ≡ None
front_none front None e = refl
front_none front (Some x) e = absurd (cc e)

pub next_unread : (seal page room keys : ℕ) (bytes : List ℕ) (old : List Pair) → None ≡ with_front old (flat_page seal page bytes) → flat_next seal page room keys bytes ≡ None
unfolding flat_next
next_unread seal page room keys bytes old e = rw (front_none old (flat_page seal page bytes) e) refl

pub next_refused : (seal page room keys n : ℕ) (bytes : List ℕ) (old new slice : List Pair) → Some (new, n) ≡ with_front old (flat_page seal page bytes) → slice ≡ drop (length old) new → (is_over room slice ≡ false) ⊎ (keys < length slice)
    → flat_next seal page room keys bytes ≡ None
unfolding flat_next
next_refused seal page room keys n bytes old new slice e is bad =
    let f = front_some old new n (flat_page seal page bytes) e in
    let same : slice ≡ f.0 = is ∙ ap (drop (length old)) f.2 ∙ drop_at old f.0 (length old) refl in
    let no : is_over room f.0 && nat_le (length f.0) keys ≡ false = subst (λ (l : List Pair). is_over room l && nat_le (length l) keys ≡ false) same (refused bad) in
    bind_again (flat_page seal page bytes) (λ here. where_true (is_over room here.0 && nat_le (length here.0) keys) (Some here)) (f.0, n) None f.1 (rw no refl)
  where
    refused : (is_over room slice ≡ false) ⊎ (keys < length slice) → is_over room slice && nat_le (length slice) keys ≡ false
    refused (inl over) = rw over refl
    refused (inr few) = rw (lt-leb (length slice) keys few) (and_false (is_over room slice))
      where
        and_false : (b : Bool) → b && false ≡ false
        and_false true = refl
        and_false false = refl

pub next_taken : (seal page room keys n : ℕ) (bytes : List ℕ) (old new slice : List Pair) → Some (new, n) ≡ with_front old (flat_page seal page bytes) → slice ≡ drop (length old) new → is_over room slice ≡ true → length slice ≤ keys
    → HasNext keys old new (flat_next seal page room keys bytes) (Some (n, keys - length slice))
unfolding flat_next
next_taken seal page room keys n bytes old new slice e is over few =
    let f = front_some old new n (flat_page seal page bytes) e in
    let same : slice ≡ f.0 = is ∙ ap (drop (length old)) f.2 ∙ drop_at old f.0 (length old) refl in
    let yes : is_over room f.0 && nat_le (length f.0) keys ≡ true = subst (λ (l : List Pair). is_over room l && nat_le (length l) keys ≡ true) same (rw (over, le-leb (length slice) keys few) refl) in
    (f.0, bind_again (flat_page seal page bytes) (λ here. where_true (is_over room here.0 && nat_le (length here.0) keys) (Some here)) (f.0, n) (Some (f.0, n)) f.1 (rw yes refl), f.2, ap (λ (l : List Pair). keys - length l) same, subst (λ (l : List Pair). length l ≤ keys) same few)
