-- The form of a leaf between two keys, pair by pair.
use Rattle.std.proofs.Common.{◌≡◌, ℕ, suc, Bool, true, false, List, [], ◌∷◌, map, length, Option, Some, None, refl, sym, ap, ◌∙◌}
use Rattle.std.specs.Prelude.{◌&&◌, not}
use Rattle.std.specs.List.{list_all}
use Rattle.page_store.specs.Reading.{◌>>=◌, where_true}
use Rattle.page_store.specs.Roots.{is_zero}
use Rattle.page_store.specs.Keys.{precedes, rises, is_below, is_between}
use Rattle.page_store.specs.Pages.{Pair, Head, Place, key_of, page_word, head_at, pair_at, entries_at, entries_of, fits_place, leaf_of, are_leaf}
use Rattle.page_store.proofs.Fields.{bind_again, test_passed}
use Rattle.tree_nodes.specs.PageViews.{pairs_in}
use Rattle.tree_nodes.specs.LeafForm.{after_leaf}
use Rattle.tree_nodes.proofs.KeyOrder.{both_true, by_bool, not_back, is_below_less, upto_upto}
use Rattle.tree_nodes.proofs.EntriesOneByOne.{in_row_all}
use Rattle.tree_nodes.proofs.SizesRead.{some_is, pairs_read}
use Rattle.tree_nodes.proofs.PageForm.{no_head, no_leaf}
use Rattle.tree_nodes.proofs.BoundedPages.{no_leaf_between}

-- ---- keys

-- the last of some keys behind one
abbrev pub last_of : List ℕ → List (List ℕ) → List ℕ
last_of key [] = key
last_of key (next ∷ keys) = last_of next keys

-- where the last is below a bound, the first is
below_last : (high : Option (List ℕ)) (key : List ℕ) (keys : List (List ℕ)) → rises (key ∷ keys) ≡ true → is_below high (last_of key keys) ≡ true → is_below high key ≡ true
below_last high key [] r b = b
below_last high key (next ∷ keys) r b =
    let parts = both_true (precedes key next) (rises (next ∷ keys)) r in
    is_below_less high key next (not_back key next parts.0) (below_last high next keys parts.1 b)

and_true : (b : Bool) → b && true ≡ b
and_true true = refl
and_true false = refl

and_false : (b : Bool) → b && false ≡ false
and_false true = refl
and_false false = refl

-- one test follows from another
implied : (a b : Bool) → (b ≡ true → a ≡ true) → a && b ≡ b
implied a true h = ap (λ (x : Bool). x && true) (h refl)
implied a false h = and_false a

-- keys that rise lie between two where the first and the last do
all_between : (low : List ℕ) (high : Option (List ℕ)) (key : List ℕ) (keys : List (List ℕ)) → rises (key ∷ keys) ≡ true → precedes key low ≡ false → list_all (is_between low high) (key ∷ keys) ≡ is_below high (last_of key keys)
all_between low high key [] r above = ap (λ (b : Bool). (not b && is_below high key) && true) above ∙ and_true (is_below high key)
all_between low high key (next ∷ keys) r above =
    let parts = both_true (precedes key next) (rises (next ∷ keys)) r in
    let later : precedes next low ≡ false = upto_upto low key next above (not_back key next parts.0) in
    ap (λ (b : Bool). (not b && is_below high key) && list_all (is_between low high) (next ∷ keys)) above
    ∙ ap (λ (b : Bool). is_below high key && b) (all_between low high next keys parts.1 later)
    ∙ implied (is_below high key) (is_below high (last_of next keys)) (below_last high key (next ∷ keys) r)

fits : (low : List ℕ) (high : Option (List ℕ)) (key : List ℕ) (keys : List (List ℕ)) → precedes key low ≡ false → rises (key ∷ keys) && list_all (is_between low high) (key ∷ keys) ≡ (rises (key ∷ keys) && is_below high (last_of key keys))
fits low high key keys above = by_bool (rises (key ∷ keys))
    (λ r. ap (λ (b : Bool). rises (key ∷ keys) && b) (all_between low high key keys r above))
    (λ f. ap (λ (b : Bool). b && list_all (is_between low high) (key ∷ keys)) f ∙ sym (ap (λ (b : Bool). b && is_below high (last_of key keys)) f))

-- ---- pairs

-- what is left to be tested behind a key that has been
abbrev pub left_leaf : List ℕ → Option (List ℕ) → Option (List Pair × List ℕ) → Option (List ℕ)
left_leaf last high None = None
left_leaf last high (Some entries) = where_true (rises (last ∷ map key_of entries.0) && is_below high (last_of last (map key_of entries.0))) (Some entries.1)

abbrev with_pair : Pair → Option (List Pair × List ℕ) → Option (List Pair × List ℕ)
with_pair p r = r >>= λ others. Some (p ∷ others.0, others.1)

one_more : (n m : ℕ) (bytes rest : List ℕ) (p : Pair) → n ≡ suc m → pair_at bytes ≡ Some (p, rest) → entries_at pair_at n bytes ≡ with_pair p (entries_at pair_at m rest)
one_more n m bytes rest p is read =
    ap (λ (k : ℕ). entries_at pair_at k bytes) is
    ∙ ap (λ (r : Option (Pair × List ℕ)). r >>= λ entry. entries_at pair_at m entry.1 >>= λ others. Some (entry.0 ∷ others.0, others.1)) read

no_more : (n m : ℕ) (bytes : List ℕ) → n ≡ suc m → pair_at bytes ≡ None → entries_at pair_at n bytes ≡ None
no_more n m bytes is read =
    ap (λ (k : ℕ). entries_at pair_at k bytes) is
    ∙ ap (λ (r : Option (Pair × List ℕ)). r >>= λ entry. entries_at pair_at m entry.1 >>= λ others. Some (entry.0 ∷ others.0, others.1)) read

none_counted : (n : ℕ) (bytes : List ℕ) → n ≡ 0 → entries_at pair_at n bytes ≡ Some ([], bytes)
none_counted n bytes is = ap (λ (k : ℕ). entries_at pair_at k bytes) is

opened : (low : List ℕ) (high : Option (List ℕ)) (p : Pair) (r : Option (List Pair × List ℕ)) → precedes p.0 low ≡ false → left_leaf p.0 high r ≡ after_leaf low high (with_pair p r)
opened low high p None above = refl
opened low high p (Some es) above = ap (λ (b : Bool). where_true b (Some es.1)) (sym (fits low high p.0 (map key_of es.0) above))

pub first_below : (n m : ℕ) (bytes rest low : List ℕ) (high : Option (List ℕ)) (p : Pair) → n ≡ suc m → pair_at bytes ≡ Some (p, rest) → precedes p.0 low ≡ true → after_leaf low high (entries_at pair_at n bytes) ≡ None
first_below n m bytes rest low high p is read below = ap (after_leaf low high) (one_more n m bytes rest p is read) ∙ go (entries_at pair_at m rest)
  where
    go : (r : Option (List Pair × List ℕ)) → after_leaf low high (with_pair p r) ≡ None
    go None = refl
    go (Some es) = ap (λ (b : Bool). where_true (rises (p.0 ∷ map key_of es.0) && ((not b && is_below high p.0) && list_all (is_between low high) (map key_of es.0))) (Some es.1)) below ∙ ap (λ (b : Bool). where_true b (Some es.1)) (and_false (rises (p.0 ∷ map key_of es.0)))

pub first_stands : (n m : ℕ) (bytes rest low : List ℕ) (high : Option (List ℕ)) (p : Pair) → n ≡ suc m → pair_at bytes ≡ Some (p, rest) → precedes p.0 low ≡ false → left_leaf p.0 high (entries_at pair_at m rest) ≡ after_leaf low high (entries_at pair_at n bytes)
first_stands n m bytes rest low high p is read above = opened low high p (entries_at pair_at m rest) above ∙ ap (after_leaf low high) (sym (one_more n m bytes rest p is read))

pub first_lacks : (n m : ℕ) (bytes low : List ℕ) (high : Option (List ℕ)) → n ≡ suc m → pair_at bytes ≡ None → after_leaf low high (entries_at pair_at n bytes) ≡ None
first_lacks n m bytes low high is read = ap (after_leaf low high) (no_more n m bytes is read)

pub next_falls : (n m : ℕ) (bytes rest last : List ℕ) (high : Option (List ℕ)) (p : Pair) → n ≡ suc m → pair_at bytes ≡ Some (p, rest) → precedes last p.0 ≡ false → left_leaf last high (entries_at pair_at n bytes) ≡ None
next_falls n m bytes rest last high p is read falls = ap (left_leaf last high) (one_more n m bytes rest p is read) ∙ go (entries_at pair_at m rest)
  where
    go : (r : Option (List Pair × List ℕ)) → left_leaf last high (with_pair p r) ≡ None
    go None = refl
    go (Some es) = ap (λ (b : Bool). where_true ((b && rises (p.0 ∷ map key_of es.0)) && is_below high (last_of p.0 (map key_of es.0))) (Some es.1)) falls

pub next_rises : (n m : ℕ) (bytes rest last : List ℕ) (high : Option (List ℕ)) (p : Pair) → n ≡ suc m → pair_at bytes ≡ Some (p, rest) → precedes last p.0 ≡ true → left_leaf p.0 high (entries_at pair_at m rest) ≡ left_leaf last high (entries_at pair_at n bytes)
next_rises n m bytes rest last high p is read above = go (entries_at pair_at m rest) ∙ ap (left_leaf last high) (sym (one_more n m bytes rest p is read))
  where
    go : (r : Option (List Pair × List ℕ)) → left_leaf p.0 high r ≡ left_leaf last high (with_pair p r)
    go None = refl
    go (Some es) = sym (ap (λ (b : Bool). where_true ((b && rises (p.0 ∷ map key_of es.0)) && is_below high (last_of p.0 (map key_of es.0))) (Some es.1)) above)

pub next_lacks : (n m : ℕ) (bytes last : List ℕ) (high : Option (List ℕ)) → n ≡ suc m → pair_at bytes ≡ None → left_leaf last high (entries_at pair_at n bytes) ≡ None
next_lacks n m bytes last high is read = ap (left_leaf last high) (no_more n m bytes is read)

pub all_told : (n : ℕ) (rest last : List ℕ) (high : Option (List ℕ)) (b : Bool) → n ≡ 0 → is_below high last ≡ b → left_leaf last high (entries_at pair_at n rest) ≡ where_true b (Some rest)
all_told n rest last high b is below = ap (left_leaf last high) (none_counted n rest is) ∙ ap (λ (t : Bool). where_true t (Some rest)) below

pub none_told : (n : ℕ) (bytes low : List ℕ) (high : Option (List ℕ)) → n ≡ 0 → after_leaf low high (entries_at pair_at n bytes) ≡ Some bytes
none_told n bytes low high is = ap (after_leaf low high) (none_counted n bytes is)

-- ---- the page

abbrev leaf_if : Bool → List ℕ → Option (List ℕ) → Option (List Pair × List ℕ) → Option (List Pair)
leaf_if fits low high r = (r >>= λ es. where_true (fits && list_all is_zero es.1) (Some es.0)) >>= λ ps. where_true (are_leaf low high ps) (Some ps)

entries_shape : (place : Place) (bytes : List ℕ) (head : Head × List ℕ) → Some head ≡ head_at page_word bytes → entries_of pair_at place bytes ≡ (entries_at pair_at head.0.count head.1 >>= λ es. where_true (fits_place place head.0 && list_all is_zero es.1) (Some es.0))
unfolding entries_of
entries_shape place bytes head e = bind_again (head_at page_word bytes) (λ h. entries_at pair_at h.0.count h.1 >>= λ es. where_true (fits_place place h.0 && list_all is_zero es.1) (Some es.0)) head _ (sym e) refl

leaf_shape : (place : Place) (low : List ℕ) (high : Option (List ℕ)) (bytes : List ℕ) (head : Head × List ℕ) → Some head ≡ head_at page_word bytes → leaf_of place low high bytes ≡ leaf_if (fits_place place head.0) low high (entries_at pair_at head.0.count head.1)
unfolding leaf_of
leaf_shape place low high bytes head e = ap (λ (r : Option (List Pair)). r >>= λ ps. where_true (are_leaf low high ps) (Some ps)) (entries_shape place bytes head e)

pub no_head_between : (place : Place) (low : List ℕ) (high : Option (List ℕ)) (bytes : List ℕ) → None ≡ head_at page_word bytes → leaf_of place low high bytes ≡ None
no_head_between place low high bytes e = no_leaf_between place low high bytes (no_leaf place bytes (no_head pair_at place bytes e))

pub unformed : (place : Place) (low : List ℕ) (high : Option (List ℕ)) (bytes : List ℕ) (head : Head × List ℕ) → Some head ≡ head_at page_word bytes → None ≡ after_leaf low high (entries_at pair_at head.0.count head.1) → leaf_of place low high bytes ≡ None
unformed place low high bytes head e n = leaf_shape place low high bytes head e ∙ go (fits_place place head.0) (entries_at pair_at head.0.count head.1) n
  where
    go : (t : Bool) (r : Option (List Pair × List ℕ)) → None ≡ after_leaf low high r → leaf_if t low high r ≡ None
    go t None n = refl
    go t (Some es) n = by_bool (are_leaf low high es.0)
        (λ y. absurd (let e : None ≡ Some es.1 = n ∙ ap (λ (b : Bool). where_true b (Some es.1)) y in cc e))
        (λ y. by_bool (t && list_all is_zero es.1)
        (λ z. ap (λ (b : Bool). where_true b (Some es.0) >>= λ ps. where_true (are_leaf low high ps) (Some ps)) z ∙ ap (λ (b : Bool). where_true b (Some es.0)) y)
        (λ z. ap (λ (b : Bool). where_true b (Some es.0) >>= λ ps. where_true (are_leaf low high ps) (Some ps)) z))

told_after : (low : List ℕ) (high : Option (List ℕ)) (r : Option (List Pair × List ℕ)) (rest : List ℕ) → Some rest ≡ after_leaf low high r → (x : List Pair × List ℕ) × (r ≡ Some x) × (are_leaf low high x.0 ≡ true) × (x.1 ≡ rest)
told_after low high None rest e = absurd (cc e)
told_after low high (Some es) rest e =
    let t = test_passed (are_leaf low high es.0) (Some es.1) rest (sym e) in
    (es, refl, t.0, some_is es.1 rest t.1)

-- the pairs of a page whose head and end are tested
judged : (place : Place) (low : List ℕ) (high : Option (List ℕ)) (bytes : List ℕ) (head : Head × List ℕ) (rest : List ℕ) (b : Bool) → Some head ≡ head_at page_word bytes → Some rest ≡ after_leaf low high (entries_at pair_at head.0.count head.1) → fits_place place head.0 && list_all is_zero rest ≡ b
    → (leaf_of place low high bytes ≡ where_true b (Some (pairs_in head.0.count head.1))) × (head.0.count ≡ length (pairs_in head.0.count head.1))
judged place low high bytes head rest b e a tests =
    let x = told_after low high (entries_at pair_at head.0.count head.1) rest a in
    let row = in_row_all pair_at head.0.count head.1 x.0 x.1 in
    let many = (pairs_read head.0.count head.1 x.0 x.1).0 in (
      leaf_shape place low high bytes head e
          ∙ ap (leaf_if (fits_place place head.0) low high) x.1
          ∙ ap (λ (l : List ℕ). where_true (fits_place place head.0 && list_all is_zero l) (Some x.0.0) >>= λ ps. where_true (are_leaf low high ps) (Some ps)) x.3
          ∙ ap (λ (t : Bool). where_true t (Some x.0.0) >>= λ ps. where_true (are_leaf low high ps) (Some ps)) tests
          ∙ kept b x.0.0 x.2
          ∙ ap (λ (ps : List Pair). where_true b (Some ps)) (sym row),
      sym many ∙ ap (λ (ps : List Pair). length ps) (sym row),
    )
  where
    kept : (b : Bool) (ps : List Pair) → are_leaf low high ps ≡ true → (where_true b (Some ps) >>= λ qs. where_true (are_leaf low high qs) (Some qs)) ≡ where_true b (Some ps)
    kept true ps y = ap (λ (t : Bool). where_true t (Some ps)) y
    kept false ps y = refl

pub elsewhere : (place : Place) (low : List ℕ) (high : Option (List ℕ)) (bytes : List ℕ) (head : Head × List ℕ) (rest : List ℕ) → Some head ≡ head_at page_word bytes → Some rest ≡ after_leaf low high (entries_at pair_at head.0.count head.1) → fits_place place head.0 ≡ false → leaf_of place low high bytes ≡ None
elsewhere place low high bytes head rest e a f = (judged place low high bytes head rest false e a (ap (λ (b : Bool). b && list_all is_zero rest) f)).0

pub not_ended : (place : Place) (low : List ℕ) (high : Option (List ℕ)) (bytes : List ℕ) (head : Head × List ℕ) (rest : List ℕ) → Some head ≡ head_at page_word bytes → Some rest ≡ after_leaf low high (entries_at pair_at head.0.count head.1) → list_all is_zero rest ≡ false → leaf_of place low high bytes ≡ None
not_ended place low high bytes head rest e a z = (judged place low high bytes head rest false e a (ap (λ (b : Bool). fits_place place head.0 && b) z ∙ and_false (fits_place place head.0))).0

pub formed : (place : Place) (low : List ℕ) (high : Option (List ℕ)) (bytes : List ℕ) (head : Head × List ℕ) (rest : List ℕ) → Some head ≡ head_at page_word bytes → Some rest ≡ after_leaf low high (entries_at pair_at head.0.count head.1) → fits_place place head.0 ≡ true → list_all is_zero rest ≡ true
    → (leaf_of place low high bytes ≡ Some (pairs_in head.0.count head.1)) × (head.0.count ≡ length (pairs_in head.0.count head.1))
formed place low high bytes head rest e a f z = judged place low high bytes head rest true e a (ap (λ (b : Bool). b && list_all is_zero rest) f ∙ z)
