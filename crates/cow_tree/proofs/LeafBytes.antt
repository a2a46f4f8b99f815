-- The pairs of a leaf in the bytes of its page.
use Rattle.std.proofs.Common.{◌≡◌, ◌≤◌, ℕ, zero, suc, ◌+◌, true, List, [], ◌∷◌, length, drop, Option, Some, None, refl, sym, ap, ◌∙◌, arith}
use Rattle.std.specs.Prelude.{◌&&◌, bytes_eq, nat_le, take}
use Rattle.std.specs.List.{list_all}
use Rattle.std.specs.Int.{Width, w16, w32, w64, byte_len, from_be_bytes}
use Rattle.std.proofs.lemmas.List.{drop-drop}
use Rattle.page_store.specs.Reading.{◌>>=◌, where_true, number_at, piece_at}
use Rattle.page_store.specs.Roots.{is_zero}
use Rattle.page_store.specs.Pages.{Pair, Head, Place, head_at, page_word, pair_at, entries_at, entries_of, fits_place, leaf_of, are_leaf}
use Rattle.page_store.specs.Batch.{is_pair}
use Rattle.page_store.proofs.Fields.{bind_some, test_passed}
use Rattle.tree_nodes.specs.PageViews.{in_row, pairs_in, then_more, row_behind, entries_by_head, begins_page, has_head}
use Rattle.tree_nodes.proofs.SizesRead.{some_is, pair_read, pairs_read}
use Rattle.tree_nodes.proofs.EntriesOneByOne.{in_row_all}
use Rattle.tree_nodes.proofs.WalksWithinBounds.{pairs_is}

then_pairs : (n : ℕ) (r : Option (Pair × List ℕ)) → ((x : Pair × List ℕ) → r ≡ Some x → is_pair x.0 ≡ true) → ((bytes : List ℕ) → list_all is_pair (pairs_in n bytes) ≡ true) → list_all is_pair (then_more (pairs_in n) r) ≡ true
then_pairs n None first others = refl
then_pairs n (Some x) first others = rw (first x refl) (others x.1)

-- what is read one after another has the sizes of pairs
pub row_pairs : (n : ℕ) (bytes : List ℕ) → list_all is_pair (pairs_in n bytes) ≡ true
row_pairs zero bytes = refl
row_pairs (suc n) bytes = then_pairs n (pair_at bytes) (λ x e. (pair_read bytes x e).0) (λ rest. row_pairs n rest)

pub number_rest : (w : Width) (bytes : List ℕ) (x : ℕ × List ℕ) → number_at w bytes ≡ Some x → x.1 ≡ drop (byte_len w) bytes
number_rest w bytes x e =
    let t = test_passed (nat_le (byte_len w) (length bytes)) (Some (from_be_bytes w (take (byte_len w) bytes), drop (byte_len w) bytes)) x e in
    sym (ap (λ (y : ℕ × List ℕ). y.1) (some_is (from_be_bytes w (take (byte_len w) bytes), drop (byte_len w) bytes) x t.1))

pub piece_rest : (n : ℕ) (bytes : List ℕ) (x : List ℕ × List ℕ) → piece_at n bytes ≡ Some x → x.1 ≡ drop n bytes
piece_rest n bytes x e =
    let t = test_passed (nat_le n (length bytes)) (Some (take n bytes, drop n bytes)) x e in
    sym (ap (λ (y : List ℕ × List ℕ). y.1) (some_is (take n bytes, drop n bytes) x t.1))

-- behind a part that ends at a place
pub then_rest : (m n : ℕ) (bytes rest after : List ℕ) → rest ≡ drop n bytes → after ≡ drop m rest → after ≡ drop (n + m) bytes
then_rest m n bytes rest after r a = a ∙ ap (λ (l : List ℕ). drop m l) r ∙ drop-drop m n bytes

-- the entries of a page begin behind 24 bytes
head_rest : (magic bytes : List ℕ) (x : Head × List ℕ) → head_at magic bytes ≡ Some x → x.1 ≡ drop 24 bytes
unfolding head_at
head_rest magic bytes x e =
    let a = bind_some (piece_at 8 bytes) (λ word. number_at w32 word.1 >>= λ number. number_at w64 number.1 >>= λ generation. number_at w16 generation.1 >>= λ level. number_at w16 level.1 >>= λ count.
    where_true (bytes_eq word.0 magic) (Some (record { number = number.0; generation = generation.0; level = level.0; count = count.0 }, count.1))) x e in
    let b = bind_some (number_at w32 a.0.1) (λ number. number_at w64 number.1 >>= λ generation. number_at w16 generation.1 >>= λ level. number_at w16 level.1 >>= λ count.
    where_true (bytes_eq a.0.0 magic) (Some (record { number = number.0; generation = generation.0; level = level.0; count = count.0 }, count.1))) x a.2 in
    let c = bind_some (number_at w64 b.0.1) (λ generation. number_at w16 generation.1 >>= λ level. number_at w16 level.1 >>= λ count.
    where_true (bytes_eq a.0.0 magic) (Some (record { number = b.0.0; generation = generation.0; level = level.0; count = count.0 }, count.1))) x b.2 in
    let d = bind_some (number_at w16 c.0.1) (λ level. number_at w16 level.1 >>= λ count.
    where_true (bytes_eq a.0.0 magic) (Some (record { number = b.0.0; generation = c.0.0; level = level.0; count = count.0 }, count.1))) x c.2 in
    let f = bind_some (number_at w16 d.0.1) (λ count. where_true (bytes_eq a.0.0 magic) (Some (record { number = b.0.0; generation = c.0.0; level = d.0.0; count = count.0 }, count.1))) x d.2 in
    let t = test_passed (bytes_eq a.0.0 magic) (Some (record { number = b.0.0; generation = c.0.0; level = d.0.0; count = f.0.0 }, f.0.1)) x f.2 in
    let rest : f.0.1 ≡ x.1 = ap (λ (y : Head × List ℕ). y.1) (some_is (record { number = b.0.0; generation = c.0.0; level = d.0.0; count = f.0.0 }, f.0.1) x t.1) in
    let at8 = piece_rest 8 bytes a.0 a.1 in
    let at12 = then_rest 4 8 bytes a.0.1 b.0.1 at8 (number_rest w32 a.0.1 b.0 b.1) in
    let at20 = then_rest 8 12 bytes b.0.1 c.0.1 at12 (number_rest w64 b.0.1 c.0 c.1) in
    let at22 = then_rest 2 20 bytes c.0.1 d.0.1 at20 (number_rest w16 c.0.1 d.0 d.1) in
    sym rest ∙ then_rest 2 22 bytes d.0.1 f.0.1 at22 (number_rest w16 d.0.1 f.0 f.1)

entries_there : (place : Place) (bytes : List ℕ) (pairs : List Pair) → entries_of pair_at place bytes ≡ Some pairs → pairs_in (length pairs) (drop 24 bytes) ≡ pairs
unfolding entries_of
entries_there place bytes pairs e =
    let f = bind_some (head_at page_word bytes) (λ head. entries_at pair_at head.0.count head.1 >>= λ es. where_true (fits_place place head.0 && list_all is_zero es.1) (Some es.0)) pairs e in
    let g = bind_some (entries_at pair_at f.0.0.count f.0.1) (λ es. where_true (fits_place place f.0.0 && list_all is_zero es.1) (Some es.0)) pairs f.2 in
    let t = test_passed (fits_place place f.0.0 && list_all is_zero g.0.1) (Some g.0.0) pairs g.2 in
    let same = pairs_is g.0.0 pairs t.1 in
    let row = in_row_all pair_at f.0.0.count f.0.1 g.0 g.1 in
    let many = (pairs_read f.0.0.count f.0.1 g.0 g.1).0 in
    let count : length pairs ≡ f.0.0.count = ap (λ (l : List Pair). length l) (sym same) ∙ many in
    ap (λ (n : ℕ). pairs_in n (drop 24 bytes)) count ∙ ap (λ (l : List ℕ). pairs_in f.0.0.count l) (sym (head_rest page_word bytes f.0 f.1)) ∙ row ∙ same

there : (place : Place) (low : List ℕ) (high : Option (List ℕ)) (bytes : List ℕ) (pairs : List Pair) → leaf_of place low high bytes ≡ Some pairs → pairs_in (length pairs) (drop 24 bytes) ≡ pairs
unfolding leaf_of
there place low high bytes pairs e =
    let f = bind_some (entries_of pair_at place bytes) (λ ps. where_true (are_leaf low high ps) (Some ps)) pairs e in
    let t = test_passed (are_leaf low high f.0) (Some f.0) pairs f.2 in
    let same = pairs_is f.0 pairs t.1 in
    ap (λ (l : List Pair). pairs_in (length l) (drop 24 bytes)) (sym same) ∙ entries_there place bytes f.0 f.1 ∙ same

-- The pairs of a leaf stand behind the head of its page.
pub pairs_there : (place : Place) (low : List ℕ) (high : Option (List ℕ)) (bytes : List ℕ) (pairs : List Pair) (n : ℕ) → leaf_of place low high bytes ≡ Some pairs → n ≡ length pairs → pairs_in n (drop 24 bytes) ≡ pairs
pairs_there place low high bytes pairs n e is = ap (λ (m : ℕ). pairs_in m (drop 24 bytes)) is ∙ there place low high bytes pairs e

-- ---- a leaf that was read

row_some : (n m : ℕ) (bytes : List ℕ) → m ≡ length (pairs_in n bytes) → 1 ≤ m → pairs_in m bytes ≡ [] → ⊥
row_some zero m bytes is some none = absurd (omega (arith, is, some))
row_some (suc n) zero bytes is some none = absurd (omega (arith, some))
row_some (suc n) (suc m) bytes is some none = go (pair_at bytes) is none
  where
    go : (r : Option (Pair × List ℕ)) → suc m ≡ length (then_more (pairs_in n) r) → then_more (pairs_in m) r ≡ [] → ⊥
    go None is none = absurd (omega (arith, is))
    go (Some x) is none = cc none

-- bytes behind a head that give some pairs have a first one
pub read_some : (place : Place) (bytes : List ℕ) (count : ℕ) → has_head place bytes ≡ true → count ≡ length (entries_by_head pair_at bytes) → 1 ≤ count → pairs_in count (drop 24 bytes) ≡ [] → ⊥
read_some place bytes count headed is some none = go (head_at page_word bytes) refl headed is
  where
    go : (r : Option (Head × List ℕ)) → head_at page_word bytes ≡ r → begins_page place r ≡ true → count ≡ length (row_behind pair_at r) → ⊥
    go None e headed is = absurd (cc headed)
    go (Some h) e headed is = row_some h.0.count count (drop 24 bytes) (is ∙ ap (λ (l : List ℕ). length (pairs_in h.0.count l)) (head_rest page_word bytes h e)) some none

-- ---- entries behind a head

row_again : {E : Type 0} (entry_at : List ℕ → Option (E × List ℕ)) (n : ℕ) (bytes : List ℕ) → in_row entry_at (length (in_row entry_at n bytes)) bytes ≡ in_row entry_at n bytes
row_again entry_at zero bytes = refl
row_again {E = E} entry_at (suc n) bytes = go (entry_at bytes) refl (λ rest. row_again entry_at n rest)
  where
    go : (r : Option (E × List ℕ)) → entry_at bytes ≡ r → ((rest : List ℕ) → in_row entry_at (length (in_row entry_at n rest)) rest ≡ in_row entry_at n rest)
        → in_row entry_at (length (then_more (in_row entry_at n) r)) bytes ≡ then_more (in_row entry_at n) r
    go None e again = refl
    go (Some x) e again = ap (then_more (in_row entry_at (length (in_row entry_at n x.1)))) e ∙ ap (λ (l : List E). x.0 ∷ l) (again x.1)

-- so many entries as a head counts, of which each has the form, stand behind it
pub entries_behind : {E : Type 0} (entry_at : List ℕ → Option (E × List ℕ)) (place : Place) (bytes : List ℕ) (count : ℕ) → has_head place bytes ≡ true → count ≡ length (entries_by_head entry_at bytes) → in_row entry_at count (drop 24 bytes) ≡ entries_by_head entry_at bytes
entries_behind {E = E} entry_at place bytes count headed is = go (head_at page_word bytes) refl headed is
  where
    go : (r : Option (Head × List ℕ)) → head_at page_word bytes ≡ r → begins_page place r ≡ true → count ≡ length (row_behind entry_at r) → in_row entry_at count (drop 24 bytes) ≡ row_behind entry_at r
    go None e headed is = absurd (cc headed)
    go (Some h) e headed is =
        let rest = head_rest page_word bytes h e in
        ap (λ (n : ℕ). in_row entry_at n (drop 24 bytes)) is ∙ ap (λ (l : List ℕ). in_row entry_at (length (in_row entry_at h.0.count h.1)) l) (sym rest) ∙ row_again entry_at h.0.count h.1
