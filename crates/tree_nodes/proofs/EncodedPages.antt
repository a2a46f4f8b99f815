-- A page that is written is read again.
use Rattle.std.proofs.Common.{◌≡◌, ℕ, zero, suc, ◌+◌, ◌-◌, ◌*◌, ◌^◌, ◌<◌, ◌≤◌, true, false, List, [], ◌∷◌, ◌++◌, length, map, replicate, Option, Some, refl, ap, ◌∙◌, arith, length-append, append_assoc, eq-eqb}
use Rattle.std.specs.Prelude.{nat_le, nat_lt}
use Rattle.std.specs.List.{list_all}
use Rattle.std.specs.Int.{w16, w32, w64, to_be_bytes}
use Rattle.std.proofs.lemmas.Bool.{le-leb, leb-true, ltb-true}
use Rattle.page_store.specs.Reading.{number_at, piece_at}
use Rattle.page_store.specs.Roots.{is_zero}
use Rattle.page_store.specs.Keys.{precedes, rises, is_between}
use Rattle.page_store.specs.Batch.{is_key}
use Rattle.page_store.specs.Pages.{Pair, Child, Head, child_key, page_word, head_at, pair_at, child_at, entries_at, entries_of, fits_place, leaf_of, branch_of, are_branch, is_inside}
use Rattle.page_store.specs.Content.{Bounds, place_in}
use Rattle.page_store.specs.Encoding.{padded, entry_bytes, entries_bytes}
use Rattle.page_store.proofs.Fields.{bind_again}
use Rattle.page_store.proofs.DecodedPages.{number16_again, number32_again, number64_again, piece_again, entries_again}
use Rattle.page_store.proofs.PairsByPage.{size_of_entry}
use Rattle.tree_nodes.specs.Tree.{Tree, Others, branch, none, other, OldPages, leaf_bytes, other_bytes, other_count}
use Rattle.tree_nodes.specs.PageBytes.{head_bytes, child_bytes, children_bytes, other_entries, branch_entries, leaf_page, branch_page, number_of}
use Rattle.tree_nodes.specs.Valid.{IsValid, IsValidRow, IsValidLeaf, IsFilledLeaf}
use Rattle.tree_nodes.proofs.KeyOrder.{both_true, not_back, itself, upto_below, between_from}

pub entries_length : (pairs : List Pair) → length (entries_bytes pairs) ≡ leaf_bytes pairs
entries_length [] = refl
entries_length (pair ∷ pairs) = length-append (entry_bytes pair) (entries_bytes pairs) ∙ (let a = size_of_entry pair in let b = entries_length pairs in omega (arith, a, b))

pub pairs_count : (pairs : List Pair) → 4 * length pairs ≤ leaf_bytes pairs
pairs_count [] = omega arith
pairs_count (pair ∷ pairs) = let more = pairs_count pairs in omega (arith, more)

child_length : (child : Child) → length (child_bytes child) ≡ 6 + length child.key
child_length child = simp length-append (omega arith)

pub children_length : (others : Others) → length (children_bytes (other_entries others)) ≡ other_bytes others
children_length none = refl
children_length (other key tree others) =
    length-append (child_bytes (record { key = key; page = number_of tree })) (children_bytes (other_entries others))
    ∙ (let a = child_length (record { key = key; page = number_of tree }) in let b = children_length others in omega (arith, a, b))

pub others_count : (others : Others) → length (other_entries others) ≡ other_count others
others_count none = refl
others_count (other key tree others) = omega (arith, others_count others)

pub count_bytes : (others : Others) → 6 * other_count others ≤ other_bytes others
count_bytes none = omega arith
count_bytes (other key tree others) = let more = count_bytes others in omega (arith, more)

-- ---- the head

abbrev head_of : ℕ → ℕ → ℕ → ℕ → Head
head_of n generation level count = record { number = n; generation = generation; level = level; count = count }

head_again : (n generation level count : ℕ) (rest : List ℕ) → n < 2 ^ 32 → generation < 2 ^ 64 → level < 2 ^ 16 → count < 2 ^ 16 → head_at page_word (head_bytes n generation level count ++ rest) ≡ Some (head_of n generation level count, rest)
unfolding head_at
head_again n generation level count rest a b c d =
    let r4 = to_be_bytes w16 count ++ rest in
    let r3 = to_be_bytes w16 level ++ r4 in
    let r2 = to_be_bytes w64 generation ++ r3 in
    let r1 = to_be_bytes w32 n ++ r2 in
    let regrouped : head_bytes n generation level count ++ rest ≡ page_word ++ (to_be_bytes w32 n ++ (to_be_bytes w64 generation ++ (to_be_bytes w16 level ++ (to_be_bytes w16 count ++ rest)))) = simp append_assoc in
    ap (head_at page_word) regrouped
    ∙ bind_again (piece_at 8 (page_word ++ r1)) _ (page_word, r1) (Some (head_of n generation level count, rest)) (piece_again 8 page_word r1 refl)
    (bind_again (number_at w32 r1) _ (n, r2) (Some (head_of n generation level count, rest)) (number32_again n r2 a)
    (bind_again (number_at w64 r2) _ (generation, r3) (Some (head_of n generation level count, rest)) (number64_again generation r3 b)
    (bind_again (number_at w16 r3) _ (level, r4) (Some (head_of n generation level count, rest)) (number16_again level r4 c)
    (bind_again (number_at w16 r4) _ (count, rest) (Some (head_of n generation level count, rest)) (number16_again count rest d) refl))))

zeros_are : (n : ℕ) → list_all is_zero (replicate n 0) ≡ true
zeros_are zero = refl
zeros_are (suc n) = zeros_are n

head_tests : (bounds : Bounds) (n generation level count : ℕ) → 1 ≤ generation → generation ≤ bounds.seal → 1 ≤ count → fits_place (place_in bounds level n) (head_of n generation level count) ≡ true
head_tests bounds n generation level count a b c = rw (eq-eqb n n refl, eq-eqb level level refl, le-leb 1 generation a, le-leb generation bounds.seal b, le-leb 1 count c) refl

-- a page of these entries
page_again : {E : Type 0} (entry_at : List ℕ → Option (E × List ℕ)) (bounds : Bounds) (n generation level : ℕ) (entries : List E) (body : List ℕ) → n < 2 ^ 32 → generation < 2 ^ 64 → level < 2 ^ 16 → length entries < 2 ^ 16
    → 1 ≤ generation → generation ≤ bounds.seal → 1 ≤ length entries → ((rest : List ℕ) → entries_at entry_at (length entries) (body ++ rest) ≡ Some (entries, rest))
    → entries_of entry_at (place_in bounds level n) (padded 4096 (head_bytes n generation level (length entries) ++ body)) ≡ Some entries
unfolding entries_of
page_again entry_at bounds n generation level entries body a b c d f g h again =
    let head = head_bytes n generation level (length entries) in
    let k = 4096 - length (head ++ body) in
    let regrouped : padded 4096 (head ++ body) ≡ head ++ (body ++ replicate k 0) = append_assoc head body (replicate k 0) in
    ap (entries_of entry_at (place_in bounds level n)) regrouped
    ∙ bind_again (head_at page_word (head ++ (body ++ replicate k 0))) _ (head_of n generation level (length entries), body ++ replicate k 0) (Some entries) (head_again n generation level (length entries) (body ++ replicate k 0) a b c d)
    (bind_again (entries_at entry_at (length entries) (body ++ replicate k 0)) _ (entries, replicate k 0) (Some entries) (again (replicate k 0)) (rw (head_tests bounds n generation level (length entries) f g h, zeros_are k) refl))

-- ---- a leaf

filled_length : (pairs : List Pair) → IsFilledLeaf pairs → 1 ≤ length pairs
filled_length [] h = absurd h
filled_length (p ∷ ps) h = omega arith

pub leaf_again : (bounds : Bounds) (n generation : ℕ) (pairs : List Pair) (low : List ℕ) (high : Option (List ℕ)) → n < 2 ^ 32 → generation < 2 ^ 64 → 1 ≤ generation → generation ≤ bounds.seal → IsValidLeaf pairs low high
    → leaf_of (place_in bounds 0 n) low high (leaf_page n generation pairs) ≡ Some pairs
unfolding leaf_of leaf_page
leaf_again bounds n generation pairs low high a b c d v =
    let count = pairs_count pairs in
    let here = page_again pair_at bounds n generation 0 pairs (entries_bytes pairs) a b (omega arith) (omega (arith, count, v.3)) c d (filled_length pairs v.2) (λ rest. entries_again pairs rest v.1) in
    bind_again (entries_of pair_at (place_in bounds 0 n) (padded 4096 (head_bytes n generation 0 (length pairs) ++ entries_bytes pairs))) _ pairs (Some pairs) here (rw v.0 refl)

-- ---- a branch

child_again : (child : Child) (rest : List ℕ) → length child.key ≤ 300 → child.page < 2 ^ 32 → child_at (child_bytes child ++ rest) ≡ Some (child, rest)
unfolding child_at
child_again child rest short small =
    let key = child.key in
    let r2 = key ++ rest in
    let r1 = to_be_bytes w32 child.page ++ r2 in
    let regrouped : child_bytes child ++ rest ≡ to_be_bytes w16 (length key) ++ (to_be_bytes w32 child.page ++ (key ++ rest)) = simp append_assoc in
    ap child_at regrouped
    ∙ bind_again (number_at w16 (to_be_bytes w16 (length key) ++ r1)) _ (length key, r1) (Some (child, rest)) (number16_again (length key) r1 (omega (arith, short)))
    (bind_again (number_at w32 r1) _ (child.page, r2) (Some (child, rest)) (number32_again child.page r2 small)
    (bind_again (piece_at (length key) r2) _ (key, rest) (Some (child, rest)) (piece_again (length key) key rest refl) (rw (le-leb (length key) 300 short) refl)))

-- keys of at most 300 bytes, and numbers of four bytes
abbrev pub AreChildren : List Child → Type 0
AreChildren [] = Unit {0}
AreChildren (child ∷ children) = (length child.key ≤ 300) × (child.page < 2 ^ 32) × AreChildren children

children_again : (children : List Child) (rest : List ℕ) → AreChildren children → entries_at child_at (length children) (children_bytes children ++ rest) ≡ Some (children, rest)
children_again [] rest h = refl
children_again (child ∷ children) rest h =
    let regrouped : children_bytes (child ∷ children) ++ rest ≡ child_bytes child ++ (children_bytes children ++ rest) = append_assoc (child_bytes child) (children_bytes children) rest in
    ap (entries_at child_at (suc (length children))) regrouped
    ∙ bind_again (child_at (child_bytes child ++ (children_bytes children ++ rest))) _ (child, children_bytes children ++ rest) (Some (child ∷ children, rest)) (child_again child (children_bytes children ++ rest) h.0 h.1)
    (bind_again (entries_at child_at (length children) (children_bytes children ++ rest)) _ (children, rest) (Some (child ∷ children, rest)) (children_again children rest h.2) refl)

pub branch_again : (bounds : Bounds) (n generation level : ℕ) (children : List Child) (low : List ℕ) (high : Option (List ℕ)) → n < 2 ^ 32 → generation < 2 ^ 64 → level < 2 ^ 16 → 1 ≤ generation → generation ≤ bounds.seal
    → length children < 2 ^ 16 → 1 ≤ length children → AreChildren children → are_branch bounds.pages low high children ≡ true
    → branch_of (place_in bounds level n) low high (branch_page n generation level children) ≡ Some children
unfolding branch_of branch_page
branch_again bounds n generation level children low high a b l c d few some cs are =
    let here = page_again child_at bounds n generation level children (children_bytes children) a b l few c d some (λ rest. children_again children rest cs) in
    bind_again (entries_of child_at (place_in bounds level n) (padded 4096 (head_bytes n generation level (length children) ++ children_bytes children))) _ children (Some children) here (rw are refl)

-- ---- a branch of a tree

key_short : (key : List ℕ) → is_key key ≡ true → length key ≤ 300
key_short key h = leb-true (length key) 300 (both_true (nat_le 1 (length key)) (nat_le (length key) 300) h).1

above_nothing : (key : List ℕ) → is_key key ≡ true → precedes [] key ≡ true
above_nothing [] h = absurd (cc h)
above_nothing (b ∷ bs) h = refl

row_rises : (others : Others) (old : OldPages) (level : ℕ) (from : List ℕ) (high : Option (List ℕ)) → IsValidRow old level others from high → rises (from ∷ map child_key (other_entries others)) ≡ true
row_rises none old level from high h = refl
row_rises (other key tree others) old level from high h = rw h.0 (row_rises others old level key high h.4)

branch_rises : (others : Others) (old : OldPages) (level : ℕ) (from : List ℕ) (high : Option (List ℕ)) → IsValidRow old level others from high → rises ([] ∷ map child_key (other_entries others)) ≡ true
branch_rises none old level from high h = refl
branch_rises (other key tree others) old level from high h = rw (above_nothing key h.2) (row_rises others old level key high h.4)

row_between : (others : Others) (old : OldPages) (level : ℕ) (low from : List ℕ) (high : Option (List ℕ)) → precedes from low ≡ false → IsValidRow old level others from high → list_all (is_between low high) (map child_key (other_entries others)) ≡ true
row_between none old level low from high b h = refl
row_between (other key tree others) old level low from high b h =
    let above = not_back low key (upto_below low from key b h.0) in
    rw (between_from low high key above h.1) (row_between others old level low key high above h.4)

row_children : (others : Others) (old : OldPages) (level pages : ℕ) (from : List ℕ) (high : Option (List ℕ)) → pages ≤ 2 ^ 32 → IsValidRow old level others from high → list_all (is_inside pages) (other_entries others) ≡ true → AreChildren (other_entries others)
row_children none old level pages from high p h i = tt
row_children (other key tree others) old level pages from high p h i =
    let a = both_true (is_inside pages (record { key = key; page = number_of tree })) (list_all (is_inside pages) (other_entries others)) i in
    let b = both_true (nat_le 2 (number_of tree)) (nat_lt (number_of tree) pages) a.0 in
    (key_short key h.2, omega (arith, p, ltb-true (number_of tree) pages b.1), row_children others old level pages key high p h.4 a.1)

pub valid_branch_again : (old : OldPages) (bounds : Bounds) (level n generation : ℕ) (first : Tree) (others : Others) (low : List ℕ) (high : Option (List ℕ)) → bounds.pages ≤ 2 ^ 32 → n < 2 ^ 32 → generation < 2 ^ 64 → suc level < 2 ^ 16 → 1 ≤ generation → generation ≤ bounds.seal
    → IsValid old (suc level) (branch first others) low high → list_all (is_inside bounds.pages) (branch_entries first others) ≡ true
    → branch_of (place_in bounds (suc level) n) low high (branch_page n generation (suc level) (branch_entries first others)) ≡ Some (branch_entries first others)
valid_branch_again old bounds level n generation first others low high p a b l c d v i =
    let e = both_true (is_inside bounds.pages (record { key = []; page = number_of first })) (list_all (is_inside bounds.pages) (other_entries others)) i in
    let f = both_true (nat_le 2 (number_of first)) (nat_lt (number_of first) bounds.pages) e.0 in
    let count = others_count others in
    let size = count_bytes others in
    branch_again bounds n generation (suc level) (branch_entries first others) low high a b l c d (omega (arith, count, size, v.2)) (omega arith)
    (omega arith, omega (arith, p, ltb-true (number_of first) bounds.pages f.1), row_children others old level bounds.pages low high p v.1 e.1)
    (rw (branch_rises others old level low high v.1, row_between others old level low low high (itself low) v.1, i) refl)
