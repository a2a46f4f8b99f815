-- The sizes of what is read of a page.
use Rattle.std.proofs.Common.{◌≡◌, ℕ, zero, suc, ◌+◌, ◌≤◌, true, List, [], ◌∷◌, length, take, drop, Option, Some, refl, sym, ap, subst, ◌∙◌, arith, length-drop}
use Rattle.std.specs.Prelude.{nat_le, ◌&&◌, ◌==◌, bytes_eq}
use Rattle.std.specs.Int.{Width, w16, w32, w64, byte_len, from_be_bytes}
use Rattle.std.specs.List.{list_all}
use Rattle.std.proofs.lemmas.Bool.{leb-true, le-leb}
use Rattle.std.proofs.lemmas.List.{length-take-le}
use Rattle.page_store.specs.Reading.{◌>>=◌, where_true, number_at, piece_at}
use Rattle.page_store.specs.Roots.{is_zero}
use Rattle.page_store.specs.Batch.{is_pair, is_value}
use Rattle.page_store.specs.Pages.{Pair, Child, Head, Place, head_at, page_word, pair_at, child_at, entries_at, entries_of, fits_place}
use Rattle.page_store.specs.Flat.{entry_size}
use Rattle.page_store.proofs.Fields.{bind_some, test_passed}
use Rattle.tree_nodes.specs.Tree.{leaf_bytes}
use Rattle.tree_nodes.proofs.KeyOrder.{both_true}

pub some_is : {A : Type 0} (x y : A) → Some x ≡ Some y → x ≡ y
some_is x y e = cc

pub number_size : (w : Width) (bytes : List ℕ) (x : ℕ × List ℕ) → number_at w bytes ≡ Some x → length x.1 + byte_len w ≡ length bytes
number_size w bytes x e =
    let t = test_passed (nat_le (byte_len w) (length bytes)) (Some (from_be_bytes w (take (byte_len w) bytes), drop (byte_len w) bytes)) x e in
    let le = leb-true (byte_len w) (length bytes) t.0 in
    let is = some_is (from_be_bytes w (take (byte_len w) bytes), drop (byte_len w) bytes) x t.1 in
    let same : drop (byte_len w) bytes ≡ x.1 = ap (λ (y : ℕ × List ℕ). y.1) is in
    omega (arith, le, ap length same, length-drop (byte_len w) bytes)

pub piece_size : (n : ℕ) (bytes : List ℕ) (x : List ℕ × List ℕ) → piece_at n bytes ≡ Some x → (length x.0 ≡ n) × (length x.1 + n ≡ length bytes)
piece_size n bytes x e =
    let t = test_passed (nat_le n (length bytes)) (Some (take n bytes, drop n bytes)) x e in
    let le = leb-true n (length bytes) t.0 in
    let is = some_is (take n bytes, drop n bytes) x t.1 in
    let front : take n bytes ≡ x.0 = ap (λ (y : List ℕ × List ℕ). y.0) is in
    let back : drop n bytes ≡ x.1 = ap (λ (y : List ℕ × List ℕ). y.1) is in
    (sym (ap length front) ∙ length-take-le n bytes le, omega (arith, le, ap length back, length-drop n bytes))

-- ---- a pair

pair_is : (pair : Pair) → 1 ≤ length pair.0 → length pair.0 ≤ 300 → length pair.1 ≤ 1024 → is_pair pair ≡ true
unfolding is_value
pair_is pair a b c = rw (le-leb 1 (length pair.0) a, le-leb (length pair.0) 300 b, le-leb (length pair.1) 1024 c) refl

pub pair_read : (bytes : List ℕ) (x : Pair × List ℕ) → pair_at bytes ≡ Some x → (is_pair x.0 ≡ true) × (entry_size x.0 + length x.1 ≡ length bytes)
unfolding pair_at
pair_read bytes x e =
    let a = bind_some (number_at w16 bytes) (λ key_length. number_at w16 key_length.1 >>= λ value_length. piece_at key_length.0 value_length.1 >>= λ key. piece_at value_length.0 key.1 >>= λ value.
    where_true (nat_le 1 key_length.0 && (nat_le key_length.0 300 && nat_le value_length.0 1024)) (Some ((key.0, value.0), value.1))) x e in
    let b = bind_some (number_at w16 a.0.1) (λ value_length. piece_at a.0.0 value_length.1 >>= λ key. piece_at value_length.0 key.1 >>= λ value.
    where_true (nat_le 1 a.0.0 && (nat_le a.0.0 300 && nat_le value_length.0 1024)) (Some ((key.0, value.0), value.1))) x a.2 in
    let c = bind_some (piece_at a.0.0 b.0.1) (λ key. piece_at b.0.0 key.1 >>= λ value. where_true (nat_le 1 a.0.0 && (nat_le a.0.0 300 && nat_le b.0.0 1024)) (Some ((key.0, value.0), value.1))) x b.2 in
    let d = bind_some (piece_at b.0.0 c.0.1) (λ value. where_true (nat_le 1 a.0.0 && (nat_le a.0.0 300 && nat_le b.0.0 1024)) (Some ((c.0.0, value.0), value.1))) x c.2 in
    let t = test_passed (nat_le 1 a.0.0 && (nat_le a.0.0 300 && nat_le b.0.0 1024)) (Some ((c.0.0, d.0.0), d.0.1)) x d.2 in
    let p = both_true (nat_le 1 a.0.0) (nat_le a.0.0 300 && nat_le b.0.0 1024) t.0 in
    let q = both_true (nat_le a.0.0 300) (nat_le b.0.0 1024) p.1 in
    let is = some_is ((c.0.0, d.0.0), d.0.1) x t.1 in
    let k = piece_size a.0.0 b.0.1 c.0 c.1 in
    let v = piece_size b.0.0 c.0.1 d.0 d.1 in
    let m = number_size w16 bytes a.0 a.1 in
    let n = number_size w16 a.0.1 b.0 b.1 in
    let here : (is_pair (c.0.0, d.0.0) ≡ true) × (entry_size (c.0.0, d.0.0) + length d.0.1 ≡ length bytes) = (
      pair_is (c.0.0, d.0.0) (omega (arith, k.0, leb-true 1 a.0.0 p.0)) (omega (arith, k.0, leb-true a.0.0 300 q.0)) (omega (arith, v.0, leb-true b.0.0 1024 q.1)),
      omega (arith, k.0, k.1, v.0, v.1, m, n),
    ) in
    subst (λ (y : Pair × List ℕ). (is_pair y.0 ≡ true) × (entry_size y.0 + length y.1 ≡ length bytes)) is here

pub pairs_read : (n : ℕ) (bytes : List ℕ) (x : List Pair × List ℕ) → entries_at pair_at n bytes ≡ Some x → (length x.0 ≡ n) × (list_all is_pair x.0 ≡ true) × (leaf_bytes x.0 + length x.1 ≡ length bytes)
pairs_read zero bytes x e =
    let is = some_is ([], bytes) x e in
    let here : (length {A = Pair} [] ≡ 0) × (list_all is_pair [] ≡ true) × (leaf_bytes [] + length bytes ≡ length bytes) = (refl, refl, omega arith) in
    subst (λ (y : List Pair × List ℕ). (length y.0 ≡ 0) × (list_all is_pair y.0 ≡ true) × (leaf_bytes y.0 + length y.1 ≡ length bytes)) is here
pairs_read (suc n) bytes x e =
    let a = bind_some (pair_at bytes) (λ entry. entries_at pair_at n entry.1 >>= λ others. Some (entry.0 ∷ others.0, others.1)) x e in
    let b = bind_some (entries_at pair_at n a.0.1) (λ others. Some (a.0.0 ∷ others.0, others.1)) x a.2 in
    let is = some_is (a.0.0 ∷ b.0.0, b.0.1) x b.2 in
    let p = pair_read bytes a.0 a.1 in
    let more = pairs_read n a.0.1 b.0 b.1 in
    let here : (length (a.0.0 ∷ b.0.0) ≡ suc n) × (list_all is_pair (a.0.0 ∷ b.0.0) ≡ true) × (leaf_bytes (a.0.0 ∷ b.0.0) + length b.0.1 ≡ length bytes) =
    (ap suc more.0, rw p.0 more.1, omega (arith, p.1, more.2)) in
    subst (λ (y : List Pair × List ℕ). (length y.0 ≡ suc n) × (list_all is_pair y.0 ≡ true) × (leaf_bytes y.0 + length y.1 ≡ length bytes)) is here

-- ---- a child

pub child_read : (bytes : List ℕ) (x : Child × List ℕ) → child_at bytes ≡ Some x → (length x.0.key ≤ 300) × (6 + length x.0.key + length x.1 ≡ length bytes)
unfolding child_at
child_read bytes x e =
    let a = bind_some (number_at w16 bytes) (λ key_length. number_at w32 key_length.1 >>= λ page. piece_at key_length.0 page.1 >>= λ key. where_true (nat_le key_length.0 300) (Some (record { key = key.0; page = page.0 }, key.1))) x e in
    let b = bind_some (number_at w32 a.0.1) (λ page. piece_at a.0.0 page.1 >>= λ key. where_true (nat_le a.0.0 300) (Some (record { key = key.0; page = page.0 }, key.1))) x a.2 in
    let c = bind_some (piece_at a.0.0 b.0.1) (λ key. where_true (nat_le a.0.0 300) (Some (record { key = key.0; page = b.0.0 }, key.1))) x b.2 in
    let t = test_passed (nat_le a.0.0 300) (Some (record { key = c.0.0; page = b.0.0 }, c.0.1)) x c.2 in
    let is = some_is (record { key = c.0.0; page = b.0.0 }, c.0.1) x t.1 in
    let k = piece_size a.0.0 b.0.1 c.0 c.1 in
    let m = number_size w16 bytes a.0 a.1 in
    let n = number_size w32 a.0.1 b.0 b.1 in
    let here : (length c.0.0 ≤ 300) × (6 + length c.0.0 + length c.0.1 ≡ length bytes) = (omega (arith, k.0, leb-true a.0.0 300 t.0), omega (arith, k.0, k.1, m, n)) in
    subst (λ (y : Child × List ℕ). (length y.0.key ≤ 300) × (6 + length y.0.key + length y.1 ≡ length bytes)) is here

-- the bytes of entries of a branch
abbrev pub children_size : List Child → ℕ
children_size [] = 0
children_size (child ∷ children) = (6 + length child.key) + children_size children

-- keys of at most 300 bytes
abbrev pub AreShort : List Child → Type 0
AreShort [] = Unit {0}
AreShort (child ∷ children) = (length child.key ≤ 300) × AreShort children

pub children_read : (n : ℕ) (bytes : List ℕ) (x : List Child × List ℕ) → entries_at child_at n bytes ≡ Some x → (length x.0 ≡ n) × AreShort x.0 × (children_size x.0 + length x.1 ≡ length bytes)
children_read zero bytes x e =
    let is = some_is ([], bytes) x e in
    let here : (length {A = Child} [] ≡ 0) × AreShort [] × (children_size [] + length bytes ≡ length bytes) = (refl, tt, omega arith) in
    subst (λ (y : List Child × List ℕ). (length y.0 ≡ 0) × AreShort y.0 × (children_size y.0 + length y.1 ≡ length bytes)) is here
children_read (suc n) bytes x e =
    let a = bind_some (child_at bytes) (λ entry. entries_at child_at n entry.1 >>= λ others. Some (entry.0 ∷ others.0, others.1)) x e in
    let b = bind_some (entries_at child_at n a.0.1) (λ others. Some (a.0.0 ∷ others.0, others.1)) x a.2 in
    let is = some_is (a.0.0 ∷ b.0.0, b.0.1) x b.2 in
    let p = child_read bytes a.0 a.1 in
    let more = children_read n a.0.1 b.0 b.1 in
    let here : (length (a.0.0 ∷ b.0.0) ≡ suc n) × AreShort (a.0.0 ∷ b.0.0) × (children_size (a.0.0 ∷ b.0.0) + length b.0.1 ≡ length bytes) =
    (ap suc more.0, (p.0, more.1), omega (arith, p.1, more.2)) in
    subst (λ (y : List Child × List ℕ). (length y.0 ≡ suc n) × AreShort y.0 × (children_size y.0 + length y.1 ≡ length bytes)) is here

-- ---- a page

pub head_size : (magic bytes : List ℕ) (x : Head × List ℕ) → head_at magic bytes ≡ Some x → length x.1 + 24 ≡ length bytes
unfolding head_at
head_size magic bytes x e =
    let a = bind_some (piece_at 8 bytes) (λ word. number_at w32 word.1 >>= λ number. number_at w64 number.1 >>= λ generation. number_at w16 generation.1 >>= λ level. number_at w16 level.1 >>= λ count.
    where_true (bytes_eq word.0 magic) (Some (record { number = number.0; generation = generation.0; level = level.0; count = count.0 }, count.1))) x e in
    let b = bind_some (number_at w32 a.0.1) (λ number. number_at w64 number.1 >>= λ generation. number_at w16 generation.1 >>= λ level. number_at w16 level.1 >>= λ count.
    where_true (bytes_eq a.0.0 magic) (Some (record { number = number.0; generation = generation.0; level = level.0; count = count.0 }, count.1))) x a.2 in
    let c = bind_some (number_at w64 b.0.1) (λ generation. number_at w16 generation.1 >>= λ level. number_at w16 level.1 >>= λ count.
    where_true (bytes_eq a.0.0 magic) (Some (record { number = b.0.0; generation = generation.0; level = level.0; count = count.0 }, count.1))) x b.2 in
    let d = bind_some (number_at w16 c.0.1) (λ level. number_at w16 level.1 >>= λ count.
    where_true (bytes_eq a.0.0 magic) (Some (record { number = b.0.0; generation = c.0.0; level = level.0; count = count.0 }, count.1))) x c.2 in
    let f = bind_some (number_at w16 d.0.1) (λ count. where_true (bytes_eq a.0.0 magic) (Some (record { number = b.0.0; generation = c.0.0; level = d.0.0; count = count.0 }, count.1))) x d.2 in
    let t = test_passed (bytes_eq a.0.0 magic) (Some (record { number = b.0.0; generation = c.0.0; level = d.0.0; count = f.0.0 }, f.0.1)) x f.2 in
    let is = some_is (record { number = b.0.0; generation = c.0.0; level = d.0.0; count = f.0.0 }, f.0.1) x t.1 in
    let rest : f.0.1 ≡ x.1 = ap (λ (y : Head × List ℕ). y.1) is in
    omega (arith, ap length rest, (piece_size 8 bytes a.0 a.1).1, number_size w32 a.0.1 b.0 b.1, number_size w64 b.0.1 c.0 c.1, number_size w16 c.0.1 d.0 d.1, number_size w16 d.0.1 f.0 f.1)

-- a page has at least one entry, in the bytes after its head
pub entries_read : {E : Type 0} (entry_at : List ℕ → Option (E × List ℕ)) (place : Place) (bytes : List ℕ) (entries : List E) → entries_of entry_at place bytes ≡ Some entries
    → (n : ℕ) × (rest : List ℕ) × (after : List ℕ) × (entries_at entry_at n rest ≡ Some (entries, after)) × (1 ≤ n) × (length rest + 24 ≡ length bytes)
unfolding entries_of
entries_read entry_at place bytes entries e =
    let f = bind_some (head_at page_word bytes) (λ head. entries_at entry_at head.0.count head.1 >>= λ es. where_true (fits_place place head.0 && list_all is_zero es.1) (Some es.0)) entries e in
    let g = bind_some (entries_at entry_at f.0.0.count f.0.1) (λ es. where_true (fits_place place f.0.0 && list_all is_zero es.1) (Some es.0)) entries f.2 in
    let t = test_passed (fits_place place f.0.0 && list_all is_zero g.0.1) (Some g.0.0) entries g.2 in
    let b = both_true (fits_place place f.0.0) (list_all is_zero g.0.1) t.0 in
    let c = both_true (f.0.0.number == place.page) (f.0.0.level == place.level && (nat_le 1 f.0.0.generation && (nat_le f.0.0.generation place.seal && nat_le 1 f.0.0.count))) b.0 in
    let d = both_true (f.0.0.level == place.level) (nat_le 1 f.0.0.generation && (nat_le f.0.0.generation place.seal && nat_le 1 f.0.0.count)) c.1 in
    let h = both_true (nat_le 1 f.0.0.generation) (nat_le f.0.0.generation place.seal && nat_le 1 f.0.0.count) d.1 in
    let i = both_true (nat_le f.0.0.generation place.seal) (nat_le 1 f.0.0.count) h.1 in
    let same = some_is g.0.0 entries t.1 in
    (f.0.0.count, f.0.1, g.0.1, g.1 ∙ ap (λ (l : List _). Some (l, g.0.1)) same, leb-true 1 f.0.0.count i.1, head_size page_word bytes f.0 f.1)
