-- Walking over the children of a branch from a place of its page on.
use Rattle.std.proofs.Common.{◌≡◌, ℕ, zero, suc, ◌+◌, ◌-◌, ◌≤◌, ◌<◌, ◌⊎◌, inl, inr, List, [], ◌∷◌, length, drop, Some, refl, sym, ap, ◌∙◌, arith, length-drop}
use Rattle.std.specs.Prelude.{nat_le}
use Rattle.std.specs.List.{slice_range}
use Rattle.std.proofs.lemmas.List.{take_all}
use Rattle.std.specs.Int.{w16, w32}
use Rattle.page_store.specs.Reading.{◌>>=◌, where_true, number_at, piece_at}
use Rattle.page_store.specs.Pages.{Child, child_at}
use Rattle.page_store.proofs.Fields.{bind_some, test_passed}
use Rattle.tree_nodes.specs.PageViews.{children_in, then_more}
use Rattle.tree_nodes.proofs.SizesRead.{some_is, number_size, piece_size}
use Rattle.cow_tree.proofs.LeafBytes.{number_rest, piece_rest, then_rest}

-- what is left behind a child is so many bytes further
rest_of : (bytes : List ℕ) (x : Child × List ℕ) → child_at bytes ≡ Some x → (n : ℕ) × (x.1 ≡ drop n bytes) × (length x.1 + n ≡ length bytes)
unfolding child_at
rest_of bytes x e =
    let a = bind_some (number_at w16 bytes) (λ key_length. number_at w32 key_length.1 >>= λ page. piece_at key_length.0 page.1 >>= λ key. where_true (nat_le key_length.0 300) (Some (record { key = key.0; page = page.0 }, key.1))) x e in
    let b = bind_some (number_at w32 a.0.1) (λ page. piece_at a.0.0 page.1 >>= λ key. where_true (nat_le a.0.0 300) (Some (record { key = key.0; page = page.0 }, key.1))) x a.2 in
    let c = bind_some (piece_at a.0.0 b.0.1) (λ key. where_true (nat_le a.0.0 300) (Some (record { key = key.0; page = b.0.0 }, key.1))) x b.2 in
    let t = test_passed (nat_le a.0.0 300) (Some (record { key = c.0.0; page = b.0.0 }, c.0.1)) x c.2 in
    let is : c.0.1 ≡ x.1 = ap (λ (y : Child × List ℕ). y.1) (some_is (record { key = c.0.0; page = b.0.0 }, c.0.1) x t.1) in
    let at2 = number_rest w16 bytes a.0 a.1 in
    let at6 = then_rest 4 2 bytes a.0.1 b.0.1 at2 (number_rest w32 a.0.1 b.0 b.1) in
    let behind = then_rest a.0.0 6 bytes b.0.1 c.0.1 at6 (piece_rest a.0.0 b.0.1 c.0 c.1) in
    let m = number_size w16 bytes a.0 a.1 in
    let n = number_size w32 a.0.1 b.0 b.1 in
    let k = (piece_size a.0.0 b.0.1 c.0 c.1).1 in
    (6 + a.0.0, sym is ∙ behind, omega (arith, ap length is, m, n, k))

-- The bytes behind a child of a page, by how many they are.
rest_place : (bytes : List ℕ) (at size : ℕ) (x : Child × List ℕ) → length bytes ≡ size → at ≤ size → child_at (drop at bytes) ≡ Some x → (x.1 ≡ drop (size - length x.1) bytes) × (length x.1 ≤ size)
rest_place bytes at size x long inside e =
    let r = rest_of (drop at bytes) x e in
    let left = length-drop at bytes in
    let place : at + r.0 ≡ size - length x.1 = omega (arith, r.2, left, long, inside) in
    (then_rest r.0 at bytes (drop at bytes) x.1 refl r.1 ∙ ap (λ (n : ℕ). drop n bytes) place, omega (arith, r.2, left, long, inside))

one_more : (m n : ℕ) (bytes rest : List ℕ) (c : Child) → m ≡ suc n → child_at bytes ≡ Some (c, rest) → children_in m bytes ≡ c ∷ children_in n rest
one_more m n bytes rest c is read = ap (λ (k : ℕ). children_in k bytes) is ∙ ap (then_more (children_in n)) read

past_the_end : (n : ℕ) (bytes : List ℕ) → length bytes ≡ 0 → children_in n bytes ≡ []
unfolding child_at
past_the_end zero bytes none = refl
past_the_end (suc n) [] none = refl
past_the_end (suc n) (b ∷ bytes) none = absurd (cc none)

-- A place behind the end of a page has no children.
pub out_of_page : (bytes : List ℕ) (at left : ℕ) → (length bytes < at) ⊎ (length bytes < length bytes) → children_in left (drop at bytes) ≡ []
out_of_page bytes at left (inl behind) = past_the_end left (drop at bytes) (omega (arith, behind, length-drop at bytes))
out_of_page bytes at left (inr never) = absurd (omega (arith, never))

to_the_end : (bytes entries : List ℕ) (at : ℕ) → entries ≡ slice_range bytes at (length bytes) → entries ≡ drop at bytes
to_the_end bytes entries at is = is ∙ take_all (length bytes - at) (drop at bytes) (omega (arith, length-drop at bytes))

-- What is read at a place of a page: the children there, and how many bytes are left.
pub child_there : (bytes entries rest : List ℕ) (at left size : ℕ) (c : Child) → length bytes ≡ size → at ≤ length bytes → entries ≡ slice_range bytes at (length bytes) → Some (c, rest) ≡ child_at entries → 1 ≤ left
    → (children_in left (drop at bytes) ≡ c ∷ children_in (left - 1) (drop (size - length rest) bytes)) × (length rest ≤ size)
child_there bytes entries rest at left size c long inside is read some =
    let there = to_the_end bytes entries at is in
    let here : child_at (drop at bytes) ≡ Some (c, rest) = ap child_at (sym there) ∙ sym read in
    let behind = rest_place bytes at size (c, rest) long (omega (arith, long, inside)) here in
    (one_more left (left - 1) (drop at bytes) rest c (omega (arith, some)) here ∙ ap (λ (l : List ℕ). c ∷ children_in (left - 1) l) behind.0, behind.1)
