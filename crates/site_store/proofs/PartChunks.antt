-- Chunks of parts.
use Rattle.std.proofs.Common.{◌≡◌, ℕ, ◌+◌, ◌-◌, ◌*◌, ◌<◌, ◌≤◌, ◌^◌, Bool, cond, List, ◌++◌, length, take, drop, Option, Some, None, inl, inr, sym, ap, ◌∙◌, arith}
use Rattle.std.proofs.lemmas.Bool.{cases_lt, lt-ltb, le-ltb}
use Rattle.std.proofs.lemmas.List.{length-take-le, length-drop, take_all, drop-take, take-append-drop, take-take}
use Rattle.host_types.specs.Card.{chunk_of}
use Rattle.page_store.specs.Pages.{Pair}
use Rattle.page_store.specs.Batch.{value_at}
use Rattle.site_records.specs.Keys.{chunk_key}
use Rattle.site_store.specs.StoreReads.{HasPart, chunk_size}

two_parts : (n m : ℕ) (xs : List ℕ) → take n xs ++ take m (drop n xs) ≡ take (n + m) xs
two_parts n m xs =
    ap (λ (a : List ℕ). a ++ take m (drop n xs)) (sym (take-take n (n + m) xs (omega arith)))
    ∙ ap (λ (b : List ℕ). take n (take (n + m) xs) ++ b) (sym (drop-take n m xs))
    ∙ take-append-drop n (take (n + m) xs)

with_chunk : (bytes : List ℕ) (k : ℕ) → take (1000 * k) bytes ++ chunk_of bytes k ≡ take (1000 * k + 1000) bytes
unfolding chunk_of
with_chunk bytes k = two_parts (1000 * k) 1000 bytes

-- one chunk more
pub one_more : (before chunk bytes after : List ℕ) (k : ℕ) → before ≡ take (1000 * k) bytes → chunk ≡ chunk_of bytes k → after ≡ before ++ chunk → after ≡ take (1000 * k + 1000) bytes
one_more before chunk bytes after k old new is = is ∙ ap (λ (b : List ℕ). b ++ chunk) old ∙ ap (λ (c : List ℕ). take (1000 * k) bytes ++ c) new ∙ with_chunk bytes k

-- the chunk that stands at its key
pub found_chunk : (pairs : List Pair) (selector : List ℕ) (part : ℕ) (p : List ℕ) (k : ℕ) (key : List ℕ) (value : Option (List ℕ)) → HasPart pairs selector part p → key ≡ chunk_key selector part k → k < 2 ^ 16 → 1000 * k < length p → value ≡ value_at pairs key → value ≡ Some (chunk_of p k)
found_chunk pairs selector part p k key value has is fits within found =
    found ∙ ap (value_at pairs) is ∙ has k fits ∙ ap (λ (b : Bool). cond b (Some (chunk_of p k)) None) (lt-ltb (1000 * k) (length p) within)

length_chunk : (p : List ℕ) (k : ℕ) → 1000 * k < length p → length (chunk_of p k) ≡ chunk_size (length p) k
unfolding chunk_of
length_chunk p k within =
    let rest : length (drop (1000 * k) p) ≡ length p - 1000 * k = length-drop (1000 * k) p in
    elim (cases_lt (length p - 1000 * k) 1000) [
      | inl less ↦ ap length (take_all 1000 (drop (1000 * k) p) (omega (arith, less, rest))) ∙ rest ∙ sym (ap (λ (b : Bool). cond b (length p - 1000 * k) 1000) (lt-ltb (length p - 1000 * k) 1000 less))
      | inr more ↦ length-take-le 1000 (drop (1000 * k) p) (omega (arith, more, rest)) ∙ sym (ap (λ (b : Bool). cond b (length p - 1000 * k) 1000) (le-ltb (length p - 1000 * k) 1000 more))
    ]

-- what was found has the chunk's size
pub found_size : (p buffer : List ℕ) (n k : ℕ) → 1000 * k < length p → n ≤ length buffer → Some (take n buffer) ≡ Some (chunk_of p k) → n ≡ chunk_size (length p) k
found_size p buffer n k within fits is =
    let same : take n buffer ≡ chunk_of p k = cc is in
    sym (length-take-le n buffer fits) ∙ ap length same ∙ length_chunk p k within
