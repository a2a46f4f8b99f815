-- Chunks of a view.
use Rattle.std.proofs.Common.{◌≡◌, ◌+◌, ◌-◌, ◌*◌, ◌≤◌, ◌<◌, ◌/◌, ◌%◌, ◌⊎◌, inl, inr, ℕ, List, [], ◌∷◌, ◌++◌, ap, sym, ◌∙◌, subst, refl, take, drop, length, length-drop, arith}
use Rattle.std.specs.Prelude.{Option, Some, IfSome}
use Prim.Native.Nat.{min}
use Rattle.std.proofs.lemmas.List.{drop_all, drop-drop, length-take, take_min, take-append-drop, drop-append-le}
use Rattle.host_types.specs.Card.{chunk_of}

pub chunk_length : (body : List ℕ) (k n size : ℕ) → length body ≡ size → n ≡ min (size - 1000 * k) 1000 → length (chunk_of body k) ≡ n
unfolding chunk_of
chunk_length body k n size is so_many = omega (arith, length-take 1000 (drop (1000 * k) body), length-drop (1000 * k) body)

none_of : (k : ℕ) → chunk_of [] k ≡ []
unfolding chunk_of
none_of k = ap (take 1000) (drop_all (1000 * k) [] (omega arith))

-- of no bytes each chunk has none
pub chunk_of_none : (body buffer : List ℕ) (k : ℕ) → length body ≡ 0 → take (length (chunk_of body k)) buffer ≡ chunk_of body k
chunk_of_none [] buffer k none = rw (none_of k) refl
chunk_of_none (x ∷ body) buffer k none = absurd (omega (arith, none))

-- a chunk is as many bytes of what is left as it has
chunk_is_front : (body : List ℕ) (k n : ℕ) → length (chunk_of body k) ≡ n → chunk_of body k ≡ take n (drop (1000 * k) body)
unfolding chunk_of
chunk_is_front body k n is =
    sym (take_min 1000 (drop (1000 * k) body))
    ∙ ap (λ m. take m (drop (1000 * k) body)) (sym (length-take 1000 (drop (1000 * k) body)) ∙ is)

-- the bytes of a chunk from a place on are a front of what is left of the body
pub chunk_from : (body buffer : List ℕ) (k from n at end : ℕ) → length (chunk_of body k) ≡ n → take n buffer ≡ chunk_of body k → from ≤ n → at ≡ 1000 * k + from → end ≡ 1000 * k + n →
    drop at body ≡ drop from (take n buffer) ++ drop end body
chunk_from body buffer k from n at end size held le at_is end_is =
    let rest = drop (1000 * k) body in
    let front : take n rest ≡ take n buffer = sym (chunk_is_front body k n size) ∙ sym held in
    let within : from ≤ length (take n rest) = omega (arith, le, ap length (sym (chunk_is_front body k n size)), size) in
    ap (λ m. drop m body) at_is
    ∙ sym (drop-drop from (1000 * k) body)
    ∙ ap (drop from) (sym (take-append-drop n rest))
    ∙ drop-append-le from (take n rest) (drop n rest) within
    ∙ ap (λ l. drop from l ++ drop n rest) front
    ∙ ap (λ l. drop from (take n buffer) ++ l) (drop-drop n (1000 * k) body ∙ ap (λ m. drop m body) (sym end_is))

pub of_place : (P : ℕ → Type 0) (place : Option ℕ) (k : ℕ) → place ≡ Some k → IfSome place P → P k
of_place P place k is held = subst (λ o. IfSome o P) is held

-- a place is before the end of its chunk
pub in_chunk : (at size n : ℕ) → at < size → (n ≡ 1000) ⊎ (1000 * (at / 1000) + n ≡ size) → at % 1000 < n
in_chunk at size n below (inl full) = omega arith
in_chunk at size n below (inr last) = omega arith
