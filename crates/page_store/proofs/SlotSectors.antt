-- The sectors of a slot's page: the fields of its record stand in the first one, and behind them all is zeros.
use Rattle.std.proofs.Common.{◌≡◌, ℕ, ◌+◌, ◌-◌, ◌*◌, ◌<◌, ◌≤◌, List, [], ◌++◌, length, take, drop, replicate, sym, ap, ◌∙◌, arith, length-append, append_assoc}
use Rattle.std.proofs.lemmas.List.{take_at, drop_at, take-replicate, drop-replicate, length-replicate, replicate-append-replicate}
use Rattle.page_store.specs.Encoding.{padded, root_sectors, root_sector}
use Rattle.page_store.proofs.PairsByPage.{root_sectors_more, length_of_sector}

pub six_pieces : (o o1 o2 o3 o4 o5 w n m s t p z y : List ℕ) → o1 ≡ o ++ w → o2 ≡ o1 ++ n → o3 ≡ o2 ++ s → o4 ≡ o3 ++ p → o5 ≡ o4 ++ z → n ≡ m → s ≡ t → z ≡ y → o5 ≡ o ++ (w ++ m ++ t ++ (p ++ y))
six_pieces o o1 o2 o3 o4 o5 w n m s t p z y a b d f g e h i = rw (g, f, d, b, a, e, h, i) (simp append_assoc)

record_parts : (xs : List ℕ) → length xs ≤ 488 → padded 3904 xs ≡ padded 488 xs ++ replicate 3416 0
record_parts xs short =
    let e : 3904 - length xs ≡ 488 - length xs + 3416 = omega (arith, short) in
    ap (λ (n : ℕ). xs ++ replicate n 0) e ∙ ap (λ (l : List ℕ). xs ++ l) (sym (replicate-append-replicate {A = ℕ} (488 - length xs) 3416 0)) ∙ sym (append_assoc xs (replicate (488 - length xs) 0) (replicate 3416 0))

pub part_length : (xs : List ℕ) → length xs ≤ 488 → length (padded 488 xs) ≡ 488
part_length xs short = length-append xs (replicate (488 - length xs) 0) ∙ (let a = length-replicate {A = ℕ} (488 - length xs) 0 in omega (arith, a, short))

-- the fields in the first sector, and zeros in the others
pub first_sector : (first seal : ℕ) (xs : List ℕ) → length xs ≤ 488 → root_sector first seal (padded 488 xs) ++ root_sectors (first + 1) seal 7 (replicate 3416 0) ≡ root_sectors first seal 8 (padded 3904 xs)
first_sector first seal xs short =
    let parts = record_parts xs short in
    let size = part_length xs short in
    let front : take 488 (padded 3904 xs) ≡ padded 488 xs = ap (take 488) parts ∙ take_at (padded 488 xs) (replicate 3416 0) 488 size in
    let back : drop 488 (padded 3904 xs) ≡ replicate 3416 0 = ap (drop 488) parts ∙ drop_at (padded 488 xs) (replicate 3416 0) 488 size in
    sym
    (root_sectors_more first seal 8 (padded 3904 xs) (omega arith) ∙ ap (λ (l : List ℕ). root_sector first seal l ++ root_sectors (first + 1) seal 7 (drop 488 (padded 3904 xs))) front
    ∙ ap (λ (l : List ℕ). root_sector first seal (padded 488 xs) ++ root_sectors (first + 1) seal 7 l) back)

-- one more sector of zeros at the end
pub next_zeros : (out : List ℕ) (first seal k : ℕ) → k < 8 →
    out ++ root_sector (first + k) seal (padded 488 []) ++ root_sectors (first + (k + 1)) seal (8 - (k + 1)) (replicate (488 * (8 - (k + 1))) 0) ≡ out ++ root_sectors (first + k) seal (8 - k) (replicate (488 * (8 - k)) 0)
next_zeros out first seal k lt =
    let zeros : List ℕ = replicate (488 * (8 - k)) 0 in
    let more = root_sectors_more (first + k) seal (8 - k) zeros (omega (arith, lt)) in
    let front : take 488 zeros ≡ replicate 488 0 = take-replicate {X = ℕ} 488 (488 * (8 - k)) 0 (omega (arith, lt)) in
    let fewer : 488 * (8 - k) - 488 ≡ 488 * (8 - (k + 1)) = omega arith in
    let back : drop 488 zeros ≡ replicate (488 * (8 - (k + 1))) 0 = drop-replicate {X = ℕ} 488 (488 * (8 - k)) 0 ∙ ap (λ (n : ℕ). replicate n 0) fewer in
    let a : first + k + 1 ≡ first + (k + 1) = omega arith in
    let b : 8 - k - 1 ≡ 8 - (k + 1) = omega arith in
    let here : root_sectors (first + k) seal (8 - k) zeros ≡ root_sector (first + k) seal (replicate 488 0) ++ root_sectors (first + (k + 1)) seal (8 - (k + 1)) (replicate (488 * (8 - (k + 1))) 0) =
    more ∙ ap (λ (l : List ℕ). root_sector (first + k) seal l ++ root_sectors (first + k + 1) seal (8 - k - 1) (drop 488 zeros)) front
    ∙ ap (λ (l : List ℕ). root_sector (first + k) seal (replicate 488 0) ++ root_sectors (first + k + 1) seal (8 - k - 1) l) back
    ∙ ap (λ (n : ℕ). root_sector (first + k) seal (replicate 488 0) ++ root_sectors n seal (8 - k - 1) (replicate (488 * (8 - (k + 1))) 0)) a
    ∙ ap (λ (m : ℕ). root_sector (first + k) seal (replicate 488 0) ++ root_sectors (first + (k + 1)) seal m (replicate (488 * (8 - (k + 1))) 0)) b in
    append_assoc out (root_sector (first + k) seal (replicate 488 0)) (root_sectors (first + (k + 1)) seal (8 - (k + 1)) (replicate (488 * (8 - (k + 1))) 0)) ∙ ap (λ (l : List ℕ). out ++ l) (sym here)

pub longer_by_a_sector : (k n seal : ℕ) (out part all : List ℕ) → length part ≡ 488 → length out ≡ 512 * k → all ≡ out ++ root_sector n seal part → length all ≡ 512 * (k + 1)
longer_by_a_sector k n seal out part all size before is =
    let a = length_of_sector n seal part in
    ap length is ∙ length-append out (root_sector n seal part) ∙ omega (arith, a, size, before)
