-- A page of sectors that lie side by side.
use Rattle.std.proofs.Common.{◌≡◌, ◌≢◌, ℕ, zero, suc, ◌*◌, ◌+◌, ◌<◌, ◌≤◌, List, [], ◌∷◌, ◌++◌, Option, Some, None, length, take, drop, refl, ap, sym, ◌∙◌, arith}
use Rattle.std.specs.Prelude.{MatchOption}
use Rattle.std.specs.Array.{IsWholeChunk}
use Rattle.std.specs.List.{flat_map}
use Rattle.sector_device.specs.Sectors.{Image, sector, sectors_from, page_of}
use Rattle.file_device.specs.FileCalls.{disk_of}
use Rattle.file_device.specs.declared.file_call.FileCall.{FileCall}

-- behind a first sector the others have the number before theirs
shifted : (x : List ℕ) (xs : Image) (n k : ℕ) → sectors_from (x ∷ xs) (suc n) k ≡ sectors_from xs n k
shifted x xs n zero = refl
shifted x xs n (suc k) = ap (λ (rest : List ℕ). sector xs n ++ rest) (shifted x xs (suc n) k)

joined : (xs : Image) (n k : ℕ) → n + k ≤ length xs → flat_map (λ x. x) (take k (drop n xs)) ≡ sectors_from xs n k
joined xs zero zero h = refl
joined [] zero (suc k) h = absurd (omega (arith, h))
joined (x ∷ xs) zero (suc k) h = ap (λ (rest : List ℕ). x ++ rest) (joined xs zero k (omega (arith, h)) ∙ sym (shifted x xs zero k))
joined [] (suc n) zero h = absurd (omega (arith, h))
joined [] (suc n) (suc k) h = absurd (omega (arith, h))
joined (x ∷ xs) (suc n) k h = joined xs n k (omega (arith, h)) ∙ sym (shifted x xs n k)

pub page_joined : (xs : Image) (n : ℕ) → 8 * n + 8 ≤ length xs → flat_map (λ x. x) (take 8 (drop (8 * n) xs)) ≡ page_of xs n
unfolding page_of
page_joined xs n h = joined xs (8 * n) 8 h

-- what is lent of them
pub page_lent : {T : Type 0} (bytes_of : T → List ℕ) (r : Option T) (xs eight : Image) (flat : List ℕ) (n : ℕ) → MatchOption r (length flat ≢ 4096) (λ y. IsWholeChunk flat (bytes_of y) 4096) → 8 * n + 8 ≤ length xs → flat ≡ flat_map (λ x. x) eight → eight ≡ take 8 (drop (8 * n) xs) → length flat ≡ 4096
    → MatchOption r (length xs < 8 * n + 8) (λ y. (8 * n + 8 ≤ length xs) × (page_of xs n ≡ bytes_of y))
page_lent bytes_of None xs eight flat n chunk within is lie long = absurd (chunk long)
page_lent bytes_of (Some y) xs eight flat n chunk within is lie long =
    (within, sym (chunk.same ∙ is ∙ ap (λ (sectors : Image). flat_map (λ x. x) sectors) lie ∙ page_joined xs n within))

-- what is lent of the copy in memory
pub page_shown : {T : Type 0} (bytes_of : T → List ℕ) (r : Option T) (calls : List FileCall) (shown : Image) (n : ℕ) → shown ≡ (disk_of calls).view → length shown ≡ length (disk_of calls).base → MatchOption r (length shown < 8 * n + 8) (λ y. (8 * n + 8 ≤ length shown) × (page_of shown n ≡ bytes_of y))
    → MatchOption r (length (disk_of calls).base < 8 * n + 8) (λ y. (8 * n + 8 ≤ length (disk_of calls).base) × (page_of (disk_of calls).view n ≡ bytes_of y))
page_shown bytes_of None calls shown n is many h = omega (arith, h, many)
page_shown bytes_of (Some y) calls shown n is many h = (omega (arith, h.0, many), sym (ap (λ (view : Image). page_of view n) is) ∙ h.1)
