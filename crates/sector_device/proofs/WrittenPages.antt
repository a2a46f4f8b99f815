-- A page that is written sector by sector.
use Rattle.std.proofs.Common.{◌≡◌, ℕ, zero, suc, ◌+◌, ◌*◌, ◌<◌, List, [], ◌++◌, length, take, drop, refl, sym, ap, subst, ◌∙◌, arith}
use Rattle.std.proofs.lemmas.List.{take_all, drop-drop}
use Rattle.std.proofs.Math.Seq.{take-add}
use Rattle.sector_device.specs.Sectors.{Image, sector, sectors_from, page_of}
use Rattle.sector_device.specs.Steps.{chunk, AreWritten}

abbrev chunks : List ℕ → ℕ → ℕ → List ℕ
chunks bytes k zero = []
chunks bytes k (suc n) = chunk bytes k ++ chunks bytes (suc k) n

chunks-take : (bytes : List ℕ) (n k : ℕ) → chunks bytes k n ≡ take (512 * n) (drop (512 * k) bytes)
chunks-take bytes zero k = refl
chunks-take bytes (suc n) k =
    let more : 512 * suc n ≡ 512 + 512 * n = omega arith in
    let next : 512 * suc k ≡ 512 * k + 512 = omega arith in
    ap (λ (xs : List ℕ). chunk bytes k ++ xs) (chunks-take bytes n (suc k) ∙ ap (λ (m : ℕ). take (512 * n) (drop m bytes)) next ∙ ap (take (512 * n)) (sym (drop-drop 512 (512 * k) bytes)))
    ∙ sym (take-add 512 (512 * n) (drop (512 * k) bytes)) ∙ ap (λ (m : ℕ). take m (drop (512 * k) bytes)) (sym more)

sectors-chunks : (image : Image) (bytes : List ℕ) (count n k : ℕ) → ((j : ℕ) → j < count → sector image (n + j) ≡ chunk bytes (k + j)) → sectors_from image n count ≡ chunks bytes k count
sectors-chunks image bytes zero n k h = refl
sectors-chunks image bytes (suc count) n k h =
    let i : n + 0 ≡ n = omega arith in
    let j : k + 0 ≡ k = omega arith in
    let first : sector image n ≡ chunk bytes k = subst (λ (x : ℕ). sector image n ≡ chunk bytes x) j (subst (λ (x : ℕ). sector image x ≡ chunk bytes (k + 0)) i (h 0 (omega arith))) in
    let rest = sectors-chunks image bytes count (suc n) (suc k) (λ m lt. let a : n + suc m ≡ suc n + m = omega arith in let b : k + suc m ≡ suc k + m = omega arith in
    subst (λ (x : ℕ). sector image (suc n + m) ≡ chunk bytes x) b (subst (λ (x : ℕ). sector image x ≡ chunk bytes (k + suc m)) a (h (suc m) (omega arith)))) in
    rw (first, rest) refl

pub page-written : (p : ℕ) (bytes : List ℕ) (a c : Image) → length bytes ≡ 4096 → AreWritten (8 * p) 8 bytes a c → page_of c p ≡ bytes
unfolding page_of
page-written p bytes a c size w =
    sectors-chunks c bytes 8 (8 * p) 0 (λ j lt. let z : j ≡ 0 + j = omega arith in w.here j lt ∙ ap (chunk bytes) z)
    ∙ chunks-take bytes 8 0 ∙ take_all 4096 bytes (omega arith)
