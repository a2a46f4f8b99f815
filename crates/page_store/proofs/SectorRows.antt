-- Sectors that are read one after another.
use Rattle.std.proofs.Common.{◌≡◌, ℕ, zero, suc, ◌+◌, ◌*◌, ◌<◌, ◌≤◌, List, [], ◌++◌, length, drop, refl, sym, ◌∙◌, arith, append_assoc, append-nil, ◌≢◌, slice_set, below_more, length-append, length-drop, length-take, get_or-set_other, get_or-set_same}
use borrow.Rule.Slice.PartMut.{put_mid}
use Rattle.std.proofs.lemmas.Grind.{common_steps}
use Rattle.page_store.specs.Sectors.{Image, sector, sectors_from}
use Rattle.page_store.specs.Roots.{record_from, slot_in, greatest_seal}
use Rattle.page_store.proofs.UntouchedPages.{Same, record_from-same, shared_seal-same}

pub sectors_from_push : (image : Image) (k n : ℕ) → sectors_from image n (k + 1) ≡ sectors_from image n k ++ sector image (n + k)
sectors_from_push image zero n = let e : n + 0 ≡ n = omega arith in rw e (append-nil (sector image n))
sectors_from_push image (suc k) n =
    let e : n + suc k ≡ suc n + k = omega arith in
    let f : suc k + 1 ≡ suc (k + 1) = omega arith in
    rw (e, f, sectors_from_push image k (suc n)) (sym (append_assoc (sector image n) (sectors_from image (suc n) k) (sector image (suc n + k))))

pub record_from_push : (image : Image) (k n : ℕ) → record_from image n (k + 1) ≡ record_from image n k ++ drop 24 (sector image (n + k))
record_from_push image zero n = let e : n + 0 ≡ n = omega arith in rw e (append-nil (drop 24 (sector image n)))
record_from_push image (suc k) n =
    let e : n + suc k ≡ suc n + k = omega arith in
    let f : suc k + 1 ≡ suc (k + 1) = omega arith in
    rw (e, f, record_from_push image k (suc n)) (sym (append_assoc (drop 24 (sector image n)) (record_from image (suc n) k) (drop 24 (sector image (suc n + k)))))

pub slot_in-same : (total : ℕ) (a b : Image) (s : ℕ) → Same a b (8 * s) 8 → slot_in total a s ≡ slot_in total b s
unfolding slot_in
slot_in-same total a b s h =
    let seal = shared_seal-same a b 8 (8 * s) h in
    let bytes = record_from-same a b 8 (8 * s) h in
    rw (seal, bytes) refl

pub greatest_seal-same : (a b : Image) (n : ℕ) → ((k : ℕ) → k < n → sector a k ≡ sector b k) → greatest_seal a n ≡ greatest_seal b n
unfolding greatest_seal
greatest_seal-same a b zero h = refl
greatest_seal-same a b (suc n) h =
    let rest = greatest_seal-same a b n (λ k lt. h k (omega arith)) in
    let here = h n (omega arith) in
    rw (rest, here) refl

pub more_sectors : (view : Image) (n : ℕ) (sectors : Image) (x : List ℕ) → n < length sectors → ((k : ℕ) → k < n → sector view k ≡ sector sectors k) → sector view n ≡ x → (k : ℕ) → k < n + 1 → sector view k ≡ sector (slice_set sectors n x) k
more_sectors view n sectors x lt below here =
    below_more _ n (λ k less. let ne : k ≢ n = omega arith in below k less ∙ sym (get_or-set_other sectors n k x [] ne)) (here ∙ sym (get_or-set_same sectors n x [] lt))

pub length-over : (a k : ℕ) (xs ys : List ℕ) → a + k ≤ length xs → length ys ≡ k → length (put_mid a k xs ys) ≡ length xs
length-over a k xs ys within size = simp (length-append, length-take, length-drop) (grind (arith, common_steps))
