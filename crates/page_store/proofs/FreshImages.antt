-- A fresh image.
use Rattle.std.proofs.Common.{◌≡◌, inl, inr, ℕ, zero, suc, ◌+◌, ◌-◌, ◌*◌, ◌<◌, ◌≤◌, Option, true, false, List, [], ◌∷◌, length, replicate, Some, None, refl, sym, ap, subst, ◌∙◌, arith}
use Rattle.page_store.specs.Sectors.{Image, sector, page_of}
use Rattle.std.proofs.lemmas.Bool.{cases_lt}
use Rattle.page_store.specs.Roots.{seal_of, slot_in, slot_of, current, greatest_seal}
use Rattle.page_store.specs.Pages.{Pair}
use Rattle.page_store.specs.Batch.{is_map}
use Rattle.page_store.specs.Flat.{is_half}
use Rattle.page_store.specs.Content.{is_among, pairs_and_banner, HasContent}
use Rattle.page_store.specs.Steps.{chunk, AreWritten}
use Rattle.page_store.specs.Switch.{IsSwitched}
use Rattle.page_store.specs.Encoding.{flat_pages, by_pages, pages_needed}
use Rattle.page_store.specs.Commit.{numbers, patched, ArePatched}
use Rattle.page_store.specs.FlatState.{found_in_half}
use Rattle.page_store.specs.declared.commit.NewPage.{NewPage}
use Rattle.page_store.specs.declared.slot.Slot.{Slot}
use Rattle.page_store.proofs.DecodedPages.{ImageHas}
use Rattle.page_store.proofs.UntouchedPages.{page_of-same}
use Rattle.page_store.proofs.Phases.{content-of}
use Rattle.page_store.proofs.Switches.{slot_shares, shared_each}
use Rattle.page_store.proofs.OtherHalfCommits.{greatest_le, greatest_ge, written_found, patched_holds, numbers_flat, before_first}

-- a page of zeros is no slot
zeros_seal : (n : ℕ) → seal_of n (replicate 512 0) ≡ None
unfolding seal_of
zeros_seal n = refl

no_slot : (sectors : ℕ) (image : Image) → sector image 8 ≡ replicate 512 0 → slot_in sectors image 1 ≡ None
unfolding slot_in
no_slot sectors image e = let s : seal_of 8 (sector image 8) ≡ None = ap (seal_of 8) e ∙ zeros_seal 8 in rw s refl

same_holds : (f g : ℕ → List ℕ) (pages : List NewPage) (low : ℕ) → ((n : ℕ) → 2 ≤ n → g n ≡ f n) → 2 ≤ low → (seal : ℕ) (groups : List (List Pair)) → pages ≡ flat_pages seal low groups → ImageHas f (flat_pages seal low groups) → ImageHas g (flat_pages seal low groups)
same_holds f g pages low same le seal [] is h = tt
same_holds f g pages low same le seal (group ∷ groups) is h = (same low le ∙ h.0, same_holds f g (flat_pages seal (suc low) groups) (suc low) same (omega arith) seal groups refl h.1)

-- once the second slot is cleared and a switch to the first is done, the first is current
pub cleared_current : (slot : Slot) (bytes : List ℕ) (a b c d : Image) (pages : List NewPage) → slot.number ≡ 0 → bytes ≡ replicate 4096 0 → AreWritten (8 * 1) 8 bytes a b → is_among 1 (numbers pages) ≡ false → ArePatched pages b c → IsSwitched slot c d → current d ≡ Some slot
cleared_current slot bytes a b c d pages number zeros cleared out patch done =
    let zero_sector : sector b 8 ≡ replicate 512 0 = cleared.here 0 (omega arith) ∙ ap (λ (l : List ℕ). chunk l 0) zeros in
    let kept : sector c 8 ≡ sector b 8 = patch.outside.each 1 0 out (omega arith) in
    let last : sector d 8 ≡ sector c 8 = done.others 8 (inr (omega (arith, number))) in
    let none : slot_of d 1 ≡ None = no_slot (length d) d (last ∙ kept ∙ zero_sector) in
    let first : slot_of d 0 ≡ Some slot = subst (λ (n : ℕ). slot_of d n ≡ Some slot) number done.here in
    rw (first, none) refl

-- flat pages of the first half are no page of a slot
flat_out : (pages : List NewPage) (pairs : List Pair) → pages ≡ flat_pages 1 2 (by_pages pairs) → is_among 1 (numbers pages) ≡ false
flat_out pages pairs is = ap (λ (p : List NewPage). is_among 1 (numbers p)) is ∙ ap (is_among 1) (numbers_flat 1 2 (by_pages pairs)) ∙ before_first 1 2 (length (by_pages pairs)) (omega arith)

pub fresh_current : (slot : Slot) (bytes : List ℕ) (a b c d : Image) (pages : List NewPage) (pairs : List Pair) → slot.number ≡ 0 → bytes ≡ replicate 4096 0 → AreWritten (8 * 1) 8 bytes a b → pages ≡ flat_pages 1 2 (by_pages pairs) → ArePatched pages b c → IsSwitched slot c d → current d ≡ Some slot
fresh_current slot bytes a b c d pages pairs number zeros cleared is patch done = cleared_current slot bytes a b c d pages number zeros cleared (flat_out pages pairs is) patch done

zero_chunk : (k : ℕ) → k < 8 → chunk (replicate 4096 0) k ≡ replicate 512 0
zero_chunk zero lt = refl
zero_chunk (suc zero) lt = refl
zero_chunk (suc (suc zero)) lt = refl
zero_chunk (suc (suc (suc zero))) lt = refl
zero_chunk (suc (suc (suc (suc zero)))) lt = refl
zero_chunk (suc (suc (suc (suc (suc zero))))) lt = refl
zero_chunk (suc (suc (suc (suc (suc (suc zero)))))) lt = refl
zero_chunk (suc (suc (suc (suc (suc (suc (suc zero))))))) lt = refl
zero_chunk (suc (suc (suc (suc (suc (suc (suc (suc k)))))))) lt = absurd (omega arith)

abbrev some : ℕ → Option ℕ
some x = Some x

some_is : (x y : ℕ) → some x ≡ some y → x ≡ y
some_is x y e = cc

-- no seal of such an image is above 1
pub cleared_greatest : (slot : Slot) (bytes : List ℕ) (a b c d : Image) (pages : List NewPage) → slot.number ≡ 0 → slot.seal ≡ 1 → bytes ≡ replicate 4096 0 → AreWritten (8 * 1) 8 bytes a b → is_among 1 (numbers pages) ≡ false → ArePatched pages b c → IsSwitched slot c d → greatest_seal d 16 ≡ 1
cleared_greatest slot bytes a b c d pages number seal zeros cleared out patch done =
    let shares = slot_shares (length d) d slot.number slot done.here in
    let first : (k : ℕ) → k < 8 → seal_of k (sector d k) ≡ Some 1 = λ k lt.
    let at : 8 * slot.number + k ≡ k = omega (arith, number) in
    subst (λ (j : ℕ). seal_of j (sector d j) ≡ Some 1) at (shared_each d 8 (8 * slot.number) slot.seal shares k lt ∙ ap (λ (x : ℕ). Some x) seal) in
    let second : (k : ℕ) → k < 8 → seal_of (8 + k) (sector d (8 + k)) ≡ None = λ k lt.
    let zero_sector : sector b (8 + k) ≡ replicate 512 0 = cleared.here k lt ∙ ap (λ (l : List ℕ). chunk l k) zeros ∙ zero_chunk k lt in
    let kept : sector c (8 + k) ≡ sector b (8 + k) = patch.outside.each 1 k out lt in
    let last : sector d (8 + k) ≡ sector c (8 + k) = done.others (8 + k) (inr (omega (arith, number))) in
    ap (seal_of (8 + k)) (last ∙ kept ∙ zero_sector) ∙ zeros_seal (8 + k) in
    let most = greatest_le d 16 1 (λ n x lt e. elim (cases_lt n 8) [
      | inl low ↦ (let same : x ≡ 1 = some_is x 1 (sym e ∙ first n low) in omega (arith, same))
      | inr high ↦ absurd (let at : 8 + (n - 8) ≡ n = omega (arith, high) in let none : seal_of n (sector d n) ≡ None = subst (λ (j : ℕ). seal_of j (sector d j) ≡ None) at (second (n - 8) (omega (arith, lt, high))) in cc (none, e))
    ]) in
    let least = greatest_ge d 16 0 1 (omega arith) (first 0 (omega arith)) in
    omega (arith, most, least)

pub fresh_greatest : (slot : Slot) (bytes : List ℕ) (a b c d : Image) (pages : List NewPage) (pairs : List Pair) → slot.number ≡ 0 → slot.seal ≡ 1 → bytes ≡ replicate 4096 0 → AreWritten (8 * 1) 8 bytes a b → pages ≡ flat_pages 1 2 (by_pages pairs) → ArePatched pages b c → IsSwitched slot c d → greatest_seal d 16 ≡ 1
fresh_greatest slot bytes a b c d pages pairs number seal zeros cleared is patch done = cleared_greatest slot bytes a b c d pages number seal zeros cleared (flat_out pages pairs is) patch done

pub fresh_content : (slot : Slot) (b c d : Image) (pages : List NewPage) (pairs : List Pair) → slot.number ≡ 0 → slot.seal ≡ 1 → slot.root.tree ≡ 2 → slot.root.height ≡ 0 → slot.root.keys ≡ length pairs → slot.root.banner.version ≡ 0 → 16 ≤ slot.root.pages → slot.root.pages ≤ 65536
    → is_map pairs ≡ true → pages_needed pairs ≤ 1 → current d ≡ Some slot → pages ≡ flat_pages 1 2 (by_pages pairs) → ArePatched pages b c → IsSwitched slot c d → HasContent d pairs slot.root.banner
fresh_content slot b c d pages pairs number seal tree height keys version least most map_is one now is patch done =
    let half : is_half slot.root ≡ true = rw (height, tree) refl in
    let holds : ImageHas (page_of d) (flat_pages 1 2 (by_pages pairs)) =
    same_holds (patched (flat_pages 1 2 (by_pages pairs)) (page_of b)) (page_of d) (flat_pages 1 2 (by_pages pairs)) 2
    (λ n le. page_of-same d c n (λ k low high. done.others k (inr (omega (arith, number, low, le)))) ∙ patch.bytes n ∙ ap (λ (p : List NewPage). patched p (page_of b) n) is) (omega arith) 1 (by_pages pairs) refl (patched_holds (page_of b) 1 2 (by_pages pairs)) in
    let holds2 : ImageHas (page_of d) (flat_pages slot.seal slot.root.tree (by_pages pairs)) = subst (λ (s : ℕ). ImageHas (page_of d) (flat_pages s slot.root.tree (by_pages pairs))) (sym seal) (subst (λ (t : ℕ). ImageHas (page_of d) (flat_pages 1 t (by_pages pairs))) (sym tree) holds) in
    let under = written_found slot (page_of d) pairs version half map_is (omega (arith, seal)) (omega (arith, tree, most)) keys (omega (arith, one, least)) holds2 in
    ap pairs_and_banner (content-of d slot (found_in_half slot pairs) now under)
