-- A slot of which each sector is old or new.
use Rattle.std.proofs.Common.{◌≡◌, ◌⊎◌, inl, inr, ⊎_elim, ℕ, zero, suc, ◌+◌, ◌*◌, ◌<◌, ◌≤◌, List, length, Option, Some, None, refl, sym, ap, subst, ◌∙◌, arith, eq-eqb, ◌-◌}
use Rattle.std.specs.Prelude.{◌==◌}
use Rattle.std.proofs.lemmas.Bool.{eqb-true}
use native.Mathlib.Decide.{ℕ_discrete}
use Prim.{yes, no}
use Rattle.page_store.specs.Reading.{◌>>=◌, where_true}
use Rattle.page_store.specs.Sectors.{Image, sector}
use Rattle.page_store.specs.Roots.{seal_of, shared_seal, record_from, root_at, slot_of, slot_in}
use Rattle.page_store.specs.declared.slot.Slot.{Slot}
use Rattle.common_types.specs.CrashStates.{CrashStates, AddsOnly, AddsNone, may_crash_to, adds_both}
use Rattle.sector_device.proofs.WrittenImages.{weaker}
use Rattle.page_store.specs.Steps.{chunk, AreWritten, MayBeAllWritten, Makes, AllAre, After}
use Rattle.page_store.specs.Switch.{record_in, IsSlotPage, IsAbove, IsSwitching, IsSwitched}
use Rattle.page_store.proofs.Fields.{bind_some, test_passed}
use Rattle.page_store.proofs.UntouchedPages.{slot_of-same}

-- each has P, or one has Q
all_or_some : (count : ℕ) (P Q : ℕ → Type 0) → ((k : ℕ) → k < count → P k ⊎ Q k) → ((k : ℕ) → k < count → P k) ⊎ ((k : ℕ) × (k < count) × Q k)
all_or_some zero P Q h = inl (λ k lt. absurd (omega arith))
all_or_some (suc count) P Q h =
    ⊎_elim (λ all. ⊎_elim (λ (p : P count). inl (λ k lt. elim (ℕ_discrete k count) [ yes same ↦ subst P (sym same) p | no other ↦ all k (omega (arith, other)) ])) (λ q. inr (count, omega arith, q)) (h count (omega arith)))
    (λ some. inr (some.0, omega (arith, some.1), some.2)) (all_or_some count P Q (λ k lt. h k (omega arith)))

abbrev some : ℕ → Option ℕ
some x = Some x

some_ℕ : (x y : ℕ) → some x ≡ some y → x ≡ y
some_ℕ x y e = cc

-- a seal that sectors share is that of each
pub shared_each : (image : Image) (count n seal : ℕ) → shared_seal image n count ≡ Some seal → (k : ℕ) → k < count → seal_of (n + k) (sector image (n + k)) ≡ Some seal
shared_each image zero n seal e k lt = absurd (omega arith)
shared_each image (suc zero) n seal e k lt = let zero_is : n ≡ n + k = omega arith in subst (λ (j : ℕ). seal_of j (sector image j) ≡ Some seal) zero_is e
shared_each image (suc (suc count)) n seal e k lt =
    let f = bind_some (seal_of n (sector image n)) (λ first. shared_seal image (suc n) (suc count) >>= λ others. where_true (first == others) (Some first)) seal e in
    let g = bind_some (shared_seal image (suc n) (suc count)) (λ others. where_true (f.0 == others) (Some f.0)) seal f.2 in
    let t = test_passed (f.0 == g.0) (Some f.0) seal g.2 in
    let first : f.0 ≡ seal = some_ℕ f.0 seal t.1 in
    let same : f.0 ≡ g.0 = eqb-true f.0 g.0 t.0 in
    at k lt (f.1 ∙ ap (λ (x : ℕ). Some x) first) (shared_each image (suc count) (suc n) seal (g.1 ∙ ap (λ (x : ℕ). Some x) (sym same ∙ first)))
  where
    at : (k : ℕ) → k < suc (suc count) → seal_of n (sector image n) ≡ Some seal → ((j : ℕ) → j < suc count → seal_of (suc n + j) (sector image (suc n + j)) ≡ Some seal) → seal_of (n + k) (sector image (n + k)) ≡ Some seal
    at zero lt first rest = let is : n ≡ n + 0 = omega arith in subst (λ (j : ℕ). seal_of j (sector image j) ≡ Some seal) is first
    at (suc k) lt first rest = let is : suc n + k ≡ n + suc k = omega arith in subst (λ (j : ℕ). seal_of j (sector image j) ≡ Some seal) is (rest k (omega arith))

-- sectors that each have a seal share it
pub shared_again : (image : Image) (count n seal : ℕ) → ((k : ℕ) → k < suc count → seal_of (n + k) (sector image (n + k)) ≡ Some seal) → shared_seal image n (suc count) ≡ Some seal
shared_again image zero n seal h = let is : n + 0 ≡ n = omega arith in subst (λ (j : ℕ). seal_of j (sector image j) ≡ Some seal) is (h 0 (omega arith))
shared_again image (suc count) n seal h =
    let is : n + 0 ≡ n = omega arith in
    let first : seal_of n (sector image n) ≡ Some seal = subst (λ (j : ℕ). seal_of j (sector image j) ≡ Some seal) is (h 0 (omega arith)) in
    let rest = shared_again image count (suc n) seal (λ k lt. let next : n + suc k ≡ suc n + k = omega arith in subst (λ (j : ℕ). seal_of j (sector image j) ≡ Some seal) next (h (suc k) (omega arith))) in
    rw (first, rest, eq-eqb seal seal refl) refl

record_again : (image : Image) (bytes : List ℕ) (count n k : ℕ) → ((j : ℕ) → j < count → sector image (n + j) ≡ chunk bytes (k + j)) → record_from image n count ≡ record_in bytes k count
record_again image bytes zero n k h = refl
record_again image bytes (suc count) n k h =
    let i : n + 0 ≡ n = omega arith in
    let j : k + 0 ≡ k = omega arith in
    let first : sector image n ≡ chunk bytes k = subst (λ (x : ℕ). sector image n ≡ chunk bytes x) j (subst (λ (x : ℕ). sector image x ≡ chunk bytes (k + 0)) i (h 0 (omega arith))) in
    let rest = record_again image bytes count (suc n) (suc k) (λ m lt. let a : n + suc m ≡ suc n + m = omega arith in let b : k + suc m ≡ suc k + m = omega arith in
    subst (λ (x : ℕ). sector image (suc n + m) ≡ chunk bytes x) b (subst (λ (x : ℕ). sector image x ≡ chunk bytes (k + suc m)) a (h (suc m) (omega arith)))) in
    rw (first, rest) refl

-- a slot whose sectors are all written
pub slot_written : (slot : Slot) (bytes : List ℕ) (c : Image) → IsSlotPage (length c) slot bytes → ((k : ℕ) → k < 8 → sector c (8 * slot.number + k) ≡ chunk bytes k) → slot_of c slot.number ≡ Some slot
unfolding slot_in
slot_written slot bytes c page here =
    let seal = shared_again c 7 (8 * slot.number) slot.seal (λ k lt. ap (seal_of (8 * slot.number + k)) (here k lt) ∙ page.seals k lt) in
    let body = record_again c bytes 8 (8 * slot.number) 0 (λ j lt. let z : j ≡ 0 + j = omega arith in here j lt ∙ ap (chunk bytes) z) in
    rw (seal, body, page.root) refl

abbrev pub some_slot : Slot → Option Slot
some_slot x = Some x

pub slot_is : (x y : Slot) → some_slot x ≡ some_slot y → x ≡ y
slot_is x y e = cc

-- its seal is the one that its sectors share
pub slot_shares : (sectors : ℕ) (image : Image) (s : ℕ) (x : Slot) → slot_in sectors image s ≡ Some x → shared_seal image (8 * s) 8 ≡ Some x.seal
unfolding slot_in
slot_shares sectors image s x e =
    let f = bind_some (shared_seal image (8 * s) 8) (λ seal. root_at sectors (record_from image (8 * s) 8) >>= λ root. Some (record { number = s; seal = seal; root = root })) x e in
    let g = bind_some (root_at sectors (record_from image (8 * s) 8)) (λ root. Some (record { number = s; seal = f.0; root = root })) x f.2 in
    f.1 ∙ ap (λ (z : Slot). Some z.seal) (slot_is _ x g.2)

-- a valid slot has a seal that its sectors share
pub slot_seal : (c : Image) (number : ℕ) (x : Slot) → slot_of c number ≡ Some x → (seal : ℕ) × (shared_seal c (8 * number) 8 ≡ Some seal)
unfolding slot_in
slot_seal c number x e = let f = bind_some (shared_seal c (8 * number) 8) _ x e in (f.0, f.1)

module _ (slot : Slot) (bytes : List ℕ) (a c : Image) (page : IsSlotPage (length a) slot bytes) (above : IsAbove slot.seal slot.number a) (may : MayBeAllWritten (8 * slot.number) 8 bytes a c) where
  all_at : (k : ℕ) → 8 * slot.number ≤ k → k < 8 * slot.number + 8 → ((j : ℕ) → j < 8 → sector c (8 * slot.number + j) ≡ sector a (8 * slot.number + j)) → sector c k ≡ sector a k
  all_at k low high all = let is : 8 * slot.number + (k - 8 * slot.number) ≡ k = omega arith in subst (λ (j : ℕ). sector c j ≡ sector a j) is (all (k - 8 * slot.number) (omega arith))

  clash : (x : Slot) → slot_of c slot.number ≡ Some x → ((k : ℕ) × (k < 8) × (sector c (8 * slot.number + k) ≡ chunk bytes k)) → ((k : ℕ) × (k < 8) × (sector c (8 * slot.number + k) ≡ sector a (8 * slot.number + k))) → ⊥
  clash x e one two =
      let f = slot_seal c slot.number x e in
      let new : Some slot.seal ≡ Some f.0 = sym (page.seals one.0 one.1) ∙ ap (seal_of (8 * slot.number + one.0)) (sym one.2) ∙ shared_each c 8 (8 * slot.number) f.0 f.1 one.0 one.1 in
      let old : seal_of (8 * slot.number + two.0) (sector a (8 * slot.number + two.0)) ≡ Some f.0 = ap (seal_of (8 * slot.number + two.0)) (sym two.2) ∙ shared_each c 8 (8 * slot.number) f.0 f.1 two.0 two.1 in
      let less = above.each two.0 f.0 two.1 old in
      let same : slot.seal ≡ f.0 = some_ℕ slot.seal f.0 new in
      omega arith

  which : (x : Option Slot) → slot_of c slot.number ≡ x → (slot_of c slot.number ≡ slot_of a slot.number) ⊎ ((slot_of c slot.number ≡ None) ⊎ (slot_of c slot.number ≡ Some slot))
  which None e = inr (inl e)
  which (Some x) e =
      ⊎_elim (λ all. inl (slot_of-same c a slot.number may.size (λ k low high. all_at k low high all)))
      (λ one. ⊎_elim (λ all. inr (inr (slot_written slot bytes c (subst (λ (n : ℕ). IsSlotPage n slot bytes) (sym may.size) page) all)))
      (λ two. absurd (clash x e one two))
      (all_or_some 8 (λ k. sector c (8 * slot.number + k) ≡ chunk bytes k) (λ k. sector c (8 * slot.number + k) ≡ sector a (8 * slot.number + k)) (λ k lt. ⊎_elim (λ o. inr o) (λ w. inl w) (may.here k lt))))
      (all_or_some 8 (λ k. sector c (8 * slot.number + k) ≡ sector a (8 * slot.number + k)) (λ k. sector c (8 * slot.number + k) ≡ chunk bytes k) may.here)

  pub switching : IsSwitching slot a c
  switching = record {
    size = may.size;
    others = may.others;
    here = which (slot_of c slot.number) refl;
    sealed = λ k lt. ⊎_elim (λ old. inl old) (λ new. inr (ap (seal_of (8 * slot.number + k)) new ∙ page.seals k lt)) (may.here k lt);
  }

pub switched : (slot : Slot) (bytes : List ℕ) (a c : Image) → IsSlotPage (length a) slot bytes → AreWritten (8 * slot.number) 8 bytes a c → IsSwitched slot a c
switched slot bytes a c page is = record {
  size = is.size;
  others = is.others;
  here = slot_written slot bytes c (subst (λ (n : ℕ). IsSlotPage n slot bytes) (sym is.size) page) is.here;
}

-- ---- crash states

pub page_switches : (slot : Slot) (bytes : List ℕ) (a : Image) (old new : CrashStates Image) → IsSlotPage (length a) slot bytes → IsAbove slot.seal slot.number a → AllAre old a → Makes old new (MayBeAllWritten (8 * slot.number) 8 bytes) → AddsOnly old new (IsSwitching slot a)
page_switches slot bytes a old new page above all makes =
    weaker old new (After old (MayBeAllWritten (8 * slot.number) 8 bytes)) (IsSwitching slot a) makes
    (λ c p. switching slot bytes a c page above (subst (λ (d : Image). MayBeAllWritten (8 * slot.number) 8 bytes d c) (all p.0 p.1) p.2))

pub then_none_added : (old mid new : CrashStates Image) (P : Image → Type 0) → AddsOnly old mid P → AddsNone mid new → AddsOnly old new P
then_none_added old mid new P first second = adds_both old mid new P (may_crash_to mid) P first second (λ c p. p) (λ c left. first.now c left)
