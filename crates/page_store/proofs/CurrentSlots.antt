-- Which slots are valid, and which of them is current.
use Rattle.std.proofs.Common.{◌≡◌, ◌⊎◌, inl, inr, ⊎_elim, ℕ, ◌+◌, ◌*◌, ◌<◌, ◌≤◌, Bool, true, false, length, Option, Some, None, refl, sym, ap, subst, ◌∙◌, arith, cond}
use Rattle.std.specs.Prelude.{nat_lt}
use Rattle.std.proofs.lemmas.Bool.{cases_Bool, cases_lt, ltb-true, ltb-false}
use Rattle.page_store.specs.Sectors.{Image, sector}
use Rattle.page_store.specs.Roots.{seal_of, root_at, record_from, slot_in, slot_of, newer, current}
use Rattle.page_store.specs.declared.slot.Root.{Root}
use Rattle.page_store.specs.declared.slot.Slot.{Slot}
use Rattle.page_store.proofs.Switches.{some_slot, slot_is, slot_shares, shared_each, shared_again}

pub one_seal : (image : Image) (s k : ℕ) (slot : Slot) → slot_of image s ≡ Some slot → k < 8 → seal_of (8 * s + k) (sector image (8 * s + k)) ≡ Some slot.seal
one_seal image s k slot valid lt = shared_each image 8 (8 * s) slot.seal (slot_shares (length image) image s slot valid) k lt

pub is_valid : (image : Image) (s seal : ℕ) (root : Root) → ((k : ℕ) → k < 8 → seal_of (8 * s + k) (sector image (8 * s + k)) ≡ Some seal) → root_at (length image) (record_from image (8 * s) 8) ≡ Some root
    → slot_of image s ≡ Some (record { number = s; seal = seal; root = root })
unfolding slot_in
is_valid image s seal root each reads = let shares = shared_again image 7 (8 * s) seal each in rw (shares, reads) refl

seal_is : (x y : Slot) → some_slot x ≡ Some y → x.seal ≡ y.seal
seal_is x y e = ap (λ (z : Slot). z.seal) (slot_is x y e)

newest_of : (x y : Option Slot) (slot other : Slot) → newer x y ≡ Some slot → (x ≡ Some other) ⊎ (y ≡ Some other) → other.seal ≤ slot.seal
newest_of None y slot other is (inl e) = absurd (cc e)
newest_of None y slot other is (inr e) = let same = seal_is other slot (sym e ∙ is) in omega (arith, same)
newest_of (Some a) None slot other is (inl e) = let same = seal_is other slot (sym e ∙ is) in omega (arith, same)
newest_of (Some a) None slot other is (inr e) = absurd (cc e)
newest_of (Some a) (Some b) slot other is either = elim (cases_Bool (nat_lt a.seal b.seal)) [
  | inl t ↦
      let lt = ltb-true a.seal b.seal t in
      let now = seal_is b slot (pick true t) in
      ⊎_elim (λ (e : some_slot a ≡ Some other). let same = seal_is a other e in omega (arith, lt, now, same)) (λ (e : some_slot b ≡ Some other). let same = seal_is b other e in omega (arith, now, same)) either
  | inr f ↦
      let ge = ltb-false a.seal b.seal f in
      let now = seal_is a slot (pick false f) in
      ⊎_elim (λ (e : some_slot a ≡ Some other). let same = seal_is a other e in omega (arith, now, same)) (λ (e : some_slot b ≡ Some other). let same = seal_is b other e in omega (arith, ge, now, same)) either
]
  where
    pick : (t : Bool) → nat_lt a.seal b.seal ≡ t → cond t (Some b) (Some a) ≡ Some slot
    pick t e = ap (λ (u : Bool). cond u (Some b) (Some a)) (sym e) ∙ is

pub newest : (image : Image) (s : ℕ) (slot other : Slot) → current image ≡ Some slot → s < 2 → slot_of image s ≡ Some other → other.seal ≤ slot.seal
newest image s slot other is lt valid = newest_of (slot_of image 0) (slot_of image 1) slot other is (elim (cases_lt s 1) [
  | inl first ↦ inl (let n : s ≡ 0 = omega (arith, first) in subst (λ (k : ℕ). slot_of image k ≡ Some other) n valid)
  | inr second ↦ inr (let n : s ≡ 1 = omega (arith, second, lt) in subst (λ (k : ℕ). slot_of image k ≡ Some other) n valid)
])
