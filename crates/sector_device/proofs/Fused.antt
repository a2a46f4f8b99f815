-- Counts of a fuse and of the device inside.
use Rattle.std.proofs.Common.{◌≡◌, ◌≤◌, suc, ◌+◌, ◌-◌, ◌^◌, ℕ, Result, Ok, Err, inl, inr, ap, ◌∙◌, arith}
use Rattle.std.proofs.lemmas.Bool.{cases_lt}
use Rattle.common_types.specs.Counts.{counted, Counts}
use Rattle.common_types.specs.Counts.{counted_below, counted_end}
use Rattle.sector_device.specs.CallsMade.{CallsMade, with_call}
use Rattle.sector_device.specs.declared.call_counts.CallKind.TheVariants as kinds
use Rattle.sector_device.specs.Fuse.{at_most_greatest}

-- a failure of the fuse itself is one more of both together
pub one_refused : (inside own : ℕ) → at_most_greatest (inside + counted own) ≡ counted (at_most_greatest (inside + own))
one_refused a b = elim (cases_lt b (2 ^ 64 - 1)) [
  | inl lt ↦ elim (cases_lt (a + b) (2 ^ 64 - 1)) [
    | inl low ↦ let e = counted_below b lt in let f = counted_below (at_most_greatest (a + b)) (omega arith) in omega (arith, e, f)
    | inr high ↦ let e = counted_below b lt in let f = counted_end (at_most_greatest (a + b)) (omega arith) in omega (arith, e, f)
  ]
  | inr le ↦ let e = counted_end b le in let f = counted_end (at_most_greatest (a + b)) (omega arith) in omega (arith, e, f)
]

-- and so is one of the device inside
pub one_inside : (inside own : ℕ) → at_most_greatest (counted inside + own) ≡ counted (at_most_greatest (inside + own))
one_inside a b = elim (cases_lt a (2 ^ 64 - 1)) [
  | inl lt ↦ elim (cases_lt (a + b) (2 ^ 64 - 1)) [
    | inl low ↦ let e = counted_below a lt in let f = counted_below (at_most_greatest (a + b)) (omega arith) in omega (arith, e, f)
    | inr high ↦ let e = counted_below a lt in let f = counted_end (at_most_greatest (a + b)) (omega arith) in omega (arith, e, f)
  ]
  | inr le ↦ let e = counted_end a le in let f = counted_end (at_most_greatest (a + b)) (omega arith) in omega (arith, e, f)
]

pub both_count : {T E : Type 0} (result : Result T E) (before now own : ℕ) → Counts result before now → Counts result (at_most_greatest (before + own)) (at_most_greatest (now + own))
both_count (Ok value) before now own is = ap (λ n. at_most_greatest (n + own)) is
both_count (Err fault) before now own is = ap (λ n. at_most_greatest (n + own)) is ∙ one_inside before own

-- a call that was noted as a read
pub one_read : (before now : CallsMade) → now ≡ with_call kinds.Read before → (before.reads ≤ now.reads) × (now.writes ≡ before.writes) × (now.syncs ≡ before.syncs)
one_read before now is = let reads : now.reads ≡ suc before.reads = ap (λ (m : CallsMade). m.reads) is in (omega (arith, reads), ap (λ (m : CallsMade). m.writes) is, ap (λ (m : CallsMade). m.syncs) is)
