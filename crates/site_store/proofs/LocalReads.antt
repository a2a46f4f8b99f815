-- One call that reads after another.
use Rattle.std.proofs.Common.{◌≡◌, ℕ, ◌≤◌, ◌-◌, ◌^◌, inl, inr, sym, ap, ◌∙◌, arith}
use Rattle.std.specs.Prelude.{IsTrue}
use Rattle.std.proofs.lemmas.Bool.{cases_lt}
use Rattle.host_types.specs.SiteState.{Rose}
use Rattle.common_types.specs.Counts.{counted}
use Rattle.common_types.specs.Counts.{counted_below}
use Rattle.page_store.specs.StoreState.{StoreState, StoreHasRead, IsStoreReadFault}
use Rattle.page_store.specs.Counting.{reads_after}
use Rattle.page_store.specs.declared.fault.KeeperFault.{KeeperFault}
use Rattle.page_store.specs.declared.fault.KeeperFault.TheVariants as kinds
use Rattle.site_store.specs.StoreReads.{NoneFailed, IsCountedFault, IsFaultUnless}
use Rattle.site_store.specs.declared.fault.SiteOpenFault.{SiteOpenFault}
use Rattle.site_store.specs.declared.fault.SiteOpenFault.TheVariants.{BadRecord, Keeper, Memory}

-- a count that is one more has risen
pub rose_counted : (a b : ℕ) → b ≡ counted a → Rose a b
rose_counted a b is = elim (cases_lt a (2 ^ 64 - 1)) [
  | inl less ↦ let more = counted_below a less in inl (omega (arith, is, more))
  | inr most ↦ inr most
]

pub rose_later : (a b c : ℕ) → a ≤ b → b ≤ c → Rose b c → Rose a c
rose_later a b c first second (inl less) = inl (omega (arith, first, less))
rose_later a b c first second (inr most) = elim (cases_lt a b) [
  | inl less ↦ inl (omega (arith, less, second))
  | inr same ↦ inr (omega (arith, same, most))
]

pub counted_later : (a b c : StoreState) (fault : KeeperFault) → StoreHasRead a b → NoneFailed a b → IsCountedFault b c fault → IsCountedFault a c fault
counted_later a b c fault x none h = (by fault h.0, h.1 ∙ ap (reads_after fault) none)
  where
    by : (fault : KeeperFault) → IsStoreReadFault b c fault → IsStoreReadFault a c fault
    by kinds.Device h = h ∙ ap counted none
    by kinds.NoImage h = h
    by kinds.Version h = h
    by (kinds.Damaged page) h = sym x.honest ∙ h
    by kinds.Small h = h
    by kinds.Spent h = h
    by kinds.Deep h = h
    by (kinds.Full need free) h = h
    by kinds.Failed h = sym x.same.usable ∙ h
    by kinds.Memory h = h

-- a fault after a call that read
pub fault_later : {P Q : Type 0} → (a b c : StoreState) (fault : SiteOpenFault) → StoreHasRead a b → NoneFailed a b → (IsTrue a.honest → P → Q) → IsFaultUnless Q b c fault → IsFaultUnless P a c fault
fault_later a b c BadRecord x none known h = (h.0 ∙ none, λ honest p. h.1 (x.honest ∙ honest) (known honest p))
fault_later a b c (Keeper fault) x none known h = counted_later a b c fault x none h
fault_later a b c Memory x none known h = h ∙ none

-- a fault where something else is known
pub fault_unless : {P Q : Type 0} → (a b : StoreState) (fault : SiteOpenFault) → (IsTrue a.honest → P → Q) → IsFaultUnless Q a b fault → IsFaultUnless P a b fault
fault_unless a b BadRecord known h = (h.0, λ honest p. h.1 honest (known honest p))
fault_unless a b (Keeper fault) known h = h
fault_unless a b Memory known h = h
