-- Reads of a keeper, one after another.
use Rattle.std.proofs.Common.{◌≡◌, ◌≤◌, ℕ, Bool, true, false, List, length, take, Option, Some, None, sym, ap, subst, ◌∙◌, IsTrue}
use Rattle.std.proofs.Math.Seq.{take-length}
use Rattle.std.specs.Option.{is_some}
use Rattle.common_types.specs.Counts.{Rose}
use Rattle.page_store.specs.Pages.{Pair}
use Rattle.page_store.specs.Keys.{precedes}
use Rattle.page_store.specs.Batch.{is_pair, pair_after}
use Rattle.page_store.specs.StoreState.{StoreState, IsStoreReadFault}
use Rattle.page_store.specs.declared.fault.KeeperFault.{KeeperFault}
use Rattle.page_store.specs.declared.fault.KeeperFault.TheVariants as faults
use Rattle.image_commands.specs.declared.fault.ImageFault.{ImageFault}
use Rattle.image_commands.specs.declared.fault.ImageFault.TheVariants.{Refused, NoFile, BadRecord, Store, Memory}
use Rattle.cow_tree.proofs.PairsRead.{behind_fits}
use Rattle.site_store.proofs.LocalReads.{rose_counted}
use Rattle.image_copies.specs.SitesRead.{IsSiteNotRead}

pub lies : (b : Bool) → IsTrue b → b ≡ false → ⊥
lies b holds fails = let clash : true ≡ false = sym holds ∙ fails in cc clash

-- where a read doesn't give what it is to give, one has failed, or the device lied
pub not_read : (old new : StoreState) (fault : KeeperFault) → old.usable ≡ true → IsStoreReadFault old new fault → IsTrue old.honest → Rose old.failed_reads new.failed_reads
not_read old new faults.Device usable is honest = rose_counted old.failed_reads new.failed_reads is
not_read old new faults.NoImage usable is honest = absurd is
not_read old new faults.Version usable is honest = absurd is
not_read old new (faults.Damaged page) usable is honest = absurd (lies old.honest honest is)
not_read old new faults.Small usable is honest = absurd is
not_read old new faults.Spent usable is honest = absurd is
not_read old new faults.Deep usable is honest = absurd is
not_read old new (faults.Full need free) usable is honest = absurd is
not_read old new faults.Failed usable is honest = absurd (lies old.usable usable is)
not_read old new faults.Memory usable is honest = absurd is

-- a read that failed behind others that didn't
pub not_read_since : (old mid new : StoreState) (fault : ImageFault) → mid.honest ≡ old.honest → mid.failed_reads ≡ old.failed_reads → IsSiteNotRead mid new fault → IsSiteNotRead old new fault
not_read_since old mid new (Refused refused) honest none is = absurd is
not_read_since old mid new NoFile honest none is = absurd is
not_read_since old mid new BadRecord honest none is = absurd is
not_read_since old mid new (Store fault) honest none is = (is.0, λ keeps. subst (λ (n : ℕ). Rose n new.failed_reads) none (is.1 (honest ∙ keeps)))
not_read_since old mid new Memory honest none is = tt

pub none_is_none : {A : Type 0} (o : Option A) → o ≡ None → is_some o ≡ true → ⊥
none_is_none None e some = absurd (cc some)
none_is_none (Some a) e some = absurd (cc e)

abbrev pair_of : List ℕ → List ℕ → Pair
pair_of k v = (k, v)

abbrev some_pair : Pair → Option Pair
some_pair p = Some p

-- a pair behind a key comes after it, and has its sizes
pub pair_fits : (pairs : List Pair) (after : List ℕ) (p : Pair) → Some p ≡ pair_after pairs after → length p.0 ≤ 300 → length p.1 ≤ 1024 → (precedes after p.0 ≡ true) × (is_pair p ≡ true)
pair_fits pairs after p is short few =
    let same : p ≡ (take (length p.0) p.0, take (length p.1) p.1) = ap (λ (k : List ℕ). pair_of k p.1) (sym (take-length p.0)) ∙ ap (λ (v : List ℕ). pair_of (take (length p.0) p.0) v) (sym (take-length p.1)) in
    behind_fits pairs after p.0 p.1 (length p.0) (length p.1) p same (ap some_pair (sym same) ∙ is) short few
