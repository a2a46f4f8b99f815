-- Why an image is not written anew, by the fault of its key-value store.
use Rattle.std.proofs.Common.{◌≡◌, ◌⊎◌, inl, inr, ℕ, Bool, true, false, sym, ap, ◌∙◌, IsTrue}
use Rattle.common_types.specs.Counts.{counted}
use Rattle.sector_device.specs.Device.{State, NothingCounted}
use Rattle.page_store.specs.Compaction.{IsCompactFault}
use Rattle.page_store.specs.Counting.{reads_after, writes_after}
use Rattle.page_store.specs.StoreState.{StoreState, HasStayed, last_generation}
use Rattle.page_store.specs.declared.fault.KeeperFault.{KeeperFault}
use Rattle.page_store.specs.declared.fault.KeeperFault.TheVariants as kinds
use Rattle.site_store.specs.StoreFault.{store_site_fault_of}
use Rattle.host_on_disk.specs.Upgrades.{IsLastGeneration}
use Rattle.image_commands.specs.Compacted.{LacksRoom, IsNotWrittenAnew, MayHaveWritten}
use Rattle.image_commands.specs.Faults.{of_site}

lies : (a b : Bool) → a ≡ b → IsTrue b → a ≡ false → ⊥
lies a b same t f = let clash : true ≡ false = sym t ∙ sym same ∙ f in cc clash

module _ (old new : State) (h0 h1 : StoreState) (may_need : ℕ → Type 0) (honest : h0.honest ≡ old.honest) (reads_before : h0.failed_reads ≡ old.failed_reads) (writes_before : h0.failed_writes ≡ old.failed_writes)
    (reads_now : new.failed_reads ≡ h1.failed_reads) (writes_now : new.failed_writes ≡ h1.failed_writes) (last : h0.top ≡ last_generation → IsLastGeneration old)
    (room : (need free : ℕ) → HasStayed h0 h1 → free ≡ h0.free → (IsTrue h0.honest → may_need need) → IsTrue old.honest → LacksRoom new.disk.view need free) where
  nothing : h1.failed_reads ≡ h0.failed_reads → h1.failed_writes ≡ h0.failed_writes → NothingCounted old new
  nothing reads writes = record { reads = reads_now ∙ reads ∙ reads_before; writes = writes_now ∙ writes ∙ writes_before }

  pub not_written : (given : KeeperFault) → IsCompactFault h0 h1 may_need given → h1.failed_reads ≡ reads_after given h0.failed_reads → h1.failed_writes ≡ writes_after true given h0.failed_writes → IsNotWrittenAnew old new (of_site (store_site_fault_of given))
  not_written kinds.Device is reads writes = (writes_now ∙ writes ∙ writes_before, λ t. reads_now ∙ reads ∙ ap counted reads_before)
  not_written kinds.NoImage is reads writes = absurd is
  not_written kinds.Version is reads writes = absurd is
  not_written (kinds.Damaged page) is reads writes = (writes_now ∙ writes ∙ writes_before, λ t. absurd (lies h0.honest old.honest honest t is.1))
  not_written kinds.Small is reads writes = absurd is
  not_written kinds.Spent is reads writes = (nothing reads writes, last is.1)
  not_written kinds.Deep is reads writes = absurd is
  not_written (kinds.Full need free) is reads writes = (nothing reads writes, is.2, room need free is.0 is.1 is.3)
  not_written kinds.Failed is reads writes = (writes_now ∙ writes ∙ ap counted writes_before, reads_now ∙ reads ∙ reads_before)
  not_written kinds.Memory is reads writes = nothing reads writes

-- where nothing failed that was written, nothing was written
pub may_have_written : {P : Type 0} (h0 h1 : StoreState) (may_need : ℕ → Type 0) (given : KeeperFault) → h0.usable ≡ true → IsCompactFault h0 h1 may_need given → (h1.usable ≡ true → P) → MayHaveWritten (of_site (store_site_fault_of given)) ⊎ P
may_have_written h0 h1 may_need kinds.Device up is none = inr (none (is.0.usable ∙ up))
may_have_written h0 h1 may_need kinds.NoImage up is none = absurd is
may_have_written h0 h1 may_need kinds.Version up is none = absurd is
may_have_written h0 h1 may_need (kinds.Damaged page) up is none = inr (none (is.0.usable ∙ up))
may_have_written h0 h1 may_need kinds.Small up is none = absurd is
may_have_written h0 h1 may_need kinds.Spent up is none = inr (none (is.0.usable ∙ up))
may_have_written h0 h1 may_need kinds.Deep up is none = absurd is
may_have_written h0 h1 may_need (kinds.Full need free) up is none = inr (none (is.0.usable ∙ up))
may_have_written h0 h1 may_need kinds.Failed up is none = inl tt
may_have_written h0 h1 may_need kinds.Memory up is none = inr (none (is.usable ∙ up))
