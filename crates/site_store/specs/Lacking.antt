-- For lack of what valid changes of the site that is kept may be refused.
use Rattle.std.specs.Prelude.{◌≡◌, List, length, map, Result, Ok, Err, IsTrue}
use Rattle.host_types.specs.Site.{Site}
use Rattle.host_types.specs.AllChanges.{Changes, all_applied}
use Rattle.host_types.specs.declared.site_fault.SiteFault.{SiteFault}
use Rattle.host_types.specs.declared.site_fault.SiteFault.TheVariants as faults
use Rattle.page_store.specs.Batch.{updated, edit_key, is_batch}
use Rattle.page_store.specs.StoreState.{StoreState, CommitNeed, SoManyPages, TooManyLevels, MayBeDeep, last_generation}
use Rattle.page_store.specs.declared.edit.Edit.{Edit}
use Rattle.page_store.specs.declared.fault.KeeperFault.{KeeperFault}
use Rattle.page_store.specs.declared.fault.KeeperFault.TheVariants as kinds
use Rattle.site_records.specs.Layout.{layout}
use Rattle.site_pairs.specs.ChangeKeys.{keys_of_all}

-- Some edits are a batch, for which a keeper may need this.
abbrev pub MayNeedForEdits : {K : Type 0} → (K → List Edit → CommitNeed → Type 0) → K → List Edit → CommitNeed → Type 0
MayNeedForEdits may_need k batch need = IsTrue (is_batch batch) × may_need k batch need

-- The keeper may need this for a batch that makes the changed site's layout, with one edit for each key of the changes.
abbrev pub ChangesMayNeed : {K : Type 0} → (K → List Edit → CommitNeed → Type 0) → K → Site → Changes → CommitNeed → Type 0
ChangesMayNeed may_need k s changes need = (batch : List Edit) × (t : Site) × (all_applied s changes ≡ Ok t) × (map edit_key batch ≡ keys_of_all s changes) × (updated (layout s) batch ≡ layout t) × MayNeedForEdits may_need k batch need

-- `Full`: the changes may need so many pages. `Spent`: no generation is left. `Deep`: they may need too many levels, and are so many as that takes at least, with one edit for each of their keys.
abbrev pub IsLacking : {K : Type 0} → (K → StoreState) → (K → List Edit → CommitNeed → Type 0) → K → Site → Changes → SiteFault → Type 0
IsLacking store_state may_need k s changes (faults.Full need free) = ChangesMayNeed may_need k s changes (SoManyPages need)
IsLacking store_state may_need k s changes faults.Spent = (store_state k).top ≡ last_generation
IsLacking store_state may_need k s changes faults.Deep = MayBeDeep (store_state k) (length (keys_of_all s changes)) × ChangesMayNeed may_need k s changes TooManyLevels
IsLacking store_state may_need k s changes (faults.Refused r) = ⊥
IsLacking store_state may_need k s changes faults.Read = ⊥
IsLacking store_state may_need k s changes faults.Failed = ⊥
IsLacking store_state may_need k s changes faults.Memory = ⊥

-- No generation is left: that is told, or that memory is wanting.
abbrev pub IsToldSpent : {T : Type 0} → Result T KeeperFault → Type 0
IsToldSpent (Ok done) = ⊥
IsToldSpent (Err kinds.Spent) = Unit {0}
IsToldSpent (Err kinds.Memory) = Unit {0}
IsToldSpent (Err other) = ⊥
