-- What a commit needs: so many pages, or more levels than a tree may have.
use Rattle.std.specs.Prelude.{◌≡◌, ◌≤◌, ◌<◌, ◌+◌, ◌-◌, ◌^◌, min, ℕ, true, List, length, take, replicate, fold, Option, Some, None, Result, IsTrue, OnOk, IfOk}
use Rattle.sector_device.specs.Device.{State}
use Rattle.page_alloc.specs.LedgerState.{LedgerState}
use Rattle.page_store.specs.Sectors.{Image}
use Rattle.page_store.specs.Pages.{Pair}
use Rattle.page_store.specs.Batch.{edited, updated, is_map}
use Rattle.page_store.specs.StoreState.{CommitNeed, SoManyPages, TooManyLevels, most_levels}
use Rattle.page_store.specs.declared.edit.Edit.{Edit}
use Rattle.page_store.specs.declared.fault.KeeperFault.{KeeperFault}
use Rattle.page_store.specs.declared.slot.Slot.{Slot}
use Rattle.tree_nodes.specs.Tree.{OldPages}
use Rattle.tree_nodes.specs.Steps.{RootState, NodeStep, put_step, delete_step, supply_step, stepped, after_steps}
use Rattle.tree_nodes.specs.Growth.{owned_under}
use Rattle.tree_nodes.specs.OwnedTrees.{state_of}
use Rattle.cow_tree.specs.Drafts.{old_under, root_under, most_nodes, IsDraft, IsCounted, TellsDraft, MayBeTooDeep}
use Rattle.cow_tree.specs.declared.drafts.Draft.{Draft}

-- a tree once the page at which a key's path ends was read so many times; where it ends at no page, nothing is read
abbrev pub path_read : OldPages → List ℕ → ℕ → RootState → RootState
path_read old key times tree = after_steps old tree (replicate times (supply_step key))

abbrev pub change_step : List ℕ → Option (List ℕ) → NodeStep
change_step key (Some value) = put_step key value
change_step key None = delete_step key

-- a tree with an edit, which is made once all pages on its key's path are read: there are no more than the levels that the tree had at first
abbrev pub edit_made : OldPages → ℕ → RootState → Edit → RootState
edit_made old height tree edit = stepped old (path_read old edit.key height tree) (change_step edit.key edit.value)

-- the tree under a slot of an image with the edits of a batch, one after another
abbrev pub drafted : Slot → Image → List Edit → RootState
drafted slot image batch = fold (edit_made (old_under slot image) slot.root.height) (root_under slot) batch

-- A key's path is read into the tree of a draft.
abbrev pub ReadsPath : {T : Type 0} → Slot → Image → List ℕ → LedgerState → RootState → RootState → Result T KeeperFault → Type 0
ReadsPath slot view key before old new result = (edits : ℕ) (pairs : List Pair) → IsDraft slot view edits 0 pairs before old → OnOk result (new ≡ path_read (old_under slot view) key slot.root.height old)

-- An edit is made in a draft, or gives its tree too many levels.
abbrev pub MakesEdit : Slot → Image → Edit → LedgerState → Draft → LedgerState → Result Draft KeeperFault → Type 0
MakesEdit slot view edit before draft after result = (edits : ℕ) (pairs : List Pair) → IsCounted slot view edits pairs before draft → length pairs < 2 ^ 64 - 1 →
    TellsDraft (MayBeTooDeep slot (edits + 1) × (most_levels < (edit_made (old_under slot view) slot.root.height (state_of draft.tree) edit).height)) result (IsCounted slot view (edits + 1) (edited pairs edit) after)

-- what its tree is then
abbrev pub GivesEdited : Slot → Image → Edit → LedgerState → Draft → Result Draft KeeperFault → Type 0
GivesEdited slot view edit before draft result = (edits : ℕ) (pairs : List Pair) → IsCounted slot view edits pairs before draft → IfOk result (λ new. state_of new.tree ≡ edit_made (old_under slot view) slot.root.height (state_of draft.tree) edit)

-- how many of its nodes are no pages of the image, as 64 bits hold it: so many pages does a commit of the batch write
abbrev pub pages_needed : Slot → Image → List Edit → ℕ
pages_needed slot image batch = min (owned_under (drafted slot image batch).root) (2 ^ 64 - 1)

-- the first edits of a batch, however many, leave no more levels than a tree may have
abbrev pub StaysLow : Slot → Image → List Edit → Type 0
StaysLow slot image batch = (front : ℕ) → (drafted slot image (take front batch)).height ≤ most_levels

-- the first edits of a batch, for some number of them, make more levels than a tree may have
abbrev pub GetsTooDeep : Slot → Image → List Edit → Type 0
GetsTooDeep slot image batch = (front : ℕ) × (most_levels < (drafted slot image (take front batch)).height)

-- The edits of a batch are made in the tree under a slot, of which some pairs and the ledger are known, or give it too many levels.
abbrev pub MakesBatch : Slot → Image → List Edit → LedgerState → LedgerState → Result Draft KeeperFault → Type 0
MakesBatch slot view batch before after result = (pairs : List Pair) → IsDraft slot view 0 0 pairs before (root_under slot) → slot.root.keys ≡ length pairs → is_map pairs ≡ true → length pairs + length batch < 2 ^ 64 →
    TellsDraft (MayBeTooDeep slot (length batch) × GetsTooDeep slot view batch) result (IsCounted slot view (length batch) (updated pairs batch) after)

-- what the tree is then
abbrev pub GivesDrafted : Slot → Image → List Edit → LedgerState → Result Draft KeeperFault → Type 0
GivesDrafted slot view batch before result = (pairs : List Pair) → IsDraft slot view 0 0 pairs before (root_under slot) → slot.root.keys ≡ length pairs → is_map pairs ≡ true → length pairs + length batch < 2 ^ 64 →
    IfOk result (λ draft. (state_of draft.tree ≡ drafted slot view batch) × StaysLow slot view batch)

-- A commit of a batch needs so many pages, and on no way there too many levels.
pub record NeedsTreePages (slot : Slot) (image : Image) (batch : List Edit) (need : ℕ) : Type 0 where
  pub exact : need ≡ pages_needed slot image batch
  pub most : need ≤ most_nodes slot (length batch)
  pub low : StaysLow slot image batch

abbrev pub NeedsThis : Slot → Image → List Edit → CommitNeed → Type 0
NeedsThis slot image batch (SoManyPages need) = NeedsTreePages slot image batch need
NeedsThis slot image batch TooManyLevels = GetsTooDeep slot image batch

-- the same on a device in this state, which has to be honest
abbrev pub MayNeed : Slot → State → List Edit → CommitNeed → Type 0
MayNeed slot state batch need = IsTrue state.honest → NeedsThis slot state.disk.view batch need
