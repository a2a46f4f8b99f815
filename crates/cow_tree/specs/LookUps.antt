-- What looking pairs up in a tree does to a device, and what it answers.
use Rattle.std.specs.Prelude.{◌≡◌, ◌≤◌, ℕ, Bool, List, [], Option, Some, None, Result, IsTrue, IfOk, OnOk, IfSome, option_map, take}
use Rattle.std.specs.Option.{is_some}
use Rattle.page_store.specs.Sizes.{longest_key, longest_value}
use Rattle.common_types.specs.CrashStates.{CrashStates}
use Rattle.sector_device.specs.Device.{State}
use Rattle.page_store.specs.Sectors.{Image, page_of}
use Rattle.page_store.specs.Pages.{Pair}
use Rattle.page_store.specs.Batch.{value_at, pair_after}
use Rattle.page_store.specs.Content.{Found, Bounds, tree_found, walk}
use Rattle.page_store.specs.StoreState.{IsFilled}
use Rattle.page_store.specs.declared.slot.Slot.{Slot}
use Rattle.cow_tree.specs.KeptLeaves.{IsNextLeaf, IsKeptLeaf}
use Rattle.cow_tree.specs.Opening.{bounds_under}
use Rattle.cow_tree.specs.Walks.{ReadsTreePages}
use Rattle.cow_tree.specs.Ways.{AnswersBy}
use Rattle.cow_tree.specs.declared.page_fault.PageFault.{PageFault}

-- This is the tree of a slot, and a leaf of it is kept, or nothing.
abbrev pub IsKeptUnder : Slot → List Pair → (ℕ → List ℕ) → Found → Type 0
IsKeptUnder slot kept bytes found = (tree_found slot bytes ≡ Some found) × IsKeptLeaf bytes (bounds_under slot) found kept

-- of such a tree this holds
abbrev pub WhereKept : Slot → List Pair → (ℕ → List ℕ) → (Found → Type 0) → Type 0
WhereKept slot kept bytes Holds = (found : Found) → tree_found slot bytes ≡ Some found → IsKeptLeaf bytes (bounds_under slot) found kept → Holds found

-- This stands at a page, and has a pair after a key.
abbrev pub HasNextAt : Bounds → ℕ → ℕ → List ℕ → (ℕ → List ℕ) → Found → Type 0
HasNextAt bounds level page key bytes found = (walk bytes bounds level page [] None ≡ Some found) × (pair_after found.pairs key ≡ None → ⊥)

-- the pair of which two buffers have this much in front
abbrev pub pair_in_front : List ℕ → List ℕ → Option (ℕ × ℕ) → Option Pair
pair_in_front key value sizes = option_map (λ n. (take n.0 key, take n.1 value)) sizes

-- A call that looks up the value at a key: it only reads pages, an honest device's tree has the value that it answers, and it fills the buffer with it from the front.
pub record LooksUpValue {D : Type 0} (state : D → State) (crash_states : D → CrashStates Image) (tree : (ℕ → List ℕ) → Option Found) (key : List ℕ) (old new : D) (before after : List ℕ) (result : Result (Option ℕ) PageFault) : Type 0 where
  pub within : IfOk result (λ found. IfSome found (λ n. n ≤ longest_value))
  pub value : IsTrue (state old).honest → (found : Found) → tree (page_of (state old).disk.view) ≡ Some found → AnswersBy result (λ size. option_map (λ n. take n after) size ≡ value_at found.pairs key)
  pub buffer : IsFilled (λ n. n) result before after
  pub reads : ReadsTreePages state crash_states old new result

-- A key and a value that a page may have are put into the fronts of two buffers. What stands behind them stays.
pub record FillsFronts {E : Type 0} (result : Result (Option (ℕ × ℕ)) E) (key_old key_new value_old value_new : List ℕ) : Type 0 where
  pub within : IfOk result (λ found. IfSome found (λ n. (n.0 ≤ longest_key) × (n.1 ≤ longest_value)))
  pub key : IsFilled (λ n. n.0) result key_old key_new
  pub value : IsFilled (λ n. n.1) result value_old value_new

-- A call that looks up the pair after a key: it only reads pages, an honest device's tree has the pair that it answers, and it fills the buffers with its key and its value from the front.
pub record LooksUpNext {D : Type 0} (state : D → State) (crash_states : D → CrashStates Image) (is_tree : (ℕ → List ℕ) → Found → Type 0) (after : List ℕ) (old new : D) (key_old key_new value_old value_new : List ℕ) (result : Result (Option (ℕ × ℕ)) PageFault) : Type 0 where
  pub within : IfOk result (λ found. IfSome found (λ n. (n.0 ≤ longest_key) × (n.1 ≤ longest_value)))
  pub pair : IsTrue (state old).honest → (found : Found) → is_tree (page_of (state old).disk.view) found → AnswersBy result (λ sizes. option_map (λ n. (take n.0 key_new, take n.1 value_new)) sizes ≡ pair_after found.pairs after)
  pub key : IsFilled (λ n. n.0) result key_old key_new
  pub value : IsFilled (λ n. n.1) result value_old value_new
  pub reads : ReadsTreePages state crash_states old new result

-- A call that reads the leaf of the pair after a key: it only reads pages, on an honest device the leaf tells that pair of the tree, and the answer is whether the leaf has one. On every device the leaf has a pair.
pub record ReadsNextLeaf {D : Type 0} (state : D → State) (crash_states : D → CrashStates Image) (is_tree : (ℕ → List ℕ) → Found → Type 0) (bounds : Bounds) (key : List ℕ) (old new : D) (leaf_now : List Pair) (result : Result Bool PageFault) : Type 0 where
  pub leaf : IsTrue (state old).honest → (found : Found) → is_tree (page_of (state old).disk.view) found → AnswersBy result (λ there. IsNextLeaf (page_of (state old).disk.view) bounds key found leaf_now)
  pub there : IfOk result (λ there. there ≡ is_some (pair_after leaf_now key))
  pub some : OnOk result (leaf_now ≡ [] → ⊥)
  pub reads : ReadsTreePages state crash_states old new result

-- A call that keeps the leaf of the pair after a key: it only reads pages, and on an honest device it tells that pair of the tree and keeps then a leaf of the tree or nothing.
pub record KeepsNext {T D : Type 0} (state : D → State) (crash_states : D → CrashStates Image) (is_tree : (ℕ → List ℕ) → Found → Type 0) (bounds : Bounds) (key : List ℕ) (old new : D) (kept_now : List Pair) (answered : T → Option Pair) (result : Result T PageFault) : Type 0 where
  pub pair : IsTrue (state old).honest → (found : Found) → is_tree (page_of (state old).disk.view) found → AnswersBy result (λ x. answered x ≡ pair_after found.pairs key)
  pub kept : IsTrue (state old).honest → (found : Found) → is_tree (page_of (state old).disk.view) found → IsKeptLeaf (page_of (state old).disk.view) bounds found kept_now
  pub reads : ReadsTreePages state crash_states old new result
