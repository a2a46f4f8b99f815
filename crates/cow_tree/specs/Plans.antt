-- What a commit of a tree is to write, by the ledger that its pages were taken from.
use Rattle.std.specs.Prelude.{◌≡◌, ◌≤◌, ◌<◌, ◌+◌, ◌-◌, ◌*◌, ℕ, true, List, [], length, All, Option, None, Some, IsTrue, false}
use Rattle.sector_device.specs.Sizes.{page_size}
use Rattle.page_store.specs.Sizes.{most_pairs}
use Rattle.page_alloc.specs.LedgerState.{LedgerState, has_page, has_page_next, is_alive, is_held}
use Rattle.page_store.specs.Sectors.{Image, page_of}
use Rattle.page_store.specs.Roots.{greatest_seal}
use Rattle.page_store.specs.Pages.{Pair}
use Rattle.page_store.specs.Batch.{is_map}
use Rattle.page_store.specs.Switch.{IsSlotPage}
use Rattle.page_store.specs.Commit.{Commit, AreFree, numbers, patched}
use Rattle.page_store.specs.Content.{is_tree_version, Found, content, content_under, is_among}
use Rattle.page_store.specs.declared.banner.Banner.{Banner}
use Rattle.page_store.specs.declared.commit.NewPage.{NewPage}
use Rattle.page_store.specs.declared.slot.Slot.{Slot}
use Rattle.page_store.specs.declared.fault.KeeperFault.{KeeperFault}
use Rattle.page_store.specs.declared.fault.KeeperFault.TheVariants as faults
use Rattle.tree_nodes.specs.Tree.{Tree, page}
use Rattle.tree_pages.specs.Written.{AddsTree, AllFit, IsTreePage}
use Rattle.cow_tree.specs.Opening.{IsRooted}
use Rattle.cow_tree.specs.TreeState.{found_under}
use Rattle.tree_pages.specs.Reached.{times}
use Rattle.tree_nodes.specs.Steps.{RootState}
use Rattle.cow_tree.specs.Drafts.{IsDraft, one_if, root_under}
use Rattle.cow_tree.specs.declared.plans.Plan.{Plan}

-- the commit from the tree under a slot to another
abbrev pub tree_commit : Slot → Image → Slot → Found → Commit
tree_commit slot view new found = record { old = slot; old_found = found_under slot view; new = new; new_found = found }

-- The current generation has exactly the pages of the tree under the slot, which is current, and no seal is above the top.
pub record IsHeld (view : Image) (slot : Slot) (top : ℕ) (ledger : LedgerState) : Type 0 where
  pub content_is : content view ≡ Some (slot, found_under slot view)
  pub held : (n : ℕ) → has_page ledger ledger.generation n ≡ is_among n (found_under slot view).pages
  pub sealed : slot.seal ≤ top
  pub seals : greatest_seal view 16 ≤ top

-- New pages that go to places which are no page of the tree under the slot, and a root of the next seal over them, for the other slot.
pub record IsTreePlan (view : Image) (slot : Slot) (top : ℕ) (pages : List NewPage) (new : Slot) (found : Found) : Type 0 where
  pub free : AreFree (found_under slot view) pages
  pub number : new.number ≡ 1 - slot.number
  pub seal : new.seal ≡ top + 1
  pub version : IsTrue (is_tree_version new.root.banner.version)
  pub under : content_under new (patched pages (page_of view)) ≡ Some found

-- The next generation has exactly the pages of the new tree, all of them whole: those that are alive, and those that were taken. No generation in use has a page that is written.
pub record LeadsToNext (view : Image) (ledger : LedgerState) (pages : List NewPage) (new : Slot) (found : Found) : Type 0 where
  pub size : length ledger.lives ≡ new.root.pages
  pub next : (n : ℕ) → has_page_next ledger n ≡ is_among n found.pages
  pub whole : (n : ℕ) → IsTrue (is_among n found.pages) → length (patched pages (page_of view) n) ≡ page_size
  pub unheld : (n : ℕ) → IsTrue (is_among n (numbers pages)) → is_held ledger n ≡ false

-- The tree under a slot before a commit: it has these pairs, as many as the slot says, and the ledger has exactly its pages.
pub record Starts (slot : Slot) (view : Image) (pairs : List Pair) (ledger : LedgerState) : Type 0 where
  pub draft : IsDraft slot view 0 0 pairs ledger (root_under slot)
  pub keys : slot.root.keys ≡ length pairs
  pub map : is_map pairs ≡ true
  pub few : length pairs ≤ most_pairs

-- Pages and a root over them that may be committed, after which the tree has these pairs, and as its pages the new ones and those that are alive, each once.
pub record IsPlannedAt (view : Image) (slot : Slot) (top : ℕ) (pairs : List Pair) (ledger : LedgerState) (pages : List NewPage) (new : Slot) : Type 0 where
  pub found : Found
  pub plan_is : IsTreePlan view slot top pages new found
  pub next : LeadsToNext view ledger pages new found
  pub pairs_are : found.pairs ≡ pairs
  pub reaches : (n : ℕ) → times n found.pages ≡ times n (numbers pages) + one_if (is_alive ledger n)

abbrev pub IsPlanned : Image → Slot → ℕ → List Pair → LedgerState → Plan → Type 0
IsPlanned view slot top pairs ledger plan = IsPlannedAt view slot top pairs ledger plan.pages.items plan.slot

-- how many levels a tree has: none where it has no root
abbrev pub levels_under : Option Tree → ℕ → ℕ
levels_under None height = 0
levels_under (Some tree) height = height

abbrev pub levels_of : RootState → ℕ
levels_of tree = levels_under tree.root tree.height

-- What a plan is on every device: pages of the image, and a root for the other slot.
pub record IsMade (slot : Slot) (seal : ℕ) (banner : Banner) (plan : Plan) : Type 0 where
  pub pages : All (λ page. (2 ≤ page.number) × (page.number < slot.root.pages)) plan.pages.items
  pub number : plan.slot.number ≡ 1 - slot.number
  pub seal_is : plan.slot.seal ≡ seal
  pub size : plan.slot.root.pages ≡ slot.root.pages
  pub banner_is : plan.slot.root.banner ≡ banner
  pub rooted : IsRooted plan.slot.root
  pub page : (sectors : ℕ) → 8 * slot.root.pages ≤ sectors → IsSlotPage sectors plan.slot plan.root

-- the faults of writing a tree: what was read doesn't fit, or memory lacks
abbrev pub IsTreeFault : KeeperFault → Type 0
IsTreeFault (faults.Damaged n) = Unit {0}
IsTreeFault faults.Memory = Unit {0}
IsTreeFault other = ⊥

-- the faults of a plan of a draft, where so many pages are free and so many may be needed
abbrev pub IsRoomFault : ℕ → (ℕ → Type 0) → KeeperFault → Type 0
IsRoomFault free may_need (faults.Full need left) = (left ≡ free) × (free < need) × may_need need
IsRoomFault free may_need other = IsTreeFault other

-- the faults of a plan, where so many pages are free and so many at most may be needed
abbrev pub IsTreePlanFault : ℕ → (ℕ → Type 0) → KeeperFault → Type 0
IsTreePlanFault free may_need faults.Device = Unit {0}
IsTreePlanFault free may_need (faults.Damaged n) = Unit {0}
IsTreePlanFault free may_need faults.Deep = Unit {0}
IsTreePlanFault free may_need faults.Memory = Unit {0}
IsTreePlanFault free may_need (faults.Full need left) = (left ≡ free) × (free < need) × may_need need
IsTreePlanFault free may_need other = ⊥

-- A tree's root stands at this page once these pages are written, of numbers of a list; the page is one of the image.
abbrev pub IsRootWritten : ℕ → ℕ → List ℕ → ℕ → Option Tree → List NewPage → ℕ → Type 0
IsRootWritten count seal given height None pages n = (pages ≡ []) × (n ≡ 0)
IsRootWritten count seal given height (Some tree) pages n = AddsTree given seal (height - 1) [] pages tree n × AllFit (height - 1) tree × IsTreePage count n

-- where a root is a page of the image, it is no root slot
abbrev pub IsRootInside : ℕ → Option Tree → Type 0
IsRootInside count (Some (page m)) = IsTreePage count m
IsRootInside count other = Unit {0}
