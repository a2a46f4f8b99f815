-- What opening an image of a tree gives.
use Rattle.std.specs.Prelude.{◌≡◌, ◌≤◌, ◌+◌, ◌-◌, ◌*◌, None, Result, true, [], IsTrue, IfErr, OnOk, ℕ, replicate}
use Rattle.common_types.specs.CrashStates.{CrashStates, AddsNone}
use Rattle.sector_device.specs.Device.{State, NothingCounted}
use Rattle.page_alloc.specs.LedgerState.{LedgerState}
use Rattle.page_store.specs.Content.{is_tree_version, tree_found, HasContent}
use Rattle.page_store.specs.Opening.{MadeToOpen}
use Rattle.page_store.specs.Roots.{IsFoundSlot, greatest_seal}
use Rattle.page_store.specs.Sectors.{Image, page_of}
use Rattle.page_store.specs.declared.slot.Slot.{Slot}
use Rattle.cow_tree.specs.NamedWalks.{tree_or_name}
use Rattle.cow_tree.specs.Opening.{IsRooted, Finds, IsNamed, LivePagesAreWhole, IsImageOfSlot}
use Rattle.cow_tree.specs.TreeSeen.{held}
use Rattle.cow_tree.specs.TreeState.{IsAtRest, FitsTree}
use Rattle.cow_tree.specs.declared.page_fault.PageFault.{PageFault}
use Rattle.cow_tree.specs.declared.tree_keeper.TreeKeeper.{TreeKeeper}

-- A slot of a tree that was found on a device of so many sectors, and the greatest seal.
pub record MayBeTreeSlot (sectors : ℕ) (slot : Slot) (top : ℕ) : Type 0 where
  pub fits : IsFoundSlot sectors slot
  pub version : IsTrue (is_tree_version slot.root.banner.version)
  pub sealed : slot.seal ≤ top
  pub large : 128 ≤ sectors

-- Such a slot with the pages of its tree, of which no pin is out.
pub record FitsOpened (sectors : ℕ) (slot : Slot) (ledger : LedgerState) (top : ℕ) : Type 0 where
  pub tree : FitsTree sectors slot ledger
  pub unpinned : ledger.pins ≡ replicate 32 None
  pub sealed : slot.seal ≤ top
  pub large : 128 ≤ sectors

-- A walk over the tree of a slot: on an honest device it finds the tree whole, or names the first wrong page. On every device it holds nothing but pages of the image, and no pin is out.
pub record FindsSlotTree {T : Type 0} (state : State) (slot : Slot) (now : LedgerState) (result : Result T PageFault) : Type 0 where
  pub found : IsTrue state.honest → Finds (tree_found slot (page_of state.disk.view)) slot now result
  pub named : IsTrue state.honest → IfErr result (IsNamed (tree_or_name slot (page_of state.disk.view)))
  pub whole : IsTrue state.honest → OnOk result (LivePagesAreWhole state.disk.view now)
  pub rooted : OnOk result (IsRooted slot.root)
  pub rest : IsAtRest slot now
  pub unpinned : now.pins ≡ replicate 32 None

-- The pairs and the banner of the image, and the greatest seal: the slot is the current one, the ledger has exactly the pages of its tree, each of them whole, and there are as many pairs as the slot says. No pin is out. No call failed, one sync was made, and each page was read once at most; nothing is written: a crash within the call leaves what one before it might have left.
pub record OpensTree {D : Type 0} {dict : _} (state : D → State) (crash_states : D → CrashStates Image) (given : D) (k : TreeKeeper D dict) : Type 0 where
  pub content : IsTrue (state given).honest → HasContent (state given).disk.view (held state k).pairs (held state k).banner
  pub holds : IsTrue (state given).honest → IsImageOfSlot (state given).disk.view k.slot k.ledger
  pub top : IsTrue (state given).honest → k.top ≡ greatest_seal (state given).disk.view 16
  pub usable : k.usable ≡ true
  pub unpinned : (held state k).pins ≡ []
  pub honest : (state k.device).honest ≡ (state given).honest
  pub large : 128 ≤ (state given).size
  pub fits : 8 * k.slot.root.pages ≤ (state given).size
  pub counts : NothingCounted (state given) (state k.device)
  pub work : MadeToOpen (16 + 8 * (k.slot.root.pages - 2)) (state given) (state k.device)
  pub at_crash : IsTrue (state given).honest → AddsNone (crash_states given) (crash_states k.device)
