-- What a walk over a tree tells.
use Rattle.std.specs.Prelude.{◌≡◌, ◌⊎◌, ◌≤◌, ◌<◌, ◌-◌, ◌*◌, ◌^◌, min, not, ℕ, true, false, List, length, Option, Some, Result, Ok, Err, IsTrue, OnOk, IfErr}
use Rattle.sector_device.specs.Sizes.{page_size}
use Rattle.common_types.specs.Counts.{counted}
use Rattle.common_types.specs.CrashStates.{CrashStates}
use Rattle.sector_device.specs.Device.{State}
use Rattle.page_alloc.specs.LedgerState.{LedgerState, is_alive, is_free}
use Rattle.page_store.specs.Sectors.{Image, page_of}
use Rattle.page_store.specs.DeviceEffects.{IsReadCall}
use Rattle.page_store.specs.Reading.{◌>>=◌}
use Rattle.page_store.specs.Pages.{Child}
use Rattle.page_store.specs.Content.{Found, joined, is_among}
use Rattle.cow_tree.specs.Reached.{are_fresh, holding_all}
use Rattle.cow_tree.specs.declared.page_fault.PageFault.{PageFault}
use Rattle.cow_tree.specs.declared.page_fault.PageFault.TheVariants.{Device, Damaged}

-- A page of an image of so many pages, which a device of so many sectors has.
pub record IsPageInside (sectors pages page : ℕ) : Type 0 where
  pub below : page < pages
  pub fits : 8 * pages ≤ sectors

-- The pages that were reached were free, and are held now. No page has more than 65,535 pairs.
pub record IsWalked (what : Option Found) (old new : LedgerState) (count : ℕ) : Type 0 where
  pub found : Found
  pub is : what ≡ Some found
  pub fresh : are_fresh old found.pages ≡ true
  pub held : new ≡ holding_all old found.pages
  pub pairs : count ≡ min (length found.pairs) (2 ^ 64 - 1)
  pub most : length found.pairs ≤ 65535 * length found.pages

-- Nothing stands there, or a page of it was reached before.
pub record IsBroken (what : Option Found) (old : LedgerState) : Type 0 where
  pub each : (found : Found) → what ≡ Some found → are_fresh old found.pages ≡ false

-- what a walk tells, by what stands there
abbrev pub TellsWalk : Option Found → LedgerState → LedgerState → Result ℕ PageFault → Type 0
TellsWalk what old new (Ok count) = IsWalked what old new count
TellsWalk what old new (Err Device) = Unit {0}
TellsWalk what old new (Err (Damaged page)) = IsBroken what old

-- The pages of a list are those that are held.
pub record AreHeld (held : LedgerState) (reached : List ℕ) : Type 0 where
  pub each : (n : ℕ) → 2 ≤ n → n < length held.lives → is_free held n ≡ not (is_among n reached)

-- a walk names this page, once the pages that are held were reached
abbrev pub NamesFrom : (List ℕ → Result Found ℕ) → LedgerState → ℕ → Type 0
NamesFrom what held page = (reached : List ℕ) → AreHeld held reached → what reached ≡ Err page

-- A page that is damaged is the one that a walk names, by the bytes of the pages.
abbrev pub Names : State → ((ℕ → List ℕ) → List ℕ → Result Found ℕ) → LedgerState → PageFault → Type 0
Names state what held Device = Unit {0}
Names state what held (Damaged page) = IsTrue state.honest → NamesFrom (what (page_of state.disk.view)) held page

-- a page of an image of so many
abbrev pub NamesInside : ℕ → PageFault → Type 0
NamesInside pages Device = Unit {0}
NamesInside pages (Damaged page) = (2 ≤ page) × (page < pages)

-- Of a ledger only lives have changed.
pub record OnlyHolds (old new : LedgerState) : Type 0 where
  pub pages : length new.lives ≡ length old.lives
  pub marks : new.marks ≡ old.marks
  pub generation : new.generation ≡ old.generation
  pub pins : new.pins ≡ old.pins

-- Each page that is newly alive was read whole.
pub record HoldsWhole (image : Image) (old new : LedgerState) : Type 0 where
  pub each : (n : ℕ) → IsTrue (is_alive new n) → IsTrue (is_alive old n) ⊎ (length (page_of image n) ≡ page_size)

-- A read that fails is counted, and nothing else.
abbrev pub CountsPages : {T : Type 0} → Result T PageFault → ℕ → ℕ → Type 0
CountsPages (Ok _) before now = now ≡ before
CountsPages (Err Device) before now = now ≡ counted before
CountsPages (Err (Damaged page)) before now = now ≡ before

-- What a call that reads pages does to a device.
pub record ReadsTreePages {T D : Type 0} (state : D → State) (crash_states : D → CrashStates Image) (old new : D) (result : Result T PageFault) : Type 0 where
  pub device : IsReadCall state crash_states old new
  pub reads : CountsPages result (state old).failed_reads (state new).failed_reads

-- A call that walks pages of a tree: of the device only reads are made, of the ledger only lives change, each page that it newly holds was read whole, and a fault names only what it may.
pub record WalksPages {T D : Type 0} (state : D → State) (crash_states : D → CrashStates Image) (old new : D) (before after : LedgerState) (may_name : PageFault → Type 0) (result : Result T PageFault) : Type 0 where
  pub whole : IsTrue (state old).honest → OnOk result (HoldsWhole (state old).disk.view before after)
  pub ledger : OnlyHolds before after
  pub named : IfErr result may_name
  pub reads : ReadsTreePages state crash_states old new result

-- what was found in front of more
abbrev pub with_front : Found → Option Found → Option Found
with_front front found = found >>= λ x. Some (joined front x)

-- What was found of some children, before the others.
pub record IsWalkedTo (fan_of : List Child → Option Found) (children others : List Child) (old now : LedgerState) (count : ℕ) : Type 0 where
  pub front : Found
  pub is : fan_of children ≡ with_front front (fan_of others)
  pub fresh : are_fresh old front.pages ≡ true
  pub held : now ≡ holding_all old front.pages
  pub pairs : count ≡ min (length front.pairs) (2 ^ 64 - 1)
  pub most : length front.pairs ≤ 65535 * length front.pages

-- What is named of the others once the pages before them are held, is named of all children.
abbrev pub NamesAfter : (List Child → List ℕ → Result Found ℕ) → List Child → List Child → LedgerState → LedgerState → Type 0
NamesAfter fan_of children others old now = (wrong : ℕ) → NamesFrom (fan_of others) now wrong → NamesFrom (fan_of children) old wrong
