-- What a keeper of flat pages plans before it writes.
use Rattle.std.specs.Prelude.{◌≡◌, ◌≤◌, ◌<◌, ◌*◌, ℕ, List}
use Rattle.page_store.specs.Pages.{Pair}
use Rattle.page_store.specs.Flat.{half_size}
use Rattle.page_store.specs.Encoding.{by_pages, pages_needed, flat_pages}
use Rattle.page_store.specs.Switch.{IsSlotPage}
use Rattle.page_store.specs.FlatState.{other_half, new_slot}
use Rattle.page_store.specs.declared.banner.Banner.{Banner}
use Rattle.page_store.specs.declared.slot.Slot.{Slot}
use Rattle.page_store.specs.declared.flat_plan.Plan.{Plan}
use Rattle.page_store.specs.declared.fault.KeeperFault.{KeeperFault}
use Rattle.page_store.specs.declared.fault.KeeperFault.TheVariants as faults

-- The pairs go page by page to the other half, which has room for them, and the other slot gets the seal.
pub record IsFlatPlan (slot : Slot) (seal : ℕ) (pairs : List Pair) (banner : Banner) (plan : Plan) : Type 0 where
  pub pairs_are : plan.pairs.items ≡ pairs
  pub room : pages_needed pairs ≤ half_size slot.root.pages
  pub pages_are : plan.pages.items ≡ flat_pages seal (other_half slot.root) (by_pages pairs)
  pub slot_is : plan.slot ≡ new_slot slot seal pairs banner
  pub page : (sectors : ℕ) → 8 * slot.root.pages ≤ sectors → IsSlotPage sectors plan.slot plan.root

-- When there is no plan for pairs that go to a half of so many pages.
abbrev pub IsFlatPlanFault : ℕ → List Pair → KeeperFault → Type 0
IsFlatPlanFault half pairs (faults.Full need free) = (need ≡ pages_needed pairs) × (free ≡ half) × (free < need)
IsFlatPlanFault half pairs faults.Memory = Unit {0}
IsFlatPlanFault half pairs other = ⊥
