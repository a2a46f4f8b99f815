-- What an opening finds, and why it is refused.
use Rattle.std.proofs.Common.{◌≡◌, ◌≤◌, Option, Some, None, sym, ap, subst, ◌∙◌, IsTrue, inl}
use Rattle.common_types.specs.Counts.{counted}
use Rattle.sector_device.specs.Device.{State, NothingCounted}
use Rattle.page_alloc.specs.LedgerState.{LedgerState}
use Rattle.page_store.specs.Reading.{◌>>=◌}
use Rattle.page_store.specs.Sectors.{Image, page_of}
use Rattle.page_store.specs.Roots.{current}
use Rattle.page_store.specs.Content.{tree_as, is_tree_version, Found, content, content_under, tree_found, pairs_and_banner, HasContent}
use Rattle.page_store.specs.Counting.{CountsRefusal}
use Rattle.page_store.specs.declared.slot.Slot.{Slot}
use Rattle.page_store.specs.declared.fault.KeeperFault.TheVariants.{Small}
use Rattle.page_store.proofs.Fields.{bind_some, bind_again}
use Rattle.cow_tree.specs.Walks.{CountsPages}
use Rattle.cow_tree.specs.Opening.{fault_of, IsReached, Finds, LivePagesAreWhole, IsImageOfSlot, MayName, IsNamed, IsTreeOpenFault}
use Rattle.cow_tree.specs.NamedWalks.{tree_or_name}
use Rattle.cow_tree.specs.PinnedTrees.{or_nothing}
use Rattle.cow_tree.specs.TreeState.{found_under}
use Rattle.cow_tree.specs.declared.page_fault.PageFault.{PageFault}
use Rattle.cow_tree.specs.declared.page_fault.PageFault.TheVariants.{Device, Damaged}
use Rattle.std.specs.Prelude.{Err}

pub content_is : (image : Image) (slot : Slot) (found : Option Found) → current image ≡ Some slot → IsTrue (is_tree_version slot.root.banner.version) → tree_found slot (page_of image) ≡ found → content image ≡ (found >>= λ x. Some (slot, x))
unfolding content content_under
content_is image slot found now version is =
    bind_again (current image) _ slot _ now (ap (λ (f : Option Found). f >>= λ x. Some (slot, x)) (tree_as slot.root.banner.version slot (page_of image) version ∙ is))

abbrev some_content : Slot × Found → Option (Slot × Found)
some_content x = Some x

content_same : (a b : Slot × Found) → some_content a ≡ some_content b → a ≡ b
content_same a b e = cc

-- the content of an image of a tree is the tree under its current slot
pub tree_is : (image : Image) (slot : Slot) (found : Found) → content image ≡ Some (slot, found) → IsTrue (is_tree_version slot.root.banner.version) → (current image ≡ Some slot) × (tree_found slot (page_of image) ≡ Some found)
unfolding content content_under
tree_is image slot found e version =
    let f = bind_some (current image) (λ s. content_under s (page_of image) >>= λ x. Some (s, x)) (slot, found) e in
    let g = bind_some (content_under f.0 (page_of image)) (λ x. Some (f.0, x)) (slot, found) f.2 in
    let same = content_same (f.0, g.0) (slot, found) g.2 in
    let slot_is : f.0 ≡ slot = ap (λ (x : Slot × Found). x.0) same in
    let found_is : g.0 ≡ found = ap (λ (x : Slot × Found). x.1) same in (
      f.1 ∙ ap (λ (s : Slot). some_slot s) slot_is,
      sym (tree_as slot.root.banner.version slot (page_of image) version) ∙ ap (λ (s : Slot). content_under s (page_of image)) (sym slot_is) ∙ g.1 ∙ ap (λ (x : Found). some_found x) found_is,
    )
  where
    some_slot : Slot → Option Slot
    some_slot s = Some s

    some_found : Found → Option Found
    some_found x = Some x

pub under_is : (image : Image) (slot : Slot) (found : Found) → content image ≡ Some (slot, found) → IsTrue (is_tree_version slot.root.banner.version) → found_under slot image ≡ found
under_is image slot found e version = ap or_nothing (tree_is image slot found e version).1

-- what the walk answers of the tree is known of the image
pub holds_now : (image : Image) (slot : Slot) (ledger : LedgerState) → current image ≡ Some slot → IsTrue (is_tree_version slot.root.banner.version) → IsReached (tree_found slot (page_of image)) slot ledger → LivePagesAreWhole image ledger → IsImageOfSlot image slot ledger
holds_now image slot ledger now version r whole = record {
  found = r.found;
  content_is = content_is image slot (Some r.found) now version r.is;
  ledger_is = r.ledger_is;
  alive = r.alive;
  whole = whole;
  keys = r.keys;
}

-- of the image as it is read now
pub under_now : (now image : Image) (slot : Slot) (ledger : LedgerState) → now ≡ image → IsTrue (is_tree_version slot.root.banner.version) → (h : IsImageOfSlot image slot ledger) → found_under slot now ≡ h.found
under_now now image slot ledger same version h = ap (found_under slot) same ∙ under_is image slot h.found h.content_is version

pub durable_content : (now image : Image) (slot : Slot) (ledger : LedgerState) → now ≡ image → IsTrue (is_tree_version slot.root.banner.version) → IsImageOfSlot image slot ledger → content now ≡ Some (slot, found_under slot now)
durable_content now image slot ledger same version h = ap content same ∙ h.content_is ∙ ap (λ (x : Found). some_content (slot, x)) (sym (under_now now image slot ledger same version h))

pub has_content : (image now : Image) (slot : Slot) (ledger : LedgerState) → now ≡ image → IsTrue (is_tree_version slot.root.banner.version) → IsImageOfSlot image slot ledger → HasContent image (found_under slot now).pairs slot.root.banner
has_content image now slot ledger same version h =
    ap pairs_and_banner h.content_is
    ∙ ap (λ (x : Found). pairs_and_banner (Some (slot, x))) (sym (under_is image slot h.found h.content_is version) ∙ ap (found_under slot) (sym same))

-- ---- faults

-- what a walk counts, after calls that counted nothing
pub walk_counts : (T : Type 0) (old mid new : State) (e : PageFault) → NothingCounted old mid → CountsPages {T = T} (Err e) mid.failed_reads new.failed_reads → new.failed_writes ≡ mid.failed_writes → CountsRefusal (fault_of e) old new
walk_counts T old mid new Device before reads writes = inl (reads ∙ ap counted before.reads, writes ∙ before.writes)
walk_counts T old mid new (Damaged page) before reads writes = record { reads = reads ∙ before.reads; writes = writes ∙ before.writes }

-- no page is walked on a device that is too small
pub walk_not_small : (e : PageFault) → fault_of e ≡ Small → ⊥
walk_not_small Device is = absurd (cc is)
walk_not_small (Damaged page) is = absurd (cc is)

pub walk_fault : (T : Type 0) (old mid new : State) (slot : Slot) (ledger : LedgerState) (e : PageFault) → 128 ≤ old.size → (IsTrue old.honest → IsTrue mid.honest) → (IsTrue old.honest → mid.disk.view ≡ old.disk.view) → (IsTrue old.honest → current old.disk.view ≡ Some slot)
    → IsTrue (is_tree_version slot.root.banner.version) → NothingCounted old mid → CountsPages {T = T} (Err e) mid.failed_reads new.failed_reads → new.failed_writes ≡ mid.failed_writes → MayName slot e
    → (IsTrue mid.honest → Finds {T = T} (tree_found slot (page_of mid.disk.view)) slot ledger (Err e)) → (IsTrue mid.honest → IsNamed (tree_or_name slot (page_of mid.disk.view)) e) → IsTreeOpenFault old new (fault_of e)
walk_fault T old mid new slot ledger Device large keeps view now version a reads writes named answered is = (large, inl (reads ∙ ap counted a.reads, writes ∙ a.writes))
walk_fault T old mid new slot ledger (Damaged page) large keeps view now version a reads writes named answered is = (
  large,
  λ honest. (
    slot,
    (now honest, version),
    content_is old.disk.view slot None (now honest) version (subst (λ (i : Image). tree_found slot (page_of i) ≡ None) (view honest) (answered (keeps honest))),
    named,
    subst (λ (i : Image). tree_or_name slot (page_of i) ≡ Err page) (view honest) (is (keeps honest)),
  ),
)
