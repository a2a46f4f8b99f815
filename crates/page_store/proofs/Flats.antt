-- The steps of a commit of a keeper of flat pages.
use Rattle.std.proofs.Common.{◌≡◌, ℕ, zero, suc, ◌+◌, ◌-◌, ◌*◌, ◌^◌, ◌<◌, ◌≤◌, true, List, [], ◌∷◌, length, map, get_or, Some, refl, sym, ap, subst, ◌∙◌, arith, IsTrue}
use Rattle.std.specs.List.{list_all}
use Rattle.common_types.specs.CrashStates.{CrashStates, may_crash_to}
use Rattle.page_store.specs.Sectors.{Image}
use Rattle.page_store.specs.Keys.{rises}
use Rattle.page_store.specs.Pages.{Pair, key_of}
use Rattle.page_store.specs.Batch.{is_map, is_batch, is_edit, is_pair, edit_key, updated}
use Rattle.page_store.specs.Content.{content}
use Rattle.page_store.specs.Encoding.{flat_pages}
use Rattle.page_store.specs.FlatState.{flat_commit, found_in_half}
use Rattle.page_store.specs.declared.banner.Banner.{Banner}
use Rattle.page_store.specs.declared.commit.NewPage.{NewPage}
use Rattle.page_store.specs.declared.edit.Edit.{Edit}
use Rattle.page_store.specs.declared.slot.Slot.{Slot}
use Rattle.std.specs.Prelude.{◌==◌}
use Rattle.std.proofs.lemmas.Bool.{eqb-true}
use Rattle.sector_device.specs.Disk.{Disk, IsImage}
use Rattle.page_store.specs.Roots.{greatest_seal}
use Rattle.page_store.specs.Flat.{half_size}
use Rattle.page_store.specs.Commit.{IsReady, IsDone}
use Rattle.page_store.specs.Encoding.{by_pages, pages_needed}
use Rattle.page_store.specs.FlatState.{IsFitted, CrashStatesDoRepresent, other_half, new_slot}
use Rattle.page_store.specs.declared.slot.Root.{Root}
use Rattle.page_store.proofs.OtherHalfCommits.{ready, seals_after, other_bounds, other_is_half}
use Rattle.page_store.proofs.CommitImages.{both_true}
use Rattle.page_store.proofs.Maps.{updated_map}

pub now_map : (old now : List Pair) (batch : List Edit) → now ≡ updated old batch → is_map old ≡ true → IsTrue (is_batch batch) → is_map now ≡ true
now_map old now batch is h b =
    let edits = both_true (rises (map edit_key batch)) (list_all is_edit batch) b in
    ap is_map is ∙ updated_map old batch h edits.1

pub now_pairs : (now seen : List Pair) → seen ≡ now → is_map now ≡ true → IsTrue (list_all is_pair seen)
now_pairs now seen same h = subst (λ (l : List Pair). IsTrue (list_all is_pair l)) (sym same) (both_true (rises (map key_of now)) (list_all is_pair now) h).1

pub page_number : (seal first : ℕ) (groups : List (List Pair)) (k : ℕ) (d : NewPage) → k < length (flat_pages seal first groups) → ((get_or (flat_pages seal first groups) k d).number ≡ first + k) × (k < length groups)
page_number seal first [] k d lt = absurd (omega arith)
page_number seal first (group ∷ groups) zero d lt = (omega arith, omega arith)
page_number seal first (group ∷ groups) (suc k) d lt = let rest = page_number seal (suc first) groups k d (omega arith) in (omega (arith, rest.0), omega (arith, rest.1))

-- the slot as the program makes it
pub slot_made : (slot : Slot) (seal tree : ℕ) (now seen : List Pair) (banner : Banner) → tree ≡ other_half slot.root → seen ≡ now
    → record { number = 1 - slot.number; seal = seal; root = record { pages = slot.root.pages; tree = tree; height = 0; keys = length seen; banner = banner } } ≡ new_slot slot seal now banner
slot_made slot seal tree now seen banner a same = rw (a, same) refl

pub pages_made : (seal tree : ℕ) (root : Root) (pages : List NewPage) (now pairs : List Pair) → pages ≡ flat_pages seal tree (by_pages pairs) → tree ≡ other_half root → pairs ≡ now → pages ≡ flat_pages seal (other_half root) (by_pages now)
pages_made seal tree root pages now pairs b e same = b ∙ ap (λ (t : ℕ). flat_pages seal t (by_pages pairs)) e ∙ ap (λ (l : List Pair). flat_pages seal (other_half root) (by_pages l)) same

pub pages_fit : (seal size : ℕ) (slot : Slot) (pairs now : List Pair) (seen : List NewPage) (k : ℕ) (d : NewPage) → IsFitted size slot pairs → seen ≡ flat_pages seal (other_half slot.root) (by_pages now) → pages_needed now ≤ half_size slot.root.pages → k < length seen
    → 8 * (get_or seen k d).number + 8 ≤ size
pages_fit seal size slot pairs now seen k d fitted is few lt =
    let at = page_number seal (other_half slot.root) (by_pages now) k d (subst (λ (l : List NewPage). k < length l) is lt) in
    let number : (get_or seen k d).number ≡ other_half slot.root + k = ap (λ (l : List NewPage). (get_or l k d).number) is ∙ at.0 in
    let bounds = other_bounds slot.root fitted.half fitted.least in
    let fits = fitted.fits in
    omega (arith, number, at.1, few, bounds.1, fits)

pub ready_now : (a : Image) (size : ℕ) (slot : Slot) (pairs now : List Pair) (top : ℕ) (banner : Banner) (seen : List NewPage) → IsFitted size slot pairs → content a ≡ Some (slot, found_in_half slot pairs) → greatest_seal a 16 ≤ top → top + 1 < 2 ^ 64 → is_map now ≡ true → IsTrue (banner.version == 0)
    → pages_needed now ≤ half_size slot.root.pages → seen ≡ flat_pages (top + 1) (other_half slot.root) (by_pages now) → IsReady (flat_commit slot pairs (top + 1) now banner) seen a
ready_now a size slot pairs now top banner seen f holds seals small map_is version few is =
    subst (λ (p : List NewPage). IsReady (flat_commit slot pairs (top + 1) now banner) p a) (sym is)
    (ready a slot pairs now top (top + 1) banner holds seals refl small f.number f.half f.least f.most map_is (eqb-true banner.version 0 version) few)

pub fitted_now : (size : ℕ) (slot : Slot) (pairs now : List Pair) (seal : ℕ) (banner : Banner) → IsFitted size slot pairs → IsTrue (banner.version == 0) → is_map now ≡ true → IsFitted size (new_slot slot seal now banner) now
fitted_now size slot pairs now seal banner f version map_is = record {
  number = let n = f.number in omega (arith, n);
  least = f.least;
  most = f.most;
  fits = f.fits;
  half = other_is_half slot.root now banner f.half;
  version = eqb-true banner.version 0 version;
  map = map_is;
}

pub crash_states_represent_now : (slot : Slot) (pairs now : List Pair) (top : ℕ) (banner : Banner) (seen : List NewPage) (a : Image) (disk : Disk) (crash_states : CrashStates Image) → greatest_seal a 16 ≤ top → IsDone (flat_commit slot pairs (top + 1) now banner) seen crash_states a disk.view
    → ((c : Image) → IsImage disk c → may_crash_to crash_states c) → CrashStatesDoRepresent disk (new_slot slot (top + 1) now banner) now (top + 1)
crash_states_represent_now slot pairs now top banner seen a disk crash_states seals done may = record {
  images = λ c image. done.all c (may c image);
  content = done.content;
  seals = seals_after (flat_commit slot pairs (top + 1) now banner) a disk.view top (top + 1) done.content refl seals (omega arith) done.others;
}
