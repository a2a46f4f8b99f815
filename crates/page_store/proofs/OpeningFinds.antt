-- What an opening finds.
use Rattle.std.proofs.Common.{◌≡◌, ℕ, zero, suc, ◌<◌, ◌≤◌, Bool, true, false, List, [], ◌∷◌, length, map, drop, get_or, Option, Some, None, refl, sym, ap, subst, ◌∙◌, arith, IsTrue, inl}
use Rattle.std.specs.Prelude.{◌&&◌}
use Rattle.page_store.specs.Reading.{◌>>=◌, where_true}
use Rattle.page_store.specs.Sectors.{Image, page_of}
use Rattle.page_store.specs.Roots.{current}
use Rattle.page_store.specs.Keys.{precedes, rises}
use Rattle.page_store.specs.Pages.{Pair, key_of}
use Rattle.page_store.specs.Batch.{is_map}
use Rattle.page_store.specs.Flat.{flat_walk, half_size, is_half}
use Rattle.page_store.specs.Content.{Found, content, content_under, found_as, flat_found}
use Rattle.page_store.specs.FlatState.{found_in_half}
use Rattle.page_store.specs.declared.slot.Slot.{Slot}
use Rattle.common_types.specs.Counts.{counted}
use Rattle.sector_device.specs.Device.{State, NothingCounted}
use Rattle.page_store.specs.Counting.{reads_after, CountsRefusal}
use Rattle.page_store.specs.ReadFaults.{IsHalfFault}
use Rattle.page_store.specs.FlatState.{IsOpenFault}
use Rattle.page_store.specs.declared.fault.KeeperFault.{KeeperFault}
use Rattle.page_store.specs.declared.fault.KeeperFault.TheVariants as faults
use Rattle.page_store.proofs.Fields.{bind_again}

-- one key after another
pub rises_more : (xs : List Pair) (i : ℕ) (a b : Pair) (t : Bool) → suc i < length xs → a ≡ get_or xs i a → b ≡ get_or xs (suc i) b → precedes a.0 b.0 ≡ t → rises (map key_of (drop i xs)) ≡ (t && rises (map key_of (drop (suc i) xs)))
rises_more [] i a b t lt p q is = absurd (omega arith)
rises_more (x ∷ []) i a b t lt p q is = absurd (omega arith)
rises_more (x ∷ y ∷ xs) zero a b t lt p q is = let e : precedes x.0 y.0 ≡ t = ap (λ (z : Pair). precedes z.0 y.0) (sym p) ∙ ap (λ (z : Pair). precedes a.0 z.0) (sym q) ∙ is in ap (λ (v : Bool). v && rises (y.0 ∷ map key_of xs)) e
rises_more (x ∷ y ∷ xs) (suc i) a b t lt p q is = rises_more (y ∷ xs) i a b t (omega arith) p q is

-- at most one key
pub rises_last : (xs : List Pair) (i : ℕ) → length xs ≤ suc i → rises (map key_of (drop i xs)) ≡ true
rises_last [] zero le = refl
rises_last [] (suc i) le = refl
rises_last (x ∷ []) zero le = refl
rises_last (x ∷ y ∷ xs) zero le = absurd (omega arith)
rises_last (x ∷ xs) (suc i) le = rises_last xs i (omega arith)

-- ---- the content under the current slot

under_is : (a : Image) (slot : Slot) (found : Option Found) → current a ≡ Some slot → slot.root.banner.version ≡ 0 → flat_found slot (page_of a) ≡ found → content a ≡ (found >>= λ x. Some (slot, x))
unfolding content content_under
under_is a slot found now version is = bind_again (current a) _ slot _ now (ap (λ (f : Option Found). f >>= λ x. Some (slot, x)) (ap (λ (v : ℕ). found_as v slot (page_of a)) version ∙ is))

half_refused : (slot : Slot) (bytes : ℕ → List ℕ) → is_half slot.root ≡ false → flat_found slot bytes ≡ None
unfolding flat_found
half_refused slot bytes half = none (flat_walk bytes slot.seal (half_size slot.root.pages) slot.root.tree 0 slot.root.keys)
  where
    none : (o : Option (List Pair)) → (o >>= λ pairs. where_true (is_half slot.root && is_map pairs) (Some (found_in_half slot pairs))) ≡ None
    none None = refl
    none (Some pairs) = rw half refl

pub no_half : (a : Image) (slot : Slot) → current a ≡ Some slot → slot.root.banner.version ≡ 0 → is_half slot.root ≡ false → content a ≡ None
no_half a slot now version half = under_is a slot None now version (half_refused slot (page_of a) half)

walk_none : (slot : Slot) (bytes : ℕ → List ℕ) → flat_walk bytes slot.seal (half_size slot.root.pages) slot.root.tree 0 slot.root.keys ≡ None → flat_found slot bytes ≡ None
unfolding flat_found
walk_none slot bytes e = rw e refl

walk_some : (slot : Slot) (bytes : ℕ → List ℕ) (pairs : List Pair) (t : Bool) → flat_walk bytes slot.seal (half_size slot.root.pages) slot.root.tree 0 slot.root.keys ≡ Some pairs → is_half slot.root ≡ true → is_map pairs ≡ t
    → flat_found slot bytes ≡ where_true t (Some (found_in_half slot pairs))
unfolding flat_found
walk_some slot bytes pairs t e half is = bind_again (flat_walk bytes slot.seal (half_size slot.root.pages) slot.root.tree 0 slot.root.keys) (λ ps. where_true (is_half slot.root && is_map ps) (Some (found_in_half slot ps))) pairs _ e (test (is_half slot.root) (is_map pairs) half is)
  where
    test : (h m : Bool) → h ≡ true → m ≡ t → where_true (h && m) (Some (found_in_half slot pairs)) ≡ where_true t (Some (found_in_half slot pairs))
    test true m h is = ap (λ (b : Bool). where_true b (Some (found_in_half slot pairs))) is
    test false m h is = absurd (cc h)

pub no_walk : (a : Image) (slot : Slot) → current a ≡ Some slot → slot.root.banner.version ≡ 0 → flat_walk (page_of a) slot.seal (half_size slot.root.pages) slot.root.tree 0 slot.root.keys ≡ None → content a ≡ None
no_walk a slot now version walk = under_is a slot None now version (walk_none slot (page_of a) walk)

pub no_map : (a : Image) (slot : Slot) (pairs : List Pair) → current a ≡ Some slot → slot.root.banner.version ≡ 0 → flat_walk (page_of a) slot.seal (half_size slot.root.pages) slot.root.tree 0 slot.root.keys ≡ Some pairs → is_half slot.root ≡ true → is_map pairs ≡ false → content a ≡ None
no_map a slot pairs now version walk half bad = under_is a slot None now version (walk_some slot (page_of a) pairs false walk half bad)

pub is_content : (a : Image) (slot : Slot) (pairs : List Pair) → current a ≡ Some slot → slot.root.banner.version ≡ 0 → flat_walk (page_of a) slot.seal (half_size slot.root.pages) slot.root.tree 0 slot.root.keys ≡ Some pairs → is_half slot.root ≡ true → is_map pairs ≡ true → content a ≡ Some (slot, found_in_half slot pairs)
is_content a slot pairs now version walk half good = under_is a slot (Some (found_in_half slot pairs)) now version (walk_some slot (page_of a) pairs true walk half good)

-- ---- faults

-- what a read of the pages counts, after calls that counted nothing
pub half_counts : (old mid new : State) (e : KeeperFault) → NothingCounted old mid → new.failed_reads ≡ reads_after e mid.failed_reads → new.failed_writes ≡ mid.failed_writes → CountsRefusal e old new
half_counts old mid new faults.Device before reads writes = inl (reads ∙ ap counted before.reads, writes ∙ before.writes)
half_counts old mid new faults.NoImage before reads writes = record { reads = reads ∙ before.reads; writes = writes ∙ before.writes }
half_counts old mid new faults.Version before reads writes = record { reads = reads ∙ before.reads; writes = writes ∙ before.writes }
half_counts old mid new (faults.Damaged page) before reads writes = record { reads = reads ∙ before.reads; writes = writes ∙ before.writes }
half_counts old mid new faults.Small before reads writes = record { reads = reads ∙ before.reads; writes = writes ∙ before.writes }
half_counts old mid new faults.Spent before reads writes = record { reads = reads ∙ before.reads; writes = writes ∙ before.writes }
half_counts old mid new faults.Deep before reads writes = record { reads = reads ∙ before.reads; writes = writes ∙ before.writes }
half_counts old mid new (faults.Full need free) before reads writes = record { reads = reads ∙ before.reads; writes = writes ∙ before.writes }
half_counts old mid new faults.Failed before reads writes = record { reads = reads ∙ before.reads; writes = writes ∙ before.writes }
half_counts old mid new faults.Memory before reads writes = record { reads = reads ∙ before.reads; writes = writes ∙ before.writes }

pub half_fault : (old mid new : State) (slot : Slot) (e : KeeperFault) → 128 ≤ old.size → (IsTrue old.honest → IsTrue mid.honest) → (IsTrue old.honest → mid.disk.view ≡ old.disk.view) → (IsTrue old.honest → current old.disk.view ≡ Some slot) → slot.root.banner.version ≡ 0
    → NothingCounted old mid → new.failed_writes ≡ mid.failed_writes
    → IsHalfFault slot mid.honest mid.failed_reads new.failed_reads (flat_walk (page_of mid.disk.view) slot.seal (half_size slot.root.pages) slot.root.tree 0 slot.root.keys) e → IsOpenFault old new e
half_fault old mid new slot faults.Device large keeps view now version a b h = (large, inl (h ∙ ap counted a.reads, b ∙ a.writes))
half_fault old mid new slot faults.NoImage large keeps view now version a b h = absurd h
half_fault old mid new slot faults.Version large keeps view now version a b h = absurd h
half_fault old mid new slot (faults.Damaged page) large keeps view now version a b h =
    (large, λ honest. (slot, (now honest, version), no_walk old.disk.view slot (now honest) version (subst (λ (i : Image). flat_walk (page_of i) slot.seal (half_size slot.root.pages) slot.root.tree 0 slot.root.keys ≡ None) (view honest) (h.0 (keeps honest))), h.1))
half_fault old mid new slot faults.Small large keeps view now version a b h = absurd h
half_fault old mid new slot faults.Spent large keeps view now version a b h = absurd h
half_fault old mid new slot faults.Deep large keeps view now version a b h = absurd h
half_fault old mid new slot (faults.Full need free) large keeps view now version a b h = absurd h
half_fault old mid new slot faults.Failed large keeps view now version a b h = absurd h
half_fault old mid new slot faults.Memory large keeps view now version a b h = (large, λ honest. (slot, (now honest, version)))

-- no page is read of a device that is too small
pub half_not_small : (slot : Slot) (honest : Bool) (before now : ℕ) (read : Option (List Pair)) (e : KeeperFault) → IsHalfFault slot honest before now read e → e ≡ faults.Small → ⊥
half_not_small slot honest before now read e h is = subst (λ (f : KeeperFault). IsHalfFault slot honest before now read f) is h
