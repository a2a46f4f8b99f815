-- What steps make of a draft.
use Rattle.std.proofs.Common.{◌≡◌, ◌≢◌, ◌≤◌, ◌<◌, ◌+◌, ◌*◌, inl, inr, ℕ, Bool, true, false, List, [], ◌∷◌, length, Some, None, refl, sym, ap, subst, ◌∙◌, arith, IsTrue, eq-eqb, ne_eqb, get_or-set_same, get_or-set_other}
use Rattle.std.specs.Prelude.{◌&&◌, not, if◌then◌else◌}
use Rattle.std.specs.Map.{remove_entry}
use Rattle.std.specs.BTreeMap.{insert_entry, is_at}
use Rattle.std.proofs.lemmas.Bool.{cases_eq}
use Rattle.std.proofs.lemmas.List.{length-set, length-take}
use Rattle.common_types.specs.ByteOrder.{byte_cmp}
use Rattle.page_alloc.specs.LedgerState.{LedgerState, Mark, Untouched, Retired, mark_of, has_page, is_taken, is_retired, is_alive}
use Rattle.page_alloc.specs.Calls.{retiring}
use Rattle.page_store.specs.Sectors.{Image, page_of}
use Rattle.page_store.specs.Pages.{Pair}
use Rattle.page_store.specs.Batch.{is_pair}
use Rattle.page_store.specs.declared.slot.Slot.{Slot}
use Rattle.tree_nodes.specs.Tree.{OldPages}
use Rattle.tree_nodes.specs.Valid.{IsOld}
use Rattle.tree_nodes.specs.Steps.{RootState, IsValidRoot, root_pairs, needed_under, stepped, put_step, delete_step, supply_step, put_under, delete_under}
use Rattle.tree_nodes.specs.Needs.{needed_level}
use Rattle.tree_nodes.proofs.PagesOpen.{image_is_old}
use Rattle.tree_nodes.proofs.ListsOfSteps.{steps_hold}
use Rattle.tree_pages.specs.Reached.{times, root_reached}
use Rattle.cow_tree.specs.Opening.{bounds_under}
use Rattle.cow_tree.specs.Drafts.{old_under, bytes_in, one_if, IsDraft}
use Rattle.tree_pages.proofs.ChangesReach.{supply_leaves, put_reaches, delete_reaches}
use Rattle.tree_pages.proofs.LevelsReached.{needed_page_level}
use Rattle.tree_nodes.proofs.OwnedCounts.{put_makes_few, delete_makes_none, supply_makes_one}
use Rattle.tree_nodes.proofs.LevelsCome.{levels_put, levels_delete, levels_supply}

pub few_bytes : (image : Image) (n : ℕ) → length (bytes_in image n) ≤ 4096
few_bytes image n = let e = length-take 4096 (page_of image n) in omega (arith, e)

pub old_is : (slot : Slot) (image : Image) → IsOld (old_under slot image)
old_is slot image = image_is_old (bytes_in image) (bounds_under slot) (few_bytes image)

-- ---- a page that a key needs

one_alone : (n : ℕ) → times n (n ∷ []) ≡ 1
one_alone n = ap (λ (b : Bool). (if b then 1 else 0) + 0) (eq-eqb n n refl)

none_other : (m n : ℕ) → m ≢ n → times m (n ∷ []) ≡ 0
none_other m n ne = ap (λ (b : Bool). (if b then 1 else 0) + 0) (ne_eqb m n ne)

is_one : (b : Bool) → 1 ≤ one_if b → b ≡ true
is_one true le = refl
is_one false le = absurd (omega (arith, le))

module _ (slot : Slot) (image : Image) (edits read : ℕ) (pairs : List Pair) (ledger : LedgerState) (tree : RootState) (key : List ℕ) (n : ℕ) (d : IsDraft slot image edits read pairs ledger tree) (need : needed_under key tree.root ≡ Some n) where
  pub needed_alive : is_alive ledger n ≡ true
  needed_alive =
      let before = supply_leaves (bytes_in image) (bounds_under slot) (few_bytes image) tree key n d.valid need n in
      let one = one_alone n in
      let are = d.reached n in
      is_one (is_alive ledger n) (omega (arith, before, one, are))

  pub needed_low : needed_level key tree < slot.root.height
  needed_low =
      let level = needed_page_level (bytes_in image) (bounds_under slot) tree key n d.valid need in
      let low = d.alive.levels n needed_alive in
      omega (arith, level, low)

  retired_here : mark_of (retiring n ledger) n ≡ Retired
  retired_here = let i = d.alive.inside n needed_alive in let m = d.alive.marked in get_or-set_same ledger.marks n Retired Untouched (omega (arith, i.1, m))

  and_false : (b : Bool) → b && false ≡ false
  and_false true = refl
  and_false false = refl

  dead_here : is_alive (retiring n ledger) n ≡ false
  dead_here = ap (λ (m : Mark). has_page ledger ledger.generation n && not (is_retired m)) retired_here ∙ and_false (has_page ledger ledger.generation n)

  same_there : (m : ℕ) → m ≢ n → is_alive (retiring n ledger) m ≡ is_alive ledger m
  same_there m ne = ap (λ (k : Mark). has_page ledger ledger.generation m && not (is_retired k)) (get_or-set_other ledger.marks n m Retired Untouched ne)

  was_alive : (m : ℕ) → IsTrue (is_alive (retiring n ledger) m) → IsTrue (is_alive ledger m)
  was_alive m t =
      elim (cases_eq m n) [
        | inl e ↦ subst (λ (k : ℕ). IsTrue (is_alive ledger k)) (sym e) needed_alive
        | inr ne ↦ subst IsTrue (same_there m ne) t
      ]

  untaken_still : (m : ℕ) → is_taken (mark_of (retiring n ledger) m) ≡ false
  untaken_still m =
      elim (cases_eq m n) [
        | inl e ↦ ap (λ (k : ℕ). is_taken (mark_of (retiring n ledger) k)) e ∙ ap is_taken retired_here
        | inr ne ↦ ap is_taken (get_or-set_other ledger.marks n m Retired Untouched ne) ∙ d.alive.untaken m
      ]

  supplied_reached : (m : ℕ) → times m (root_reached (bytes_in image) (bounds_under slot) (stepped (old_under slot image) tree (supply_step key)).root) ≡ one_if (is_alive (retiring n ledger) m)
  supplied_reached m =
      let before = supply_leaves (bytes_in image) (bounds_under slot) (few_bytes image) tree key n d.valid need m in
      let are = d.reached m in
      elim (cases_eq m n) [
        | inl e ↦
            let one : times m (n ∷ []) ≡ 1 = ap (λ (k : ℕ). times k (n ∷ [])) e ∙ one_alone n in
            let here : one_if (is_alive ledger m) ≡ 1 = ap (λ (k : ℕ). one_if (is_alive ledger k)) e ∙ ap one_if needed_alive in
            let gone : one_if (is_alive (retiring n ledger) m) ≡ 0 = ap (λ (k : ℕ). one_if (is_alive (retiring n ledger) k)) e ∙ ap one_if dead_here in
            omega (arith, before, are, one, here, gone)
        | inr ne ↦
            let none = none_other m n ne in
            let same = ap one_if (same_there m ne) in
            omega (arith, before, are, none, same)
      ]

  pub supply_draft : IsDraft slot image edits (read + 1) pairs (retiring n ledger) (stepped (old_under slot image) tree (supply_step key))
  supply_draft =
      let o = old_is slot image in
      let h = steps_hold (supply_step key ∷ []) (old_under slot image) o tree (tt, tt) d.valid in
      record {
        valid = h.0;
        pairs_are = h.1 ∙ d.pairs_are;
        reached = supplied_reached;
        alive = record {
          inside = λ m t. d.alive.inside m (was_alive m t);
          whole = λ m t. d.alive.whole m (was_alive m t);
          levels = λ m t. d.alive.levels m (was_alive m t);
          marked = length-set ledger.marks n Retired ∙ d.alive.marked;
          untaken = untaken_still;
        };
        few = let owns = supply_makes_one (old_under slot image) o tree key n d.valid need in let f = d.few in omega (arith, owns, f);
        grown = levels_supply (old_under slot image) slot.root.height edits tree key d.grown;
      }

-- ---- a change

-- an image of no page, where it doesn't matter which
pub no_pages : OldPages
no_pages = record { pairs = λ n. []; stands = λ level n low high. false; opened = λ level n. None }

abbrev IsValidRootOf : OldPages → RootState → Type 0
IsValidRootOf old s = IsValidRoot old s.root s.height

pub one_more : (edits rate : ℕ) → (edits + 1) * rate ≡ edits * rate + rate
one_more edits rate = omega arith

module _ (slot : Slot) (image : Image) (edits : ℕ) (pairs : List Pair) (ledger : LedgerState) (tree : RootState) (key : List ℕ) (d : IsDraft slot image edits slot.root.height pairs ledger tree) (need : needed_under key tree.root ≡ None) where
  abbrev old : OldPages
  old = old_under slot image

  pub put_draft : (value : List ℕ) → is_pair (key, value) ≡ true → (put_under key value tree.root tree.height).height ≤ 16 → IsDraft slot image (edits + 1) 0 (insert_entry byte_cmp pairs key value) ledger (put_under key value tree.root tree.height)
  put_draft value sizes low =
      let h = steps_hold (put_step key value ∷ []) old (old_is slot image) tree (sizes, tt) d.valid in
      let is : stepped old tree (put_step key value) ≡ put_under key value tree.root tree.height = rw need refl in
      record {
        valid = subst (λ (s : RootState). IsValidRootOf old s) is h.0;
        pairs_are = ap (λ (s : RootState). root_pairs old s.root) (sym is) ∙ h.1 ∙ rw need (ap (λ (l : List Pair). insert_entry byte_cmp l key value) d.pairs_are);
        reached = λ m. put_reaches (bytes_in image) (bounds_under slot) tree.root tree.height key value m ∙ d.reached m;
        alive = d.alive;
        few =
            let owns = put_makes_few old tree.root tree.height key value d.valid in
            let f = d.few in
            let more = one_more edits (slot.root.height + 16) in
            omega (arith, owns, f, low, more);
        grown = levels_put old slot.root.height edits tree key value d.valid sizes d.grown;
      }

  pub delete_draft : IsDraft slot image (edits + 1) 0 (remove_entry (is_at (byte_cmp key)) pairs) ledger (delete_under key tree.root tree.height)
  delete_draft =
      let h = steps_hold (delete_step key ∷ []) old (old_is slot image) tree (tt, tt) d.valid in
      let is : stepped old tree (delete_step key) ≡ delete_under key tree.root tree.height = rw need refl in
      record {
        valid = subst (λ (s : RootState). IsValidRootOf old s) is h.0;
        pairs_are = ap (λ (s : RootState). root_pairs old s.root) (sym is) ∙ h.1 ∙ rw need (ap (λ (l : List Pair). remove_entry (is_at (byte_cmp key)) l) d.pairs_are);
        reached = λ m. delete_reaches (bytes_in image) (bounds_under slot) tree.root tree.height key m ∙ d.reached m;
        alive = d.alive;
        few =
            let owns = delete_makes_none tree.root tree.height key in
            let f = d.few in
            let more = one_more edits (slot.root.height + 16) in
            omega (arith, owns, f, more);
        grown = levels_delete slot.root.height edits tree key d.grown;
      }
