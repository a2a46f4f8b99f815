-- A plan that is made of a draft may be committed, and leaves the draft's pairs.
use Rattle.std.proofs.Common.{◌≡◌, ◌⊎◌, ◌≤◌, ◌<◌, ◌+◌, ◌-◌, ◌^◌, inl, inr, ℕ, zero, suc, Bool, true, false, List, [], ◌∷◌, length, get_or, Option, Some, None, Err, refl, sym, ap, subst, ◌∙◌, arith, IsTrue}
use Rattle.std.specs.Prelude.{◌||◌, not, min, slice_index_or}
use Rattle.std.proofs.lemmas.Bool.{cases_Bool}
use Rattle.page_alloc.specs.declared.life.Life.{Life}
use Rattle.page_alloc.specs.declared.life.Life.TheVariants.{Never}
use Rattle.page_alloc.specs.Lives.{lives_at}
use Rattle.page_store.specs.declared.fault.KeeperFault.{KeeperFault}
use Rattle.page_store.specs.declared.fault.KeeperFault.TheVariants as faults
use Rattle.page_store.specs.Counting.{reads_after}
use Rattle.page_alloc.specs.LedgerState.{LedgerState, has_page, has_page_next, is_alive, is_free, is_held, is_retired, mark_of, free_count}
use Rattle.page_store.specs.Sectors.{Image, page_of}
use Rattle.page_store.specs.Pages.{Pair}
use Rattle.page_store.specs.Content.{tree_as, is_tree_version, Found, content_under, tree_found, nothing_found, is_among}
use Rattle.page_store.specs.Commit.{numbers, patched, AreFree}
use Rattle.page_store.specs.declared.commit.NewPage.{NewPage}
use Rattle.page_store.specs.declared.slot.Slot.{Slot}
use Rattle.tree_nodes.specs.Tree.{Tree, page, leaf, branch, pairs_of, pages_of}
use Rattle.tree_nodes.specs.Steps.{RootState, IsValidRoot, root_pairs}
use Rattle.tree_nodes.specs.Valid.{IsValid}
use Rattle.tree_nodes.specs.Growth.{owned_under}
use Rattle.tree_nodes.proofs.KeyOrder.{both_true}
use Rattle.tree_pages.specs.Reached.{times, reached, root_reached, IsLater, AreKept, FindsTree, HoldsTree}
use Rattle.tree_pages.specs.Written.{IsWritten, AllFit, IsTreePage, AreTreePages}
use Rattle.tree_pages.proofs.Counted.{among_some, among_none, times_first}
use Rattle.tree_pages.proofs.PagesPut.{others_stay, pages_are_put, all_used}
use Rattle.tree_pages.proofs.KeptPages.{walk_first, reached_kept}
use Rattle.tree_pages.proofs.ChangesReach.{page_reaches}
use Rattle.tree_pages.proofs.LevelsReached.{found_at}
use Rattle.tree_pages.proofs.FoundTrees.{found_tree}
use Rattle.tree_pages.proofs.RootsWritten.{holds_tree}
use Rattle.tree_pages.proofs.Fitted.{written_whole, patched_whole}
use Rattle.cow_tree.specs.Opening.{bounds_under}
use Rattle.cow_tree.specs.TreeState.{found_under}
use Rattle.page_store.specs.declared.edit.Edit.{Edit}
use Rattle.cow_tree.specs.Needs.{NeedsTreePages, StaysLow, drafted}
use Rattle.cow_tree.specs.Drafts.{old_under, bytes_in, one_if, most_nodes, OnlyMarks, TellsDraft, IsDraft}
use Rattle.cow_tree.specs.Taken.{TakesPages, taking_all}
use Rattle.cow_tree.specs.Plans.{levels_under, IsHeld, IsTreePlan, IsPlannedAt, IsRootWritten, IsRootInside, IsRoomFault, IsTreePlanFault}
use Rattle.cow_tree.proofs.Reaching.{count_most}
use Rattle.cow_tree.proofs.PageCounts.{numbers_length}
use Rattle.cow_tree.proofs.Taken.{free_inside, free_unheld, taken_was_free, taken_once, next_are, taking_marks, alive_still, free_not_held}
use Rattle.cow_tree.proofs.PinnedTrees.{held_again}
use Rattle.std.proofs.lemmas.List.{take_all}

among_by : (n : ℕ) (ns : List ℕ) (b : Bool) → (b ≡ true → 1 ≤ times n ns) → (b ≡ false → times n ns ≡ 0) → b ≡ is_among n ns
among_by n ns b some none =
    elim (cases_Bool b) [
      | inl t ↦ elim (cases_Bool (is_among n ns)) [ inl u ↦ t ∙ sym u | inr f ↦ let one = some t in let zero = among_none n ns f in absurd (omega (arith, one, zero)) ]
      | inr f ↦ elim (cases_Bool (is_among n ns)) [ inl u ↦ let one = among_some n ns u in let zero = none f in absurd (omega (arith, one, zero)) | inr g ↦ f ∙ sym g ]
    ]

all_inside : (count : ℕ) (pages : List NewPage) → ((m : ℕ) → 1 ≤ times m (numbers pages) → IsTreePage count m) → AreTreePages count pages
all_inside count [] each = tt
all_inside count (new ∷ pages) each =
    (each new.number (let one = times_first new.number (numbers pages) in omega (arith, one)), all_inside count pages (λ m some. each m (let more = times_more m new.number (numbers pages) in omega (arith, some, more))))
  where
    times_more : (m n : ℕ) (ns : List ℕ) → times m ns ≤ times m (n ∷ ns)
    times_more m n ns = omega arith

both_false : (a b : Bool) → (a || b) ≡ false → (a ≡ false) × (b ≡ false)
both_false true b h = absurd (cc h)
both_false false b h = (refl, h)

either : (a b : Bool) → (a || b) ≡ true → (a ≡ true) ⊎ (b ≡ true)
either true b h = inl refl
either false b h = inr h

empty_content : (slot : Slot) (bytes : ℕ → List ℕ) → IsTrue (is_tree_version slot.root.banner.version) → slot.root.height ≡ 0 → slot.root.tree ≡ 0 → slot.root.keys ≡ 0 → content_under slot bytes ≡ Some nothing_found
unfolding content_under tree_found
empty_content slot bytes version height root keys = tree_as slot.root.banner.version slot bytes version ∙ rw (height, root, keys) refl

module _ (view : Image) (slot : Slot) (top edits : ℕ) (pairs : List Pair) (ledger now : LedgerState) (tree : RootState) (given : List ℕ) (new : Slot) (pages : List NewPage) (h : IsHeld view slot top ledger) (d : IsDraft slot view edits 0 pairs ledger tree)
    (lives : length ledger.lives ≡ slot.root.pages) (most : slot.root.pages ≤ 65536) (t : TakesPages (owned_under tree.root) ledger now given) (number : new.number ≡ 1 - slot.number) (seal : new.seal ≡ top + 1) (last : new.seal < 2 ^ 64) (version : IsTrue (is_tree_version new.root.banner.version))
    (size : new.root.pages ≡ slot.root.pages) (keys : new.root.keys ≡ length pairs) where
  marks_fit : length ledger.marks ≡ length ledger.lives
  marks_fit = d.alive.marked ∙ sym lives

  abbrev bytes : ℕ → List ℕ
  bytes = patched pages (page_of view)

  given_free : (m : ℕ) → 1 ≤ times m given → (2 ≤ m) × (m < slot.root.pages) × (has_page ledger ledger.generation m ≡ false)
  given_free m some =
      let free = taken_was_free ledger given t.free m some in
      let inside = free_inside ledger m free in
      (inside.0, omega (arith, inside.1, lives), free_unheld ledger m free)

  alive_held : (m : ℕ) → is_alive ledger m ≡ true → has_page ledger ledger.generation m ≡ true
  alive_held m alive = (both_true (has_page ledger ledger.generation m) (not (is_retired (mark_of ledger m))) alive).0

  not_given : (m : ℕ) → is_alive ledger m ≡ true → times m given ≡ 0
  not_given m alive =
      let once = taken_once ledger given t.free marks_fit m in
      none (times m given) once (λ some. let free = (given_free m some).2 in let held = alive_held m alive in absurd (cc (free, held)))
    where
      none : (k : ℕ) → k ≤ 1 → (1 ≤ k → k ≡ 0) → k ≡ 0
      none zero le f = refl
      none (suc k) le f = f (omega arith)

  once_in_all : (m : ℕ) → times m given + one_if (is_alive ledger m) ≤ 1
  once_in_all m =
      elim (cases_Bool (is_alive ledger m)) [
        | inl alive ↦ let none = not_given m alive in let one = ap one_if alive in omega (arith, none, one)
        | inr dead ↦ let once = taken_once ledger given t.free marks_fit m in let zero = ap one_if dead in omega (arith, once, zero)
      ]

  next_is : (m : ℕ) → has_page_next now m ≡ (is_alive ledger m || is_among m given)
  next_is m = ap (λ (s : LedgerState). has_page_next s m) t.taken ∙ next_are ledger given t.free marks_fit d.alive.untaken m

  alive_now : (m : ℕ) → is_alive now m ≡ is_alive ledger m
  alive_now m = ap (λ (s : LedgerState). is_alive s m) t.taken ∙ alive_still ledger given t.free marks_fit m

  size_now : length now.lives ≡ new.root.pages
  size_now = ap (λ (s : LedgerState). length s.lives) t.taken ∙ ap length (taking_marks ledger given).lives ∙ lives ∙ sym size

  next_found : (found : Found) → ((m : ℕ) → times m found.pages ≡ times m given + one_if (is_alive ledger m)) → (m : ℕ) → has_page_next now m ≡ is_among m found.pages
  next_found found reaches m =
      let r = reaches m in
      next_is m
      ∙ among_by m found.pages (is_alive ledger m || is_among m given)
      (λ yes. elim (either (is_alive ledger m) (is_among m given) yes) [ inl alive ↦ let one = ap one_if alive in omega (arith, r, one) | inr among ↦ let one = among_some m given among in omega (arith, r, one) ])
      (λ no. let f = both_false (is_alive ledger m) (is_among m given) no in let a = ap one_if f.0 in let b = among_none m given f.1 in omega (arith, r, a, b))

  free_of_old : numbers pages ≡ given → AreFree (found_under slot view) pages
  free_of_old are n among =
      let some : 1 ≤ times n given = subst (λ (l : List ℕ). 1 ≤ times n l) are (among_some n (numbers pages) among) in
      let free = given_free n some in
      (free.0, sym (h.held n) ∙ free.2)

  unheld_now : numbers pages ≡ given → (n : ℕ) → IsTrue (is_among n (numbers pages)) → is_held now n ≡ false
  unheld_now are n among =
      let some : 1 ≤ times n given = subst (λ (l : List ℕ). 1 ≤ times n l) are (among_some n (numbers pages) among) in
      ap (λ (s : LedgerState). is_held s n) t.taken ∙ held_again ledger (taking_all ledger given) (taking_marks ledger given) n ∙ free_not_held ledger n (taken_was_free ledger given t.free n some)

  plan_of : (found : Found) → numbers pages ≡ given → content_under new bytes ≡ Some found → IsTreePlan view slot top pages new found
  plan_of found are under = record { free = free_of_old are; number = number; seal = seal; version = version; under = under }

  -- ---- a tree without pairs

  no_numbers : owned_under tree.root ≡ 0 → given ≡ []
  no_numbers none = nothing given (let e = t.count_is in omega (arith, e, none))
    where
      nothing : (ns : List ℕ) → length ns ≡ 0 → ns ≡ []
      nothing [] e = refl
      nothing (n ∷ ns) e = absurd (omega (arith, e))

  planned_none : tree.root ≡ None → new.root.height ≡ 0 → pages ≡ [] → new.root.tree ≡ 0 → IsPlannedAt view slot top pairs now pages new
  planned_none none height no_pages root =
      let empty : pairs ≡ [] = sym d.pairs_are ∙ ap (λ (r : Option Tree). root_pairs (old_under slot view) r) none in
      let no_given = no_numbers (ap owned_under none) in
      let are : numbers pages ≡ given = ap numbers no_pages ∙ sym no_given in
      let dead = λ (m : ℕ). let r : times m (root_reached (bytes_in view) (bounds_under slot) tree.root) ≡ one_if (is_alive ledger m) = d.reached m in
      let z : times m (root_reached (bytes_in view) (bounds_under slot) tree.root) ≡ 0 = ap (λ (r : Option Tree). times m (root_reached (bytes_in view) (bounds_under slot) r)) none in sym r ∙ z in
      record {
        found = nothing_found;
        plan_is = plan_of nothing_found are (empty_content new bytes version height root (keys ∙ ap (λ (l : List Pair). length l) empty));
        next = record {
          size = size_now;
          next = next_found nothing_found (λ m. let a = dead m in let b = ap (times m) no_given in omega (arith, a, b));
          whole = λ n among. absurd (cc among);
          unheld = unheld_now are;
        };
        pairs_are = sym empty;
        reaches = λ m. let a = dead m in let b = ap (times m) (are ∙ no_given) in let e = ap one_if (alive_now m) in omega (arith, a, b, e);
      }

  -- ---- a tree with pairs

  module _ (root : Tree) (some : tree.root ≡ Some root) (height : ℕ) (low : height ≤ 16) (height_is : new.root.height ≡ height) (written : IsRootWritten slot.root.pages new.seal given height (Some root) pages new.root.tree) (level : ℕ) (up : height ≡ suc level) (valid : IsValid (old_under slot view) level root [] None) where
    level_is : height - 1 ≡ level
    level_is = omega (arith, up)

    reaches_alive : (m : ℕ) → times m (reached (bytes_in view) (bounds_under slot) root) ≡ one_if (is_alive ledger m)
    reaches_alive m = ap (λ (r : Option Tree). times m (root_reached (bytes_in view) (bounds_under slot) r)) (sym some) ∙ d.reached m

    used : IsWritten new.seal (height - 1) root new.root.tree pages × (numbers pages ≡ given)
    used = all_used given new.seal (height - 1) pages root new.root.tree (t.count_is ∙ ap owned_under some) written.0

    is_written : IsWritten new.seal level root new.root.tree pages
    is_written = subst (λ (n : ℕ). IsWritten new.seal n root new.root.tree pages) level_is used.0

    one_is : (b : Bool) → 1 ≤ one_if b → b ≡ true
    one_is true le = refl
    one_is false le = absurd (omega (arith, le))

    stays : (m : ℕ) → is_alive ledger m ≡ true → bytes m ≡ page_of view m
    stays m alive = others_stay pages (page_of view) m (ap (times m) used.1 ∙ not_given m alive)

    whole_old : (m : ℕ) → is_alive ledger m ≡ true → bytes_in view m ≡ page_of view m
    whole_old m alive = let e = d.alive.whole m alive in take_all 4096 (page_of view m) (omega (arith, e))

    kept : AreKept (bytes_in view) bytes (bounds_under slot) (pages_of root)
    kept =
        reached_kept (bytes_in view) bytes (bounds_under slot) level root [] None valid
        (λ m reached_it. let r = reaches_alive m in let alive = one_is (is_alive ledger m) (omega (arith, r, reached_it)) in (d.alive.inside m alive, whole_old m alive ∙ sym (stays m alive)))

    put_once : (m : ℕ) → times m (numbers pages) ≤ 1
    put_once m = let e = ap (times m) used.1 in let once = taken_once ledger given t.free marks_fit m in omega (arith, e, once)

    inside_all : AreTreePages slot.root.pages pages
    inside_all = all_inside slot.root.pages pages (λ m some_times. let free = given_free m (subst (λ (l : List ℕ). 1 ≤ times m l) used.1 some_times) in (free.0, free.1))

    later : IsLater (bounds_under slot) new.seal
    later = record {
      pages = omega (arith, most);
      first = omega (arith, seal);
      later = let a = h.sealed in omega (arith, seal, a);
      last = last;
    }

    finds : FindsTree (bytes_in view) bytes (bounds_under slot) new.seal level root [] None new.root.tree pages
    finds = found_tree root (bytes_in view) bytes (bounds_under slot) new.seal level [] None new.root.tree pages later (omega (arith, up, low)) valid is_written (pages_are_put pages (page_of view) put_once) inside_all kept

    root_pairs_are : pairs_of (old_under slot view) root ≡ pairs
    root_pairs_are = ap (λ (r : Option Tree). root_pairs (old_under slot view) r) (sym some) ∙ d.pairs_are

    holds : HoldsTree (bytes_in view) bytes (bounds_under slot) new root pages
    holds =
        holds_tree new root (bytes_in view) bytes (bounds_under slot) level pages version size (height_is ∙ up) (omega (arith, up, low)) written.2 (keys ∙ ap (λ (l : List Pair). length l) (sym root_pairs_are)) finds
        (λ m. let e = ap (times m) used.1 in let r = reaches_alive m in let once = once_in_all m in omega (arith, e, r, once))

    found_reaches : (m : ℕ) → times m holds.found.pages ≡ times m given + one_if (is_alive ledger m)
    found_reaches m = let e = holds.reaches m in let a = ap (times m) used.1 in let r = reaches_alive m in omega (arith, e, a, r)

    whole_now : (m : ℕ) → IsTrue (is_among m holds.found.pages) → length (bytes m) ≡ 4096
    whole_now m among =
        let r = found_reaches m in
        let one = among_some m holds.found.pages among in
        let e = ap (times m) used.1 in
        patched_whole pages (page_of view) m (written_whole root new.seal level new.root.tree pages (subst (λ (n : ℕ). AllFit n root) level_is written.1) is_written)
        (elim (cases_Bool (is_alive ledger m)) [
          | inl alive ↦ inr (d.alive.whole m alive)
          | inr dead ↦ inl (let zero = ap one_if dead in omega (arith, r, one, e, zero))
        ])

    pub planned_some : IsPlannedAt view slot top pairs now pages new
    planned_some = record {
      found = holds.found;
      plan_is = plan_of holds.found used.1 holds.content;
      next = record { size = size_now; next = next_found holds.found found_reaches; whole = whole_now; unheld = unheld_now used.1 };
      pairs_are = holds.pairs ∙ root_pairs_are;
      reaches = λ m. let f = found_reaches m in let u = ap (times m) used.1 in let e = ap one_if (alive_now m) in omega (arith, f, u, e);
    }

  pub planned_at : (r : Option Tree) → tree.root ≡ r → tree.height ≤ 16 → (new.root.tree ≡ 0 → new.root.height ≡ 0) → ((new.root.tree ≡ 0 → ⊥) → new.root.height ≡ tree.height) → IsRootWritten slot.root.pages new.seal given tree.height r pages new.root.tree
      → IsPlannedAt view slot top pairs now pages new
  planned_at None is low flat tall w = planned_none is (flat w.1) w.0 w.1
  planned_at (Some root) is low flat tall w =
      let v = subst (λ (o : Option Tree). IsValidRoot (old_under slot view) o tree.height) is d.valid in
      planned_some root is tree.height low (tall (λ zero_is. let first = w.2.0 in absurd (omega (arith, zero_is, first)))) w v.0 v.1 v.2

-- ---- on every device

page_times : (pages : List NewPage) (i : ℕ) (d : NewPage) → i < length pages → 1 ≤ times (get_or pages i d).number (numbers pages)
page_times [] i d lt = absurd (omega (arith, lt))
page_times (new ∷ pages) zero d lt = let one = times_first new.number (numbers pages) in omega (arith, one)
page_times (new ∷ pages) (suc i) d lt = let more = page_times pages i d (omega (arith, lt)) in omega (arith, more)

pub made_inside : (count seal height : ℕ) (given : List ℕ) (r : Option Tree) (pages : List NewPage) (n : ℕ) → length given ≡ owned_under r → IsRootWritten count seal given height r pages n → ((m : ℕ) → 1 ≤ times m given → IsTreePage count m) → (i : ℕ) (d : NewPage) → i < length pages
    → IsTreePage count (get_or pages i d).number
made_inside count seal height given None pages n size w inside i d lt = let none = ap (λ (l : List NewPage). length l) w.0 in absurd (omega (arith, lt, none))
made_inside count seal height given (Some root) pages n size w inside i d lt =
    let used = all_used given seal (height - 1) pages root n size w.0 in
    inside (get_or pages i d).number (subst (λ (l : List ℕ). 1 ≤ times (get_or pages i d).number l) used.1 (page_times pages i d lt))

-- each node that is owned has a page
pub made_count : (count seal height : ℕ) (given : List ℕ) (r : Option Tree) (pages : List NewPage) (n : ℕ) → length given ≡ owned_under r → IsRootWritten count seal given height r pages n → length pages ≡ owned_under r
made_count count seal height given None pages n size w = ap (λ (l : List NewPage). length l) w.0
made_count count seal height given (Some root) pages n size w =
    let used = all_used given seal (height - 1) pages root n size w.0 in
    sym (numbers_length pages) ∙ ap (λ (l : List ℕ). length l) used.1 ∙ size

-- a root slot has the levels of the tree, none where there is no root
pub made_levels : (count seal height : ℕ) (given : List ℕ) (r : Option Tree) (pages : List NewPage) (n levels : ℕ) → IsRootWritten count seal given height r pages n → (n ≡ 0 → levels ≡ 0) → ((n ≡ 0 → ⊥) → levels ≡ height) → levels ≡ levels_under r height
made_levels count seal height given None pages n levels w flat tall = flat w.1
made_levels count seal height given (Some root) pages n levels w flat tall = tall (λ zero_is. let first = w.2.0 in absurd (omega (arith, zero_is, first)))

pub made_root : (count seal height : ℕ) (given : List ℕ) (r : Option Tree) (pages : List NewPage) (n : ℕ) → IsRootWritten count seal given height r pages n → (n ≡ 0 → ⊥) → IsTreePage count n
made_root count seal height given None pages n w some = absurd (some w.1)
made_root count seal height given (Some root) pages n w some = w.2

pub given_inside : (ledger now : LedgerState) (count pages : ℕ) (given : List ℕ) → TakesPages count ledger now given → length ledger.lives ≡ pages → (m : ℕ) → 1 ≤ times m given → IsTreePage pages m
given_inside ledger now count pages given t lives m some =
    let inside = free_inside ledger m (taken_was_free ledger given t.free m some) in
    (inside.0, omega (arith, inside.1, lives))

-- as many pages were asked for as nodes are owned
pub all_owned : (need owned free pages : ℕ) → need ≡ min owned (2 ^ 64 - 1) → need ≤ free → free ≤ pages → pages ≤ 65536 → need ≡ owned
all_owned need owned free pages is le few most = omega (arith, is, le, few, most)

pub free_few : (s : LedgerState) → free_count s ≤ length s.lives
free_few s = count_most (is_free s) (length s.lives)

-- a root that is a page of the image is no root slot
pub root_is_inside : (view : Image) (slot : Slot) (edits more : ℕ) (pairs : List Pair) (ledger : LedgerState) (tree : RootState) → IsDraft slot view edits more pairs ledger tree → (r : Option Tree) → tree.root ≡ r → IsRootInside slot.root.pages r
root_is_inside view slot edits more pairs ledger tree d None is = tt
root_is_inside view slot edits more pairs ledger tree d (Some (leaf ps)) is = tt
root_is_inside view slot edits more pairs ledger tree d (Some (branch first others)) is = tt
root_is_inside view slot edits more pairs ledger tree d (Some (page m)) is =
    let v = subst (λ (o : Option Tree). IsValidRoot (old_under slot view) o tree.height) is d.valid in
    let f = found_at (bytes_in view) (bounds_under slot) v.0 m [] None v.2 in
    let first = walk_first (bytes_in view) (bounds_under slot) v.0 m [] None f.0 f.1 in
    let reach = page_reaches (bytes_in view) (bounds_under slot) v.0 m f.0 f.1 m in
    let same = ap (λ (o : Option Tree). times m (root_reached (bytes_in view) (bounds_under slot) o)) is in
    let are = d.reached m in
    d.alive.inside m (one_is (is_alive ledger m) (omega (arith, first, reach, same, are)))
  where
    one_is : (b : Bool) → 1 ≤ one_if b → b ≡ true
    one_is true le = refl
    one_is false le = absurd (omega (arith, le))

-- numbers that were taken are pages of the image, each at its place
pub numbers_inside : (ledger now : LedgerState) (count pages : ℕ) (given : List ℕ) → TakesPages count ledger now given → length ledger.lives ≡ pages → (i d : ℕ) → i < length given → IsTreePage pages (get_or given i d)
numbers_inside ledger now count pages given t lives i d lt = given_inside ledger now count pages given t lives (get_or given i d) (at given i d lt)
  where
    at : (ns : List ℕ) (k e : ℕ) → k < length ns → 1 ≤ times (get_or ns k e) ns
    at [] k e less = absurd (omega (arith, less))
    at (n ∷ ns) zero e less = let one = times_first n ns in omega (arith, one)
    at (n ∷ ns) (suc k) e less = let more = at ns k e (omega (arith, less)) in omega (arith, more)

-- ---- a commit's plan

pub held_still : (view : Image) (slot : Slot) (top : ℕ) (old new : LedgerState) → OnlyMarks old new → IsHeld view slot top old → IsHeld view slot top new
held_still view slot top old new marks h = record {
  content_is = h.content_is;
  held = λ n. ap (λ (ls : List Life). lives_at new.generation (slice_index_or ls n Never)) marks.lives ∙ ap (λ (g : ℕ). lives_at g (slice_index_or old.lives n Never)) marks.generation ∙ h.held n;
  sealed = h.sealed;
  seals = h.seals;
}

pub few_nodes : (slot : Slot) (view : Image) (edits : ℕ) (pairs : List Pair) (ledger : LedgerState) (tree : RootState) → IsDraft slot view edits 0 pairs ledger tree → owned_under tree.root ≤ most_nodes slot edits
few_nodes slot view edits pairs ledger tree d = let f = d.few in omega (arith, f)

-- what the tree after a batch owns is what a commit of it needs
pub needs_pages : (slot : Slot) (view : Image) (batch : List Edit) (tree : RootState) (need : ℕ) → tree ≡ drafted slot view batch → need ≡ min (owned_under tree.root) (2 ^ 64 - 1) → owned_under tree.root ≤ most_nodes slot (length batch) → StaysLow slot view batch → NeedsTreePages slot view batch need
needs_pages slot view batch tree need made is few low = record { exact = is ∙ ap (λ (s : RootState). min (owned_under s.root) (2 ^ 64 - 1)) made; most = omega (arith, is, few); low = low }

pub room_fault : (e : KeeperFault) (free left : ℕ) (P Q : ℕ → Type 0) → left ≡ free → ((n : ℕ) → P n → Q n) → IsRoomFault left P e → IsTreePlanFault free Q e
room_fault faults.Device free left P Q is f h = absurd h
room_fault faults.NoImage free left P Q is f h = absurd h
room_fault faults.Version free left P Q is f h = absurd h
room_fault (faults.Damaged n) free left P Q is f h = tt
room_fault faults.Small free left P Q is f h = absurd h
room_fault faults.Spent free left P Q is f h = absurd h
room_fault (faults.Full need k) free left P Q is f h = (h.0 ∙ is, (let a = h.1 in omega (arith, a, is)), f need h.2)
room_fault faults.Failed free left P Q is f h = absurd h
room_fault faults.Memory free left P Q is f h = tt
room_fault faults.Deep free left P Q is f h = absurd h

pub room_reads : (e : KeeperFault) (free : ℕ) (P : ℕ → Type 0) (before now : ℕ) → IsRoomFault free P e → now ≡ before → now ≡ reads_after e before
room_reads faults.Device free P before now h is = absurd h
room_reads faults.NoImage free P before now h is = is
room_reads faults.Version free P before now h is = is
room_reads (faults.Damaged n) free P before now h is = is
room_reads faults.Small free P before now h is = is
room_reads faults.Spent free P before now h is = is
room_reads (faults.Full need k) free P before now h is = is
room_reads faults.Failed free P before now h is = is
room_reads faults.Memory free P before now h is = is
room_reads faults.Deep free P before now h is = is

pub room_told : {T U : Type 0} (deep : Type 0) (e : KeeperFault) (P : T → Type 0) (Q : U → Type 0) (free : ℕ) (N : ℕ → Type 0) → IsRoomFault free N e → TellsDraft (Unit {0}) (Err e) P → TellsDraft deep (Err e) Q
room_told deep faults.Device P Q free N h answered = tt
room_told deep faults.NoImage P Q free N h answered = tt
room_told deep faults.Version P Q free N h answered = tt
room_told deep (faults.Damaged n) P Q free N h answered = answered
room_told deep faults.Small P Q free N h answered = tt
room_told deep faults.Spent P Q free N h answered = tt
room_told deep (faults.Full need k) P Q free N h answered = tt
room_told deep faults.Failed P Q free N h answered = tt
room_told deep faults.Memory P Q free N h answered = tt
room_told deep faults.Deep P Q free N h answered = absurd h
