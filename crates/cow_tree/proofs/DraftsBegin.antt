-- A draft begins as the tree under a slot, as it was read.
use Rattle.std.proofs.Common.{◌≡◌, ℕ, zero, suc, ◌*◌, ◌-◌, ◌<◌, ◌≤◌, Bool, true, false, List, [], ◌∷◌, length, Option, Some, None, is_some, refl, sym, ap, subst, ◌∙◌, arith, IsTrue, inl, inr, eq-eqb, ne_eqb, length-append}
use Rattle.std.specs.Prelude.{◌&&◌, ◌==◌, nat_le, nat_lt, if◌then◌else◌}
use Rattle.std.proofs.lemmas.Bool.{cases_Bool, cases_eq}
use Rattle.std.proofs.lemmas.List.{length-replicate, take_all}
use Rattle.page_alloc.specs.declared.life.Life.TheVariants.{Never}
use Rattle.page_alloc.specs.LedgerState.{is_taken, LedgerState, is_alive}
use Rattle.page_alloc.specs.Calls.{fresh}
use Rattle.page_store.specs.Reading.{◌>>=◌, where_true}
use Rattle.page_store.specs.Sectors.{Image, page_of}
use Rattle.page_store.specs.Same.{Agree}
use Rattle.page_store.specs.Pages.{Pair, Child, Place, pair_at, entries_of, leaf_of, branch_of, are_leaf}
use Rattle.page_store.specs.Content.{Found, Bounds, place_in, joined, nothing_found, low_of, high_of, fan, walk, tree_of, tree_found, is_among, are_distinct}
use Rattle.page_store.specs.declared.slot.Slot.{Slot}
use Rattle.page_store.proofs.Fields.{bind_some, bind_again, test_passed}
use Rattle.page_store.proofs.ReachedPages.{walk-local}
use Rattle.tree_nodes.specs.Tree.{leaf_bytes}
use Rattle.tree_nodes.specs.Steps.{RootState, no_tree}
use Rattle.tree_nodes.specs.OwnedTrees.{at_page}
use Rattle.tree_nodes.proofs.KeyOrder.{both_true}
use Rattle.tree_nodes.proofs.SizesRead.{pairs_read, entries_read}
use Rattle.tree_nodes.proofs.WalksWithinBounds.{some_is, pairs_is, old_pairs}
use Rattle.tree_pages.specs.Reached.{times}
use Rattle.tree_pages.proofs.ChangesReach.{page_reaches}
use Rattle.tree_pages.proofs.LevelsReached.{walk_below}
use Rattle.tree_pages.proofs.Counted.{among_some, among_none, among_once}
use Rattle.cow_tree.specs.Opening.{bounds_under}
use Rattle.cow_tree.specs.TreeState.{FitsTree, IsThere, found_under}
use Rattle.cow_tree.specs.Drafts.{bytes_in, root_under, one_if, IsDraft}
use Rattle.cow_tree.proofs.Taken.{untaken_at_rest}
use Rattle.cow_tree.proofs.Reaching.{AreWithin, among_within, distinct_are_fresh, fresh_few}
use Rattle.cow_tree.proofs.Finding.{tree_inside}
use Rattle.cow_tree.proofs.DraftSteps.{few_bytes}
use Rattle.cow_tree.proofs.RootWalks.{found_tree, root_walk, nothing_there}

-- ---- no page has more than 1,024 pairs

sizes_least : (pairs : List Pair) → 4 * length pairs ≤ leaf_bytes pairs
sizes_least [] = omega arith
sizes_least (p ∷ ps) = let more = sizes_least ps in omega (arith, more)

leaf_few : (place : Place) (low : List ℕ) (high : Option (List ℕ)) (bytes : List ℕ) (pairs : List Pair) → length bytes ≤ 4096 → leaf_of place low high bytes ≡ Some pairs → length pairs ≤ 1024
unfolding leaf_of
leaf_few place low high bytes pairs size e =
    let f = bind_some (entries_of pair_at place bytes) (λ ps. where_true (are_leaf low high ps) (Some ps)) pairs e in
    let t = test_passed (are_leaf low high f.0) (Some f.0) pairs f.2 in
    let r = entries_read pair_at place bytes f.0 f.1 in
    let s = pairs_read r.0 r.1 (f.0, r.2) r.3 in
    let least = sizes_least f.0 in
    subst (λ (l : List Pair). length l ≤ 1024) (pairs_is f.0 pairs t.1) (omega (arith, least, s.2, r.5, size))

abbrev HasFew : Found → Type 0
HasFew found = length found.pairs ≤ 1024 * length found.pages

few_joined : (a b : Found) → HasFew a → HasFew b → HasFew (joined a b)
few_joined a b h k = omega (arith, h, k, length-append a.pairs b.pairs, length-append a.pages b.pages)

fan_few : (u : ℕ → List ℕ → Option (List ℕ) → Option Found) → ((n : ℕ) (low : List ℕ) (high : Option (List ℕ)) (found : Found) → u n low high ≡ Some found → HasFew found) → (children : List Child) (low : List ℕ) (high : Option (List ℕ)) (found : Found)
    → fan u low high children ≡ Some found → HasFew found
fan_few u w [] low high found e = subst (λ (x : Found). HasFew x) (some_is nothing_found found e) (omega arith)
fan_few u w (child ∷ children) low high found e =
    let f = bind_some (u child.page (low_of low child.key) (high_of children high)) (λ here. fan u low high children >>= λ others. Some (joined here others)) found e in
    let g = bind_some (fan u low high children) (λ others. Some (joined f.0 others)) found f.2 in
    subst (λ (x : Found). HasFew x) (some_is (joined f.0 g.0) found g.2) (few_joined f.0 g.0 (w child.page (low_of low child.key) (high_of children high) f.0 f.1) (fan_few u w children low high g.0 g.1))

pub few_pairs : (bytes : ℕ → List ℕ) (bounds : Bounds) (level n : ℕ) (low : List ℕ) (high : Option (List ℕ)) (found : Found) → ((m : ℕ) → length (bytes m) ≤ 4096) → walk bytes bounds level n low high ≡ Some found → length found.pairs ≤ 1024 * length found.pages
few_pairs bytes bounds zero n low high found sizes e =
    let f = bind_some (leaf_of (place_in bounds 0 n) low high (bytes n)) (λ pairs. Some (record { pages = n ∷ []; pairs = pairs })) found e in
    let few = leaf_few (place_in bounds 0 n) low high (bytes n) f.0 (sizes n) f.1 in
    subst (λ (x : Found). HasFew x) (some_is _ found f.2) (omega (arith, few))
few_pairs bytes bounds (suc level) n low high found sizes e =
    let f = bind_some (branch_of (place_in bounds (suc level) n) low high (bytes n)) (λ children. fan (walk bytes bounds level) low high children >>= λ under. Some (record { pages = n ∷ under.pages; pairs = under.pairs })) found e in
    let g = bind_some (fan (walk bytes bounds level) low high f.0) (λ under. Some (record { pages = n ∷ under.pages; pairs = under.pairs })) found f.2 in
    let few = fan_few (walk bytes bounds level) (λ p l h x i. few_pairs bytes bounds level p l h x sizes i) f.0 low high g.0 g.1 in
    subst (λ (x : Found). HasFew x) (some_is _ found g.2) (omega (arith, few))

-- ---- whole pages are their first 4,096 bytes

same_tree : (a b : ℕ → List ℕ) (bounds : Bounds) (height n : ℕ) (found : Found) → tree_of a bounds height n ≡ Some found → Agree found.pages a b → tree_of b bounds height n ≡ Some found
same_tree a b bounds zero n found e same = e
same_tree a b bounds (suc level) n found e same =
    let t = test_passed (nat_le level 15 && (nat_le 2 n && nat_lt n bounds.pages)) (walk a bounds level n [] None) found e in
    rw t.0 (walk-local a b bounds level n [] None found t.1 same)

-- each of these pages has 4,096 bytes in an image
abbrev pub WholeIn : Image → List ℕ → Type 0
WholeIn image pages = (n : ℕ) → IsTrue (is_among n pages) → length (page_of image n) ≡ 4096

whole_same : (image : Image) (pages : List ℕ) → WholeIn image pages → Agree pages (page_of image) (bytes_in image)
whole_same image pages whole n among = let long = whole n among in sym (take_all 4096 (page_of image n) (omega (arith, long)))

pub same_walk : (slot : Slot) (image : Image) (found : Found) → tree_found slot (page_of image) ≡ Some found → WholeIn image found.pages → tree_found slot (bytes_in image) ≡ Some found
unfolding tree_found
same_walk slot image found e whole =
    let f = bind_some (tree_of (page_of image) (bounds_under slot) slot.root.height slot.root.tree) (λ x. where_true (are_distinct x.pages && (length x.pairs == slot.root.keys)) (Some x)) found e in
    let t = test_passed (are_distinct f.0.pages && (length f.0.pairs == slot.root.keys)) (Some f.0) found f.2 in
    let h = same_tree (page_of image) (bytes_in image) (bounds_under slot) slot.root.height slot.root.tree f.0 f.1 (whole_same image f.0.pages (subst (λ (x : Found). WholeIn image x.pages) (sym (some_is f.0 found t.1)) whole)) in
    bind_again (tree_of (bytes_in image) (bounds_under slot) slot.root.height slot.root.tree) (λ x. where_true (are_distinct x.pages && (length x.pairs == slot.root.keys)) (Some x)) f.0 (Some found) h f.2

-- ---- the tree that was found

pub distinct_found : (slot : Slot) (a : ℕ → List ℕ) (found : Found) → tree_found slot a ≡ Some found → are_distinct found.pages ≡ true
unfolding tree_found
distinct_found slot a found e =
    let f = bind_some (tree_of a (bounds_under slot) slot.root.height slot.root.tree) (λ x. where_true (are_distinct x.pages && (length x.pairs == slot.root.keys)) (Some x)) found e in
    let t = test_passed (are_distinct f.0.pages && (length f.0.pairs == slot.root.keys)) (Some f.0) found f.2 in
    subst (λ (x : Found). are_distinct x.pages ≡ true) (some_is f.0 found t.1) (both_true (are_distinct f.0.pages) (length f.0.pairs == slot.root.keys) t.0).0

few_distinct : (pages : ℕ) (ns : List ℕ) → AreWithin pages ns → are_distinct ns ≡ true → length ns ≤ pages
few_distinct pages ns within distinct =
    let few = fresh_few (fresh pages 0) ns (distinct_are_fresh pages 0 ns within distinct) in
    let size = length-replicate pages Never in
    omega (arith, few, size)

once : (n : ℕ) (ns : List ℕ) → are_distinct ns ≡ true → times n ns ≡ one_if (is_among n ns)
once n ns distinct =
    elim (cases_Bool (is_among n ns)) [
      | inl t ↦ let some = among_some n ns t in let most = among_once n ns distinct in let one : one_if (is_among n ns) ≡ 1 = ap one_if t in omega (arith, some, most, one)
      | inr f ↦ among_none n ns f ∙ ap one_if (sym f)
    ]

module _ (sectors : ℕ) (slot : Slot) (image : Image) (ledger : LedgerState) (fit : FitsTree sectors slot ledger) (there : IsThere image slot ledger) where
  abbrev found : Found
  found = found_under slot image

  among_alive : (n : ℕ) → IsTrue (is_among n found.pages) → IsTrue (is_alive ledger n)
  among_alive n among = there.alive n ∙ among

  alive_among : (n : ℕ) → IsTrue (is_alive ledger n) → IsTrue (is_among n found.pages)
  alive_among n alive = sym (there.alive n) ∙ alive

  read_is : tree_found slot (bytes_in image) ≡ Some found
  read_is = same_walk slot image found there.found_is (λ n among. there.whole n (among_alive n among))

  distinct : are_distinct found.pages ≡ true
  distinct = distinct_found slot (bytes_in image) found read_is

  within : AreWithin slot.root.pages found.pages
  within = tree_inside (bytes_in image) (bounds_under slot) slot.root.height slot.root.tree found (found_tree slot (bytes_in image) found read_is)

  nothing : slot.root.height ≡ 0 → found ≡ nothing_found
  nothing none = nothing_there slot (bytes_in image) found none read_is

  walked : 0 < slot.root.height → walk (bytes_in image) (bounds_under slot) (slot.root.height - 1) slot.root.tree [] None ≡ Some found
  walked some = root_walk slot (bytes_in image) found some read_is

  pub keys_bounded : length (found_under slot image).pairs ≤ 1024 * 65536
  keys_bounded =
      elim (cases_eq slot.root.height 0) [
        | inl none ↦ let no_pairs = ap (λ (x : Found). length x.pairs) (nothing none) in omega (arith, no_pairs)
        | inr ne ↦
            let few = few_pairs (bytes_in image) (bounds_under slot) (slot.root.height - 1) slot.root.tree [] None found (few_bytes image) (walked (omega (arith, ne))) in
            let pages = few_distinct slot.root.pages found.pages within distinct in
            let most = fit.most in
            omega (arith, few, pages, most)
      ]

  -- ---- where the tree has no level

  none_alive : slot.root.height ≡ 0 → (n : ℕ) → is_alive ledger n ≡ false
  none_alive none n = there.alive n ∙ ap (λ (x : Found). is_among n x.pages) (nothing none)

  never : slot.root.height ≡ 0 → (n : ℕ) → IsTrue (is_alive ledger n) → ⊥
  never none n alive = let dead = none_alive none n in cc

  begins_empty : slot.root.height ≡ 0 → IsDraft slot image 0 0 found.pairs ledger no_tree
  begins_empty none = record {
    valid = refl;
    pairs_are = ap (λ (x : Found). x.pairs) (sym (nothing none));
    reached = λ n. ap one_if (sym (none_alive none n));
    alive = record {
      inside = λ n alive. absurd (never none n alive);
      whole = there.whole;
      levels = λ n alive. absurd (never none n alive);
      marked = fit.rest.marked;
      untaken = λ n. ap is_taken (untaken_at_rest ledger fit.rest.unmarked n);
    };
    few = omega arith;
    grown = inl (omega arith);
  }

  -- ---- where it has levels

  begins_above : 0 < slot.root.height → IsDraft slot image 0 0 found.pairs ledger (at_page slot.root.tree slot.root.height)
  begins_above some =
      let w = walked some in
      record {
        valid = (slot.root.height - 1, omega (arith, some), ap is_some w);
        pairs_are = old_pairs (bytes_in image) (bounds_under slot) (slot.root.height - 1) slot.root.tree [] None found w;
        reached = λ n. page_reaches (bytes_in image) (bounds_under slot) (slot.root.height - 1) slot.root.tree found w n ∙ once n found.pages distinct ∙ ap one_if (sym (there.alive n));
        alive = record {
          inside = λ n alive. among_within slot.root.pages n found.pages within (alive_among n alive);
          whole = there.whole;
          levels = λ n alive.
              let low = walk_below (bytes_in image) (bounds_under slot) (slot.root.height - 1) slot.root.tree [] None found w n (among_some n found.pages (alive_among n alive)) in
              omega (arith, low, some);
          marked = fit.rest.marked;
          untaken = λ n. ap is_taken (untaken_at_rest ledger fit.rest.unmarked n);
        };
        few = omega arith;
        grown = inl (omega arith);
      }

  abbrev begun : RootState → Type 0
  begun tree = IsDraft slot image 0 0 found.pairs ledger tree

  abbrev root_if : Bool → RootState
  root_if b = if b then no_tree else at_page slot.root.tree slot.root.height

  pub begins : IsDraft slot image 0 0 (found_under slot image).pairs ledger (root_under slot)
  begins =
      elim (cases_eq slot.root.height 0) [
        | inl none ↦ subst (λ (b : Bool). begun (root_if b)) (sym (eq-eqb slot.root.height 0 none)) (begins_empty none)
        | inr ne ↦ subst (λ (b : Bool). begun (root_if b)) (sym (ne_eqb slot.root.height 0 ne)) (begins_above (omega (arith, ne)))
      ]
