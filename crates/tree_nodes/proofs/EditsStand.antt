-- What an edit does to the upper levels of a tree: a put leaves at most one edit more standing in them, a delete and a supply none.
use Rattle.std.proofs.Common.{◌≡◌, ◌⊎◌, inl, inr, ℕ, zero, suc, ◌+◌, ◌-◌, ◌*◌, ◌^◌, ◌≤◌, ◌<◌, Bool, true, false, List, length, Option, Some, None, refl, ap, arith}
use Rattle.std.specs.Prelude.{nat_le, if◌then◌else◌}
use Rattle.std.proofs.lemmas.Bool.{leb-false}
use Rattle.page_store.specs.Keys.{is_below, is_between}
use Rattle.page_store.specs.Batch.{is_pair}
use Rattle.tree_nodes.specs.Tree.{Tree, Others, page, leaf, branch, none, other, OldPages, goes_first, other_bytes, other_count, entry_room}
use Rattle.tree_nodes.specs.Splits.{branch_place}
use Rattle.tree_nodes.specs.declared.splitting.TheConstants.{FRONT_OF_BRANCH}
use Rattle.tree_nodes.specs.Put.{Grown, one, two, put, put_row, take_others, drop_others, branches, split_branch, grown_first, grown_other}
use Rattle.tree_nodes.specs.Delete.{delete, delete_row, first_left, other_left}
use Rattle.tree_nodes.specs.Supply.{supplied, row_supplied}
use Rattle.tree_nodes.specs.Valid.{IsValid, IsValidRow, IsGrown, others_high}
use Rattle.tree_nodes.specs.Growth.{AreBranches, AreRowBranches, edits_in, row_edits_in}
use Rattle.tree_nodes.proofs.KeyOrder.{between_parts, between_from, not_both}
use Rattle.tree_nodes.proofs.KeysWithinBounds.{below_first}
use Rattle.tree_nodes.proofs.LeafSplits.{key_size}
use Rattle.tree_nodes.proofs.BranchSplits.{KeysFit, IsSplit, is_parted}
use Rattle.tree_nodes.proofs.PutChangesOneKey.{put_tree_valid}

-- ---- products

times_more : (p a b : ℕ) → a ≤ b → p * a ≤ p * b
times_more p a b le = go (b - a) (omega (arith, le))
  where
    go : (d : ℕ) → b ≡ a + d → p * a ≤ p * b
    go d is = let same = ap (λ (x : ℕ). p * x) is in omega (arith, same)

times_one_more : (p a b : ℕ) → b ≤ a + 1 → p * b ≤ p * a + p
times_one_more p a b le = let more = times_more p b (a + 1) le in omega (arith, more)

times_parts : (p whole a b : ℕ) → whole ≡ a + b + 7 → p * whole ≡ p * a + p * b + p * 7
times_parts p whole a b is = let same = ap (λ (x : ℕ). p * x) is in omega (arith, same)

-- ---- a split

row_keys_fit : (old : OldPages) (level : ℕ) (others : Others) (low : List ℕ) (high : Option (List ℕ)) → IsValidRow old level others low high → KeysFit others
row_keys_fit old level none low high h = tt
row_keys_fit old level (other key tree others) low high h = ((let size = key_size key h.2 in omega (arith, size)), row_keys_fit old level others key high h.4)

pub keys_bytes : (others : Others) → KeysFit others → other_bytes others ≤ 306 * other_count others
keys_bytes none fit = omega arith
keys_bytes (other key tree others) fit = let rest = keys_bytes others fit.1 in let size = fit.0 in omega (arith, rest, size)

-- what a put makes of a tree: a split takes as many edits as an entry more on the level above holds
abbrev pub grown_edits_in : ℕ → Grown → ℕ
grown_edits_in n (one tree) = edits_in n tree
grown_edits_in n (two tree key next) = 7 ^ n + (edits_in n tree + edits_in n next)

abbrev pub AreGrownBranches : ℕ → Grown → Type 0
AreGrownBranches n (one tree) = AreBranches n tree
AreGrownBranches n (two tree key next) = AreBranches n tree × AreBranches n next

-- each half has seven children at least, so that seven edits fewer stand in them than in the whole
halves_edits : (n : ℕ) (first : Tree) (others front back : Others) → IsSplit FRONT_OF_BRANCH others front back → KeysFit others → entry_room < 6 + other_bytes others → grown_edits_in (suc n) (branches first front back) ≤ 7 ^ n * (other_count others - 6) + (edits_in n first + row_edits_in n others)
halves_edits n first others front none c fit large = let bytes = c.bytes in let small = c.small in absurd (omega (arith, bytes, small, large))
halves_edits n first others front (other key tree rest) c fit large =
    let bytes = c.bytes in
    let small = c.small in
    let over = c.over in
    let count = c.count in
    let back = c.fit_back fit in
    let size = back.0 in
    let few_front = keys_bytes front (c.fit_front fit) in
    let few_back = keys_bytes (other key tree rest) back in
    let many : 7 ≤ other_count front = omega (arith, few_front, over, size) in
    let others_many : 6 ≤ other_count rest = omega (arith, few_back, bytes, small, large) in
    let sum : other_count others - 6 ≡ (other_count front - 6) + (other_count rest - 6) + 7 = omega (arith, count, many, others_many) in
    let parts = times_parts (7 ^ n) (other_count others - 6) (other_count front - 6) (other_count rest - 6) sum in
    let edits = c.edits n in
    omega (arith, parts, edits)

split_edits : (n : ℕ) (first : Tree) (others : Others) → KeysFit others → grown_edits_in (suc n) (split_branch first others) ≤ 7 ^ n * (other_count others - 6) + (edits_in n first + row_edits_in n others)
split_edits n first others fit = go (nat_le (6 + other_bytes others) entry_room) refl
  where
    go : (b : Bool) → nat_le (6 + other_bytes others) entry_room ≡ b
        → grown_edits_in (suc n) (if b then one (branch first others) else branches first (take_others (branch_place others) others) (drop_others (branch_place others) others)) ≤ 7 ^ n * (other_count others - 6) + (edits_in n first + row_edits_in n others)
    go true is = omega arith
    go false is = halves_edits n first others (take_others (branch_place others) others) (drop_others (branch_place others) others) (is_parted others) fit (leb-false (6 + other_bytes others) entry_room is)

halves_branches : (n : ℕ) (first : Tree) (front back : Others) → AreBranches n first → AreRowBranches n front → AreRowBranches n back → AreGrownBranches (suc n) (branches first front back)
halves_branches n first front none f a b = (f, a)
halves_branches n first front (other key tree rest) f a b = ((f, a), b)

split_branches : (n : ℕ) (first : Tree) (others : Others) → AreBranches n first → AreRowBranches n others → AreGrownBranches (suc n) (split_branch first others)
split_branches n first others f rows = go (nat_le (6 + other_bytes others) entry_room)
  where
    go : (b : Bool) → AreGrownBranches (suc n) (if b then one (branch first others) else branches first (take_others (branch_place others) others) (drop_others (branch_place others) others))
    go true = (f, rows)
    go false =
        let c = is_parted others in
        halves_branches n first (take_others (branch_place others) others) (drop_others (branch_place others) others) f (c.branches_front n rows) (c.branches_back n rows)

-- ---- a put

abbrev pub PutPays : ℕ → ℕ → Grown → Type 0
PutPays n before g = AreGrownBranches n g × (grown_edits_in n g ≤ before + 1)

-- a row after a put: it has as many entries, or one more for which the edits are there
abbrev RowPays : ℕ → Others → Others → Type 0
RowPays n before after =
    AreRowBranches n after × KeysFit after
    × (((other_count after ≡ other_count before) × (row_edits_in n after ≤ row_edits_in n before + 1)) ⊎ ((other_count after ≡ other_count before + 1) × (7 ^ n + row_edits_in n after ≤ row_edits_in n before + 1)))

abbrev GrownKeyFits : Grown → Type 0
GrownKeyFits (one tree) = Unit {0}
GrownKeyFits (two tree key next) = 6 + length key ≤ 306

grown_key_fits : (old : OldPages) (level : ℕ) (g : Grown) (low : List ℕ) (high : Option (List ℕ)) → IsGrown old level g low high → GrownKeyFits g
grown_key_fits old level (one tree) low high h = tt
grown_key_fits old level (two tree key next) low high h = let size = key_size key h.2 in omega (arith, size)

no_levels_pay : (g : Grown) → PutPays 0 0 g
no_levels_pay (one tree) = (tt, omega arith)
no_levels_pay (two tree key next) = ((tt, tt), omega arith)

first_pays : (n before : ℕ) (g : Grown) (others : Others) → KeysFit others → AreRowBranches n others → GrownKeyFits g → PutPays n before g → PutPays (suc n) (7 ^ n * (other_count others - 6) + (before + row_edits_in n others)) (grown_first g others)
first_pays n before (one tree) others fit rows key pays = (split_branches n tree others pays.0 rows, (let split = split_edits n tree others fit in let paid = pays.1 in omega (arith, split, paid)))
first_pays n before (two tree key next) others fit rows size pays = (
  split_branches n tree (other key next others) pays.0.0 (pays.0.1, rows),
  (let split = split_edits n tree (other key next others) (size, fit) in
      let more = times_one_more (7 ^ n) (other_count others - 6) (other_count (other key next others) - 6) (omega arith) in
      let paid = pays.1 in
      omega (arith, split, more, paid)),
)

row_pays : (n : ℕ) (tree : Tree) (others after : Others) → AreBranches n tree → RowPays n others after → PutPays (suc n) (7 ^ n * (other_count others - 6) + (edits_in n tree + row_edits_in n others)) (split_branch tree after)
row_pays n tree others after f (rows, fit, inl same) = (
  split_branches n tree after f rows,
  (let split = split_edits n tree after fit in
      let count = same.0 in
      let as_many = times_more (7 ^ n) (other_count after - 6) (other_count others - 6) (omega (arith, count)) in
      let paid = same.1 in
      omega (arith, split, as_many, paid)),
)
row_pays n tree others after f (rows, fit, inr more) = (
  split_branches n tree after f rows,
  (let split = split_edits n tree after fit in
      let count = more.0 in
      let one_more = times_one_more (7 ^ n) (other_count others - 6) (other_count after - 6) (omega (arith, count)) in
      let paid = more.1 in
      omega (arith, split, one_more, paid)),
)

branch_pays : (n : ℕ) (tree : Tree) (others : Others) (key value : List ℕ) → KeysFit others → AreBranches n tree → AreRowBranches n others → (b : Bool) → goes_first key others ≡ b
    → (goes_first key others ≡ true → PutPays n (edits_in n tree) (put key value tree) × GrownKeyFits (put key value tree)) → (goes_first key others ≡ false → RowPays n others (put_row key value others))
    → PutPays (suc n) (7 ^ n * (other_count others - 6) + (edits_in n tree + row_edits_in n others)) (if b then grown_first (put key value tree) others else split_branch tree (put_row key value others))
branch_pays n tree others key value fit f rows true is child row = let c = child is in first_pays n (edits_in n tree) (put key value tree) others fit rows c.1 c.0
branch_pays n tree others key value fit f rows false is child row = row_pays n tree others (put_row key value others) f (row is)

child_pays : (n : ℕ) (first : List ℕ) (tree : Tree) (g : Grown) (others : Others) → 6 + length first ≤ 306 → KeysFit others → AreRowBranches n others → PutPays n (edits_in n tree) g × GrownKeyFits g → RowPays n (other first tree others) (grown_other first g others)
child_pays n first tree (one t) others size fit rows pays = ((pays.0.0, rows), (size, fit), inl (refl, (let paid = pays.0.1 in omega (arith, paid))))
child_pays n first tree (two t key next) others size fit rows pays = ((pays.0.0.0, (pays.0.0.1, rows)), (size, (pays.1, fit)), inr ((omega arith), (let paid = pays.0.1 in omega (arith, paid))))

later_pays : (n : ℕ) (first : List ℕ) (tree : Tree) (others after : Others) → 6 + length first ≤ 306 → AreBranches n tree → RowPays n others after → RowPays n (other first tree others) (other first tree after)
later_pays n first tree others after size f (rows, fit, inl same) = ((f, rows), (size, fit), inl ((let count = same.0 in omega (arith, count)), (let paid = same.1 in omega (arith, paid))))
later_pays n first tree others after size f (rows, fit, inr more) = ((f, rows), (size, fit), inr ((let count = more.0 in omega (arith, count)), (let paid = more.1 in omega (arith, paid))))

other_pays : (n : ℕ) (first : List ℕ) (tree : Tree) (others : Others) (key value : List ℕ) → 6 + length first ≤ 306 → KeysFit others → AreBranches n tree → AreRowBranches n others → (b : Bool) → goes_first key others ≡ b
    → (goes_first key others ≡ true → PutPays n (edits_in n tree) (put key value tree) × GrownKeyFits (put key value tree)) → (goes_first key others ≡ false → RowPays n others (put_row key value others))
    → RowPays n (other first tree others) (if b then grown_other first (put key value tree) others else other first tree (put_row key value others))
other_pays n first tree others key value size fit f rows true is child row = child_pays n first tree (put key value tree) others size fit rows (child is)
other_pays n first tree others key value size fit f rows false is child row = later_pays n first tree others (put_row key value others) size f (row is)

mutual
  -- a put leaves at most one edit more, and what it splits is paid for
  pub put_pays : (tree : Tree) (old : OldPages) (level n : ℕ) (low : List ℕ) (high : Option (List ℕ)) (key value : List ℕ) → IsValid old level tree low high → is_between low high key ≡ true → is_pair (key, value) ≡ true → AreBranches n tree → PutPays n (edits_in n tree) (put key value tree)
  put_pays tree old level zero low high key value h b p are = no_levels_pay (put key value tree)
  put_pays (page m) old level (suc n) low high key value h b p are = absurd are
  put_pays (leaf pairs) old level (suc n) low high key value h b p are = absurd are
  put_pays (branch tree others) old zero (suc n) low high key value h b p are = absurd h
  put_pays (branch tree others) old (suc level) (suc n) low high key value h b p are =
      let parts = between_parts low high key b in
      branch_pays n tree others key value (row_keys_fit old level others low high h.1) are.0 are.1 (goes_first key others) refl
      (λ g.
      let inside = between_from low (others_high others high) key parts.0 (below_first others high key g parts.1) in
      (put_pays tree old level n low (others_high others high) key value h.0 inside p are.0, grown_key_fits old level (put key value tree) low (others_high others high) (put_tree_valid tree old level low (others_high others high) key value h.0 inside p)))
      (λ g. put_row_pays others old level n low high key value h.1 g parts.1 p are.1)

  put_row_pays : (others : Others) (old : OldPages) (level n : ℕ) (low : List ℕ) (high : Option (List ℕ)) (key value : List ℕ) → IsValidRow old level others low high → goes_first key others ≡ false → is_below high key ≡ true → is_pair (key, value) ≡ true → AreRowBranches n others
      → RowPays n others (put_row key value others)
  put_row_pays none old level n low high key value h f b p are = not_both true refl f
  put_row_pays (other first tree others) old level n low high key value h f b p are =
      other_pays n first tree others key value (let size = key_size first h.2 in omega (arith, size)) (row_keys_fit old level others first high h.4) are.0 are.1 (goes_first key others) refl
      (λ g.
      let inside = between_from first (others_high others high) key f (below_first others high key g b) in
      (put_pays tree old level n first (others_high others high) key value h.3 inside p are.0, grown_key_fits old level (put key value tree) first (others_high others high) (put_tree_valid tree old level first (others_high others high) key value h.3 inside p)))
      (λ g. put_row_pays others old level n first high key value h.4 g b p are.1)

-- ---- a delete

abbrev pub LeftStands : ℕ → ℕ → Option Tree → Type 0
LeftStands n before None = Unit {0}
LeftStands n before (Some tree) = AreBranches n tree × (edits_in n tree ≤ before)

abbrev RowStands : ℕ → Others → Others → Type 0
RowStands n before after = AreRowBranches n after × (other_count after ≤ other_count before) × (row_edits_in n after ≤ row_edits_in n before)

no_levels_left : (t : Option Tree) → LeftStands 0 0 t
no_levels_left None = tt
no_levels_left (Some tree) = (tt, omega arith)

first_stands : (n before : ℕ) (t : Option Tree) (others : Others) → AreRowBranches n others → LeftStands n before t → LeftStands (suc n) (7 ^ n * (other_count others - 6) + (before + row_edits_in n others)) (first_left t others)
first_stands n before (Some tree) others rows stands = ((stands.0, rows), (let less = stands.1 in omega (arith, less)))
first_stands n before None none rows stands = tt
first_stands n before None (other key tree others) rows stands = (rows, (let less = times_more (7 ^ n) (other_count others - 6) (other_count (other key tree others) - 6) (omega arith) in omega (arith, less)))

row_stands : (n : ℕ) (tree : Tree) (others after : Others) → AreBranches n tree → RowStands n others after → LeftStands (suc n) (7 ^ n * (other_count others - 6) + (edits_in n tree + row_edits_in n others)) (Some (branch tree after))
row_stands n tree others after f stands = (
  (f, stands.0),
  (let count = stands.1 in
      let less = times_more (7 ^ n) (other_count after - 6) (other_count others - 6) (omega (arith, count)) in
      let fewer = stands.2 in
      omega (arith, less, fewer)),
)

child_stands : (n : ℕ) (first : List ℕ) (tree : Tree) (t : Option Tree) (others : Others) → AreRowBranches n others → LeftStands n (edits_in n tree) t → RowStands n (other first tree others) (other_left first t others)
child_stands n first tree (Some left) others rows stands = ((stands.0, rows), omega arith, (let less = stands.1 in omega (arith, less)))
child_stands n first tree None others rows stands = (rows, omega arith, omega arith)

later_stands : (n : ℕ) (first : List ℕ) (tree : Tree) (others after : Others) → AreBranches n tree → RowStands n others after → RowStands n (other first tree others) (other first tree after)
later_stands n first tree others after f stands = ((f, stands.0), (let count = stands.1 in omega (arith, count)), (let less = stands.2 in omega (arith, less)))

mutual
  -- a delete leaves no edit more
  pub delete_stands : (tree : Tree) (n : ℕ) (key : List ℕ) → AreBranches n tree → LeftStands n (edits_in n tree) (delete key tree)
  delete_stands tree zero key are = no_levels_left (delete key tree)
  delete_stands (page m) (suc n) key are = absurd are
  delete_stands (leaf pairs) (suc n) key are = absurd are
  delete_stands (branch tree others) (suc n) key are = go (goes_first key others) (delete_stands tree n key are.0) (delete_row_stands others n key are.1)
    where
      go : (b : Bool) → LeftStands n (edits_in n tree) (delete key tree) → RowStands n others (delete_row key others)
          → LeftStands (suc n) (7 ^ n * (other_count others - 6) + (edits_in n tree + row_edits_in n others)) (if b then first_left (delete key tree) others else Some (branch tree (delete_row key others)))
      go true child row = first_stands n (edits_in n tree) (delete key tree) others are.1 child
      go false child row = row_stands n tree others (delete_row key others) are.0 row

  delete_row_stands : (others : Others) (n : ℕ) (key : List ℕ) → AreRowBranches n others → RowStands n others (delete_row key others)
  delete_row_stands none n key are = (tt, omega arith, omega arith)
  delete_row_stands (other first tree others) n key are = go (goes_first key others) (delete_stands tree n key are.0) (delete_row_stands others n key are.1)
    where
      go : (b : Bool) → LeftStands n (edits_in n tree) (delete key tree) → RowStands n others (delete_row key others)
          → RowStands n (other first tree others) (if b then other_left first (delete key tree) others else other first tree (delete_row key others))
      go true child row = child_stands n first tree (delete key tree) others are.1 child
      go false child row = later_stands n first tree others (delete_row key others) are.0 row

-- ---- a supply

abbrev RowStays : ℕ → Others → Others → Type 0
RowStays n before after = AreRowBranches n after × (other_count after ≡ other_count before) × (row_edits_in n after ≡ row_edits_in n before)

mutual
  -- a supply leaves as many
  pub supply_stays : (tree : Tree) (n : ℕ) (key : List ℕ) (t : Tree) → AreBranches n tree → AreBranches n (supplied key t tree) × (edits_in n (supplied key t tree) ≡ edits_in n tree)
  supply_stays tree zero key t are = (tt, refl)
  supply_stays (page m) (suc n) key t are = absurd are
  supply_stays (leaf pairs) (suc n) key t are = absurd are
  supply_stays (branch tree others) (suc n) key t are = go (goes_first key others) (supply_stays tree n key t are.0) (supply_row_stays others n key t are.1)
    where
      go : (b : Bool) → AreBranches n (supplied key t tree) × (edits_in n (supplied key t tree) ≡ edits_in n tree) → RowStays n others (row_supplied key t others)
          → AreBranches (suc n) (if b then branch (supplied key t tree) others else branch tree (row_supplied key t others))
          × (edits_in (suc n) (if b then branch (supplied key t tree) others else branch tree (row_supplied key t others)) ≡ 7 ^ n * (other_count others - 6) + (edits_in n tree + row_edits_in n others))
      go true child row = ((child.0, are.1), (let same = child.1 in omega (arith, same)))
      go false child row = ((are.0, row.0), (let count = ap (λ (c : ℕ). 7 ^ n * (c - 6)) row.1 in let same = row.2 in omega (arith, count, same)))

  supply_row_stays : (others : Others) (n : ℕ) (key : List ℕ) (t : Tree) → AreRowBranches n others → RowStays n others (row_supplied key t others)
  supply_row_stays none n key t are = (tt, refl, refl)
  supply_row_stays (other first tree others) n key t are = go (goes_first key others) (supply_stays tree n key t are.0) (supply_row_stays others n key t are.1)
    where
      go : (b : Bool) → AreBranches n (supplied key t tree) × (edits_in n (supplied key t tree) ≡ edits_in n tree) → RowStays n others (row_supplied key t others)
          → RowStays n (other first tree others) (if b then other first (supplied key t tree) others else other first tree (row_supplied key t others))
      go true child row = ((child.0, are.1), refl, (let same = child.1 in omega (arith, same)))
      go false child row = ((are.0, row.0), (let count = row.1 in omega (arith, count)), (let same = row.2 in omega (arith, same)))
