-- A branch split in two.
use Rattle.std.proofs.Common.{◌≡◌, ℕ, suc, ◌+◌, ◌-◌, ◌<◌, ◌≤◌, Bool, true, false, List, ◌++◌, length, Option, refl, sym, ap, subst, ◌∙◌, arith, append_assoc, append-nil}
use Rattle.std.specs.Prelude.{nat_le, if◌then◌else◌}
use Rattle.std.proofs.lemmas.Bool.{leb-true, leb-false}
use Rattle.page_store.specs.Keys.{is_below}
use Rattle.page_store.specs.Pages.{Pair}
use Rattle.tree_nodes.specs.Tree.{Tree, Others, branch, none, other, OldPages, pairs_of, row_pairs, pages_of, row_pages, row_owned_at, other_bytes, other_count, entry_room}
use Rattle.tree_nodes.specs.Growth.{AreRowBranches, row_edits_in}
use Rattle.tree_nodes.specs.Splits.{branch_place}
use Rattle.tree_nodes.specs.declared.splitting.TheConstants.{FRONT_OF_BRANCH}
use Rattle.tree_nodes.specs.Put.{one, front_others, back_others, take_others, drop_others, branches, split_branch}
use Rattle.tree_nodes.specs.Valid.{IsValid, IsValidRow, IsGrown, grown_pairs, others_high}
use Rattle.tree_nodes.proofs.SplitPlaces.{branch_front, branch_back}
use Rattle.tree_nodes.proofs.KeyOrder.{not_back, is_below_less}
use Rattle.tree_nodes.proofs.KeysWithinBounds.{row_lower}

-- the first of the second part is too large for what is left of the room
abbrev IsOver : ℕ → Others → Others → Type 0
IsOver room front none = Unit {0}
IsOver room front (other key tree others) = room < other_bytes front + (6 + length key)

over_more : (room : ℕ) (key : List ℕ) (tree : Tree) (front back : Others) → 6 + length key ≤ room → IsOver (room - (6 + length key)) front back → IsOver room (other key tree front) back
over_more room key tree front none le h = tt
over_more room key tree front (other next sibling others) le h = omega (arith, le, h)

-- each key has at most 300 bytes
abbrev pub KeysFit : Others → Type 0
KeysFit none = Unit {0}
KeysFit (other key tree others) = (6 + length key ≤ 306) × KeysFit others

-- what a row and its two parts share
pub record IsSplit (room : ℕ) (others front back : Others) : Type 0 where
  pub bytes : other_bytes front + other_bytes back ≡ other_bytes others
  pub small : other_bytes front ≤ room
  pub over : IsOver room front back
  pub high : (high : Option (List ℕ)) → others_high front (others_high back high) ≡ others_high others high
  pub pairs : (old : OldPages) → row_pairs old front ++ row_pairs old back ≡ row_pairs old others
  pub pages : row_pages front ++ row_pages back ≡ row_pages others
  pub owned : (depth : ℕ) → row_owned_at depth front + row_owned_at depth back ≡ row_owned_at depth others
  pub count : other_count front + other_count back ≡ other_count others
  pub edits : (n : ℕ) → row_edits_in n front + row_edits_in n back ≡ row_edits_in n others
  pub fit_front : KeysFit others → KeysFit front
  pub fit_back : KeysFit others → KeysFit back
  pub branches_front : (n : ℕ) → AreRowBranches n others → AreRowBranches n front
  pub branches_back : (n : ℕ) → AreRowBranches n others → AreRowBranches n back
  pub below : (old : OldPages) (level : ℕ) (low : List ℕ) (high : Option (List ℕ)) → is_below high low ≡ true → IsValidRow old level others low high → is_below (others_high back high) low ≡ true
  pub valid_front : (old : OldPages) (level : ℕ) (low : List ℕ) (high : Option (List ℕ)) → IsValidRow old level others low high → IsValidRow old level front low (others_high back high)
  pub valid_back : (old : OldPages) (level : ℕ) (low : List ℕ) (high : Option (List ℕ)) → IsValidRow old level others low high → IsValidRow old level back low high

split_none : (room : ℕ) → IsSplit room none none none
split_none room = record {
  bytes = omega arith;
  small = omega arith;
  over = tt;
  high = λ high. refl;
  pairs = λ old. refl;
  pages = refl;
  owned = λ depth. omega arith;
  count = omega arith;
  edits = λ n. omega arith;
  fit_front = λ h. tt;
  fit_back = λ h. tt;
  branches_front = λ n h. tt;
  branches_back = λ n h. tt;
  below = λ old level low high b h. b;
  valid_front = λ old level low high h. tt;
  valid_back = λ old level low high h. tt;
}

split_here : (room : ℕ) (key : List ℕ) (tree : Tree) (others : Others) → room < 6 + length key → IsSplit room (other key tree others) none (other key tree others)
split_here room key tree others lt = record {
  bytes = omega arith;
  small = omega arith;
  over = omega (arith, lt);
  high = λ high. refl;
  pairs = λ old. refl;
  pages = refl;
  owned = λ depth. omega arith;
  count = omega arith;
  edits = λ n. omega arith;
  fit_front = λ h. tt;
  fit_back = λ h. h;
  branches_front = λ n h. tt;
  branches_back = λ n h. h;
  below = λ old level low high b h. h.0;
  valid_front = λ old level low high h. tt;
  valid_back = λ old level low high h. h;
}

split_later : (room : ℕ) (key : List ℕ) (tree : Tree) (others front back : Others) → 6 + length key ≤ room → IsSplit (room - (6 + length key)) others front back → IsSplit room (other key tree others) (other key tree front) back
split_later room key tree others front back le c = record {
  bytes = omega (arith, c.bytes);
  small = omega (arith, le, c.small);
  over = over_more room key tree front back le c.over;
  high = λ high. refl;
  pairs = λ old. append_assoc (pairs_of old tree) (row_pairs old front) (row_pairs old back) ∙ ap (λ (l : List Pair). pairs_of old tree ++ l) (c.pairs old);
  pages = append_assoc (pages_of tree) (row_pages front) (row_pages back) ∙ ap (λ (l : List ℕ). pages_of tree ++ l) c.pages;
  owned = λ depth. omega (arith, c.owned depth);
  count = omega (arith, c.count);
  edits = λ n. omega (arith, c.edits n);
  fit_front = λ h. (h.0, c.fit_front h.1);
  fit_back = λ h. c.fit_back h.1;
  branches_front = λ n h. (h.0, c.branches_front n h.1);
  branches_back = λ n h. c.branches_back n h.1;
  below = λ old level low high b h. is_below_less (others_high back high) low key (not_back low key h.0) (c.below old level key high h.1 h.4);
  valid_front = λ old level low high h.
      (h.0, c.below old level key high h.1 h.4, h.2, subst (λ (x : Option (List ℕ)). IsValid old level tree key x) (sym (c.high high)) h.3, c.valid_front old level key high h.4);
  valid_back = λ old level low high h. row_lower old level back key low high h.0 (c.valid_back old level key high h.4);
}

pub is_split : (room : ℕ) (others : Others) → IsSplit room others (front_others room others) (back_others room others)
is_split room none = split_none room
is_split room (other key tree others) = go (nat_le (6 + length key) room) refl (is_split (room - (6 + length key)) others)
  where
    go : (b : Bool) → nat_le (6 + length key) room ≡ b → IsSplit (room - (6 + length key)) others (front_others (room - (6 + length key)) others) (back_others (room - (6 + length key)) others)
        → IsSplit room (other key tree others) (if b then other key tree (front_others (room - (6 + length key)) others) else none) (if b then back_others (room - (6 + length key)) others else other key tree others)
    go true is more = split_later room key tree others (front_others (room - (6 + length key)) others) (back_others (room - (6 + length key)) others) (leb-true (6 + length key) room is) more
    go false is more = split_here room key tree others (leb-false (6 + length key) room is)

-- the parts that are made
pub is_parted : (others : Others) → IsSplit FRONT_OF_BRANCH others (take_others (branch_place others) others) (drop_others (branch_place others) others)
is_parted others =
    subst (λ (l : Others). IsSplit FRONT_OF_BRANCH others l (drop_others (branch_place others) others)) (sym (branch_front others))
    (subst (λ (l : Others). IsSplit FRONT_OF_BRANCH others (front_others FRONT_OF_BRANCH others) l) (sym (branch_back others)) (is_split FRONT_OF_BRANCH others))

-- ---- a split branch

branches_valid : (old : OldPages) (level room : ℕ) (first : Tree) (others front back : Others) (low : List ℕ) (high : Option (List ℕ)) → IsSplit room others front back
    → IsValid old level first low (others_high others high) → IsValidRow old level others low high → room ≤ 4066 → other_bytes others ≤ room + room + 1 → room < other_bytes others
    → IsGrown old (suc level) (branches first front back) low high
branches_valid old level room first others front none low high c f r to total large = absurd (omega (arith, c.bytes, c.small, large))
branches_valid old level room first others front (other key tree rest) low high c f r to total large =
    let b = c.valid_back old level low high r in (
      b.0,
      b.1,
      b.2,
      (subst (λ (x : Option (List ℕ)). IsValid old level first low x) (sym (c.high high)) f, c.valid_front old level low high r, omega (arith, to, c.small)),
      (b.3, b.4, omega (arith, to, c.over, c.bytes, total)),
    )

pub split_branch_valid : (old : OldPages) (level : ℕ) (first : Tree) (others : Others) (low : List ℕ) (high : Option (List ℕ)) → IsValid old level first low (others_high others high) → IsValidRow old level others low high
    → 6 + other_bytes others ≤ entry_room + 306 → IsGrown old (suc level) (split_branch first others) low high
split_branch_valid old level first others low high f r size = go (nat_le (6 + other_bytes others) entry_room) refl
  where
    go : (b : Bool) → nat_le (6 + other_bytes others) entry_room ≡ b
        → IsGrown old (suc level) (if b then one (branch first others) else branches first (take_others (branch_place others) others) (drop_others (branch_place others) others)) low high
    go true is = (f, r, leb-true (6 + other_bytes others) entry_room is)
    go false is =
        let large = leb-false (6 + other_bytes others) entry_room is in
        branches_valid old level FRONT_OF_BRANCH first others (take_others (branch_place others) others) (drop_others (branch_place others) others) low high (is_parted others) f r
        (omega arith) (omega (arith, size)) (omega (arith, large))

branches_pairs : (old : OldPages) (first : Tree) (front back : Others) → grown_pairs old (branches first front back) ≡ pairs_of old first ++ (row_pairs old front ++ row_pairs old back)
branches_pairs old first front none = ap (λ (l : List Pair). pairs_of old first ++ l) (sym (append-nil (row_pairs old front)))
branches_pairs old first front (other key tree others) = append_assoc (pairs_of old first) (row_pairs old front) (pairs_of old tree ++ row_pairs old others)

pub split_branch_pairs : (old : OldPages) (first : Tree) (others : Others) → grown_pairs old (split_branch first others) ≡ pairs_of old first ++ row_pairs old others
split_branch_pairs old first others = go (nat_le (6 + other_bytes others) entry_room)
  where
    go : (b : Bool) → grown_pairs old (if b then one (branch first others) else branches first (take_others (branch_place others) others) (drop_others (branch_place others) others)) ≡ pairs_of old first ++ row_pairs old others
    go true = refl
    go false = branches_pairs old first (take_others (branch_place others) others) (drop_others (branch_place others) others)
        ∙ ap (λ (l : List Pair). pairs_of old first ++ l) ((is_parted others).pairs old)
