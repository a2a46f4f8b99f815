-- Levels that are made one over another, up to the root.
use Rattle.std.proofs.Common.{◌≡◌, ℕ, zero, suc, ◌+◌, ◌-◌, ◌*◌, ◌<◌, ◌≤◌, true, List, length, sym, ap, subst, ◌∙◌, arith}
use Rattle.page_store.specs.Pages.{Pair}
use Rattle.page_store.specs.Batch.{is_map}
use Rattle.tree_nodes.specs.Tree.{Others, none, other, other_count}
use Rattle.tree_nodes.specs.NodeView.{others_view}
use Rattle.tree_nodes.specs.Steps.{RootState}
use Rattle.tree_nodes.proofs.NodesAsTrees.{Children}
use Rattle.tree_loading.specs.Filled.{leaves_of, branches_of, root_over, filled}
use Rattle.tree_loading.proofs.LeavesMade.{behind_count}
use Rattle.tree_loading.proofs.BranchesMade.{some_branch}
use Rattle.tree_loading.proofs.RowsMade.{view_count}
use Rattle.tree_loading.proofs.RootsMade.{IsLevel, no_pages, leaf_level, branch_level, fewer, filled_height}

-- a root stands no lower than the level that it is over
root_rises : (most height level : ℕ) (row : Others) → IsLevel no_pages level row → 1 ≤ other_count row → other_count row ≤ suc most → height ≤ (root_over most height row).height
root_rises most height level none h some few = absurd (omega (arith, some))
root_rises most height level (other key tree none) h some few = omega arith
root_rises zero height level (other key tree (other next sibling others)) h some few = absurd (omega (arith, few))
root_rises (suc most) height level (other key tree (other next sibling others)) h some few =
    let row = other key tree (other next sibling others) in
    let less = fewer no_pages level row h (omega arith) in
    let rest = root_rises most (suc height) (suc level) (branches_of row) (branch_level no_pages level row h) (some_branch key tree (other next sibling others)) (omega (arith, less, few)) in
    omega (arith, rest)

-- The level over two nodes or more has the same root, in one level less.
pub root_step : (most height : ℕ) (row : Others) → 2 ≤ other_count row → other_count row ≤ suc most → root_over most height row ≡ root_over (most - 1) (height + 1) (branches_of row)
root_step most height none some few = absurd (omega (arith, some))
root_step most height (other key tree none) some few = absurd (omega (arith, some))
root_step zero height (other key tree (other next sibling others)) some few = absurd (omega (arith, few))
root_step (suc most) height (other key tree (other next sibling others)) some few =
    let row = other key tree (other next sibling others) in
    let less : most ≡ suc most - 1 = omega arith in
    let up : suc height ≡ height + 1 = omega arith in
    ap (λ (n : ℕ). root_over n (suc height) (branches_of row)) less ∙ ap (λ (n : ℕ). root_over (suc most - 1) n (branches_of row)) up

pub step_rises : (most height level : ℕ) (row : Others) → IsLevel no_pages level row → 2 ≤ other_count row → other_count row ≤ suc most → height + 1 ≤ (root_over most height row).height
step_rises most height level none h some few = absurd (omega (arith, some))
step_rises most height level (other key tree none) h some few = absurd (omega (arith, some))
step_rises zero height level (other key tree (other next sibling others)) h some few = absurd (omega (arith, few))
step_rises (suc most) height level (other key tree (other next sibling others)) h some few =
    let row = other key tree (other next sibling others) in
    let less = fewer no_pages level row h some in
    let rest = root_rises most (suc height) (suc level) (branches_of row) (branch_level no_pages level row h) (some_branch key tree (other next sibling others)) (omega (arith, less, few)) in
    omega (arith, rest)

-- ---- the way of the loop

-- a level on the way to the root of these pairs, and how high it stands
pub record IsOnTheWay (pairs : List Pair) (height : ℕ) (level : Others) : Type 0 where
  pub same : root_over (suc (length pairs) - height) height level ≡ filled pairs
  pub is_level : IsLevel no_pages (height - 1) level
  pub few : other_count level + height ≤ suc (length pairs)
  pub some : 1 ≤ height

pub way_begins : (pairs : List Pair) (level : Others) → is_map pairs ≡ true → level ≡ leaves_of pairs → IsOnTheWay pairs 1 level
way_begins pairs level h e = subst (IsOnTheWay pairs 1) (sym e) (record { same = ap (λ (n : ℕ). root_over n 1 (leaves_of pairs)) fuel; is_level = leaf_level no_pages pairs h; few = omega (arith, leaves); some = omega arith })
  where
    leaves : other_count (leaves_of pairs) ≤ length pairs
    leaves = behind_count 0 pairs

    fuel : suc (length pairs) - 1 ≡ length pairs
    fuel = omega arith

-- two nodes or more leave a level for one over them
pub way_fits : (pairs : List Pair) (height : ℕ) (level : Others) → IsOnTheWay pairs height level → is_map pairs ≡ true → length pairs ≤ 1024 * 65536 → 2 ≤ other_count level → height + 1 ≤ 14
way_fits pairs height level w h few more =
    let up = step_rises (suc (length pairs) - height) height (height - 1) level w.is_level more (omega (arith, w.few)) in
    let top = filled_height pairs h few in
    let same = ap (λ (s : RootState). s.height) w.same in
    omega (arith, up, top, same)

way_smaller : (pairs : List Pair) (height : ℕ) (level above : Others) → IsOnTheWay pairs height level → 2 ≤ other_count level → above ≡ branches_of level → other_count above + 1 ≤ other_count level
way_smaller pairs height level above w more e =
    let less = fewer no_pages (height - 1) level w.is_level more in
    let same = ap other_count e in
    omega (arith, less, same)

-- the same for levels by their nodes
pub level_smaller : (pairs : List Pair) (height : ℕ) (level above : Children) → IsOnTheWay pairs height (others_view level) → 1 < length level → others_view above ≡ branches_of (others_view level) → length above < length level
level_smaller pairs height level above w more e =
    let count = view_count level in
    let less = way_smaller pairs height (others_view level) (others_view above) w (omega (arith, more, count)) e in
    omega (arith, less, count, view_count above)

pub way_rises : (pairs : List Pair) (height : ℕ) (level above : Others) → IsOnTheWay pairs height level → 2 ≤ other_count level → above ≡ branches_of level → IsOnTheWay pairs (height + 1) above
way_rises pairs height level above w more e = subst (IsOnTheWay pairs (height + 1)) (sym e) (record {
  same = ap (λ (n : ℕ). root_over n (height + 1) (branches_of level)) fuel ∙ sym (root_step (suc (length pairs) - height) height level more (omega (arith, w.few))) ∙ w.same;
  is_level = subst (λ (n : ℕ). IsLevel no_pages n (branches_of level)) up (branch_level no_pages (height - 1) level w.is_level);
  few = omega (arith, less, w.few);
  some = omega arith;
})
  where
    less : other_count (branches_of level) + 1 ≤ other_count level
    less = fewer no_pages (height - 1) level w.is_level more

    fuel : suc (length pairs) - (height + 1) ≡ suc (length pairs) - height - 1
    fuel = omega arith

    up : suc (height - 1) ≡ height + 1 - 1
    up = omega (arith, w.some)
