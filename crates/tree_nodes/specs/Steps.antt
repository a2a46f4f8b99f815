-- Lists of puts, deletes and supplies.
use Rattle.std.specs.Prelude.{◌≡◌, ℕ, suc, ◌-◌, true, List, [], ◌∷◌, Option, Some, None}
use Rattle.std.specs.Map.{remove_entry}
use Rattle.std.specs.BTreeMap.{insert_entry, is_at}
use Rattle.common_types.specs.ByteOrder.{byte_cmp}
use Rattle.page_store.specs.Pages.{Pair}
use Rattle.page_store.specs.Batch.{is_pair}
use Rattle.tree_nodes.specs.Tree.{Tree, leaf, OldPages, pairs_of, way}
use Rattle.tree_nodes.specs.Put.{Grown, one, two, put, rooted}
use Rattle.tree_nodes.specs.Delete.{delete}
use Rattle.tree_nodes.specs.Supply.{path_depth, supplied}
use Rattle.tree_nodes.specs.Valid.{IsValid}

-- the root of a tree and how many levels it has: no root and no level where it has no pairs
pub record RootState : Type 0 where
  pub root : Option Tree
  pub height : ℕ

pub data NodeStep : Type 0 where
  put_step : List ℕ → List ℕ → NodeStep
  delete_step : List ℕ → NodeStep
  supply_step : List ℕ → NodeStep

abbrev pub no_tree : RootState
no_tree = record { root = None; height = 0 }

-- the page that a key needs
abbrev pub needed_under : List ℕ → Option Tree → Option ℕ
needed_under key None = None
needed_under key (Some tree) = way key tree

abbrev pub grown_height : ℕ → Grown → ℕ
grown_height height (one tree) = height
grown_height height (two tree key next) = suc height

abbrev pub put_under : List ℕ → List ℕ → Option Tree → ℕ → RootState
put_under key value None height = record { root = Some (leaf ((key, value) ∷ [])); height = 1 }
put_under key value (Some tree) height = record { root = Some (rooted (put key value tree)); height = grown_height height (put key value tree) }

abbrev pub left_under : Option Tree → ℕ → RootState
left_under None height = no_tree
left_under (Some tree) height = record { root = Some tree; height = height }

abbrev pub delete_under : List ℕ → Option Tree → ℕ → RootState
delete_under key None height = no_tree
delete_under key (Some tree) height = left_under (delete key tree) height

-- with what was read of the needed page, where it is that page
abbrev pub read_under : List ℕ → Option Tree → Option Tree → ℕ → RootState
read_under key None root height = record { root = root; height = height }
read_under key (Some read) None height = record { root = None; height = height }
read_under key (Some read) (Some tree) height = record { root = Some (supplied key read tree); height = height }

abbrev pub depth_under : List ℕ → Option Tree → ℕ
depth_under key None = 0
depth_under key (Some tree) = path_depth key tree

-- a change is made where no page is needed, and nothing changes where one is
abbrev pub where_owned : Option ℕ → RootState → RootState → RootState
where_owned None changed same = changed
where_owned (Some page) changed same = same

abbrev pub where_needed : OldPages → List ℕ → Option ℕ → RootState → RootState
where_needed old key None state = state
where_needed old key (Some page) state = read_under key (old.opened (state.height - 1 - depth_under key state.root) page) state.root state.height

abbrev pub stepped : OldPages → RootState → NodeStep → RootState
stepped old state (put_step key value) = where_owned (needed_under key state.root) (put_under key value state.root state.height) state
stepped old state (delete_step key) = where_owned (needed_under key state.root) (delete_under key state.root state.height) state
stepped old state (supply_step key) = where_needed old key (needed_under key state.root) state

abbrev pub after_steps : OldPages → RootState → List NodeStep → RootState
after_steps old state [] = state
after_steps old state (step ∷ steps) = after_steps old (stepped old state step) steps

-- what a step does to the pairs: a put and a delete where no page is needed
abbrev pub where_done : Option ℕ → List Pair → List Pair → List Pair
where_done None changed same = changed
where_done (Some page) changed same = same

abbrev pub changed : RootState → List Pair → NodeStep → List Pair
changed state pairs (put_step key value) = where_done (needed_under key state.root) (insert_entry byte_cmp pairs key value) pairs
changed state pairs (delete_step key) = where_done (needed_under key state.root) (remove_entry (is_at (byte_cmp key)) pairs) pairs
changed state pairs (supply_step key) = pairs

abbrev pub after_changes : OldPages → RootState → List Pair → List NodeStep → List Pair
after_changes old state pairs [] = pairs
after_changes old state pairs (step ∷ steps) = after_changes old (stepped old state step) (changed state pairs step) steps

abbrev pub root_pairs : OldPages → Option Tree → List Pair
root_pairs old None = []
root_pairs old (Some tree) = pairs_of old tree

abbrev pub IsValidRoot : OldPages → Option Tree → ℕ → Type 0
IsValidRoot old None height = height ≡ 0
IsValidRoot old (Some tree) height = (level : ℕ) × (height ≡ suc level) × IsValid old level tree [] None

abbrev pub IsStep : NodeStep → Type 0
IsStep (put_step key value) = is_pair (key, value) ≡ true
IsStep (delete_step key) = Unit {0}
IsStep (supply_step key) = Unit {0}

abbrev pub AreSteps : List NodeStep → Type 0
AreSteps [] = Unit {0}
AreSteps (step ∷ steps) = IsStep step × AreSteps steps
