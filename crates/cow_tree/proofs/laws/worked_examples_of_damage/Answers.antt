use Rattle.std.proofs.Common.{refl}
use Rattle.page_store.specs.Pages.{head_at, pair_at, child_at, entries_of, leaf_of, branch_of}
use Rattle.cow_tree.specs.NamedWalks.{tree_or_name}
use Rattle.cow_tree.proofs.laws.worked_examples_of_damage.Goals as goal

pub returns : goal.returns
unfolding head_at pair_at child_at entries_of leaf_of branch_of tree_or_name
returns c = record {
  whole = refl;
  no_pairs = refl;
  root_slot = refl;
  root_behind = refl;
  too_high = refl;
  root_of_nothing = refl;
  other_count = refl;
  no_page = refl;
  another_page = refl;
  later_generation = refl;
  level_of_the_root = refl;
  key_below = refl;
  key_above = refl;
  child_behind = refl;
  first_of_two = refl;
  before_the_count = refl;
  under_the_first = refl;
  reached_twice = refl;
}
