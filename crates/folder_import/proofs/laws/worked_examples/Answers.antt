use Rattle.std.proofs.Common.{refl}
use Rattle.folder_import.proofs.laws.worked_examples.Goals as goal

pub returns : goal.returns
returns c = record {
  text = refl;
  capitals = refl;
  other = refl;
  last_ending = refl;
  no_ending = refl;
  period_at_the_end = refl;
  below = refl;
  below_the_top = refl;
  from_the_top = refl;
  from_the_folder = refl;
  folder_by_its_slash = refl;
  top = refl;
  barred = refl;
  local = refl;
  remote = refl;
  host_alone = refl;
  comment = refl;
  no_entries = refl;
  hundred = refl;
  hundred_and_one = refl;
  two_hundred = refl;
  first_page = refl;
  first_of_two = refl;
  last_of_two = refl;
}
