use Rattle.std.proofs.Common.{refl}
use Rattle.image_items.proofs.laws.worked_examples.Goals as goal

pub returns : goal.returns
returns c = record {
  first = refl;
  by_name = refl;
  first_of_the_name = refl;
  by_language = refl;
  other_language = refl;
  other_name = refl;
  no_name = refl;
  board = refl;
  nothing = refl;
  missing = refl;
  last_three = refl;
  first_two = refl;
  no_posts = refl;
  no_board = λ s. refl;
  bad_name = refl;
}
