use Rattle.std.proofs.Common.{refl}
use Rattle.toml.proofs.OnLiterals.{toml_on_literals}
use Rattle.hex.proofs.OnLiterals.{hex_on_literals}
use Rattle.change_file.proofs.laws.worked_examples.Goals as goal

pub returns : goal.returns
unfolding toml_on_literals hex_on_literals
returns c = record {
  nothing = refl;
  no_key = refl;
  further_key = refl;
  no_table = refl;
  removed = refl;
  wrong_name = refl;
  first_wrong = refl;
  text = refl;
  until = refl;
  first_moment = refl;
  greatest_moment = refl;
  great_moment = refl;
  moment_before_all = refl;
  moment_of_letters = refl;
  removal_with_moment = refl;
  menu = refl;
  wrong_entry = refl;
  board = refl;
  great_number = refl;
  bytes = refl;
  odd_digits = refl;
  host = refl;
  no_port = refl;
  sentence = refl;
  no_sentence = refl;
}
