use Rattle.std.proofs.Common.{refl}
use Rattle.clap.proofs.OnLiterals.{clap_on_literals}
use Rattle.command_words.proofs.laws.worked_examples.Goals as goal

pub returns : goal.returns
unfolding clap_on_literals
returns c = record {
  shows = refl;
  its_image = refl;
  it_is_taken = refl;
  shortly = refl;
  at_length = refl;
  exports = refl;
  imports = refl;
  its_folder = refl;
  under_the_top = refl;
  under_another = refl;
  no_folder = refl;
  upgrades = refl;
  copies = refl;
  as_many_pages = refl;
  more_pages = refl;
  its_copy = refl;
  no_copy = refl;
  no_image = refl;
  no_command = refl;
  replays = refl;
  over_no_image = refl;
  one_by_one = refl;
  in_groups = refl;
  formats = refl;
  host = refl;
  port = refl;
  title = refl;
  no_moment = refl;
  inits = refl;
  init_is_taken = refl;
  its_pages = refl;
  its_host = refl;
  its_port = refl;
  given_port = refl;
  gets = refl;
  first_view = refl;
  its_view = refl;
  lists_posts = refl;
  of_no_board = refl;
  drops = refl;
  nothing_to_drop = refl;
  all_is_there = refl;
  no_port_is_0 = refl;
  rounds = refl;
  together = refl;
  loud_rounds = refl;
  no_old_clients = refl;
  old_clients = refl;
  is_quiet = refl;
  two_places = refl;
  as_many_as_else = refl;
  three_posts = refl;
  no_post_at_all = refl;
  all_posts = refl;
  its_socket = refl;
  nobody_comes = refl;
  somebody_comes = refl;
  anywhere = refl;
}
