use Rattle.std.proofs.Common.{refl}
use Rattle.std.specs.Fmt.{digits}
use Rattle.host_types.specs.Change.{put, remove, move_to, post, most_post_bytes}
use Rattle.host_types.specs.Items.{most_view_bytes}
use Rattle.host_types.proofs.laws.worked_examples.Goals as goal

pub returns : goal.returns
unfolding digits put remove move_to post most_post_bytes most_view_bytes
returns c = record {
  put = refl;
  put_over = refl;
  put_in_order = refl;
  root = refl;
  no_lasting_root = refl;
  link = refl;
  post_name = refl;
  bare_document = refl;
  long_summary = refl;
  removed = refl;
  root_stays = refl;
  missing = refl;
  moved = refl;
  host = refl;
  no_port = refl;
  admin = refl;
  first_post = refl;
  second_post = refl;
  no_board = refl;
  board_with_a_post = refl;
}
