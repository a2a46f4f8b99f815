use Rattle.std.proofs.Common.{refl}
use Rattle.std.specs.Fmt.{digits}
use Rattle.host_types.specs.Change.{put, remove, post, most_post_bytes}
use Rattle.host_types.specs.Items.{most_view_bytes}
use Rattle.host_types.specs.Visible.{visible_items}
use Rattle.request_reader.specs.DataHead.{most_data, counted, extent_of}
use Rattle.request_reader.specs.DataLines.{room, is_too_much}
use Rattle.request_reader.specs.Lines.{front, first_line}
use Rattle.request_reader.specs.RequestLine.{parsed_line}
use Rattle.request_reader.specs.Verdict.{verdict}
use Rattle.text_writer.specs.Errors.{plain_error, plus_error, words_of}
use Rattle.text_writer.specs.Menu.{menu}
use Rattle.text_writer.specs.Text.{text}
use Rattle.ask_forms.specs.Post.{post_text, title_of}
use Rattle.site_replies.specs.Reply.{reply_of}
use Rattle.group_world.specs.Step.{joined}
use Rattle.group_world.proofs.laws.worked_examples.Goals as goal

pub returns : goal.returns
unfolding digits put remove post most_post_bytes most_view_bytes visible_items most_data counted extent_of room is_too_much front first_line parsed_line verdict plain_error plus_error words_of menu text post_text title_of reply_of joined
returns c = record {
  one_commit = refl;
  one_in_flight = refl;
  both_alone = refl;
  one_is_left = refl;
  the_second_fails = refl;
  two_posts = refl;
  in_order_of_arrival = refl;
  one_is_kept = refl;
  withdrawn = refl;
  the_form_is_gone = refl;
  a_menu_in_its_place = refl;
  one_by_one = refl;
}
