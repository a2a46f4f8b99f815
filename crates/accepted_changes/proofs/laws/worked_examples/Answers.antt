use Rattle.std.proofs.Common.{refl}
use Rattle.host_types.specs.Change.{put, post, most_post_bytes}
use Rattle.host_types.specs.Items.{most_view_bytes}
use Rattle.host_types.specs.Visible.{visible_items}
use Rattle.request_reader.specs.DataHead.{most_data, extent_of}
use Rattle.request_reader.specs.DataLines.{room}
use Rattle.request_reader.specs.Lines.{front, first_line}
use Rattle.request_reader.specs.RequestLine.{parsed_line}
use Rattle.request_reader.specs.Verdict.{verdict}
use Rattle.ask_forms.specs.Post.{post_text, title_of}
use Rattle.site_replies.specs.Reply.{reply_of}
use Rattle.group_world.specs.Step.{joined}
use Rattle.accepted_changes.proofs.laws.worked_examples.Goals as goal

pub returns : goal.returns
unfolding put post most_post_bytes most_view_bytes visible_items most_data extent_of room front first_line parsed_line verdict post_text title_of reply_of joined
returns c = record {
  one_is_acknowledged = refl;
  two_are_accepted = refl;
  none_after_it = refl;
  refused = refl;
  a_post = refl;
  a_post_in_flight = refl;
}
