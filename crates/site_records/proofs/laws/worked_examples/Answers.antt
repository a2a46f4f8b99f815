use Rattle.std.proofs.Common.{refl}
use Rattle.host_types.specs.Card.{chunk_of}
use Rattle.host_types.specs.Items.{most_view_bytes}
use Rattle.host_types.specs.Words.{word_of, first_words}
use Rattle.site_records.specs.Records.{record_bytes, record_bytes_v1}
use Rattle.site_records.specs.Field.{number, byte, counted, passing, both, mapped, known, listed}
use Rattle.site_records.specs.Limits.{is_menu_size, is_form_size, go_together}
use Rattle.site_records.specs.Reading.{entry_behind, entry_at, entries_at, questions_at, moments_at, moments_at_v1, head_at, view_at, views_at, board_at, body_behind, rest_at, record_by, record_at_v1}
use Rattle.site_records.specs.Layout.{chunk_count, item_pairs, layout}
use Rattle.site_records.proofs.laws.worked_examples.Goals as goal

pub returns : goal.returns
unfolding chunk_of most_view_bytes word_of first_words record_bytes record_bytes_v1 number byte counted passing both mapped known listed is_menu_size is_form_size go_together entry_behind entry_at entries_at questions_at moments_at moments_at_v1 head_at view_at views_at board_at body_behind rest_at record_by record_at_v1 chunk_count item_pairs layout
returns c = record {
  top_menu = refl;
  document = refl;
  pairs = refl;
  link = refl;
  form = refl;
  top_is_read = refl;
  document_is_read = refl;
  bytes_behind_it = refl;
  too_short = refl;
  expires = refl;
  too_late = refl;
  first_version = refl;
  first_is_read = refl;
  other_version = refl;
  entries_are_read = refl;
  no_questions = refl;
}
