use Rattle.std.proofs.Common.{refl}
use Rattle.host_types.specs.Card.{chunk_of}
use Rattle.host_types.specs.Change.{put, remove}
use Rattle.host_types.specs.Items.{most_view_bytes}
use Rattle.host_types.specs.Words.{word_of, first_words}
use Rattle.site_records.specs.Layout.{chunk_count}
use Rattle.site_records.specs.Records.{record_bytes}
use Rattle.site_pairs.specs.ChangeKeys.{keys_of}
use Rattle.site_pairs.proofs.laws.worked_examples.Goals as goal

pub returns : goal.returns
unfolding chunk_of put remove most_view_bytes word_of first_words chunk_count record_bytes keys_of
returns c = record {
  removed = refl;
  another_title = refl;
}
