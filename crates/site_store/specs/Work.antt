-- How many look-ups a call makes of its store.
use Rattle.std.specs.Prelude.{ℕ, ◌*◌}
use Rattle.page_store.specs.StoreState.{StoreState}
use Rattle.page_store.specs.Work.{ReadsPages}
use Rattle.site_records.specs.Layout.{chunk_count}
use Rattle.site_records.specs.declared.record.RecordBody.{RecordBody}
use Rattle.site_records.specs.declared.record.RecordBody.TheVariants as kept

-- At most so many values were looked up, each by one page of each level, and nothing was written.
abbrev pub MakesLookUps : ℕ → StoreState → StoreState → Type 0
MakesLookUps times old new = ReadsPages (times * old.height) old.made new.made

-- how many values a card takes beside its record: the chunks of a menu's entries, or of a form's questions
abbrev pub chunks_behind : RecordBody → ℕ
chunks_behind (kept.Menu size) = chunk_count size
chunks_behind (kept.Form board size) = chunk_count size
chunks_behind other = 0

-- the most chunks that the entries of a menu take; the questions of a form take fewer
abbrev pub most_menu_chunks : ℕ
most_menu_chunks = 44
