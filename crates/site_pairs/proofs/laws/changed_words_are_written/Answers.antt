use Rattle.site_pairs.proofs.ChangedWords.{writes_changed_words}
use Rattle.site_pairs.proofs.laws.changed_words_are_written.Goals as goal

pub returns : goal.returns
returns c = λ r. writes_changed_words r
