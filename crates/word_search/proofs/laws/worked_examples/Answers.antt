use Rattle.std.proofs.Common.{refl}
use Rattle.host_types.specs.Words.{word_of, first_words}
use Rattle.word_search.specs.Search.{search_of}
use Rattle.word_search.proofs.laws.worked_examples.Goals as goal

pub returns : goal.returns
unfolding word_of first_words search_of
returns c = record { runs = refl; nothing = refl; cut = refl; document = refl; both_words = refl; one_word = refl; not_all = refl; no_words = refl; within = refl }
