use Rattle.host_types.specs.Change.{apply, touched}
use Rattle.site_pairs.specs.ChangeKeys.{keys_between, keys_of}
use Rattle.site_pairs.specs.KeyLaws.{among-once, sorted-once}
use Rattle.site_pairs.proofs.WordsOfChanges.{words_written}
use Rattle.site_pairs.proofs.laws.changes_have_keys.Goals as goal

pub returns : goal.returns
unfolding keys_of
returns c = λ s change now.
    let keys = keys_between s (apply s change now) (touched s change) in
    record {
      rise = sorted-once keys;
      all = λ key. among-once keys key;
      words = λ t word selector applied. words_written s t change now word selector applied;
    }
