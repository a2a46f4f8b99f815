use Rattle.std.proofs.Common.{refl, sym, ◌∙◌}
use Rattle.word_search.proofs.Runs.{first_cut}
use Rattle.word_search.proofs.word.first_run.Goals as goal

pub returns-then-not-is_ascii_alphanumeric-clause-words : goal.returns-then-not-is_ascii_alphanumeric-clause-words
returns-then-not-is_ascii_alphanumeric-clause-words c = first_cut c.args.bytes.now _ c.loop-place.place c.loop-place-test.true refl c.loop-place.invariant (sym c.is_ascii_alphanumeric.ensures.value ∙ c.if-not-is_ascii_alphanumeric.true)
