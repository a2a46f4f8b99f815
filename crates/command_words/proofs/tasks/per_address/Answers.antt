use Rattle.std.proofs.Common.{codes, refl, inl, inr}
use Rattle.clap.specs.Words.{found_of}
use Rattle.command_words.proofs.FoundLemmas.{found_number, no_number}
use Rattle.command_words.proofs.tasks.per_address.Goals as goal

pub returns-in-Some : goal.returns-in-Some
returns-in-Some c = inl (found_number 32 (found_of c.args.matches.now) (codes "per-address") c.get_one.result _ c.get_one.ensures.none c.get_one.ensures.value c.in-Some.is)

pub returns-in-None : goal.returns-in-None
returns-in-None c = inr (no_number 32 (found_of c.args.matches.now) (codes "per-address") c.get_one.result c.get_one.ensures.value c.in-None.is, refl)
