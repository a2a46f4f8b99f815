use Rattle.view_draws.proofs.Parts.{given_from_place, behind_written}
use Rattle.view_draws.proofs.steps.finish_text.Goals as goal

pub returns-clause-given : goal.returns-clause-given
returns-clause-given c rest = given_from_place c.args.at c.finish.result c.args.out.now c.finish.new.out _ _ c.requires c.finish.ensures.within (c.finish.ensures.given rest)

pub returns-clause-behind : goal.returns-clause-behind
returns-clause-behind c = behind_written c.args.at c.finish.result c.args.out.now c.finish.new.out c.requires c.finish.ensures.within c.finish.ensures.behind
