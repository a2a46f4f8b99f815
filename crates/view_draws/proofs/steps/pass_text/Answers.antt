use Rattle.view_draws.proofs.Parts.{given_from_place, behind_written}
use Rattle.view_draws.proofs.steps.pass_text.Goals as goal

pub returns-clause-given : goal.returns-clause-given
returns-clause-given c more = given_from_place c.args.at c.next.result.given c.args.out.now c.next.new.out _ _ c.requires c.next.ensures.within (c.next.ensures.given more)

pub returns-clause-behind : goal.returns-clause-behind
returns-clause-behind c = behind_written c.args.at c.next.result.given c.args.out.now c.next.new.out c.requires c.next.ensures.within c.next.ensures.behind
