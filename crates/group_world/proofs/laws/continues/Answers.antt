use Rattle.group_world.proofs.AskedInRuns.{draws_were_asked_for}
use Rattle.group_world.proofs.Continuing.{continues}
use Rattle.group_world.proofs.Places.{continues_found, continues_from_its_place}
use Rattle.group_world.proofs.laws.continues.Goals as goal

pub returns-clause-rest : goal.returns-clause-rest
returns-clause-rest c = continues

pub returns-clause-found : goal.returns-clause-found
returns-clause-found c = continues_found

pub returns-clause-place : goal.returns-clause-place
returns-clause-place c = continues_from_its_place

pub returns-clause-asked_for : goal.returns-clause-asked_for
returns-clause-asked_for c = draws_were_asked_for
