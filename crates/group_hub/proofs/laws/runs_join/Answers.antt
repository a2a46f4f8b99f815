use Rattle.group_hub.proofs.CallLaws.{calls_join, calls_part, calls_run, calls_crash, calls_since}
use Rattle.group_hub.proofs.laws.runs_join.Goals as goal

pub returns-clause-join : goal.returns-clause-join
returns-clause-join g c = calls_join _ _ _ _

pub returns-clause-part : goal.returns-clause-part
returns-clause-part g c = calls_part _ _ _ _

pub returns-clause-run : goal.returns-clause-run
returns-clause-run g c = calls_run _ _ _ _

pub returns-clause-at_crash : goal.returns-clause-at_crash
returns-clause-at_crash g c = calls_crash _ _ _ _ g.met.S.SiteKeeper.crash_states_represent

pub returns-clause-since : goal.returns-clause-since
returns-clause-since g c = calls_since _ _ _ _ g.met.S.SiteKeeper.crash_states_represent
