use Rattle.std.proofs.Common.{refl}
use Rattle.turns.proofs.Runnings.{run_none}
use Rattle.daily_server.proofs.office.NoOfficeOffice.turn.Goals as goal

pub returns : goal.returns
returns g c = run_none _ _ _ _ g.met.S.SiteKeeper.crash_states_represent _ _ _ (refl, refl, refl)
