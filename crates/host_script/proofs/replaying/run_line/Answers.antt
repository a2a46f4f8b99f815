use Rattle.std.proofs.Common.{refl, rules}
use Rattle.group_hub.proofs.CallLaws.{hub_rests, hub_goes_on}
use Rattle.host_script.proofs.Replays.{by_none}
use Rattle.host_script.proofs.replaying.run_line.Goals as goal

pub returns-in-Err-Form-clause-stops : goal.returns-in-Err-Form-clause-stops
returns-in-Err-Form-clause-stops g c =
    let kept = c.answer_line.ensures.form (search rules) in
    rw kept.0 (by_none _ (λ w. hub_rests g.S.SiteKeeper.site_state g.S.SiteKeeper.lacks g.S.SiteKeeper.crash_states g.S.SiteKeeper.represents g.met.S.SiteKeeper.crash_states_represent {ghosts = g.S.SiteKeeper} w) (λ a b c e f o p. hub_goes_on g.S.SiteKeeper.site_state g.S.SiteKeeper.lacks g.S.SiteKeeper.crash_states g.S.SiteKeeper.represents g.met.S.SiteKeeper.crash_states_represent {ghosts = g.S.SiteKeeper} a b c e f o p) _ _ (refl, refl, refl, refl, kept.1))

pub returns-in-Err-Memory-clause-stops : goal.returns-in-Err-Memory-clause-stops
returns-in-Err-Memory-clause-stops g c =
    let p = c.answer_line.ensures.lost (search rules) in
    (p.0, p.1, (refl, p.2), p.3)
