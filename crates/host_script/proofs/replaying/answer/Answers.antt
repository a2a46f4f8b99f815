use Rattle.std.proofs.Common.{◌≡◌, [], ◌∷◌, inl, inr, refl, rules}
use Rattle.std.specs.Prelude.{codes}
use Rattle.std.specs.String.{string_bytes}
use Rattle.group_hub.proofs.CallLaws.{hub_rests, hub_goes_on}
use Rattle.host_script.specs.Printed.{line_of}
use Rattle.host_script.proofs.Replays.{so_none, by_none, if_ok, on_err, only_one}
use Rattle.host_script.proofs.replaying.answer.Goals as goal

pub returns-in_default : goal.returns-in_default
returns-in_default g c =
    let same : c.run.new.self ≡ c.args.hub.now = search rules in
    record {
      answer = rw same (record {
        holds = if_ok c.from_str.result (search rules) (λ printed (is : string_bytes printed ≡ codes "fault Memory"). by_none _ (λ w. hub_rests g.S.SiteKeeper.site_state g.S.SiteKeeper.lacks g.S.SiteKeeper.crash_states g.S.SiteKeeper.represents g.met.S.SiteKeeper.crash_states_represent {ghosts = g.S.SiteKeeper} w) (λ a b c e f o p. hub_goes_on g.S.SiteKeeper.site_state g.S.SiteKeeper.lacks g.S.SiteKeeper.crash_states g.S.SiteKeeper.represents g.met.S.SiteKeeper.crash_states_represent {ghosts = g.S.SiteKeeper} a b c e f o p) _ _ (inr (refl, refl, is)));
        led = so_none _ (λ w. hub_rests g.S.SiteKeeper.site_state g.S.SiteKeeper.lacks g.S.SiteKeeper.crash_states g.S.SiteKeeper.represents g.met.S.SiteKeeper.crash_states_represent {ghosts = g.S.SiteKeeper} w) (λ a b c e f o p. hub_goes_on g.S.SiteKeeper.site_state g.S.SiteKeeper.lacks g.S.SiteKeeper.crash_states g.S.SiteKeeper.represents g.met.S.SiteKeeper.crash_states_represent {ghosts = g.S.SiteKeeper} a b c e f o p) _;
      });
      lost = rw same (on_err c.from_str.result (codes "fault Memory", by_none _ (λ w. hub_rests g.S.SiteKeeper.site_state g.S.SiteKeeper.lacks g.S.SiteKeeper.crash_states g.S.SiteKeeper.represents g.met.S.SiteKeeper.crash_states_represent {ghosts = g.S.SiteKeeper} w) (λ a b c e f o p. hub_goes_on g.S.SiteKeeper.site_state g.S.SiteKeeper.lacks g.S.SiteKeeper.crash_states g.S.SiteKeeper.represents g.met.S.SiteKeeper.crash_states_represent {ghosts = g.S.SiteKeeper} a b c e f o p) _ _ (inr (refl, refl, refl))));
    }

pub returns-clause-lost : goal.returns-clause-lost
returns-clause-lost g c =
    let one = only_one c.in-Ok.outcomes c.in-Ok.ensures.each in
    on_err c.line_of.result (
      line_of one.0,
      (
        c.args.event ∷ [],
        c.in-Ok.outcomes,
        inl (record { outcome = one.0; parsed = refl; fault_text = one.1; line = refl }),
        c.in-Ok.ensures.run,
      ),
    )
