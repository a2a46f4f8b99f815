use Rattle.std.proofs.Common.{sym, ◌∙◌}
use Rattle.group_hub.proofs.CallLaws.{hub_rests, hub_goes_on}
use Rattle.host_script.proofs.Replays.{so_none, if_err_of, last_none, last_one, some_line}
use Rattle.host_script.proofs.replaying.run_last.Goals as goal

pub returns-then-is_empty-clause-run : goal.returns-then-is_empty-clause-run
returns-then-is_empty-clause-run g c = record {
  holds = last_none _ (λ w. hub_rests g.S.SiteKeeper.site_state g.S.SiteKeeper.lacks g.S.SiteKeeper.crash_states g.S.SiteKeeper.represents g.met.S.SiteKeeper.crash_states_represent {ghosts = g.S.SiteKeeper} w) (λ a b c e f o p. hub_goes_on g.S.SiteKeeper.site_state g.S.SiteKeeper.lacks g.S.SiteKeeper.crash_states g.S.SiteKeeper.represents g.met.S.SiteKeeper.crash_states_represent {ghosts = g.S.SiteKeeper} a b c e f o p) _ _ _ c.args.place.now.line.items (rw (← c.as_slice-line.ensures.value) (sym c.is_empty.ensures ∙ c.if-is_empty.true));
  led = so_none _ (λ w. hub_rests g.S.SiteKeeper.site_state g.S.SiteKeeper.lacks g.S.SiteKeeper.crash_states g.S.SiteKeeper.represents g.met.S.SiteKeeper.crash_states_represent {ghosts = g.S.SiteKeeper} w) (λ a b c e f o p. hub_goes_on g.S.SiteKeeper.site_state g.S.SiteKeeper.lacks g.S.SiteKeeper.crash_states g.S.SiteKeeper.represents g.met.S.SiteKeeper.crash_states_represent {ghosts = g.S.SiteKeeper} a b c e f o p) _;
}

pub returns-clause-run : goal.returns-clause-run
returns-clause-run g c =
    let line = c.in_ok-run_line.ensures.line in
    let ran = line.holds in
    record {
      holds = last_one _ (λ w. hub_rests g.S.SiteKeeper.site_state g.S.SiteKeeper.lacks g.S.SiteKeeper.crash_states g.S.SiteKeeper.represents g.met.S.SiteKeeper.crash_states_represent {ghosts = g.S.SiteKeeper} w) (λ a b c e f o p. hub_goes_on g.S.SiteKeeper.site_state g.S.SiteKeeper.lacks g.S.SiteKeeper.crash_states g.S.SiteKeeper.represents g.met.S.SiteKeeper.crash_states_represent {ghosts = g.S.SiteKeeper} a b c e f o p) _ _ _ c.in_ok-run_line.field-0 _ _ c.args.place.now.line.items ran.0 ran.1.0 ran.1.1
          (rw (← c.as_slice-line.ensures.value) (sym c.is_empty.ensures ∙ c.if-is_empty.false))
          (rw (← c.as_slice-line.ensures.value) ran.1.2)
          ran.1.3
          ran.2;
      led = line.led;
    }

pub returns-in_err-run_line-clause-stops : goal.returns-in_err-run_line-clause-stops
returns-in_err-run_line-clause-stops g c = if_err_of _ c.from_residual.result c.from_residual.ensures.1
    (let p = c.in_err-run_line.ensures.stops in
    (p.0, p.1, (rw (← c.as_slice-line.ensures.value) p.2, some_line c.args.place.now.line.items (rw (← c.as_slice-line.ensures.value) (sym c.is_empty.ensures ∙ c.if-is_empty.false))), p.3))
