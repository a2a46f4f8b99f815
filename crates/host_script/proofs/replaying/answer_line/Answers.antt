use Rattle.std.proofs.Common.{rules, refl, inl, inr, sym, subst, ◌∙◌}
use Rattle.host_script.specs.Lines.{IsLineDone}
use Rattle.group_hub.proofs.CallLaws.{hub_rests, hub_goes_on}
use Rattle.host_script.proofs.Replays.{so_none, by_none}
use Rattle.host_script.proofs.replaying.answer_line.Goals as goal

pub returns-in_err-parse-clause-line : goal.returns-in_err-parse-clause-line
returns-in_err-parse-clause-line g c = record { holds = search rules; led = so_none _ (λ w. hub_rests g.S.SiteKeeper.site_state g.S.SiteKeeper.lacks g.S.SiteKeeper.crash_states g.S.SiteKeeper.represents g.met.S.SiteKeeper.crash_states_represent {ghosts = g.S.SiteKeeper} w) (λ a b c e f o p. hub_goes_on g.S.SiteKeeper.site_state g.S.SiteKeeper.lacks g.S.SiteKeeper.crash_states g.S.SiteKeeper.represents g.met.S.SiteKeeper.crash_states_represent {ghosts = g.S.SiteKeeper} a b c e f o p) _ }

pub returns-in_err-moment-clause-line : goal.returns-in_err-moment-clause-line
returns-in_err-moment-clause-line g c = record { holds = search rules; led = so_none _ (λ w. hub_rests g.S.SiteKeeper.site_state g.S.SiteKeeper.lacks g.S.SiteKeeper.crash_states g.S.SiteKeeper.represents g.met.S.SiteKeeper.crash_states_represent {ghosts = g.S.SiteKeeper} w) (λ a b c e f o p. hub_goes_on g.S.SiteKeeper.site_state g.S.SiteKeeper.lacks g.S.SiteKeeper.crash_states g.S.SiteKeeper.represents g.met.S.SiteKeeper.crash_states_represent {ghosts = g.S.SiteKeeper} a b c e f o p) _ }

pub returns-in_err-from_str-in-Moment-clause-line : goal.returns-in_err-from_str-in-Moment-clause-line
returns-in_err-from_str-in-Moment-clause-line g c = record { holds = search rules; led = so_none _ (λ w. hub_rests g.S.SiteKeeper.site_state g.S.SiteKeeper.lacks g.S.SiteKeeper.crash_states g.S.SiteKeeper.represents g.met.S.SiteKeeper.crash_states_represent {ghosts = g.S.SiteKeeper} w) (λ a b c e f o p. hub_goes_on g.S.SiteKeeper.site_state g.S.SiteKeeper.lacks g.S.SiteKeeper.crash_states g.S.SiteKeeper.represents g.met.S.SiteKeeper.crash_states_represent {ghosts = g.S.SiteKeeper} a b c e f o p) _ }

pub returns-in_err-refused_line-in-Refused-clause-line : goal.returns-in_err-refused_line-in-Refused-clause-line
returns-in_err-refused_line-in-Refused-clause-line g c = record { holds = search rules; led = so_none _ (λ w. hub_rests g.S.SiteKeeper.site_state g.S.SiteKeeper.lacks g.S.SiteKeeper.crash_states g.S.SiteKeeper.represents g.met.S.SiteKeeper.crash_states_represent {ghosts = g.S.SiteKeeper} w) (λ a b c e f o p. hub_goes_on g.S.SiteKeeper.site_state g.S.SiteKeeper.lacks g.S.SiteKeeper.crash_states g.S.SiteKeeper.represents g.met.S.SiteKeeper.crash_states_represent {ghosts = g.S.SiteKeeper} a b c e f o p) _ }

pub returns-in_ok-from_str-in-Moment-clause-line : goal.returns-in_ok-from_str-in-Moment-clause-line
returns-in_ok-from_str-in-Moment-clause-line g c = record {
  holds = by_none _ (λ w. hub_rests g.S.SiteKeeper.site_state g.S.SiteKeeper.lacks g.S.SiteKeeper.crash_states g.S.SiteKeeper.represents g.met.S.SiteKeeper.crash_states_represent {ghosts = g.S.SiteKeeper} w) (λ a b c e f o p. hub_goes_on g.S.SiteKeeper.site_state g.S.SiteKeeper.lacks g.S.SiteKeeper.crash_states g.S.SiteKeeper.represents g.met.S.SiteKeeper.crash_states_represent {ghosts = g.S.SiteKeeper} a b c e f o p) _ _ (search rules);
  led = so_none _ (λ w. hub_rests g.S.SiteKeeper.site_state g.S.SiteKeeper.lacks g.S.SiteKeeper.crash_states g.S.SiteKeeper.represents g.met.S.SiteKeeper.crash_states_represent {ghosts = g.S.SiteKeeper} w) (λ a b c e f o p. hub_goes_on g.S.SiteKeeper.site_state g.S.SiteKeeper.lacks g.S.SiteKeeper.crash_states g.S.SiteKeeper.represents g.met.S.SiteKeeper.crash_states_represent {ghosts = g.S.SiteKeeper} a b c e f o p) _;
}

pub returns-in_ok-refused_line-in-Refused-clause-line : goal.returns-in_ok-refused_line-in-Refused-clause-line
returns-in_ok-refused_line-in-Refused-clause-line g c = record {
  holds = by_none _ (λ w. hub_rests g.S.SiteKeeper.site_state g.S.SiteKeeper.lacks g.S.SiteKeeper.crash_states g.S.SiteKeeper.represents g.met.S.SiteKeeper.crash_states_represent {ghosts = g.S.SiteKeeper} w) (λ a b c e f o p. hub_goes_on g.S.SiteKeeper.site_state g.S.SiteKeeper.lacks g.S.SiteKeeper.crash_states g.S.SiteKeeper.represents g.met.S.SiteKeeper.crash_states_represent {ghosts = g.S.SiteKeeper} a b c e f o p) _ _ (search rules);
  led = so_none _ (λ w. hub_rests g.S.SiteKeeper.site_state g.S.SiteKeeper.lacks g.S.SiteKeeper.crash_states g.S.SiteKeeper.represents g.met.S.SiteKeeper.crash_states_represent {ghosts = g.S.SiteKeeper} w) (λ a b c e f o p. hub_goes_on g.S.SiteKeeper.site_state g.S.SiteKeeper.lacks g.S.SiteKeeper.crash_states g.S.SiteKeeper.represents g.met.S.SiteKeeper.crash_states_represent {ghosts = g.S.SiteKeeper} a b c e f o p) _;
}

pub returns-in_ok-answer-in-Event-clause-line : goal.returns-in_ok-answer-in-Event-clause-line
returns-in_ok-answer-in-Event-clause-line g c =
    let ran = c.in_ok-answer-in-Event.ensures.answer in
    record { holds = (ran.holds.0, ran.holds.1, search rules, ran.holds.3); led = ran.led }

pub returns-in_err-parse-clause-lost : goal.returns-in_err-parse-clause-lost
returns-in_err-parse-clause-lost g c = λ is. by_none _ (λ w. hub_rests g.S.SiteKeeper.site_state g.S.SiteKeeper.lacks g.S.SiteKeeper.crash_states g.S.SiteKeeper.represents g.met.S.SiteKeeper.crash_states_represent {ghosts = g.S.SiteKeeper} w) (λ a b c e f o p. hub_goes_on g.S.SiteKeeper.site_state g.S.SiteKeeper.lacks g.S.SiteKeeper.crash_states g.S.SiteKeeper.represents g.met.S.SiteKeeper.crash_states_represent {ghosts = g.S.SiteKeeper} a b c e f o p) _ _ (inl (refl, refl))

pub returns-in_err-moment-clause-lost : goal.returns-in_err-moment-clause-lost
returns-in_err-moment-clause-lost g c = λ is. by_none _ (λ w. hub_rests g.S.SiteKeeper.site_state g.S.SiteKeeper.lacks g.S.SiteKeeper.crash_states g.S.SiteKeeper.represents g.met.S.SiteKeeper.crash_states_represent {ghosts = g.S.SiteKeeper} w) (λ a b c e f o p. hub_goes_on g.S.SiteKeeper.site_state g.S.SiteKeeper.lacks g.S.SiteKeeper.crash_states g.S.SiteKeeper.represents g.met.S.SiteKeeper.crash_states_represent {ghosts = g.S.SiteKeeper} a b c e f o p) _ _ (inl (refl, refl))

pub returns-in_err-from_str-in-Moment-clause-lost : goal.returns-in_err-from_str-in-Moment-clause-lost
returns-in_err-from_str-in-Moment-clause-lost g c = λ is. by_none _ (λ w. hub_rests g.S.SiteKeeper.site_state g.S.SiteKeeper.lacks g.S.SiteKeeper.crash_states g.S.SiteKeeper.represents g.met.S.SiteKeeper.crash_states_represent {ghosts = g.S.SiteKeeper} w) (λ a b c e f o p. hub_goes_on g.S.SiteKeeper.site_state g.S.SiteKeeper.lacks g.S.SiteKeeper.crash_states g.S.SiteKeeper.represents g.met.S.SiteKeeper.crash_states_represent {ghosts = g.S.SiteKeeper} a b c e f o p) _ _ (inl (refl, refl))

pub returns-in_err-refused_line-in-Refused-clause-lost : goal.returns-in_err-refused_line-in-Refused-clause-lost
returns-in_err-refused_line-in-Refused-clause-lost g c = λ is. by_none _ (λ w. hub_rests g.S.SiteKeeper.site_state g.S.SiteKeeper.lacks g.S.SiteKeeper.crash_states g.S.SiteKeeper.represents g.met.S.SiteKeeper.crash_states_represent {ghosts = g.S.SiteKeeper} w) (λ a b c e f o p. hub_goes_on g.S.SiteKeeper.site_state g.S.SiteKeeper.lacks g.S.SiteKeeper.crash_states g.S.SiteKeeper.represents g.met.S.SiteKeeper.crash_states_represent {ghosts = g.S.SiteKeeper} a b c e f o p) _ _ (inl (refl, refl))

pub returns-in_err-answer-in-Event-clause-lost : goal.returns-in_err-answer-in-Event-clause-lost
returns-in_err-answer-in-Event-clause-lost g c =
    let p = c.in_err-answer-in-Event.ensures.lost in
    λ is. (
      p.1.0,
      p.1.1,
      inr (
        c.args.now,
        p.0,
        record {
          command = c.in_ok-parse.field-0;
          is = c.in_ok-parse.ensures.ok;
          done = subst (λ parsed. IsLineDone c.args.now c.args.now p.0 p.1.0 p.1.1 parsed) (sym c.in-Event.is ∙ c.in_ok-moment.ensures) (refl, p.1.2);
        },
      ),
      p.1.3,
    )
