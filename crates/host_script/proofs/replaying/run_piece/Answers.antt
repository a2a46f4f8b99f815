use Rattle.std.proofs.Common.{rules, [], ◌∷◌, ◌++◌, take, sym, append_assoc, get_or}
use Rattle.std.proofs.lemmas.List.{take_more, append-nil}
use Rattle.group_hub.proofs.CallLaws.{hub_rests, hub_goes_on}
use Rattle.host_script.proofs.Replays.{run_more, run_none, stopped_at, if_err_of, so_none, so_on}
use Rattle.host_script.proofs.replaying.run_piece.Goals as goal

pub loop-byte-init : goal.loop-byte-init
loop-byte-init g c = record {
  ran = so_none _ (λ w. hub_rests g.S.SiteKeeper.site_state g.S.SiteKeeper.lacks g.S.SiteKeeper.crash_states g.S.SiteKeeper.represents g.met.S.SiteKeeper.crash_states_represent {ghosts = g.S.SiteKeeper} w) (λ a b c e f o p. hub_goes_on g.S.SiteKeeper.site_state g.S.SiteKeeper.lacks g.S.SiteKeeper.crash_states g.S.SiteKeeper.represents g.met.S.SiteKeeper.crash_states_represent {ghosts = g.S.SiteKeeper} a b c e f o p) _;
  run = λ plain. rw (append-nil c.args.place.now.line.items) (run_none _ (λ w. hub_rests g.S.SiteKeeper.site_state g.S.SiteKeeper.lacks g.S.SiteKeeper.crash_states g.S.SiteKeeper.represents g.met.S.SiteKeeper.crash_states_represent {ghosts = g.S.SiteKeeper} w) (λ a b c e f o p. hub_goes_on g.S.SiteKeeper.site_state g.S.SiteKeeper.lacks g.S.SiteKeeper.crash_states g.S.SiteKeeper.represents g.met.S.SiteKeeper.crash_states_represent {ghosts = g.S.SiteKeeper} a b c e f o p) _ _ _ c.args.place.now.line.items plain);
}

pub loop-byte-preserved : goal.loop-byte-preserved
loop-byte-preserved g c =
    let line = c.args.place.now.line.items in
    let piece = c.args.piece.now in
    let i = c.loop-byte.byte-index in
    record {
      ran = so_on _ (λ w. hub_rests g.S.SiteKeeper.site_state g.S.SiteKeeper.lacks g.S.SiteKeeper.crash_states g.S.SiteKeeper.represents g.met.S.SiteKeeper.crash_states_represent {ghosts = g.S.SiteKeeper} w) (λ a b c e f o p. hub_goes_on g.S.SiteKeeper.site_state g.S.SiteKeeper.lacks g.S.SiteKeeper.crash_states g.S.SiteKeeper.represents g.met.S.SiteKeeper.crash_states_represent {ghosts = g.S.SiteKeeper} a b c e f o p) _ _ _ c.loop-byte.invariant.ran c.run_byte.ensures.run.led;
      run = λ plain.
          let before = c.loop-byte.invariant.run plain in
          rw (take_more piece i 0 c.loop-byte-test.true, sym (append_assoc line (take i piece) (get_or piece i 0 ∷ [])))
          (run_more _ (λ w. hub_rests g.S.SiteKeeper.site_state g.S.SiteKeeper.lacks g.S.SiteKeeper.crash_states g.S.SiteKeeper.represents g.met.S.SiteKeeper.crash_states_represent {ghosts = g.S.SiteKeeper} w) (λ a b c e f o p. hub_goes_on g.S.SiteKeeper.site_state g.S.SiteKeeper.lacks g.S.SiteKeeper.crash_states g.S.SiteKeeper.represents g.met.S.SiteKeeper.crash_states_represent {ghosts = g.S.SiteKeeper} a b c e f o p) _ _ _ _ _ _ _ _ _ (line ++ take i piece) c.loop-byte.place.line.items (get_or piece i 0 ∷ []) _ before
          (c.in_ok-run_byte.ensures.run.holds before.2.cut.rest_plain));
    }

pub returns-in_err-run_byte-clause-stops : goal.returns-in_err-run_byte-clause-stops
returns-in_err-run_byte-clause-stops g c =
    λ plain.
    let line = c.args.place.now.line.items in
    let piece = c.args.piece.now in
    let i = c.loop-byte.byte-index in
    if_err_of _ c.from_residual.result c.from_residual.ensures.1
    (stopped_at _ (λ w. hub_rests g.S.SiteKeeper.site_state g.S.SiteKeeper.lacks g.S.SiteKeeper.crash_states g.S.SiteKeeper.represents g.met.S.SiteKeeper.crash_states_represent {ghosts = g.S.SiteKeeper} w) (λ a b c e f o p. hub_goes_on g.S.SiteKeeper.site_state g.S.SiteKeeper.lacks g.S.SiteKeeper.crash_states g.S.SiteKeeper.represents g.met.S.SiteKeeper.crash_states_represent {ghosts = g.S.SiteKeeper} a b c e f o p) _ _ _ _ _ _ _ _ _ line piece i _ c.loop-byte-test.true (c.loop-byte.invariant.run plain) c.in_err-run_byte.ensures.stops)

pub returns-in_err-run_byte-clause-run : goal.returns-in_err-run_byte-clause-run
returns-in_err-run_byte-clause-run g c = record { holds = search rules; led = so_on _ (λ w. hub_rests g.S.SiteKeeper.site_state g.S.SiteKeeper.lacks g.S.SiteKeeper.crash_states g.S.SiteKeeper.represents g.met.S.SiteKeeper.crash_states_represent {ghosts = g.S.SiteKeeper} w) (λ a b c e f o p. hub_goes_on g.S.SiteKeeper.site_state g.S.SiteKeeper.lacks g.S.SiteKeeper.crash_states g.S.SiteKeeper.represents g.met.S.SiteKeeper.crash_states_represent {ghosts = g.S.SiteKeeper} a b c e f o p) _ _ _ c.loop-byte.invariant.ran c.run_byte.ensures.run.led }
