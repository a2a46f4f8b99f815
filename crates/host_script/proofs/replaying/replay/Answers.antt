use Rattle.std.proofs.Common.{take, refl, ap, arith}
use Rattle.group_hub.proofs.CallLaws.{hub_rests, hub_goes_on}
use Rattle.host_script.proofs.Replays.{so_none, so_on, read_none, read_more, at_end, on_ok, if_err, if_err_of, keeps_same, replayed_known, halted_unread, halted_at_last, halted_within}
use Rattle.host_script.proofs.replaying.replay.Goals as goal

pub loop-init : goal.loop-init
loop-init g c = record { ran = so_none _ (λ w. hub_rests g.S.SiteKeeper.site_state g.S.SiteKeeper.lacks g.S.SiteKeeper.crash_states g.S.SiteKeeper.represents g.met.S.SiteKeeper.crash_states_represent {ghosts = g.S.SiteKeeper} w) (λ a b c e f o p. hub_goes_on g.S.SiteKeeper.site_state g.S.SiteKeeper.lacks g.S.SiteKeeper.crash_states g.S.SiteKeeper.represents g.met.S.SiteKeeper.crash_states_represent {ghosts = g.S.SiteKeeper} a b c e f o p) _; room = refl; run = rw (c.start.ensures, c.new.ensures.items) (read_none _ (λ w. hub_rests g.S.SiteKeeper.site_state g.S.SiteKeeper.lacks g.S.SiteKeeper.crash_states g.S.SiteKeeper.represents g.met.S.SiteKeeper.crash_states_represent {ghosts = g.S.SiteKeeper} w) (λ a b c e f o p. hub_goes_on g.S.SiteKeeper.site_state g.S.SiteKeeper.lacks g.S.SiteKeeper.crash_states g.S.SiteKeeper.represents g.met.S.SiteKeeper.crash_states_represent {ghosts = g.S.SiteKeeper} a b c e f o p) _ _ _) }

pub returns-in_default-clause-halted : goal.returns-in_default-clause-halted
returns-in_default-clause-halted g c = halted_unread _ (λ w. hub_rests g.S.SiteKeeper.site_state g.S.SiteKeeper.lacks g.S.SiteKeeper.crash_states g.S.SiteKeeper.represents g.met.S.SiteKeeper.crash_states_represent {ghosts = g.S.SiteKeeper} w) (λ a b c e f o p. hub_goes_on g.S.SiteKeeper.site_state g.S.SiteKeeper.lacks g.S.SiteKeeper.crash_states g.S.SiteKeeper.represents g.met.S.SiteKeeper.crash_states_represent {ghosts = g.S.SiteKeeper} a b c e f o p) _ _ _ _ _ _ _ _ _ c.loop.invariant.run c.in_default.ensures.bytes

pub returns-then-count-eq0-clause-run : goal.returns-then-count-eq0-clause-run
returns-then-count-eq0-clause-run g c =
    let read = c.in-Ok.ensures.bytes in
    let end = read.1 c.if-count-eq0.true (omega (arith, c.loop.invariant.room, c.read.auto.buf)) in
    let none = ap (λ n. take n c.read.new.buf) c.if-count-eq0.true in
    on_ok c.run_last.result c.run_last.ensures.run.holds
    (λ last. replayed_known _ (λ w. hub_rests g.S.SiteKeeper.site_state g.S.SiteKeeper.lacks g.S.SiteKeeper.crash_states g.S.SiteKeeper.represents g.met.S.SiteKeeper.crash_states_represent {ghosts = g.S.SiteKeeper} w) (λ a b c e f o p. hub_goes_on g.S.SiteKeeper.site_state g.S.SiteKeeper.lacks g.S.SiteKeeper.crash_states g.S.SiteKeeper.represents g.met.S.SiteKeeper.crash_states_represent {ghosts = g.S.SiteKeeper} a b c e f o p) _ _ _ _ _ _ _ _ _ _ c.loop.invariant.run (at_end _ _ _ read.0 none end) last)

pub returns-then-count-eq0-clause-halted : goal.returns-then-count-eq0-clause-halted
returns-then-count-eq0-clause-halted g c =
    let read = c.in-Ok.ensures.bytes in
    let end = read.1 c.if-count-eq0.true (omega (arith, c.loop.invariant.room, c.read.auto.buf)) in
    let none = ap (λ n. take n c.read.new.buf) c.if-count-eq0.true in
    if_err c.run_last.result c.run_last.ensures.stops
    (λ fault last. halted_at_last _ (λ w. hub_rests g.S.SiteKeeper.site_state g.S.SiteKeeper.lacks g.S.SiteKeeper.crash_states g.S.SiteKeeper.represents g.met.S.SiteKeeper.crash_states_represent {ghosts = g.S.SiteKeeper} w) (λ a b c e f o p. hub_goes_on g.S.SiteKeeper.site_state g.S.SiteKeeper.lacks g.S.SiteKeeper.crash_states g.S.SiteKeeper.represents g.met.S.SiteKeeper.crash_states_represent {ghosts = g.S.SiteKeeper} a b c e f o p) _ _ _ fault _ _ _ _ _ _ _ _ c.loop.invariant.run (at_end _ _ _ read.0 none end) last)

pub returns-in_err-run_piece-clause-halted : goal.returns-in_err-run_piece-clause-halted
returns-in_err-run_piece-clause-halted g c =
    let before = c.loop.invariant.run in
    if_err_of _ c.from_residual.result c.from_residual.ensures.1
    (halted_within _ (λ w. hub_rests g.S.SiteKeeper.site_state g.S.SiteKeeper.lacks g.S.SiteKeeper.crash_states g.S.SiteKeeper.represents g.met.S.SiteKeeper.crash_states_represent {ghosts = g.S.SiteKeeper} w) (λ a b c e f o p. hub_goes_on g.S.SiteKeeper.site_state g.S.SiteKeeper.lacks g.S.SiteKeeper.crash_states g.S.SiteKeeper.represents g.met.S.SiteKeeper.crash_states_represent {ghosts = g.S.SiteKeeper} a b c e f o p) _ _ _ _ _ _ _ _ _ _ _ _ _ before c.in-Ok.ensures.bytes.0
    (c.in_err-run_piece.ensures.stops before.run.2.cut.rest_plain))

pub loop-preserved : goal.loop-preserved
loop-preserved g c = record {
  ran = so_on _ (λ w. hub_rests g.S.SiteKeeper.site_state g.S.SiteKeeper.lacks g.S.SiteKeeper.crash_states g.S.SiteKeeper.represents g.met.S.SiteKeeper.crash_states_represent {ghosts = g.S.SiteKeeper} w) (λ a b c e f o p. hub_goes_on g.S.SiteKeeper.site_state g.S.SiteKeeper.lacks g.S.SiteKeeper.crash_states g.S.SiteKeeper.represents g.met.S.SiteKeeper.crash_states_represent {ghosts = g.S.SiteKeeper} a b c e f o p) _ _ _ c.loop.invariant.ran c.run_piece.ensures.run.led;
  room = omega (arith, c.loop.invariant.room, c.read.auto.buf);
  run =
      let before = c.loop.invariant.run in
      read_more _ (λ w. hub_rests g.S.SiteKeeper.site_state g.S.SiteKeeper.lacks g.S.SiteKeeper.crash_states g.S.SiteKeeper.represents g.met.S.SiteKeeper.crash_states_represent {ghosts = g.S.SiteKeeper} w) (λ a b c e f o p. hub_goes_on g.S.SiteKeeper.site_state g.S.SiteKeeper.lacks g.S.SiteKeeper.crash_states g.S.SiteKeeper.represents g.met.S.SiteKeeper.crash_states_represent {ghosts = g.S.SiteKeeper} a b c e f o p) _ _ _ _ _ _ _ _ _ _ _ _ _ _ before c.in-Ok.ensures.bytes.0
      (c.in_ok-run_piece.ensures.run.holds before.run.2.cut.rest_plain);
}

pub returns-clause-halted : goal.returns-clause-halted
returns-clause-halted g c = halted_unread _ (λ w. hub_rests g.S.SiteKeeper.site_state g.S.SiteKeeper.lacks g.S.SiteKeeper.crash_states g.S.SiteKeeper.represents g.met.S.SiteKeeper.crash_states_represent {ghosts = g.S.SiteKeeper} w) (λ a b c e f o p. hub_goes_on g.S.SiteKeeper.site_state g.S.SiteKeeper.lacks g.S.SiteKeeper.crash_states g.S.SiteKeeper.represents g.met.S.SiteKeeper.crash_states_represent {ghosts = g.S.SiteKeeper} a b c e f o p) _ _ _ _ _ _ _ _ _ c.loop.invariant.run (keeps_same _)

pub returns-then-count-eq0-clause-ran : goal.returns-then-count-eq0-clause-ran
returns-then-count-eq0-clause-ran g c = so_on _ (λ w. hub_rests g.S.SiteKeeper.site_state g.S.SiteKeeper.lacks g.S.SiteKeeper.crash_states g.S.SiteKeeper.represents g.met.S.SiteKeeper.crash_states_represent {ghosts = g.S.SiteKeeper} w) (λ a b c e f o p. hub_goes_on g.S.SiteKeeper.site_state g.S.SiteKeeper.lacks g.S.SiteKeeper.crash_states g.S.SiteKeeper.represents g.met.S.SiteKeeper.crash_states_represent {ghosts = g.S.SiteKeeper} a b c e f o p) _ _ _ c.loop.invariant.ran c.run_last.ensures.run.led

pub returns-in_err-run_piece-clause-ran : goal.returns-in_err-run_piece-clause-ran
returns-in_err-run_piece-clause-ran g c = so_on _ (λ w. hub_rests g.S.SiteKeeper.site_state g.S.SiteKeeper.lacks g.S.SiteKeeper.crash_states g.S.SiteKeeper.represents g.met.S.SiteKeeper.crash_states_represent {ghosts = g.S.SiteKeeper} w) (λ a b c e f o p. hub_goes_on g.S.SiteKeeper.site_state g.S.SiteKeeper.lacks g.S.SiteKeeper.crash_states g.S.SiteKeeper.represents g.met.S.SiteKeeper.crash_states_represent {ghosts = g.S.SiteKeeper} a b c e f o p) _ _ _ c.loop.invariant.ran c.run_piece.ensures.run.led
