use Rattle.std.proofs.Common.{◌≡◌, ◌≤◌, ◌+◌, Bool, true, false, ◌∙◌, List, take, ap, sym, arith}
use Rattle.std.proofs.lemmas.Grind.{common_steps}
use Rattle.group_world.specs.World.{count_waiting}
use Rattle.group_hub.specs.HeldPins.{one_if}
use Rattle.group_hub.specs.Sessions.{is_waiting, sessions_of}
use Rattle.group_hub.specs.declared.session.Session.{Session}
use Rattle.group_hub.proofs.WaitingSessions.{one_more}
use Rattle.group_hub.proofs.waiting.waiting_in.Goals as goal
use Rattle.group_hub.proofs.waiting.waiting_in.Goals.{then-is_waiting, else-is_waiting}

few_of : (b : Bool) → one_if b ≤ 1
few_of true = omega arith
few_of false = omega arith

pub loop-session-preserved : goal.loop-session-preserved
loop-session-preserved g c =
    let inv = c.loop-session.invariant in
    let ss = c.args.sessions.now in
    let x = c.session-item.result in
    let one : c.if-is_waiting.count ≡ c.loop-session.count + one_if (is_waiting x.phase) =
    elim c.if-is_waiting.branch [
      | then-is_waiting w ↦ (let is : is_waiting x.phase ≡ true = sym c.is_waiting.ensures ∙ w.if-is_waiting.true in rw is (omega (arith, w.count-is)))
      | else-is_waiting w ↦ (let is : is_waiting x.phase ≡ false = sym c.is_waiting.ensures ∙ w.if-is_waiting.false in rw is (omega (arith, w.count-is)))
    ] in
    record {
      so_far = λ pinned h. omega (arith, one, inv.so_far pinned h, one_more pinned h ss c.loop-session.session-index x c.loop-session-test.true c.session-item.is);
      few = (let few : one_if (is_waiting x.phase) ≤ 1 = few_of (is_waiting x.phase) in omega (arith, one, few, inv.few));
    }

pub returns : goal.returns
returns g c =
    let all : take c.loop-session.session-index c.args.sessions.now ≡ c.args.sessions.now = grind (arith, common_steps) in
    record { count = λ pinned h. c.loop-session.invariant.so_far pinned h ∙ ap (λ (l : List (Session g.row.P.Denot)). count_waiting (sessions_of pinned h l)) all }
