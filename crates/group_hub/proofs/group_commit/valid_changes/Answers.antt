use Rattle.std.proofs.Common.{◌≤◌, ℕ, [], ◌∷◌, take, sym, subst}
use Rattle.group_hub.specs.Flushing.{ChangesAreTyped}
use Rattle.group_hub.proofs.NextSessions.{taken_one}
use Rattle.group_hub.proofs.GroupsMade.{typed_more}
use Rattle.group_hub.proofs.group_commit.valid_changes.Goals as goal

pub loop-change-preserved : goal.loop-change-preserved
loop-change-preserved c =
    let all = c.args.changes.now in
    let i = c.loop-change.change-index in
    let one = c.loop-change-item.result in
    let early : one.1 ≤ 253402300799 = subst (λ (n : ℕ). n ≤ 253402300799) c.seconds.ensures.value c.seconds.ensures.range in
    subst ChangesAreTyped (sym (taken_one all i one c.loop-change-test.true c.loop-change-item.is)) (typed_more (take i all) (one ∷ []) c.loop-change.invariant ((c.valid_names.ensures, early), tt))
