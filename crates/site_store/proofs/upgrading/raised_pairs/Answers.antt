use Rattle.std.proofs.Common.{◌≡◌, ◌≤◌, ◌+◌, ◌++◌, ◌∷◌, drop, length, sym, subst, rules, arith}
use Rattle.std.proofs.lemmas.List.Elements.{All-push}
use Rattle.site_records.specs.Layout.{Pairs}
use Rattle.site_store.specs.Upgrading.{AreRaised}
use Rattle.site_store.proofs.Upgrades.{raised_more, raised_all, not_all, here, ended}
use Rattle.site_store.proofs.upgrading.raised_pairs.Goals as goal

pub returns-in_err-raised_pair-clause-fault : goal.returns-in_err-raised_pair-clause-fault
returns-in_err-raised_pair-clause-fault c =
    let pairs = c.args.pairs.now in
    let n = c.loop-pair.pair-index in
    let p = c.pair-item.result in
    search (rules, c.from_residual.ensures, not_all c.in_err-raised_pair.field-0.0 pairs n p (drop (n + 1) pairs) (here pairs n p c.loop-pair-test.true c.pair-item.is) c.in_err-raised_pair.ensures.fault)

pub loop-pair-preserved : goal.loop-pair-preserved
loop-pair-preserved c =
    let pairs = c.args.pairs.now in
    let n = c.loop-pair.pair-index in
    let p = c.pair-item.result in
    let inv = c.loop-pair.invariant in
    let raised = c.in_ok-raised_pair.ensures in
    record {
      so_far = λ more are. subst (λ (l : Pairs). AreRaised pairs (l ++ more)) (sym c.in_ok-push.ensures.items)
          (raised_more pairs c.loop-pair.all.items p c.in_ok-raised_pair.field-0 (drop (n + 1) pairs) (λ m a. inv.so_far m (subst (λ (l : Pairs). AreRaised l m) (sym (here pairs n p c.loop-pair-test.true c.pair-item.is)) a)) raised.raised more are);
      keys = rw c.in_ok-push.ensures.items (All-push (λ p. length p.0 ≤ 300) c.loop-pair.all.items c.in_ok-raised_pair.field-0 inv.keys raised.key);
      values = rw c.in_ok-push.ensures.items (All-push (λ p. length p.1 ≤ 1024) c.loop-pair.all.items c.in_ok-raised_pair.field-0 inv.values raised.value);
    }

pub returns-clause-raised : goal.returns-clause-raised
returns-clause-raised c =
    let pairs = c.args.pairs.now in
    let n = c.loop-pair.pair-index in
    raised_all pairs c.loop-pair.all.items (drop n pairs) (ended pairs n (omega (arith, c.loop-pair-test.false))) c.loop-pair.invariant.so_far
