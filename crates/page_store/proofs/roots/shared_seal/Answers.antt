use Rattle.std.proofs.Common.{◌≡◌, ◌*◌, sym, arith}
use Rattle.page_store.proofs.Switches.{shared_again}
use Rattle.page_store.proofs.roots.shared_seal.Goals as goal

pub returns : goal.returns
returns c =
    let is : c.loop-k.k ≡ 8 = omega (arith, c.loop-k-test.false) in
    sym (shared_again c.args.sectors.now 7 (8 * c.args.slot) c.in_ok-seal.seal (λ k lt. c.loop-k.invariant k (omega arith)))
