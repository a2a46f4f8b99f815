use Rattle.std.proofs.Common.{◌≡◌, ℕ, length, length-drop, arith}
use Rattle.std.proofs.lemmas.Slice.{drop-put_mid}
use Rattle.std.proofs.lemmas.List.{length-take}
use Rattle.view_draws.proofs.steps.pass_bytes.Goals as goal

pub returns-clause-behind : goal.returns-clause-behind
returns-clause-behind c =
    let size : length c.copy_from_slice.new.self ≡ c.min-count.result = omega (arith, c.copy_from_slice.ensures.len, length-take {A = ℕ}, length-drop {A = ℕ}) in
    drop-put_mid c.args.at _ c.args.out.now c.copy_from_slice.new.self _ (omega arith) (omega (arith, c.requires)) (omega (arith, size))
