use Rattle.std.proofs.Common.{◌≡◌, ap, length, arith}
use Rattle.std.proofs.lemmas.Slice.{drop-put_mid}
use Rattle.text_writer.proofs.passing.copy_to.Goals as goal

pub returns-clause-behind : goal.returns-clause-behind
returns-clause-behind c =
    let size : length c.copy_from_slice.new.self ≡ length c.args.bytes.now = ap length c.copy_from_slice.ensures.after in
    drop-put_mid c.args.at _ c.args.out.now c.copy_from_slice.new.self _ (omega arith) (omega (arith, c.requires)) (omega (arith, size))
