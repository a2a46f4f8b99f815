use Rattle.std.proofs.Common.{◌≡◌, length, sym, arith}
use Rattle.std.proofs.lemmas.Grind.{common_steps}
use Rattle.word_search.proofs.SameWords.{both_empty}
use Rattle.word_search.proofs.word_list.is_same.Goals as goal

pub returns-then-is_empty : goal.returns-then-is_empty
returns-then-is_empty c =
    let same : length c.args.one.now ≡ length c.args.other.now = grind (arith, common_steps) in
    let none : length c.args.one.now ≡ 0 = grind (arith, common_steps) in
    sym (both_empty c.args.one.now c.args.other.now same none)
