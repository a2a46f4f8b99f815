use Rattle.std.proofs.Common.{◌≡◌, ◌∙◌, [], ◌∷◌, ◌++◌, drop, arith}
use Rattle.std.proofs.lemmas.Grind.{common_steps}
use Rattle.host_types.proofs.CutLines.{last_goes_in}
use Rattle.host_types.proofs.line_list.lines_of.Goals as goal

pub returns : goal.returns
returns c =
    let nothing : drop c.loop-byte.byte-index c.args.body.now ≡ [] = grind (arith, common_steps) in
    let all = c.loop-byte.invariant in
    let pushed : c.push.new.self ≡ c.loop-byte.list ++ c.loop-byte.line.items ∷ [] = grind (arith, common_steps) in
    pushed ∙ last_goes_in c.loop-byte.list c.loop-byte.line.items (drop c.loop-byte.byte-index c.args.body.now) c.args.body.now nothing all.0 all.1 (grind (arith, common_steps))
