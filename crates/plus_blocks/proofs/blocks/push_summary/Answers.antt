use Rattle.std.proofs.Common.{ℕ, List, ◌++◌, ap, ◌∙◌, append_assoc}
use Rattle.std.specs.Prelude.{flat_map, codes}
use Rattle.std.proofs.lemmas.Result.{on_ok_weaker}
use Rattle.plus_blocks.specs.Blocks.{block, block_line}
use Rattle.plus_blocks.proofs.blocks.push_summary.Goals as goal

pub returns : goal.returns
unfolding block
returns c =
    let body = flat_map block_line c.args.lines.now in
    on_ok_weaker c.push_lines.result (λ e. e ∙ ap (λ (l : List ℕ). l ++ body) c.in_ok-extend_from_slice.ensures.items ∙ append_assoc c.args.out.now.items (codes "+ABSTRACT:\r\n") body) c.push_lines.ensures
