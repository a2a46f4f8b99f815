use Rattle.std.proofs.Common.{◌≡◌, ◌<◌, ◌∙◌, sym, ap, subst, length, arith}
use Rattle.common_types.specs.Names.{is_field, post_selector}
use Rattle.common_types.proofs.PostNames.{is_field-post_selector, too_long}
use Rattle.common_types.proofs.names.Selector.of_post.Goals as goal

pub returns : goal.returns
returns c =
    let named : c.deref.result.now ≡ post_selector c.args.board.now c.args.number = c.deref.ensures.value ∙ c.in_ok-name.ensures ∙ ap (λ b. post_selector b c.args.number) c.as_bytes.ensures.bytes in
    let field = ap is_field named ∙ is_field-post_selector c.args.board.now c.args.number (omega arith) c.as_bytes.ensures.valid in
    subst (λ b. 255 < length b) named (too_long c.deref.result.now c.in-Err.field-0 field (sym c.in-Err.is ∙ c.new.ensures))
