use Rattle.std.proofs.Common.{ℕ, List, [], ◌∷◌, ◌++◌, ap, ◌∙◌, decimal}
use Rattle.text_writer.specs.Menu as spec
use Rattle.text_writer.specs.Text.{line_end}
use Rattle.text_writer.proofs.ItemLines.{joined}
use Rattle.text_writer.proofs.menus.add_item_line.Goals as goal

pub returns : goal.returns
returns c = λ a is.
    let old = c.args.line.now.items in
    let letter = spec.sort_letter c.args.sort in
    let title = c.args.title.now in
    let selector = c.args.selector.now in
    let sign = spec.sort_sign c.args.sort in
    let push1 = c.in_ok-push.ensures.items ∙ (λ i. c.in_ok-reserve.ensures.items i ++ (c.type_letter.ensures i ∷ [])) in
    let title1 = c.in_ok-extend_from_slice.ensures.items ∙ (λ i. push1 i ++ c.as_bytes-title.ensures.bytes i) in
    let tab1 = c.in_ok-push-2.ensures.items ∙ ap (λ (l : List ℕ). l ++ (9 ∷ [])) title1 in
    let selector1 = c.in_ok-extend_from_slice-2.ensures.items ∙ (λ i. tab1 i ++ c.as_bytes-selector.ensures.bytes i) in
    let address1 = c.in_ok-extend_from_slice-3.ensures.items ∙ (λ i. selector1 i ++ is i) in
    c.in_ok-extend_from_slice-4.ensures.items ∙ (λ i. address1 i ++ c.line_ending.ensures i) ∙ joined old letter title selector a.host (decimal a.port) sign line_end
