use Rattle.std.proofs.Common.{◌≡◌, vec_len, length, ap, ◌∙◌, arith}
use Rattle.tree_nodes.specs.Splits.{fitting_others, branch_place}
use Rattle.tree_nodes.specs.NodeView.{others_view}
use Rattle.tree_nodes.proofs.NodesAsTrees.{Children}
use Rattle.tree_nodes.proofs.FittingEntries.{is_none, is_some, branch_whole, branch_front_alone, branch_in_two}
use Rattle.tree_nodes.proofs.splitting.split_branch.Goals as goal

pub returns-then-fitting_others-len : goal.returns-then-fitting_others-len
returns-then-fitting_others-len c =
    let count : c.fitting_others.result ≡ fitting_others 4066 (others_view c.args.others.items) = c.fitting_others.ensures.count ∙ ap (λ (l : Children). fitting_others 4066 (others_view l)) c.deref.ensures.value in
    branch_whole c.args.first c.args.others (omega (arith, count, c.if-fitting_others-len.true, c.len.ensures, c.args.others.ok))

pub returns-then-is_empty : goal.returns-then-is_empty
returns-then-is_empty c =
    let items = c.args.others.items in
    let count : c.fitting_others.result ≡ fitting_others 4066 (others_view items) = c.fitting_others.ensures.count ∙ ap (λ (l : Children). fitting_others 4066 (others_view l)) c.deref.ensures.value in
    let at : c.branch_place.result ≡ branch_place (others_view items) = c.branch_place.ensures.count ∙ ap (λ (l : Children). branch_place (others_view l)) c.deref-2.ensures.value in
    branch_front_alone c.args.first items c.split_off.new.self c.in_ok-back.back (λ e. omega (arith, e, count, c.if-fitting_others-len.false, c.len.ensures, c.args.others.ok))
    (rw at at c.in_ok-back.ensures.items) (rw at at c.in_ok-back.ensures.tail) (is_none c.is_empty.result (vec_len c.in_ok-back.back) (length c.in_ok-back.back.items) c.is_empty.ensures c.if-is_empty.true (omega (arith, c.in_ok-back.back.ok)))

pub returns : goal.returns
returns c =
    let items = c.args.others.items in
    let count : c.fitting_others.result ≡ fitting_others 4066 (others_view items) = c.fitting_others.ensures.count ∙ ap (λ (l : Children). fitting_others 4066 (others_view l)) c.deref.ensures.value in
    let at : c.branch_place.result ≡ branch_place (others_view items) = c.branch_place.ensures.count ∙ ap (λ (l : Children). branch_place (others_view l)) c.deref-2.ensures.value in
    branch_in_two c.args.first c.in_ok-next.next items c.split_off.new.self c.in_ok-back.back c.remove-key.new.self c.remove-key.result (λ e. omega (arith, e, count, c.if-fitting_others-len.false, c.len.ensures, c.args.others.ok))
    (rw at at c.in_ok-back.ensures.items) (rw at at c.in_ok-back.ensures.tail) (is_some c.is_empty.result (vec_len c.in_ok-back.back) (length c.in_ok-back.back.items) c.is_empty.ensures c.if-is_empty.false (omega (arith, c.in_ok-back.back.ok))) c.remove-key.ensures.value c.in_ok-next.ensures.ok c.remove-key.ensures.items
