use Rattle.std.proofs.Common.{◌≤◌, length, sym, ◌∙◌, eq-eqb, arith}
use Rattle.std.proofs.lemmas.Bool.{eqb-true}
use Rattle.tree_nodes.specs.Tree.{other_bytes}
use Rattle.tree_nodes.specs.NodeView.{others_view}
use Rattle.tree_nodes.proofs.FittingEntries.{all_others_fit, fit_all_others}
use Rattle.tree_nodes.proofs.splitting.branch_fits.Goals as goal

pub returns : goal.returns
returns c = (
  λ t. let fits = all_others_fit 4066 c.args.others.now (sym c.fitting_others.ensures.count ∙ eqb-true c.fitting_others.result (length c.args.others.now) t) in omega (arith, fits),
  λ fits.
      let room : other_bytes (others_view c.args.others.now) ≤ 4066 = omega (arith, fits) in
      eq-eqb c.fitting_others.result (length c.args.others.now) (c.fitting_others.ensures.count ∙ fit_all_others 4066 c.args.others.now room),
)
