use Rattle.std.proofs.Common.{length, sym, ◌∙◌, eq-eqb}
use Rattle.std.proofs.lemmas.Bool.{eqb-true}
use Rattle.tree_nodes.proofs.FittingEntries.{all_fit, fit_all}
use Rattle.tree_nodes.proofs.splitting.leaf_fits.Goals as goal

pub returns : goal.returns
returns c = (
  λ t. all_fit 4072 c.args.pairs.now (sym c.fitting.ensures.count ∙ eqb-true c.fitting.result (length c.args.pairs.now) t),
  λ fits. eq-eqb c.fitting.result (length c.args.pairs.now) (c.fitting.ensures.count ∙ fit_all 4072 c.args.pairs.now fits),
)
