use Rattle.tree_pages.proofs.PagesPut.{pages_are_put, others_stay}
use Rattle.tree_pages.proofs.reach_laws.distinct_pages_are_put.Goals as goal

pub returns-clause-put : goal.returns-clause-put
returns-clause-put c = λ old pages. pages_are_put pages old

pub returns-clause-others : goal.returns-clause-others
returns-clause-others c = λ old pages. others_stay pages old
