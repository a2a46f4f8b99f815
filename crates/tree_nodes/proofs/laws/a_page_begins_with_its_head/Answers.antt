use Rattle.std.proofs.Common.{refl, suc}
use Rattle.page_store.specs.Content.{place_in}
use Rattle.tree_nodes.proofs.PageHeads.{leaf_headed, branch_headed}
use Rattle.tree_nodes.proofs.laws.a_page_begins_with_its_head.Goals as goal

pub returns-clause-leaf : goal.returns-clause-leaf
returns-clause-leaf c = λ bounds n low high bytes pairs size e. leaf_headed (place_in bounds 0 n) low high bytes pairs refl size e

pub returns-clause-branch : goal.returns-clause-branch
returns-clause-branch c = λ bounds level n low high bytes children size e. branch_headed (place_in bounds (suc level) n) level low high bytes children refl size e
