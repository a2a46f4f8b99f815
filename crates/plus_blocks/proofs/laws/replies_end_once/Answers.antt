use Rattle.plus_blocks.specs.Blocks.{entry_attributes, item_blocks}
use Rattle.std.specs.Prelude.{flat_map}
use Rattle.plus_blocks.proofs.ItemLines.{blocks_are_lines, of_site}
use Rattle.plus_blocks.proofs.WholeLines.{ends_once, of_entries, of_info}
use Rattle.plus_blocks.proofs.laws.replies_end_once.Goals as goal

pub returns-clause-attributes : goal.returns-clause-attributes
returns-clause-attributes c = λ a names selector card all. ends_once (item_blocks a names selector card) all

pub returns-clause-entries : goal.returns-clause-entries
unfolding entry_attributes
returns-clause-entries c = λ blocks all. ends_once (flat_map (λ of_entry. of_entry) blocks) (of_entries blocks all)

pub returns-clause-links : goal.returns-clause-links
returns-clause-links c = of_info

pub returns-clause-items : goal.returns-clause-items
returns-clause-items c = blocks_are_lines

pub returns-clause-sites : goal.returns-clause-sites
returns-clause-sites c = of_site
