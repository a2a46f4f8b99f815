use Rattle.std.proofs.Common.{ℕ, List, Option, subst, arith}
use Rattle.std.specs.Prelude.{option_map, take}
use Rattle.tree_nodes.specs.PageViews.{bounds_of}
use Rattle.cow_tree.specs.KeptPlaces.{ArePlaces}
use Rattle.cow_tree.proofs.PagesTold.{value_answered}
use Rattle.cow_tree.proofs.kept_reads.copy_lent_value.Goals as goal

pub returns-in-Some-clause-value : goal.returns-in-Some-clause-value
returns-in-Some-clause-value c = λ view found is are walked. c.copy_kept_value-found.ensures.value view found is (subst (λ (l : List ℕ). ArePlaces 0 l c.in-Some.kept.now.count c.in-Some.kept.now.at) is (c.in-Some.ensures view are)) walked

pub returns-clause-value : goal.returns-clause-value
returns-clause-value c = λ view found is are walked.
    value_answered view (bounds_of c.args.bounds) c.args.page found c.args.bytes.now is (let long = c.told-bytes in omega (arith, long)) walked c.args.key.now
    (λ (size : Option ℕ). option_map (λ (n : ℕ). take n c.copy_value.new.buffer) size) c.copy_value.result c.copy_value.ensures.value c.copy_value.ensures.fault
