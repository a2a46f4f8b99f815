use Rattle.std.proofs.Common.{◌≡◌, ◌++◌, drop}
use Rattle.site_records.specs.Layout.{part_pairs}
use Rattle.site_pairs.proofs.item_pairs.put_parts.Given as goal

-- what is there with what is left is all
abbrev pub invariant-loop-place : goal.invariant-loop-place
invariant-loop-place l = l.pairs.items ++ part_pairs l.selector l.place (drop l.place l.parts) ≡ l.fn.pairs.items ++ part_pairs l.selector 0 l.parts
