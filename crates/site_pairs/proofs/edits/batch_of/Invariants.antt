use Rattle.std.proofs.Common.{◌≡◌, take}
use Rattle.site_pairs.specs.Edits as spec
use Rattle.site_pairs.proofs.edits.batch_of.Given as goal

abbrev pub invariant-loop-replacement : goal.invariant-loop-replacement
invariant-loop-replacement l = l.edits.entries ≡ spec.edits_of (take l.replacement-index l.replacements)
