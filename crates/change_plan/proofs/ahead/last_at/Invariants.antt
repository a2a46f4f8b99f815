use Rattle.std.proofs.Common.{◌≡◌, take}
use Rattle.std.specs.Prelude.{option_copied}
use Rattle.change_plan.specs.AllPlans.{last_at}
use Rattle.change_plan.proofs.ahead.last_at.Given as goal

abbrev pub invariant-loop-replacement : goal.invariant-loop-replacement
invariant-loop-replacement l = option_copied l.found ≡ last_at (take l.replacement-index l.replacements) l.selector
