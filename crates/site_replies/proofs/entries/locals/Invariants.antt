use Rattle.std.proofs.Common.{◌≡◌, take}
use Rattle.site_replies.specs.Reply.{locals}
use Rattle.site_replies.proofs.entries.locals.Given as goal

abbrev pub invariant-loop-selector : goal.invariant-loop-selector
invariant-loop-selector l = l.entries ≡ locals (take l.selector-index l.selectors)
