use Rattle.std.proofs.Common.{◌≡◌, ◌++◌, length}
use Rattle.url_page.specs.Page.{unescape}
use Rattle.url_page.proofs.names.unescape.Given as goal

abbrev pub invariant-loop-left : goal.invariant-loop-left
invariant-loop-left l = l.text.items ++ unescape l.left ≡ unescape l.fn.bytes

abbrev pub decreases-loop-left : goal.decreases-loop-left
decreases-loop-left l = length l.left
