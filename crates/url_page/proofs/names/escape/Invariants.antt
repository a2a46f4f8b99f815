use Rattle.std.proofs.Common.{◌≡◌, take}
use Rattle.url_page.specs.Page.{escape}
use Rattle.url_page.proofs.names.escape.Given as goal

abbrev pub invariant-loop-byte : goal.invariant-loop-byte
invariant-loop-byte l = l.text.items ≡ escape (take l.byte-index l.bytes)
