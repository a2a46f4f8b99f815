use Rattle.std.proofs.Common.{◌≡◌, take, true}
use Rattle.std.specs.List.{list_all}
use Rattle.url_page.specs.Page.{is_visible}
use Rattle.url_page.proofs.page.is_visible.Given as goal

abbrev pub invariant-loop-byte : goal.invariant-loop-byte
invariant-loop-byte l = list_all is_visible (take l.byte-index l.url) ≡ true
