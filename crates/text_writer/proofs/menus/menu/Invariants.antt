use Rattle.std.proofs.Common.{◌≡◌, take}
use Rattle.std.specs.Prelude.{flat_map}
use Rattle.text_writer.proofs.menus.menu.Given as goal

-- the lines so far
abbrev pub invariant-loop-line-2 : goal.invariant-loop-line-2
invariant-loop-line-2 l = l.menu.items ≡ flat_map (λ line. line) (take l.line-index l.lines)
