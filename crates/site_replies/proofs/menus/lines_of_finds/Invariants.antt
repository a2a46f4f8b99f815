use Rattle.std.proofs.Common.{◌≡◌, take}
use Rattle.std.specs.Prelude.{All, filter_map, flat_map}
use Rattle.host_types.specs.Address.{address}
use Rattle.host_types.specs.Site.{Site}
use Rattle.text_writer.specs.Menu.{entry_line}
use Rattle.site_replies.specs.Finds.{IsFindOf, found_names}
use Rattle.site_replies.specs.Reply.{locals}
use Rattle.site_replies.proofs.menus.lines_of_finds.Given as goal

-- the lines so far
abbrev pub invariant-loop-find : goal.invariant-loop-find
invariant-loop-find l = (s : Site) → l.front ≡ address s → All (IsFindOf s) l.finds → l.lines.items ≡ flat_map (λ line. line) (filter_map (entry_line s) (locals (found_names (take l.find-index l.finds))))
