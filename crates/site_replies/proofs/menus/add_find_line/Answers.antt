use Rattle.host_types.specs.Address.{address}
use Rattle.site_replies.proofs.FoundMenus.{find_line}
use Rattle.site_replies.proofs.menus.add_find_line.Goals as goal

pub returns : goal.returns
returns c = record { line = λ s at found. find_line c.add_menu_line.result s c.args.find.now c.add_menu_line.new.lines.items c.args.lines.now.items found (λ card is. c.add_menu_line.ensures.line (address s) card at is) }
