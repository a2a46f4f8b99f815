use Rattle.admin_lines.specs.Holds.{held_text}
use Rattle.admin_office.proofs.Told.{agreed}
use Rattle.admin_office.proofs.holding.agree.Goals as goal

pub returns : goal.returns
returns c = agreed c.reply_text.result held_text _ c.new.ensures.made c.new.ensures.not_made (rw c.held_text.ensures at c.reply_text.ensures)
