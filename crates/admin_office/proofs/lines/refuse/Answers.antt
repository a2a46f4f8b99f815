use Rattle.admin_office.proofs.Told.{refused}
use Rattle.admin_office.proofs.lines.refuse.Goals as goal

pub returns : goal.returns
returns c = refused c.reply_text.result c.args.line.now _ c.new.ensures.made c.new.ensures.not_made c.reply_text.ensures
