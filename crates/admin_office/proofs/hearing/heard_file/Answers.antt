use Rattle.std.proofs.Common.{refl}
use Rattle.admin_office.proofs.Steps.{heard_part, heard_whole}
use Rattle.admin_office.proofs.hearing.heard_file.Goals as goal

pub returns-then-behind-head : goal.returns-then-behind-head
returns-then-behind-head c = heard_part c.args.heard.items c.as_slice.result.now c.args.head _ c.as_slice.ensures.value c.requires c.if-behind-head.true refl

pub returns : goal.returns
returns c = heard_whole c.args.heard.items c.as_slice.result.now c.args.head _ c.as_slice.ensures.value c.requires c.if-behind-head.false c.read_file.ensures
