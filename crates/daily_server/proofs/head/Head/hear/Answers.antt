use Rattle.std.proofs.Common.{arith}
use Rattle.std.proofs.lemmas.Grind.{common_steps}
use Rattle.daily_server.proofs.HeadsKept.{kept_more}
use Rattle.daily_server.proofs.head.Head.hear.Goals as goal

pub returns : goal.returns
returns c = grind (arith, common_steps, kept_more 256 c.min-room.result c.args.self.now.bytes.items c.args.piece.now)
