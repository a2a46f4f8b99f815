use Rattle.std.proofs.Common.{sym, arith}
use Rattle.std.proofs.lemmas.List.{take_all}
use Rattle.admin_lines.specs.Heads.{longest_head}
use Rattle.admin_lines.proofs.head.front.Goals as goal

pub returns-then-bytes-lt-LONGEST_HEAD-clause-value : goal.returns-then-bytes-lt-LONGEST_HEAD-clause-value
returns-then-bytes-lt-LONGEST_HEAD-clause-value c = sym (take_all longest_head c.args.bytes.now (omega arith))
