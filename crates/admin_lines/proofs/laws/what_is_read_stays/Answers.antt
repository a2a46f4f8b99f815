use Rattle.std.specs.Prelude.{Some, Ok, Err}
use Rattle.admin_lines.specs.Holds.{hold_line}
use Rattle.admin_lines.proofs.Beginnings.{begins_still}
use Rattle.admin_lines.proofs.HeadsRead.{said_stays}
use Rattle.admin_lines.proofs.laws.what_is_read_stays.Goals as goal

pub returns : goal.returns
returns c = record {
  read = λ bytes more head is. said_stays bytes more (Ok (Some head)) is (λ e. cc);
  hold = λ bytes more is. begins_still bytes more hold_line is;
  refused = λ bytes more fault is. said_stays bytes more (Err fault) is (λ e. cc);
}
