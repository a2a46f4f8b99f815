use Rattle.std.proofs.Common.{sym, ap, ◌∙◌}
use Rattle.daily_turns.specs.ReadyConnections.{ending_of}
use Rattle.daily_server.specs.Logged.{told}
use Rattle.daily_server.proofs.serving.tell_if_gone.Goals as goal

pub returns-in-Some : goal.returns-in-Some
returns-in-Some g c = told c.in-Some.ending (ap ending_of (sym c.stage.ensures) ∙ sym c.ending.ensures ∙ c.in-Some.is) (c.write_line.ensures _ c.line.ensures)
