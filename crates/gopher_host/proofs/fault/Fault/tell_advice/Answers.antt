use Rattle.std.proofs.Common.{sym, ap, ◌∙◌, subst}
use Rattle.std.specs.Io.KnownBytes.{Appends}
use Rattle.std.specs.Prelude.{OnOk}
use Rattle.std.specs.Net.Text.{socket_text}
use Rattle.gopher_host.specs.Advice.{cause_advice}
use Rattle.gopher_host.specs.Faults.{ended_if_any}
use Rattle.gopher_host.proofs.Advised.{met_is_told, listener_is_told, listener_ended, some_ended}
use Rattle.gopher_host.proofs.fault.Fault.tell_advice.Goals as goal

pub returns-in-Some : goal.returns-in-Some
returns-in-Some g c = rw (met_is_told c.args.self.now c.in-Some.number (sym c.met_by.ensures ∙ c.in-Some.is)) c.tell_met.ensures

pub returns-in-Some-no_listener : goal.returns-in-Some-no_listener
returns-in-Some-no_listener g c = rw (listener_is_told c.args.self.now c.in-Some-no_listener.at c.in-Some-no_listener.cause (sym c.no_listener.ensures ∙ c.in-Some-no_listener.is)) (subst (λ bytes. OnOk c.tell_no_listener.result (Appends (g.W.Write.contents c.args.writer.now) (g.W.Write.contents c.tell_no_listener.new.writer) bytes)) (listener_ended (socket_text c.in-Some-no_listener.at) (cause_advice c.in-Some-no_listener.cause)) c.tell_no_listener.ensures)

pub returns : goal.returns
returns g c = subst (λ bytes. OnOk c.writeln.result (Appends (g.W.Write.contents c.args.writer.now) (g.W.Write.contents c.writeln.new.self) bytes)) (some_ended c.advice-advice.result.now c.is_empty.result c.is_empty.ensures c.if-is_empty.false ∙ ap (λ bytes. ended_if_any bytes) (c.advice-advice.ensures (sym c.met_by.ensures ∙ c.in_default.is) (sym c.no_listener.ensures ∙ c.in_default-no_listener.is))) c.writeln.ensures.bytes
