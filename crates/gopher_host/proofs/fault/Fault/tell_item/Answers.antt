use Rattle.std.proofs.Common.{ap, ◌∙◌, subst}
use Rattle.std.specs.Io.KnownBytes.{Appends}
use Rattle.std.specs.Prelude.{OnOk}
use Rattle.gopher_host.specs.Faults.{ended_if_any}
use Rattle.gopher_host.proofs.Advised.{some_ended}
use Rattle.gopher_host.proofs.fault.Fault.tell_item.Goals as goal

pub returns : goal.returns
returns g c = subst (λ bytes. OnOk c.writeln.result (Appends (g.W.Write.contents c.args.writer.now) (g.W.Write.contents c.writeln.new.self) bytes)) (some_ended c.item-item.result.now c.is_empty.result c.is_empty.ensures c.if-is_empty.false ∙ ap (λ bytes. ended_if_any bytes) c.item-item.ensures) c.writeln.ensures.bytes
