use Rattle.std.proofs.Common.{subst}
use Rattle.daily_server.specs.Logged.{HasLine}
use Rattle.image_server.specs.Starting.{start_text}
use Rattle.image_server.proofs.starting.tell_start.Goals as goal

pub returns : goal.returns
returns g c = record {
  here = c.is_loopback-here.result;
  is_here = rw c.ip.ensures at c.is_loopback-here.ensures;
  calls = c.write_line.new.written.calls;
  told = subst (λ calls. HasLine g.L.Write.contents (start_text c.is_loopback-here.result c.args.front.now c.args.at) (c.args.log.now, calls) (c.write_line.new.log, c.write_line.new.written.calls)) c.new.ensures (c.write_line.ensures _ c.start_text-text.ensures);
}
