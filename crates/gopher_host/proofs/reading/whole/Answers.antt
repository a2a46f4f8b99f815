use Rattle.std.proofs.Common.{refl, ap, arith, take}
use Rattle.host_script.proofs.Replays.{consumes_none, at_end}
use Rattle.gopher_host.proofs.Readings.{whole_of}
use Rattle.gopher_host.proofs.reading.whole.Goals as goal

pub loop-read-init : goal.loop-read-init
loop-read-init g c = rw c.new-all.ensures.items (consumes_none _, refl, omega arith)

pub returns-in-Ok-eq0-clause-bytes : goal.returns-in-Ok-eq0-clause-bytes
returns-in-Ok-eq0-clause-bytes g c =
    let before = c.loop-read.invariant in
    let read = rw c.in-Ok-eq0.is at c.read.ensures.bytes in
    whole_of _ _ _ before.0 (at_end _ _ _ read.0 (ap (λ n. take n c.read.new.buf) c.in-Ok-eq0.field-0-test) (read.1 c.in-Ok-eq0.field-0-test (omega (arith, before.1, c.read.auto.buf))))

pub returns-in-Ok-eq0-clause-size : goal.returns-in-Ok-eq0-clause-size
returns-in-Ok-eq0-clause-size g c = omega (arith, c.loop-read.invariant.2, c.loop-read-test.true)
