use Rattle.std.proofs.Common.{◌≡◌, ◌-◌, ◌+◌, false, eqb, length, is_some, suc, sym, ◌∙◌, arith}
use Rattle.site_records.specs.Field.{until_end}
use Rattle.site_records.specs.Reading.{entry_at}
use Rattle.site_records.proofs.Loops.{goes_on}
use Rattle.site_records.proofs.entry_reading.lacking.Goals as goal

pub loop-preserved : goal.loop-preserved
loop-preserved c =
    let t = c.loop-test.true in
    let all = is_some (until_end entry_at c.args.most c.args.bytes.now) in
    let is : c.args.most - c.loop.counter ≡ suc (c.args.most - (c.loop.counter + 1)) = omega (arith, t) in
    let more : eqb (length c.loop.rest.now) 0 ≡ false = sym c.is_empty.ensures ∙ c.if-is_empty.false in
    goes_on entry_at (c.args.most - c.loop.counter) (c.args.most - (c.loop.counter + 1)) c.in-Ok.field-0-0 c.loop.rest.now c.in-Ok.behind.now all is more c.in-Ok.ensures c.loop.invariant
