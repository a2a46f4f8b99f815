use Rattle.std.proofs.Common.{◌≡◌, ◌*◌, ℕ, arith, subst}
use Rattle.file_device.specs.FileCalls.{page_calls}
use Rattle.file_device.specs.declared.file_call.FileCall.TheVariants.{Write}
use Rattle.file_device.proofs.PageCalls.{no_calls, more_calls}
use Rattle.file_device.proofs.image_file.note_written.Goals as goal

pub loop-k-init : goal.loop-k-init
loop-k-init c = no_calls Write (8 * c.args.n) c.args.bytes.now c.args.made.now.calls

pub loop-k-preserved : goal.loop-k-preserved
loop-k-preserved c = more_calls Write (8 * c.args.n) c.args.bytes.now c.sector_of.result c.loop-k.k c.args.made.now.calls c.loop-k.made.calls c.note.new.self.calls c.sector_of.ensures c.loop-k.invariant c.note.ensures

pub returns : goal.returns
returns c =
    let is : c.loop-k.k ≡ 8 = omega (arith, c.loop-k-test.false) in
    subst (λ (k : ℕ). c.loop-k.made.calls ≡ page_calls Write (8 * c.args.n) c.args.bytes.now k c.args.made.now.calls) is c.loop-k.invariant
