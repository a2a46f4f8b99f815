use Rattle.std.proofs.Common.{◌≡◌, ◌*◌, ◌+◌, ◌∙◌, ℕ, List, refl, ap, arith, subst}
use Rattle.std.proofs.lemmas.List.{length-set}
use Rattle.file_device.specs.FileCalls.{disk_of, page_calls}
use Rattle.file_device.specs.declared.file_call.FileCall.{FileCall}
use Rattle.file_device.specs.declared.file_call.FileCall.TheVariants.{Write}
use Rattle.file_device.proofs.PageCalls.{no_calls, more_put}
use Rattle.file_device.proofs.file_device.put_page.Goals as goal

pub loop-k-init : goal.loop-k-init
loop-k-init c = record { size = refl; set = λ calls is. is ∙ ap (λ (l : List FileCall). (disk_of l).view) (no_calls Write (8 * c.args.n) c.args.bytes.now calls) }

pub loop-k-preserved : goal.loop-k-preserved
loop-k-preserved c = record {
  size = length-set c.loop-k.sectors.items (8 * c.args.n + c.loop-k.k) c.sector_of.result ∙ c.loop-k.invariant.size;
  set = λ calls is. more_put (8 * c.args.n) c.args.bytes.now c.sector_of.result c.loop-k.k calls c.loop-k.sectors.items _ c.sector_of.ensures (c.loop-k.invariant.set calls is) refl;
}

pub returns : goal.returns
returns c = λ calls is.
    let all : c.loop-k.k ≡ 8 = omega (arith, c.loop-k-test.false) in
    subst (λ (k : ℕ). c.loop-k.sectors.items ≡ (disk_of (page_calls Write (8 * c.args.n) c.args.bytes.now k calls)).view) all (c.loop-k.invariant.set calls is)
