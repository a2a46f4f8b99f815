use Rattle.std.proofs.Common.{Ok, rules, refl, arith}
use Rattle.change_file.specs.Entries.{entry_of}
use Rattle.change_writer.specs.Said.{IsSaidEntry}
use Rattle.change_writer.proofs.Lists.{one_written, one_unsaid, all_said}
use Rattle.change_writer.proofs.entries.entries.Goals as goal

pub loop-one-preserved : goal.loop-one-preserved
loop-one-preserved c =
    rw c.in_ok-push.ensures.items (one_written entry_of (λ e. Ok e) IsSaidEntry 1 c.args.entries.now c.loop-one.one-index c.one-item.result c.one-item.result c.loop-one.values.items c.in_ok-entry.field-0 (search rules) (search rules) c.loop-one.invariant c.in_ok-entry.ensures.read c.in_ok-entry.ensures.depth c.in_ok-entry.ensures.said)
