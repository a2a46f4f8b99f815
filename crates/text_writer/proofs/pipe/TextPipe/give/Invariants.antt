use Rattle.std.proofs.Common.{◌≡◌, ◌++◌, ◌-◌, ◌≤◌, length, take}
use Rattle.std.specs.Prelude.{IfSome}
use Rattle.arrayvec.specs.ArrayVec.{array_vec_len}
use Rattle.host_types.specs.SiteState.{IsUnchangedBehind}
use Rattle.text_writer.proofs.pipe.TextPipe.give.Given as goal

-- what was given and what is ready are what they were
abbrev pub invariant-loop-end : goal.invariant-loop-end
invariant-loop-end l = (l.fn.at ≤ l.end)
    × (l.end ≤ length l.out)
    × (take l.end l.out ++ l.self-inside.ready.items ≡ take l.fn.at l.fn.out ++ l.fn.self.ready)
    × (l.self-inside.place ≡ l.fn.self.place)
    × IsUnchangedBehind l.end l.fn.out l.out
    × IfSome l.self-inside.place (λ _. array_vec_len l.self-inside.ready ≤ 2)

abbrev pub decreases-loop-end : goal.decreases-loop-end
decreases-loop-end l = length l.out - l.end
