use Rattle.std.proofs.Common.{◌≡◌, ◌++◌, ◌+◌, ◌-◌, ◌≤◌, length, take}
use Rattle.arrayvec.specs.ArrayVec.{array_vec_len}
use Rattle.host_types.specs.SiteState.{IsUnchangedBehind}
use Rattle.old_clients.specs.Place.{closing}
use Rattle.old_clients.proofs.reply.ReplyAdapter.give.Given as goal

-- what was given and what is ready are what they were
abbrev pub invariant-loop-end : goal.invariant-loop-end
invariant-loop-end l = (l.fn.at ≤ l.end)
    × (l.end ≤ length l.out)
    × (take l.end l.out ++ l.self-inside.ready.items ≡ take l.fn.at l.fn.out ++ l.fn.self.ready)
    × (l.self-inside.place ≡ l.fn.self.place)
    × IsUnchangedBehind l.end l.fn.out l.out
    × (array_vec_len l.self-inside.ready + length (closing l.self-inside.place) ≤ 20)

abbrev pub decreases-loop-end : goal.decreases-loop-end
decreases-loop-end l = length l.out - l.end
