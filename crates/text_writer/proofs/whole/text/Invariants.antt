use Rattle.std.proofs.Common.{◌≡◌, ◌≤◌, ◌-◌, ◌++◌, length, drop}
use Rattle.text_writer.specs.Place.{given_from}
use Rattle.text_writer.specs.Text.{text}
use Rattle.text_writer.proofs.whole.text.Given as goal

-- what is sent and what is to be given for what is left is the text
abbrev pub invariant-loop-at : goal.invariant-loop-at
invariant-loop-at l = (l.at ≤ length l.body) × (l.sent.items ++ given_from l.place (drop l.at l.body) ≡ text l.body)

abbrev pub decreases-loop-at : goal.decreases-loop-at
decreases-loop-at l = length l.body - l.at
