-- Bytes that were drawn into a buffer, and those of them that are kept.
use Rattle.std.proofs.Common.{◌≡◌, ℕ, List, take, refl, ap, ◌∙◌, arith, Result, Ok, Err}
use Rattle.std.proofs.lemmas.List.{take_all, length-take}
use Rattle.group_world.specs.Outcomes.{draw_outcome}
use Rattle.group_world.specs.declared.event.Outcome.TheVariants as outcomes
use Rattle.group_world.specs.declared.fault.HubFault.{HubFault}
use Rattle.group_world.specs.declared.answer.Drawn.{Drawn}
use Rattle.group_world.specs.declared.answer.Drawn.TheVariants as drawn
use Rattle.turns.specs.Turns.{drawn_bytes}

drawn_again : (result : Result Drawn HubFault) (room : List ℕ) → draw_outcome result (drawn_bytes (draw_outcome result room)) ≡ draw_outcome result room
drawn_again (Ok (drawn.Bytes n)) room = ap outcomes.Drawn (take_all n (take n room) (omega (arith, length-take n room)))
drawn_again (Ok drawn.Finished) room = refl
drawn_again (Err fault) room = refl

-- The bytes that were drawn into a buffer tell the outcome as the buffer does.
pub kept_tell : (result : Result Drawn HubFault) (room bytes : List ℕ) → bytes ≡ drawn_bytes (draw_outcome result room) → draw_outcome result bytes ≡ draw_outcome result room
kept_tell result room bytes is = ap (draw_outcome result) is ∙ drawn_again result room
