use Rattle.std.proofs.Common.{◌≡◌, ◌++◌, take}
use Rattle.std.specs.Prelude.{flat_map, ◌∷◌}
use Rattle.plus_blocks.proofs.blocks.push_choices.Given as goal

-- what stands so far
abbrev pub invariant-loop-choice : goal.invariant-loop-choice
invariant-loop-choice l = l.out.items ≡ l.fn.out.items ++ flat_map (λ choice. 9 ∷ choice) (take l.choice-index l.choices)
