-- What a terminal shows while the changes of a file are made.
use Rattle.std.specs.Prelude.{ℕ, zero, suc, ◌-◌, ◌*◌, ◌/◌, ◌^◌, min, List, ◌∷◌, ◌++◌, codes, decimal}

-- How many seconds the other changes take, if they go on as those that are made did in so many seconds.
abbrev pub seconds_left : ℕ → ℕ → ℕ → ℕ
seconds_left zero count seconds = 0
seconds_left (suc n) count seconds = min ((count - suc n) * seconds) (2 ^ 64 - 1) / suc n

-- It is written over what stood in the line; the spaces behind it cover the end of a longer one.
abbrev pub progress_text : ℕ → ℕ → ℕ → List ℕ
progress_text number count seconds = 13 ∷ decimal number ++ codes " of " ++ decimal count ++ codes " changes, " ++ decimal (seconds_left number count seconds) ++ codes " s left  "
