-- Which words go and which come when an item changes.
use Rattle.std.specs.Prelude.{ℕ, not, List, filter}
use Rattle.host_types.specs.Words.{is_among}

-- the old words that the new ones lack
abbrev pub dropped : List (List ℕ) → List (List ℕ) → List (List ℕ)
dropped old new = filter (λ word. not (is_among new word)) old
