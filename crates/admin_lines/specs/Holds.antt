-- A request that the office holds still, so that nothing is written to the image while it is read: what is said.
use Rattle.std.specs.Prelude.{ℕ, Bool, nat_eq, List, [], ◌∷◌, ◌++◌, codes}
use Rattle.std.specs.List.{starts_with}

-- the request
abbrev pub hold_line : List ℕ
hold_line = codes "hold" ++ 10 ∷ []

-- a connection that began with these bytes asks for it
abbrev pub is_hold : List ℕ → Bool
is_hold bytes = starts_with nat_eq bytes hold_line

-- what is told while the office holds still
abbrev pub held_line : List ℕ
held_line = codes "held" ++ 10 ∷ []

-- the text of the reply, where it did so until it was let go on
abbrev pub held_text : List ℕ
held_text = codes "held"
