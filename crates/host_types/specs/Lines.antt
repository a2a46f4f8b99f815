-- Lines of a body. RFC 1436, appendix (TextFile Entity); that LF alone ends a line, and the dropped CR, are this project's profile.
use Rattle.std.specs.Prelude.{ℕ, Bool, false, List, [], ◌∷◌, ◌==◌, ◌&&◌, if◌then◌else◌}

abbrev pub is_lf : ℕ → Bool
is_lf b = b == 10

abbrev pub begins : ℕ → List ℕ → Bool
begins byte [] = false
begins byte (b ∷ bs) = b == byte

-- a byte in front of the first line
abbrev pub onto_first_line : ℕ → List (List ℕ) → List (List ℕ)
onto_first_line b [] = (b ∷ []) ∷ []
onto_first_line b (line ∷ others) = (b ∷ line) ∷ others

-- The body cut at each LF, one CR before it dropped; a last part without LF is a line where it has bytes.
abbrev pub lines : List ℕ → List (List ℕ)
lines [] = []
lines (b ∷ bs) =
    if b == 10 then [] ∷ lines bs
    else if b == 13 && begins 10 bs then lines bs
    else onto_first_line b (lines bs)

-- without one CR at its end
abbrev pub without_cr : List ℕ → List ℕ
without_cr [] = []
without_cr (b ∷ []) = if b == 13 then [] else b ∷ []
without_cr (b ∷ c ∷ bs) = b ∷ without_cr (c ∷ bs)
