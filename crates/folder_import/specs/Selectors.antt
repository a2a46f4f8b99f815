-- Where the files of a folder stand on the site.
use Rattle.std.specs.Prelude.{ℕ, ◌==◌, ◌-◌, nat_eq, List, [], ◌∷◌, ◌++◌, take, length, if◌then◌else◌, Result}
use Rattle.std.specs.List.{ends_with}
use Rattle.common_types.specs.Names.{name_of, is_field}
use Rattle.common_types.specs.declared.refused.Refused.{Refused}

-- a file's selector, below that of its folder
abbrev pub child : List ℕ → List ℕ → Result (List ℕ) Refused
child folder name = name_of is_field 255 (folder ++ 47 ∷ name)

-- without the slash at its end, where it has one
abbrev pub without_slash : List ℕ → List ℕ
without_slash bytes = if ends_with nat_eq bytes (47 ∷ []) then take (length bytes - 1) bytes else bytes

-- from the top where it begins with a slash, and else from the folder on
abbrev pub full : List ℕ → List ℕ → List ℕ → List ℕ
full top folder [] = folder ++ 47 ∷ []
full top folder (b ∷ bs) = if b == 47 then top ++ b ∷ bs else folder ++ 47 ∷ b ∷ bs

-- what a line of a folder's gophermap leads to
abbrev pub resolved : List ℕ → List ℕ → List ℕ → Result (List ℕ) Refused
resolved top folder selector = name_of is_field 255 (without_slash (full top folder selector))
