-- The members of a table, with one more.
use Rattle.std.specs.Prelude.{◌≡◌, ◌⊎◌, ℕ, List, [], ◌∷◌, Ok, codes}
use Rattle.std.specs.Ordering.{nat_cmp, match_ordering}
use Rattle.std.specs.Cmp.Lexicographic.{slice_cmp}
use Rattle.hex.specs.Hex.{decode_of}
use Rattle.toml.specs.Data.{Data, string, Members, no_members, member}

-- the members with this value at the key, by the order of their keys
abbrev pub with_member : List ℕ → Data → Members → Members
with_member key value no_members = member key value no_members
with_member key value (member k v others) =
    match_ordering (slice_cmp nat_cmp key k) (member key value (member k v others)) (member k value others) (member k v (with_member key value others))

-- One more member is the bytes, as text, or as hexadecimal digits that write them.
abbrev pub HasBytes : List ℕ → Members → Members → Type 0
HasBytes bytes old new = (new ≡ with_member (codes "text") (string bytes) old) ⊎ ((digits : List ℕ) × (decode_of digits ≡ Ok bytes) × (new ≡ with_member (codes "hex") (string digits) old))

-- the name of a view, and its language where it has one
abbrev pub names : List ℕ → List ℕ → Members
names name [] = member (codes "name") (string name) no_members
names name (b ∷ bs) = member (codes "language") (string (b ∷ bs)) (member (codes "name") (string name) no_members)
