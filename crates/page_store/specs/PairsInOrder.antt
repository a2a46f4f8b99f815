-- Pairs that are read one after the other.
use Rattle.std.specs.Prelude.{◌≡◌, ℕ, ◌-◌, length, take, slice_get, List, [], Option, Some, None}
use Rattle.page_store.specs.Pages.{Pair}

abbrev pub key_or_none : Option Pair → List ℕ
key_or_none None = []
key_or_none (Some p) = p.0

-- the key of the last pair; with none, the empty key
abbrev pub last_key : List Pair → List ℕ
last_key pairs = key_or_none (slice_get pairs (length pairs - 1))

-- These pairs are the first ones of those.
abbrev pub AreFirst : List Pair → List Pair → Type 0
AreFirst some all = some ≡ take (length some) all
