-- What stands behind the pairs of a leaf.
use Rattle.std.specs.Prelude.{ℕ, List, Option, Some, None}
use Rattle.page_store.specs.Pages.{Pair, are_leaf}
use Rattle.page_store.specs.Reading.{where_true}

-- the bytes after some pairs that are those of a leaf between two keys
abbrev pub after_leaf : List ℕ → Option (List ℕ) → Option (List Pair × List ℕ) → Option (List ℕ)
after_leaf low high None = None
after_leaf low high (Some entries) = where_true (are_leaf low high entries.0) (Some entries.1)
