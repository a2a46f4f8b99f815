-- The entries of a leaf as bytes, and where among them a key stands.
use Rattle.std.specs.Prelude.{◌≡◌, ℕ, ◌+◌, Bool, List, [], ◌∷◌, length, if◌then◌else◌}
use Rattle.std.specs.Ordering.{match_ordering}
use Rattle.common_types.specs.ByteOrder.{byte_cmp}
use Rattle.page_store.specs.Pages.{Pair}
use Rattle.page_store.specs.Flat.{entry_size}
use Rattle.page_store.specs.Encoding.{entries_bytes}
use Rattle.tree_nodes.specs.PageViews.{pairs_in}

-- so many entries, and no byte more
abbrev pub IsPacked : ℕ → List ℕ → Type 0
IsPacked count bytes = (length (pairs_in count bytes) ≡ count) × (bytes ≡ entries_bytes (pairs_in count bytes))

-- how many bytes stand before the place of a key: the entries of lesser keys up to the first that isn't
abbrev pub bytes_below : List ℕ → List Pair → ℕ
bytes_below key [] = 0
bytes_below key (pair ∷ pairs) = match_ordering (byte_cmp key pair.0) 0 0 (entry_size pair + bytes_below key pairs)

-- how many bytes the entry at that place has, where it is that of the key
abbrev pub bytes_there : List ℕ → List Pair → ℕ
bytes_there key [] = 0
bytes_there key (pair ∷ pairs) = match_ordering (byte_cmp key pair.0) 0 (entry_size pair) (bytes_there key pairs)

-- how many bytes stand before the first entry whose key passes a test
abbrev pub bytes_before : (List ℕ → Bool) → List Pair → ℕ
bytes_before test [] = 0
bytes_before test (pair ∷ pairs) = if test pair.0 then 0 else entry_size pair + bytes_before test pairs

-- how many bytes that entry has
abbrev pub bytes_of_first : (List ℕ → Bool) → List Pair → ℕ
bytes_of_first test [] = 0
bytes_of_first test (pair ∷ pairs) = if test pair.0 then entry_size pair else bytes_of_first test pairs
