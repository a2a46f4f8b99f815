-- The bytes of tree pages.
use Rattle.std.specs.Prelude.{ℕ, ◌+◌, ◌≤◌, ◌≡◌, true, List, [], ◌∷◌, ◌++◌, length}
use Rattle.std.specs.List.{list_all}
use Rattle.std.specs.Int.{w16, w32, w64, to_be_bytes}
use Rattle.sector_device.specs.Sizes.{page_size}
use Rattle.page_store.specs.Pages.{Pair, Child, page_word}
use Rattle.page_store.specs.Encoding.{padded, entries_bytes}
use Rattle.page_store.specs.Batch.{is_pair}
use Rattle.tree_nodes.specs.Tree.{Tree, Others, page, leaf, branch, none, other, entry_room, leaf_bytes, other_bytes}

abbrev pub head_bytes : ℕ → ℕ → ℕ → ℕ → List ℕ
head_bytes n generation level count = page_word ++ to_be_bytes w32 n ++ to_be_bytes w64 generation ++ to_be_bytes w16 level ++ to_be_bytes w16 count

abbrev pub child_bytes : Child → List ℕ
child_bytes child = to_be_bytes w16 (length child.key) ++ to_be_bytes w32 child.page ++ child.key

abbrev pub children_bytes : List Child → List ℕ
children_bytes [] = []
children_bytes (child ∷ children) = child_bytes child ++ children_bytes children

-- a leaf of these pairs, of a number and a generation
unfoldable pub leaf_page : ℕ → ℕ → List Pair → List ℕ
leaf_page n generation pairs = padded page_size (head_bytes n generation 0 (length pairs) ++ entries_bytes pairs)

-- a branch of these children, of a number, a generation and a level
unfoldable pub branch_page : ℕ → ℕ → ℕ → List Child → List ℕ
branch_page n generation level children = padded page_size (head_bytes n generation level (length children) ++ children_bytes children)

-- the number of a child's page: 0 for one that is owned
abbrev pub number_of : Tree → ℕ
number_of (page n) = n
number_of (leaf pairs) = 0
number_of (branch tree others) = 0

abbrev pub other_entries : Others → List Child
other_entries none = []
other_entries (other key tree others) = record { key = key; page = number_of tree } ∷ other_entries others

-- the entries of a branch: the first has the empty key
abbrev pub branch_entries : Tree → Others → List Child
branch_entries first others = record { key = []; page = number_of first } ∷ other_entries others

-- an owned node as a page, its children by their numbers
abbrev pub page_of_tree : ℕ → ℕ → ℕ → Tree → List ℕ
page_of_tree n generation level (page m) = []
page_of_tree n generation level (leaf pairs) = leaf_page n generation pairs
page_of_tree n generation level (branch first others) = branch_page n generation level (branch_entries first others)

-- an owned node that fits its page
abbrev pub IsWritable : Tree → Type 0
IsWritable (page m) = ⊥
IsWritable (leaf pairs) = (list_all is_pair pairs ≡ true) × (leaf_bytes pairs ≤ entry_room)
IsWritable (branch first others) = 6 + other_bytes others ≤ entry_room
