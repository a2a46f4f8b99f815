-- What is read of a page, entry by entry.
use Rattle.std.specs.Prelude.{ℕ, zero, suc, ◌*◌, Bool, false, map, ◌&&◌, nat_le, List, [], ◌∷◌, Option, Some, None, if◌then◌else◌}
use Rattle.std.specs.List.{list_all}
use Rattle.page_store.specs.Keys.{precedes, rises}
use Rattle.page_store.specs.Pages.{Pair, Child, Head, Place, child_key, starts_empty, is_inside, page_word, head_at, fits_place, pair_at, child_at}
use Rattle.page_store.specs.Content.{Bounds}
use Rattle.tree_nodes.specs.Tree.{entry_room}
use Rattle.tree_nodes.specs.declared.page_views.ImageBounds.{ImageBounds}

-- the pages of an image and its current seal
abbrev pub bounds_of : ImageBounds → Bounds
bounds_of bounds = record { pages = bounds.pages; seal = bounds.seal }

abbrev pub then_more : {E : Type 0} → (List ℕ → List E) → Option (E × List ℕ) → List E
then_more more None = []
then_more more (Some entry) = entry.0 ∷ more entry.1

-- so many entries, as far as they have the form
abbrev pub in_row : {E : Type 0} → (List ℕ → Option (E × List ℕ)) → ℕ → List ℕ → List E
in_row entry_at zero bytes = []
in_row entry_at (suc n) bytes = then_more (in_row entry_at n) (entry_at bytes)

abbrev pub pairs_in : ℕ → List ℕ → List Pair
pairs_in = in_row pair_at

abbrev pub children_in : ℕ → List ℕ → List Child
children_in = in_row child_at

-- as many entries as a head counts, as far as they have the form
abbrev pub row_behind : {E : Type 0} → (List ℕ → Option (E × List ℕ)) → Option (Head × List ℕ) → List E
row_behind entry_at None = []
row_behind entry_at (Some head) = in_row entry_at head.0.count head.1

-- the entries that a page has by its head alone: where it has the form of a page, they are all of its entries
abbrev pub entries_by_head : {E : Type 0} → (List ℕ → Option (E × List ℕ)) → List ℕ → List E
entries_by_head entry_at bytes = row_behind entry_at (head_at page_word bytes)

-- how many bytes an entry of a level takes at least: a pair has two lengths and a key of one byte, a child a length and a number
abbrev pub least_entry : ℕ → ℕ
least_entry zero = 5
least_entry (suc level) = 6

-- a head of a page in its place, which counts no more entries than a page has room for
abbrev pub is_head_of : Place → Head → Bool
is_head_of place head = fits_place place head && nat_le (head.count * least_entry place.level) entry_room

abbrev pub begins_page : Place → Option (Head × List ℕ) → Bool
begins_page place None = false
begins_page place (Some head) = is_head_of place head.0

-- whether bytes begin with the head of a page in its place: where they don't they aren't that page, whatever stands behind
abbrev pub has_head : Place → List ℕ → Bool
has_head place bytes = begins_page place (head_at page_word bytes)

-- the bytes after so many entries
abbrev pub after_entries : {E : Type 0} → Option (List E × List ℕ) → Option (List ℕ)
after_entries None = None
after_entries (Some entries) = Some entries.1

-- which children a branch of an image of so many pages may have
abbrev pub are_children : ℕ → List Child → Bool
are_children pages children = starts_empty (map child_key children) && (rises (map child_key children) && list_all (is_inside pages) children)

-- the page under which a key stands: that of the last child whose key isn't above it
abbrev pub page_on_path : List ℕ → List Child → Option ℕ
page_on_path key [] = None
page_on_path key (child ∷ []) = Some child.page
page_on_path key (child ∷ next ∷ children) = if precedes key next.key then Some child.page else page_on_path key (next ∷ children)
