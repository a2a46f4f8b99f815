-- The pages of an image, as what a tree names of them.
use Rattle.std.specs.Prelude.{ℕ, List, [], Option, Some, None, is_some}
use Rattle.page_store.specs.Pages.{Pair, Head, head_at, page_word}
use Rattle.page_store.specs.Content.{Found, Bounds, walk}
use Rattle.tree_nodes.specs.Tree.{OldPages}
use Rattle.tree_nodes.specs.Supply.{tree_in}

abbrev pub head_level : Option (Head × List ℕ) → ℕ
head_level None = 0
head_level (Some head) = head.0.level

abbrev pub found_pairs : Option Found → List Pair
found_pairs None = []
found_pairs (Some found) = found.pairs

-- what stands at and under each page, by the bytes of the pages
abbrev pub old_of : (ℕ → List ℕ) → Bounds → OldPages
old_of bytes bounds = record { pairs = λ n. found_pairs (walk bytes bounds (head_level (head_at page_word (bytes n))) n [] None); stands = λ level n low high. is_some (walk bytes bounds level n low high); opened = λ level n. tree_in bounds level n (bytes n) }
