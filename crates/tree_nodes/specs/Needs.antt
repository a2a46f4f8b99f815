-- What a key needs of an image before a change, and what the bytes of a page are for it.
use Rattle.std.specs.Prelude.{◌≡◌, ℕ, ◌-◌, List, Option, Some, None, IsSome}
use Rattle.tree_nodes.specs.Tree.{Tree}
use Rattle.tree_nodes.specs.Steps.{RootState, needed_under, depth_under}
use Rattle.tree_nodes.specs.declared.fault.NodeFault.{NodeFault}
use Rattle.tree_nodes.specs.declared.fault.NodeFault.TheVariants.{Damaged, Memory}

-- the level of the page that a key needs
abbrev pub needed_level : List ℕ → RootState → ℕ
needed_level key state = state.height - 1 - depth_under key state.root

-- why a page isn't read, by what its bytes say: damaged where they are not that page, and out of memory only where they are
abbrev pub IsNodeReadFault : ℕ → Option Tree → NodeFault → Type 0
IsNodeReadFault page read (Damaged n) = (n ≡ page) × (read ≡ None)
IsNodeReadFault page read Memory = IsSome read

-- an image that has these bytes at the page that a key needs
abbrev pub ShowsNeeded : (ℕ → List ℕ) → List ℕ → RootState → List ℕ → Type 0
ShowsNeeded image key state bytes = (page : ℕ) → needed_under key state.root ≡ Some page → image page ≡ bytes
