-- What `copy` prints, without the LF.
use Rattle.std.specs.Prelude.{ℕ, List, ◌++◌, codes, decimal}

abbrev pub copied_line : ℕ → ℕ → List ℕ
copied_line items free = codes "copied " ++ decimal items ++ codes " items, free " ++ decimal free
