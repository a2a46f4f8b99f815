-- Pages that the running commit takes, as a ledger has them.
use Rattle.std.specs.Prelude.{◌≡◌, ℕ, Bool, true, List, [], ◌∷◌, length, ◌&&◌}
use Rattle.page_alloc.specs.LedgerState.{LedgerState, is_free}
use Rattle.page_alloc.specs.Calls.{taking}

-- with all these pages taken by the running commit
abbrev pub taking_all : LedgerState → List ℕ → LedgerState
taking_all s [] = s
taking_all s (n ∷ ns) = taking_all (taking n s) ns

-- each is free, where those before it are taken
abbrev pub are_free : LedgerState → List ℕ → Bool
are_free s [] = true
are_free s (n ∷ ns) = is_free s n && are_free (taking n s) ns

-- Pages that were free are taken, so many.
pub record TakesPages (count : ℕ) (old new : LedgerState) (numbers : List ℕ) : Type 0 where
  pub count_is : length numbers ≡ count
  pub free : are_free old numbers ≡ true
  pub taken : new ≡ taking_all old numbers
