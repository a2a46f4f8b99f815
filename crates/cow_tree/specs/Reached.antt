-- Pages that a walk reached, as a ledger has them.
use Rattle.std.specs.Prelude.{ℕ, Bool, true, List, [], ◌∷◌, ◌&&◌}
use Rattle.page_alloc.specs.LedgerState.{LedgerState, is_free}
use Rattle.page_alloc.specs.Calls.{holding}

-- each is free, where those before it are held
abbrev pub are_fresh : LedgerState → List ℕ → Bool
are_fresh s [] = true
are_fresh s (n ∷ ns) = is_free s n && are_fresh (holding n s) ns

-- with all these pages held
abbrev pub holding_all : LedgerState → List ℕ → LedgerState
holding_all s [] = s
holding_all s (n ∷ ns) = holding_all (holding n s) ns
