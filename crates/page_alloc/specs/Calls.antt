-- What each call of a ledger makes of its state.
use Rattle.std.specs.Prelude.{ℕ, List, ◌∷◌, Some, None, map, replicate, slice_set}
use Rattle.page_alloc.specs.declared.life.Life.{Life}
use Rattle.page_alloc.specs.declared.life.Life.TheVariants.{Never, Since}
use Rattle.page_alloc.specs.Lives.{ended_at}
use Rattle.page_alloc.specs.LedgerState.{Mark, Untouched, Taken, Retired, LedgerState}

-- no page is held, no commit runs, and no pin is out
abbrev pub fresh : ℕ → ℕ → LedgerState
fresh pages generation = record { lives = replicate pages Never; marks = replicate pages Untouched; generation = generation; pins = replicate 32 None }

abbrev pub holding : ℕ → LedgerState → LedgerState
holding page s = record s { lives = slice_set s.lives page (Since s.generation) }

abbrev pub taking : ℕ → LedgerState → LedgerState
taking page s = record s { marks = slice_set s.marks page Taken }

abbrev pub retiring : ℕ → LedgerState → LedgerState
retiring page s = record s { marks = slice_set s.marks page Retired }

-- nothing of what the running commit did
abbrev pub unmarked : List Mark → List Mark
unmarked marks = map (λ mark. Untouched) marks

abbrev pub abandoned : LedgerState → LedgerState
abandoned s = record s { marks = unmarked s.marks }

-- what a page's life is from a generation on, by what the commit that made it did with the page
abbrev pub life_from : ℕ → Life → Mark → Life
life_from generation life Untouched = life
life_from generation life Taken = Since generation
life_from generation life Retired = ended_at generation life

abbrev pub lives_from : ℕ → List Life → List Mark → List Life
lives_from generation (life ∷ lives) (mark ∷ marks) = life_from generation life mark ∷ lives_from generation lives marks
lives_from generation lives marks = lives

abbrev pub advanced : ℕ → LedgerState → LedgerState
advanced generation s = record { lives = lives_from generation s.lives s.marks; marks = unmarked s.marks; generation = generation; pins = s.pins }

abbrev pub pinning : ℕ → LedgerState → LedgerState
pinning number s = record s { pins = slice_set s.pins number (Some s.generation) }

abbrev pub unpinned : ℕ → LedgerState → LedgerState
unpinned number s = record s { pins = slice_set s.pins number None }
