-- How long a client may stay, in seconds.
use Rattle.std.specs.Prelude.{ℕ, ◌-◌, Bool, true, false, ◌||◌, not, nat_lt}
use Rattle.daily_turns.specs.declared.ready_connection.ConnectionStage.{ConnectionStage}
use Rattle.daily_turns.specs.declared.ready_connection.ConnectionStage.TheVariants.{Listening}

-- How long after it came, by how far its session is and whether a line has come whole: a quarter of a minute where none has, two minutes where its request isn't whole, and ten minutes else.
abbrev pub longest_stay : ConnectionStage → Bool → ℕ
longest_stay (Listening id) false = 15
longest_stay (Listening id) true = 120
longest_stay stage has_line = 600

-- Half a minute without a byte, or so long after it came.
abbrev pub is_over : ℕ → ℕ → ℕ → ℕ → Bool
is_over longest came moved now = not (nat_lt (now - moved) 30) || not (nat_lt (now - came) longest)
