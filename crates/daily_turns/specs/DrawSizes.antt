-- How many bytes are drawn in a turn of a session.
use Rattle.std.specs.Prelude.{ℕ}

-- at most
abbrev pub draw_size : ℕ
draw_size = 16384
