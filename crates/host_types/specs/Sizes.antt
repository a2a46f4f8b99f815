-- The sizes of items, in bytes.
use Rattle.std.specs.Prelude.{ℕ}

abbrev pub longest_summary : ℕ
longest_summary = 400
