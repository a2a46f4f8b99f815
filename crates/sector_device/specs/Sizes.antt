-- The sizes of a disk, in bytes.
use Rattle.std.specs.Prelude.{ℕ}

abbrev pub sector_size : ℕ
sector_size = 512

-- eight sectors
abbrev pub page_size : ℕ
page_size = 4096
