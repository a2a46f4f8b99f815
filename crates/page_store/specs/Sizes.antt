-- The sizes of what is kept: bytes of keys and of values, and pages of an image.
use Rattle.std.specs.Prelude.{ℕ, ◌*◌}
pub use Rattle.sector_device.specs.Sizes.{page_size}

abbrev pub longest_key : ℕ
longest_key = 300

abbrev pub longest_value : ℕ
longest_value = 1024

-- of a root slot's record in each of its eight sectors
abbrev pub part_size : ℕ
part_size = 488

abbrev pub record_size : ℕ
record_size = 3904

abbrev pub least_pages : ℕ
least_pages = 16

abbrev pub most_pages : ℕ
most_pages = 65536

-- no image has more pairs: a page has 1,024 at most
abbrev pub most_pairs : ℕ
most_pairs = 1024 * most_pages
