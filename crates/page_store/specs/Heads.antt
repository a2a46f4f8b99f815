-- Heads of pages and entries of branches as the program has them.
use Rattle.std.specs.Prelude.{ℕ, List}
use Rattle.page_store.specs.Pages.{Head, Child}
use Rattle.page_store.specs.declared.reading.PageHead.{PageHead}

abbrev pub seen_head : PageHead → Head
seen_head head = record { number = head.number; generation = head.generation; level = head.level; count = head.count }

abbrev pub seen_child : List ℕ → ℕ → Child
seen_child key page = record { key = key; page = page }
