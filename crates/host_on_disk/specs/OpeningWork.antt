-- How much is read to open an image as a site.
use Rattle.std.specs.Prelude.{◌+◌, ◌*◌, ℕ}
use Rattle.page_store.specs.StoreState.{StoreState}
use Rattle.page_store.specs.Work.{pages_tried}

-- Of a device of so many sectors, each once at most, and then the pages on the way to each pair, and to where no more is found.
abbrev pub opening_reads : ℕ → StoreState → ℕ
opening_reads sectors h = sectors + 8 * ((h.keys + 1) * pages_tried h.height)
