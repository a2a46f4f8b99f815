-- When a change has little room.
use Rattle.std.specs.Prelude.{ℕ, ◌<◌, ◌+◌, ◌*◌, length}
use Rattle.host_types.specs.AllChanges.{Changes}
use Rattle.host_types.specs.Site.{Site}
use Rattle.host_types.specs.declared.site_fault.SiteFault.{SiteFault}
use Rattle.host_types.specs.declared.site_fault.SiteFault.TheVariants.{Full}
use Rattle.page_store.specs.StoreState.{most_levels}
use Rattle.site_pairs.specs.ChangeKeys.{keys_of_all}

-- Fewer pages are free than a commit of so many entries may need in a tree of so many levels: for each entry a copied page on each level, and a new one on each of the most levels.
abbrev pub IsTight : ℕ → ℕ → ℕ → Type 0
IsTight entries levels free = free < entries * (levels + most_levels)

-- Whatever changes of a site are refused for lack of free pages are tight, by all of their keys.
abbrev pub IsTightWhereFull : (Changes → SiteFault → Type 0) → Site → ℕ → Type 0
IsTightWhereFull lacks site levels = (changes : Changes) (need free : ℕ) → free < need → lacks changes (Full need free) → IsTight (length (keys_of_all site changes)) levels free
