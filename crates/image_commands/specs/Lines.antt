-- What `format` and `check` print, without the LF.
use Rattle.std.specs.Prelude.{◌≡◌, ℕ, List, [], ◌++◌, Some, codes, decimal, length}
use Rattle.common_types.specs.CrashStates.{CrashStates, AddsNone}
use Rattle.host_types.specs.Site.{Site}
use Rattle.sector_device.specs.Device.{State}
use Rattle.page_store.specs.Sectors.{Image}
use Rattle.page_store.specs.Roots.{current}
use Rattle.page_store.specs.declared.slot.Slot.{Slot}
use Rattle.cow_tree.specs.TreeState.{unreached}
use Rattle.site_records.specs.Layout.{layout}
use Rattle.host_on_disk.specs.ImageSites.{ImageRepresents}

abbrev pub formatted_line : ℕ → List ℕ
formatted_line pages = codes "formatted " ++ decimal pages ++ codes " pages"

abbrev pub figures_line : ℕ → ℕ → ℕ → ℕ → List ℕ
figures_line items keys free generation = codes "items " ++ decimal items ++ codes " keys " ++ decimal keys ++ codes " free " ++ decimal free ++ codes " generation " ++ decimal generation

-- the figures of a site: its items and pairs, the free pages, and a generation
abbrev pub checked_line : Site → ℕ → ℕ → List ℕ
checked_line s free generation = figures_line (length s.items) (length (layout s)) free generation

-- The line has the figures of the site that an image represents: a device was opened, which wrote nothing, and as it was opened it shows an image of that site, whose current root slot has this generation, and whose tree leaves so many pages unreached.
pub record IsChecked {D : Type 0} (state : D → State) (crash_states : D → CrashStates Image) (old : D) (line : List ℕ) : Type 0 where
  pub site : Site
  pub stands : ImageRepresents (state old).disk.view site
  pub opened : D
  pub no_new_crash_state : AddsNone (crash_states old) (crash_states opened)
  pub shows : ImageRepresents (state opened).disk.view site
  pub slot : Slot
  pub current_is : current (state opened).disk.view ≡ Some slot
  pub line_is : line ≡ checked_line site (unreached slot [] (state opened).disk.view) slot.seal
