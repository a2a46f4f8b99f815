-- What opening a device as a site gives, besides the site.
use Rattle.std.specs.Prelude.{◌≡◌, ◌≤◌, true, [], IsTrue}
use Rattle.common_types.specs.CrashStates.{CrashStates, AddsNone}
use Rattle.host_types.specs.SiteState.{SiteState}
use Rattle.sector_device.specs.Device.{State, NothingCounted}
use Rattle.page_store.specs.Opening.{MadeToOpen}
use Rattle.page_store.specs.Roots.{greatest_seal}
use Rattle.page_store.specs.Sectors.{Image}
use Rattle.cow_tree.specs.TreeSeen.{held}
use Rattle.cow_tree.specs.declared.tree_keeper.TreeKeeper.{TreeKeeper}
use Rattle.host_on_disk.specs.OpeningWork.{opening_reads}

-- A device that is large enough was opened, with the greatest seal that it shows; it can be used, no pin is out, and none of the site that is over it. No call failed, each page was read once and then the pages on the way to each pair, behind one sync; nothing was written.
pub record OpensDisk {D : Type 0} {dict : _} (state : D → State) (crash_states : D → CrashStates Image) (given : D) (k : TreeKeeper D dict) (site : SiteState) : Type 0 where
  pub top : IsTrue (state given).honest → k.top ≡ greatest_seal (state given).disk.view 16
  pub usable : k.usable ≡ true
  pub unpinned : (held state k).pins ≡ []
  pub none_pinned : site.pins ≡ []
  pub large : 128 ≤ (state given).size
  pub work : MadeToOpen (opening_reads (state given).size (held state k)) (state given) (state k.device)
  pub counts : NothingCounted (state given) (state k.device)
  pub at_crash : IsTrue (state given).honest → AddsNone (crash_states given) (crash_states k.device)
  pub honest : (state k.device).honest ≡ (state given).honest
