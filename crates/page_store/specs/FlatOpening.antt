-- What opening an image of flat pages gives.
use Rattle.std.specs.Prelude.{◌≡◌, ◌≤◌, ◌+◌, ◌*◌, true, IsTrue}
use Rattle.common_types.specs.CrashStates.{CrashStates, AddsNone}
use Rattle.sector_device.specs.Device.{State, NothingCounted}
use Rattle.page_store.specs.Content.{HasContent}
use Rattle.page_store.specs.Flat.{half_size}
use Rattle.page_store.specs.Opening.{MadeToOpen}
use Rattle.page_store.specs.Roots.{greatest_seal}
use Rattle.page_store.specs.Sectors.{Image}
use Rattle.page_store.specs.declared.flat_keeper.FlatKeeper.{FlatKeeper}

-- The pairs and the banner of the image, and the greatest seal. No call failed, one sync was made, and each page was read once at most; nothing is written: a crash within the call leaves what one before it might have left.
pub record OpensFlat {D : Type 0} {dict : _} (state : D → State) (crash_states : D → CrashStates Image) (given : D) (k : FlatKeeper D dict) : Type 0 where
  pub content : IsTrue (state given).honest → HasContent (state given).disk.view k.pairs.items k.slot.root.banner
  pub top : IsTrue (state given).honest → k.top ≡ greatest_seal (state given).disk.view 16
  pub usable : k.usable ≡ true
  pub honest : (state k.device).honest ≡ (state given).honest
  pub large : 128 ≤ (state given).size
  pub counts : NothingCounted (state given) (state k.device)
  pub work : MadeToOpen (16 + 8 * half_size k.slot.root.pages) (state given) (state k.device)
  pub at_crash : IsTrue (state given).honest → AddsNone (crash_states given) (crash_states k.device)
