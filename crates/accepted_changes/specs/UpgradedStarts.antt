-- An image that was upgraded is one from which a hub may start.
use Rattle.std.specs.Prelude.{ℕ, List}
use Rattle.common_types.specs.CrashStates.{CrashStates, may_crash_to}
use Rattle.host_types.specs.Site.{Site}
use Rattle.sector_device.specs.Device.{State}
use Rattle.page_store.specs.Sectors.{Image}
use Rattle.host_on_disk.specs.Headline.{RunInTurn, InTurn, FoundInTurn}
use Rattle.host_on_disk.specs.ImageSites.{ImageRepresents}
use Rattle.host_on_disk.specs.Upgrades.{UpgradesDevice}

-- Whatever a crash since an upgrade left: runs and crashes in turn, any number of them, the first on a device that shows it, leave an image of a site that was found by way of sites which the runs allow, from the upgraded site on. Where there is no run, that is the upgraded site.
abbrev pub UpgradedImagesAreStarts : {D : Type 0} → (D → State) → (D → CrashStates Image) → Type 0
UpgradedImagesAreStarts {D = D} state crash_states =
    (old new : D) (count : ℕ) (upgrades : UpgradesDevice state crash_states old new count) (first last : Image) (turns : List (RunInTurn D)) →
    may_crash_to (crash_states new) first → InTurn state crash_states first turns last → (t : Site) × ImageRepresents last t × FoundInTurn upgrades.kept.site turns t
