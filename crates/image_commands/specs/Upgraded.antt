-- What `upgrade` does to an image, and what it prints, without the LF.
use Rattle.std.specs.Prelude.{◌≡◌, ◌⊎◌, ◌≤◌, ℕ, List, ◌++◌, codes, decimal}
use Rattle.common_types.specs.CrashStates.{CrashStates}
use Rattle.sector_device.specs.Device.{State, NothingCounted}
use Rattle.page_store.specs.Sectors.{Image}
use Rattle.host_on_disk.specs.Upgrades.{UpgradesDevice, IsNewAlready, IsUpgradeRefusal}
use Rattle.host_on_disk.specs.declared.open_fault.OpenFault.{OpenFault}
use Rattle.image_commands.specs.Faults.{of_opening}
use Rattle.image_commands.specs.declared.fault.ImageFault.{ImageFault}
use Rattle.image_commands.specs.declared.fault.ImageFault.TheVariants.{Memory}

abbrev pub upgraded_line : ℕ → List ℕ
upgraded_line count = codes "upgraded " ++ decimal count

-- The image was upgraded, or is of version 2 already, and the line tells how many records were written.
abbrev pub IsUpgradedImage : {D : Type 0} → (D → State) → (D → CrashStates Image) → D → D → List ℕ → Type 0
IsUpgradedImage state crash_states old new line = (count : ℕ) × (line ≡ upgraded_line count) × (UpgradesDevice state crash_states old new count ⊎ IsNewAlready state crash_states old new count)

-- When a fault may come of upgrading an image: it is refused, or memory was lacking for what is printed.
abbrev pub IsUpgradingFault : State → State → ImageFault → Type 0
IsUpgradingFault old new fault = ((refused : OpenFault) × (fault ≡ of_opening refused) × IsUpgradeRefusal old new refused) ⊎ ((fault ≡ Memory) × (128 ≤ old.size) × NothingCounted old new)
