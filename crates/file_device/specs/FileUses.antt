-- What a program does with the files that it opens as devices.
use Rattle.std.specs.Prelude.{ℕ, List, Result, Ok, Err}
use Rattle.file_device.specs.FileCalls.{FileHistory}
use Rattle.file_device.specs.declared.used_files.DeviceUse.{DeviceUse}
use Rattle.file_device.specs.declared.used_files.DeviceUse.TheVariants as kinds

-- A file was opened, or made, as this device. One of this name was asked for and not had. And a device was let go of, with all calls that were made of it.
pub data FileUse : Type 0 where
  Opened : FileHistory → FileUse
  NotOpened : List ℕ → FileUse
  Left : FileHistory → FileUse

-- a use that is noted by its kind and the device
abbrev pub use_of : DeviceUse → FileHistory → FileUse
use_of kinds.Opened device = Opened device
use_of kinds.Left device = Left device

-- a file of this name that was asked for, by the answer
abbrev pub asked_for : {E : Type 0} → List ℕ → Result FileHistory E → FileUse
asked_for name (Ok device) = Opened device
asked_for name (Err _) = NotOpened name
