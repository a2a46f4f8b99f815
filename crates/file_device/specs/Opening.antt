-- What a file is asked for before a device over it is used, and what one call of such a device asks.
use Rattle.std.specs.Prelude.{◌≡◌, ℕ, zero, suc, ◌/◌, true, false, IsErr, Result, List, [], ◌∷◌}
use Rattle.sector_device.specs.Sizes.{sector_size}
use Rattle.sector_device.specs.CallsMade.{none_made}
use Rattle.file_device.specs.FileCalls.{FileHistory, is_sound, no_sectors, disk_of, noted, noted_page}
use Rattle.file_device.specs.declared.file_call.FileCall.{FileCall}
use Rattle.file_device.specs.declared.file_call.FileCall.TheVariants.{OpenToRead, Sync, DropCache, ReadAhead, Length, Read}

-- no sector was read or written yet, and nothing has failed
pub record IsUnread (calls : List FileCall) : Type 0 where
  pub disk : disk_of calls ≡ no_sectors
  pub sound : is_sound calls ≡ true

-- after the calls of `before`, so many sectors were read, one by one from the first
abbrev pub AreRead : ℕ → List FileCall → List FileCall → Type 0
AreRead zero before calls = calls ≡ before
AreRead (suc n) before calls = (bytes : List ℕ) × (earlier : List FileCall) × (calls ≡ Read n bytes ∷ earlier) × AreRead n before earlier

-- After the calls of `before`, the file was synced, its pages in memory were dropped, its length was asked for, and each whole sector of that length was read. Then its pages in memory were dropped once more, and the system was asked to read it again.
pub record IsOpened (before : List FileCall) (d : FileHistory) : Type 0 where
  pub bytes : ℕ
  pub until_read : List FileCall
  pub read : AreRead (bytes / sector_size) (Length bytes ∷ DropCache ∷ Sync ∷ before) until_read
  pub renewed : d.calls ≡ ReadAhead ∷ DropCache ∷ until_read

-- The file was opened for reads alone, its length was asked for, and each whole sector of that length was read. It was not locked.
pub record IsOpenedToRead (d : FileHistory) : Type 0 where
  pub bytes : ℕ
  pub read : AreRead (bytes / sector_size) (Length bytes ∷ OpenToRead ∷ []) d.calls

-- A device over a file of which nothing was asked yet: nothing is listed, reads give the base, and nothing has failed.
pub record IsUnused (d : FileHistory) : Type 0 where
  pub writes : (disk_of d.calls).writes ≡ []
  pub view : (disk_of d.calls).view ≡ (disk_of d.calls).base
  pub sound : is_sound d.calls ≡ true
  pub failures : d.failed_writes ≡ 0
  pub made : d.made ≡ none_made

-- A write or a sync makes one call of the file, and its answer is that call's. Once one has failed it makes none, and is refused.
pub record Asks {T E : Type 0} (result : Result T E) (done failed : FileCall) (old new : List FileCall) : Type 0 where
  pub asked : is_sound old ≡ true → new ≡ noted result done failed ∷ old
  pub refused : is_sound old ≡ false → IsErr result × (new ≡ old)

-- The same of a page that is written: one call of the file, noted as one for each sector.
pub record AsksPage {T E : Type 0} (result : Result T E) (n : ℕ) (bytes : List ℕ) (old new : List FileCall) : Type 0 where
  pub asked : is_sound old ≡ true → new ≡ noted_page result n bytes old
  pub refused : is_sound old ≡ false → IsErr result × (new ≡ old)
