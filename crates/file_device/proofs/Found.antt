-- What an opening after a crash finds.
use Rattle.std.proofs.Common.{◌≡◌, ℕ, true, List, [], ◌∷◌, length, refl, sym, ◌∙◌, ap}
use Rattle.sector_device.specs.Disk.{Disk, IsImage, synced}
use Rattle.sector_device.specs.AfterStop.{done_where}
use Rattle.sector_device.proofs.EachImage.{some_picks}
use Rattle.file_device.specs.FileCalls.{FileHistory, FindsWhatACrashLeft, is_sound, disk_of}
use Rattle.file_device.specs.FileCallLaws.{only_images}
use Rattle.file_device.specs.declared.file_call.FileCall.{FileCall}
use Rattle.file_device.specs.declared.file_call.FileCall.TheVariants.{Sync}

-- where nothing is listed, the one image is the base
only_base : (d : Disk) (image : List (List ℕ)) → d.writes ≡ [] → IsImage d image → image ≡ d.base
only_base d image none i = let p = some_picks d image i in sym p.1 ∙ ap (λ (ws : List (ℕ × List ℕ)). done_where p.0 0 ws d.base) none

-- a sync that makes sure
sure : (earlier : List FileCall) → is_sound earlier ≡ true → disk_of (Sync ∷ earlier) ≡ synced (disk_of earlier)
sure earlier sound = rw sound refl

pub found : (before later : FileHistory) (earlier : List FileCall) → before.calls ≡ Sync ∷ earlier → is_sound earlier ≡ true → FindsWhatACrashLeft before (length before.calls) later → (disk_of later.calls).view ≡ (disk_of before.calls).view
found before later earlier is sound left =
    let made : disk_of before.calls ≡ synced (disk_of earlier) = ap disk_of is ∙ sure earlier sound in
    only_base (disk_of before.calls) (disk_of later.calls).view (ap (λ (d : Disk). d.writes) made) (only_images before.calls (disk_of later.calls).view left)
    ∙ ap (λ (d : Disk). d.base) made ∙ sym (ap (λ (d : Disk). d.view) made)
