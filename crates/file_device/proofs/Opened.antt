-- What the calls of an opening make.
use Rattle.std.proofs.Common.{◌≡◌, ℕ, zero, suc, true, List, [], ◌∷◌, ◌++◌, length, refl, sym, ◌∙◌, ap, arith, length-append}
use Rattle.sector_device.specs.Disk.{Disk}
use Rattle.file_device.specs.FileCalls.{is_sound, disk_of}
use Rattle.file_device.specs.Opening.{AreRead, IsUnread}
use Rattle.file_device.specs.declared.file_call.FileCall.{FileCall}
use Rattle.file_device.specs.declared.file_call.FileCall.TheVariants.{OpenToRead, Sync, DropCache, Length, Read}

-- so many sectors, nothing is listed, and nothing has failed
pub record AreThere (n : ℕ) (calls : List FileCall) : Type 0 where
  pub writes : (disk_of calls).writes ≡ []
  pub view : (disk_of calls).view ≡ (disk_of calls).base
  pub sound : is_sound calls ≡ true
  pub size : length (disk_of calls).base ≡ n

one_more : (n : ℕ) (bytes : List ℕ) (earlier : List FileCall) → AreThere n earlier → AreThere (suc n) (Read n bytes ∷ earlier)
one_more n bytes earlier h = record {
  writes = h.writes;
  view = ap (λ (s : List (List ℕ)). s ++ bytes ∷ []) h.view;
  sound = h.sound;
  size = omega (arith, h.size, length-append (disk_of earlier).base (bytes ∷ []));
}

pub there : (n : ℕ) (before calls : List FileCall) → IsUnread before → AreRead n before calls → AreThere n calls
there zero before calls unread read = rw read (record {
  writes = ap (λ (d : Disk). d.writes) unread.disk;
  view = ap (λ (d : Disk). d.view) unread.disk ∙ sym (ap (λ (d : Disk). d.base) unread.disk);
  sound = unread.sound;
  size = ap (λ (d : Disk). length d.base) unread.disk;
})
there (suc n) before calls unread read = rw read.2 (one_more n read.0 read.1 (there n before read.1 unread read.3))

-- the calls before the first read leave it so
pub still_unread : (bytes : ℕ) (before calls : List FileCall) → IsUnread before → calls ≡ Length bytes ∷ DropCache ∷ Sync ∷ before → IsUnread calls
still_unread bytes before calls unread is = rw is (record { disk = rw unread.sound (rw unread.disk refl); sound = unread.sound })

-- nothing was read of a file that was opened for reads alone, and whose length was asked for
pub unread_yet : (bytes : ℕ) (opened calls : List FileCall) → opened ≡ OpenToRead ∷ [] → calls ≡ Length bytes ∷ opened → IsUnread calls
unread_yet bytes opened calls o is = rw is (rw o (record { disk = refl; sound = refl }))
