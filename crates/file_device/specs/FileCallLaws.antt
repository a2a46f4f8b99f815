-- What every list of calls of a file keeps: its view is an image, and a crash now leaves exactly the images.
use Rattle.std.specs.Prelude.{◌≡◌, ◌⊎◌, ◌≤◌, ℕ, zero, suc, Bool, true, false, List, [], ◌∷◌, ◌++◌, length, Some, slice_get, refl}
use Rattle.std.proofs.Common.{inl, inr, ⊎_elim, sym, ◌∙◌, ap, subst, arith, length-append}
use Rattle.sector_device.specs.Disk.{Disk, IsImage, SyncFailed}
use Rattle.sector_device.specs.Device.{Elapses}
use Rattle.sector_device.specs.Images.{image_listed, image_written}
use Rattle.file_device.specs.FileCalls.{grown, after, is_sound, disk_of, PossibleSince}
use Rattle.file_device.specs.declared.file_call.FileCall.{FileCall}
use Rattle.file_device.specs.declared.file_call.FileCall.TheVariants.{Open, OpenToRead, Create, Lock, SetLength, Sync, DropCache, ReadAhead, Length, Read, Write, FailedWrite, FailedSync}

get_grown : (xs : List (List ℕ)) (n : ℕ) (x b : List ℕ) → slice_get xs n ≡ Some x → slice_get (xs ++ b ∷ []) n ≡ Some x
get_grown [] n x b h = absurd cc
get_grown (y ∷ ys) zero x b h = h
get_grown (y ∷ ys) (suc n) x b h = get_grown ys n x b h

get_back : (xs : List (List ℕ)) (n : ℕ) (x b : List ℕ) → slice_get (xs ++ b ∷ []) n ≡ Some x → (slice_get xs n ≡ Some x) ⊎ ((n ≡ length xs) × (b ≡ x))
get_back [] zero x b h = inr (refl, cc h)
get_back [] (suc n) x b h = absurd cc
get_back (y ∷ ys) zero x b h = inl h
get_back (y ∷ ys) (suc n) x b h = ⊎_elim (λ old. inl old) (λ (p : (n ≡ length ys) × (b ≡ x)). inr (ap suc p.0, p.1)) (get_back ys n x b h)

get_last : (xs : List (List ℕ)) (b : List ℕ) → slice_get (xs ++ b ∷ []) (length xs) ≡ Some b
get_last [] b = refl
get_last (y ∷ ys) b = get_last ys b

-- a disk whose view is an image
abbrev pub IsShownImage : Disk → Type 0
IsShownImage d = IsImage d d.view

good_grown : (b : List ℕ) (d : Disk) → IsShownImage d → IsShownImage (grown b d)
good_grown b d g = record {
  size = omega (arith, g.size, length-append d.view (b ∷ []), length-append d.base (b ∷ []));
  each = λ n x h. ⊎_elim
      (λ old. ⊎_elim (λ base. inl (get_grown d.base n x b base)) (λ w. inr w) (g.each n x old))
      (λ (p : (n ≡ length d.view) × (b ≡ x)). inl (subst (λ m. slice_get (d.base ++ b ∷ []) m ≡ Some x) (sym (p.0 ∙ g.size)) (get_last d.base b ∙ ap (λ (y : List ℕ). Some y) p.1)))
      (get_back d.view n x b h);
}

good_after : (sound : Bool) (call : FileCall) (d : Disk) → IsShownImage d → IsShownImage (after sound call d)
good_after sound Open d g = g
good_after sound OpenToRead d g = g
good_after sound Create d g = g
good_after sound Lock d g = g
good_after sound (SetLength bytes) d g = g
good_after true Sync d g = record { size = refl; each = λ k x h. inl h }
good_after false Sync d g = g
good_after sound DropCache d g = g
good_after sound ReadAhead d g = g
good_after sound (Length bytes) d g = g
good_after sound (Read n b) d g = good_grown b d g
good_after sound (Write n b) d g = image_written n b d d.view g
good_after sound (FailedWrite n b) d g = record { size = g.size; each = (image_listed n b d d.view g).each }
good_after sound FailedSync d g = g

pub good : (calls : List FileCall) → IsShownImage (disk_of calls)
good [] = record { size = refl; each = λ n x h. inl h }
good (call ∷ earlier) = good_after (is_sound earlier) call (disk_of earlier) (good earlier)

within : (calls : List FileCall) (t : ℕ) (c : List (List ℕ)) → PossibleSince calls t c → t ≤ length calls
within [] t c left = left.0
within (x ∷ earlier) t c (inl old) = omega (arith, within earlier t c old)
within (x ∷ earlier) t c (inr new) = new.0

pub only_images : (calls : List FileCall) (c : List (List ℕ)) → PossibleSince calls (length calls) c → IsImage (disk_of calls) c
only_images [] c left = left.1
only_images (x ∷ earlier) c (inl old) = absurd (omega (arith, within earlier (suc (length earlier)) c old))
only_images (x ∷ earlier) c (inr new) = new.1

pub all_images : (calls : List FileCall) (c : List (List ℕ)) → IsImage (disk_of calls) c → PossibleSince calls (length calls) c
all_images [] c i = (omega arith, i)
all_images (x ∷ earlier) c i = inr (omega arith, i)

-- one call more
elapses : (call : FileCall) (calls : List FileCall) → Elapses (length calls) (length (call ∷ calls)) (PossibleSince calls) (PossibleSince (call ∷ calls))
elapses call calls = record {
  later = omega arith;
  nothing_else = λ t c le left. ⊎_elim (λ old. inl old) (λ (new : (t ≤ suc (length calls)) × IsImage (disk_of (call ∷ calls)) c). inr (inr (omega arith, new.1))) left;
  keeps = λ t c le left. inl left;
  now = λ c left. left;
}

pub elapses_to : (call : FileCall) (calls later : List FileCall) → later ≡ call ∷ calls → Elapses (length calls) (length later) (PossibleSince calls) (PossibleSince later)
elapses_to call calls later is = subst (λ (l : List FileCall). Elapses (length calls) (length l) (PossibleSince calls) (PossibleSince l)) (sym is) (elapses call calls)

-- no call more
pub elapses_none : (calls later : List FileCall) → later ≡ calls → Elapses (length calls) (length later) (PossibleSince calls) (PossibleSince later)
elapses_none calls later is = subst (λ (l : List FileCall). Elapses (length calls) (length l) (PossibleSince calls) (PossibleSince l)) (sym is) (record {
  later = omega arith;
  nothing_else = λ t c le left. inl left;
  keeps = λ t c le left. left;
  now = λ c left. left;
})

-- a sync that failed leaves base, list and view
pub not_synced : (calls later : List FileCall) → disk_of later ≡ disk_of calls → SyncFailed (disk_of calls) (disk_of later)
not_synced calls later is = subst (λ (d : Disk). SyncFailed (disk_of calls) d) (sym is) (record { base = refl; writes = refl; view = good calls })

as_long : (sound : Bool) (d : Disk) → IsShownImage d → length (after sound Sync d).base ≡ length d.base
as_long true d g = g.size
as_long false d g = refl

-- a sync leaves the number of sectors
pub sync_size : (calls : List FileCall) → length (disk_of (Sync ∷ calls)).base ≡ length (disk_of calls).base
sync_size calls = as_long (is_sound calls) (disk_of calls) (good calls)
