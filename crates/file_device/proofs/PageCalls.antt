-- A page that is written by one call of a file.
use Rattle.std.proofs.Common.{◌≡◌, ◌≤◌, ◌<◌, ◌+◌, ◌*◌, ℕ, zero, suc, Bool, true, false, List, ◌∷◌, length, Ok, Err, inl, inr, slice_set, refl, ap, sym, subst, ◌∙◌, arith}
use Rattle.common_types.specs.CrashStates.{CrashStates, no_new_crash_state, may_crash_to}
use Rattle.common_types.specs.Counts.{counted}
use Rattle.sector_device.specs.DeviceEffects.{WritesDevice}
use Rattle.sector_device.specs.declared.device.DeviceFault.{DeviceFault}
use Rattle.sector_device.specs.declared.device.DeviceFault.TheVariants.{Device as Failing}
use Rattle.sector_device.specs.Sectors.{Image}
use Rattle.sector_device.specs.Steps.{crash_states_of, After, Makes, AreWritten, MayBeWritten, MayBeAllWritten, IsWritten, chunk}
use Rattle.sector_device.proofs.WrittenImages.{write_makes, write_shows, makes_then, more_may, more_is, none_may, none_written, weaker}
use Rattle.file_device.specs.FileCalls.{FileHistory, IsCopy, is_sound, disk_of, file_state, page_calls, PossibleSince}
use Rattle.file_device.specs.FileCallLaws.{good, only_images, all_images, elapses_to}
use Rattle.file_device.specs.declared.file_call.FileCall.{FileCall}
use Rattle.file_device.specs.declared.file_call.FileCall.TheVariants.{Write, FailedWrite}

-- one call more
pub more_calls : (call : ℕ → List ℕ → FileCall) (first : ℕ) (bytes sector : List ℕ) (k : ℕ) (calls before after : List FileCall) → sector ≡ chunk bytes k → before ≡ page_calls call first bytes k calls → after ≡ call (first + k) sector ∷ before → after ≡ page_calls call first bytes (k + 1) calls
unfolding page_calls
more_calls call first bytes sector k calls before after part so_far is =
    let next : k + 1 ≡ suc k = omega arith in
    is ∙ ap (λ (b : List ℕ). call (first + k) b ∷ before) part ∙ ap (λ (l : List FileCall). call (first + k) (chunk bytes k) ∷ l) so_far ∙ ap (λ (m : ℕ). page_calls call first bytes m calls) (sym next)

-- none yet
pub no_calls : (call : ℕ → List ℕ → FileCall) (first : ℕ) (bytes : List ℕ) (calls : List FileCall) → calls ≡ page_calls call first bytes 0 calls
unfolding page_calls
no_calls call first bytes calls = refl

-- the next sector is put in its place
pub more_put : (first : ℕ) (bytes sector : List ℕ) (k : ℕ) (calls : List FileCall) (before after : Image) → sector ≡ chunk bytes k → before ≡ (disk_of (page_calls Write first bytes k calls)).view → after ≡ slice_set before (first + k) sector → after ≡ (disk_of (page_calls Write first bytes (k + 1) calls)).view
unfolding page_calls
more_put first bytes sector k calls before after part so_far is =
    let next : k + 1 ≡ suc k = omega arith in
    is ∙ ap (slice_set before (first + k)) part ∙ ap (λ (b : Image). slice_set b (first + k) (chunk bytes k)) so_far ∙ ap (λ (m : ℕ). (disk_of (page_calls Write first bytes m calls)).view) (sym next)

-- a page of which nobody knows whether it was written
pub failed_sound : (first : ℕ) (bytes : List ℕ) (k : ℕ) (calls : List FileCall) → is_sound (page_calls FailedWrite first bytes (suc k) calls) ≡ false
unfolding page_calls
failed_sound first bytes k calls = refl

abbrev pub states : List FileCall → CrashStates Image
states calls = record { moment = length calls; possible_since = PossibleSince calls }

module _ (first : ℕ) (bytes : List ℕ) (calls : List FileCall) where
  pub written_sound : (k : ℕ) → is_sound (page_calls Write first bytes k calls) ≡ is_sound calls
  unfolding page_calls
  written_sound zero = refl
  written_sound (suc k) = written_sound k

  pub written_base : (k : ℕ) → (disk_of (page_calls Write first bytes k calls)).base ≡ (disk_of calls).base
  unfolding page_calls
  written_base zero = refl
  written_base (suc k) = written_base k

  pub failed_base : (k : ℕ) → (disk_of (page_calls FailedWrite first bytes k calls)).base ≡ (disk_of calls).base
  unfolding page_calls
  failed_base zero = refl
  failed_base (suc k) = failed_base k

  pub failed_view : (k : ℕ) → (disk_of (page_calls FailedWrite first bytes k calls)).view ≡ (disk_of calls).view
  unfolding page_calls
  failed_view zero = refl
  failed_view (suc k) = failed_view k

  -- no call leaves no crash state but those of before
  pub none_made : Makes (states calls) (states calls) (MayBeAllWritten first 8 bytes)
  unfolding page_calls
  none_made = weaker (states calls) (states calls) (may_crash_to (states calls)) (After (states calls) (MayBeAllWritten first 8 bytes)) (no_new_crash_state (states calls)) (λ c left. (c, left, none_may first 8 bytes c))

  module _ (room : first + 8 ≤ length (disk_of calls).base) where
    pub written_makes : (k : ℕ) → k ≤ 8 → Makes (states calls) (states (page_calls Write first bytes k calls)) (MayBeAllWritten first 8 bytes)
    unfolding page_calls
    written_makes zero le = none_made
    written_makes (suc k) le =
        let before = page_calls Write first bytes k calls in
        let after = page_calls Write first bytes (suc k) calls in
        let fits : first + k < length (disk_of before).base = omega (arith, room, le, ap (λ (b : Image). length b) (written_base k)) in
        let one : Makes (states before) (states after) (MayBeWritten (first + k) (chunk bytes k)) =
        write_makes {T = ℕ} {E = ℕ} (Ok 0) (first + k) (chunk bytes k) (disk_of before) (disk_of after) _ _ _ _ fits refl tt (elapses_to (Write (first + k) (chunk bytes k)) before after refl) (λ c left. only_images after c left) (λ c i. all_images before c i) in
        makes_then (states calls) (states before) (states after) (MayBeAllWritten first 8 bytes) (MayBeWritten (first + k) (chunk bytes k)) (MayBeAllWritten first 8 bytes)
        (written_makes k (omega (arith, le))) one (λ i j p. p) (λ i j x p q. more_may first 8 k bytes i j x (omega (arith, le)) p q)

    pub failed_makes : (k : ℕ) → k ≤ 8 → Makes (states calls) (states (page_calls FailedWrite first bytes k calls)) (MayBeAllWritten first 8 bytes)
    unfolding page_calls
    failed_makes zero le = none_made
    failed_makes (suc k) le =
        let before = page_calls FailedWrite first bytes k calls in
        let after = page_calls FailedWrite first bytes (suc k) calls in
        let fits : first + k < length (disk_of before).base = omega (arith, room, le, ap (λ (b : Image). length b) (failed_base k)) in
        let one : Makes (states before) (states after) (MayBeWritten (first + k) (chunk bytes k)) =
        write_makes {T = ℕ} {E = ℕ} (Err 0) (first + k) (chunk bytes k) (disk_of before) (disk_of after) _ _ _ _ fits tt (inr (inl refl)) (elapses_to (FailedWrite (first + k) (chunk bytes k)) before after refl) (λ c left. only_images after c left) (λ c i. all_images before c i) in
        makes_then (states calls) (states before) (states after) (MayBeAllWritten first 8 bytes) (MayBeWritten (first + k) (chunk bytes k)) (MayBeAllWritten first 8 bytes)
        (failed_makes k (omega (arith, le))) one (λ i j p. p) (λ i j x p q. more_may first 8 k bytes i j x (omega (arith, le)) p q)

    pub written_shows : (k : ℕ) → k ≤ 8 → AreWritten first k bytes (disk_of calls).view (disk_of (page_calls Write first bytes k calls)).view
    unfolding page_calls
    written_shows zero le = none_written first bytes (disk_of calls).view
    written_shows (suc k) le =
        let before = page_calls Write first bytes k calls in
        let after = page_calls Write first bytes (suc k) calls in
        let fits : first + k < length (disk_of before).view = omega (arith, room, le, (good before).size, ap (λ (b : Image). length b) (written_base k)) in
        let one : IsWritten (first + k) (chunk bytes k) (disk_of before).view (disk_of after).view = write_shows {T = ℕ} {E = ℕ} (Ok 0) (first + k) (chunk bytes k) (disk_of before) (disk_of after) fits refl in
        subst (λ (m : ℕ). AreWritten first m bytes (disk_of calls).view (disk_of after).view) (omega arith) (more_is first k bytes (disk_of calls).view (disk_of before).view (disk_of after).view (written_shows k (omega (arith, le))) one)

-- ---- what the device is then

module _ (n : ℕ) (bytes : List ℕ) (old new : FileHistory) (room : 8 * n + 8 ≤ length (disk_of old.calls).base) where
  as_sized : (calls : List FileCall) → new.calls ≡ calls → (disk_of calls).base ≡ (disk_of old.calls).base → length (disk_of new.calls).base ≡ length (disk_of old.calls).base
  as_sized calls is same = ap (λ (l : List FileCall). length (disk_of l).base) is ∙ ap (λ (b : Image). length b) same

  pub page_written : new.calls ≡ page_calls Write (8 * n) bytes 8 old.calls → new.failed_writes ≡ old.failed_writes
      → WritesDevice {T = Unit {0}} file_state (crash_states_of (λ (f : FileHistory). length f.calls) (λ f. PossibleSince f.calls)) old new (Ok (tt {0})) (AreWritten (8 * n) 8 bytes) (MayBeAllWritten (8 * n) 8 bytes)
  page_written is failures = record {
    shows = λ _. subst (λ (l : List FileCall). AreWritten (8 * n) 8 bytes (disk_of old.calls).view (disk_of l).view) (sym is) (written_shows (8 * n) bytes old.calls room 8 (omega arith));
    leaves = λ _. subst (λ (l : List FileCall). Makes (states old.calls) (states l) (MayBeAllWritten (8 * n) 8 bytes)) (sym is) (written_makes (8 * n) bytes old.calls room 8 (omega arith));
    outcome = record { same = record { size = as_sized (page_calls Write (8 * n) bytes 8 old.calls) is (written_base (8 * n) bytes old.calls 8); honest = refl }; reads = refl; writes = failures; fault = tt };
  }

  pub page_failed : (fault : DeviceFault) → new.calls ≡ page_calls FailedWrite (8 * n) bytes 8 old.calls → new.failed_writes ≡ counted old.failed_writes → fault ≡ Failing
      → WritesDevice {T = Unit {0}} file_state (crash_states_of (λ (f : FileHistory). length f.calls) (λ f. PossibleSince f.calls)) old new (Err fault) (AreWritten (8 * n) 8 bytes) (MayBeAllWritten (8 * n) 8 bytes)
  page_failed fault is failures failing = record {
    shows = λ _. tt;
    leaves = λ _. subst (λ (l : List FileCall). Makes (states old.calls) (states l) (MayBeAllWritten (8 * n) 8 bytes)) (sym is) (failed_makes (8 * n) bytes old.calls room 8 (omega arith));
    outcome = record { same = record { size = as_sized (page_calls FailedWrite (8 * n) bytes 8 old.calls) is (failed_base (8 * n) bytes old.calls 8); honest = refl }; reads = refl; writes = failures; fault = failing };
  }

  pub page_refused : (fault : DeviceFault) → new.calls ≡ old.calls → new.failed_writes ≡ counted old.failed_writes → fault ≡ Failing
      → WritesDevice {T = Unit {0}} file_state (crash_states_of (λ (f : FileHistory). length f.calls) (λ f. PossibleSince f.calls)) old new (Err fault) (AreWritten (8 * n) 8 bytes) (MayBeAllWritten (8 * n) 8 bytes)
  page_refused fault is failures failing = record {
    shows = λ _. tt;
    leaves = λ _. subst (λ (l : List FileCall). Makes (states old.calls) (states l) (MayBeAllWritten (8 * n) 8 bytes)) (sym is) (none_made (8 * n) bytes old.calls);
    outcome = record { same = record { size = as_sized old.calls is refl; honest = refl }; reads = refl; writes = failures; fault = failing };
  }

-- ---- what is kept in memory

pub copy_written : (n : ℕ) (bytes : List ℕ) (calls later : List FileCall) (copy after : List (List ℕ)) (sound : Bool) → IsCopy calls copy sound → later ≡ page_calls Write (8 * n) bytes 8 calls → (copy ≡ (disk_of calls).view → after ≡ (disk_of (page_calls Write (8 * n) bytes 8 calls)).view) → IsCopy later after sound
copy_written n bytes calls later copy after sound before is put = record {
  shown = put before.shown ∙ ap (λ (l : List FileCall). (disk_of l).view) (sym is);
  known = before.known ∙ sym (written_sound (8 * n) bytes calls 8) ∙ ap is_sound (sym is);
}

pub copy_failed : (n : ℕ) (bytes : List ℕ) (calls later : List FileCall) (copy : List (List ℕ)) (sound after : Bool) → IsCopy calls copy sound → later ≡ page_calls FailedWrite (8 * n) bytes 8 calls → after ≡ false → IsCopy later copy after
copy_failed n bytes calls later copy sound after before is lost = record {
  shown = before.shown ∙ sym (failed_view (8 * n) bytes calls 8) ∙ ap (λ (l : List FileCall). (disk_of l).view) (sym is);
  known = lost ∙ sym (failed_sound (8 * n) bytes 7 calls) ∙ ap is_sound (sym is);
}
