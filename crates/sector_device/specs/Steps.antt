-- What calls of a device do to the images that a crash may leave.
use Rattle.std.specs.Prelude.{◌≡◌, ◌⊎◌, ℕ, ◌+◌, ◌*◌, ◌<◌, ◌≤◌, List, length, take, drop}
use Rattle.sector_device.specs.Sizes.{sector_size}
use Rattle.common_types.specs.CrashStates.{CrashStates, AddsOnly, may_crash_to}
use Rattle.sector_device.specs.Sectors.{Image, sector}

abbrev pub crash_states_of : {D : Type 0} → (D → ℕ) → (D → ℕ → Image → Type 0) → D → CrashStates Image
crash_states_of moment possible_since device = record { moment = moment device; possible_since = possible_since device }

-- an image that was possible before, after such a step
abbrev pub After : CrashStates Image → (Image → Image → Type 0) → Image → Type 0
After old Step c = (d : Image) × may_crash_to old d × Step d c

-- a crash in between leaves only an image from before, after such a step
abbrev pub Makes : CrashStates Image → CrashStates Image → (Image → Image → Type 0) → Type 0
Makes old new Step = AddsOnly old new (After old Step)

-- every image is this one
abbrev pub AllAre : CrashStates Image → Image → Type 0
AllAre crash_states image = (c : Image) → may_crash_to crash_states c → c ≡ image

-- the sector with these bytes, all else as before
pub record IsWritten (n : ℕ) (bytes : List ℕ) (a b : Image) : Type 0 where
  pub size : length b ≡ length a
  pub others : (k : ℕ) → (k < n) ⊎ (n < k) → sector b k ≡ sector a k
  pub here : sector b n ≡ bytes

-- the sector with these bytes or as before, all else as before
pub record MayBeWritten (n : ℕ) (bytes : List ℕ) (a b : Image) : Type 0 where
  pub size : length b ≡ length a
  pub others : (k : ℕ) → (k < n) ⊎ (n < k) → sector b k ≡ sector a k
  pub here : (sector b n ≡ sector a n) ⊎ (sector b n ≡ bytes)

-- bytes 512 * k and on
abbrev pub chunk : List ℕ → ℕ → List ℕ
chunk bytes k = take sector_size (drop (sector_size * k) bytes)

-- so many sectors from one on with these bytes, all else as before
pub record AreWritten (first count : ℕ) (bytes : List ℕ) (a b : Image) : Type 0 where
  pub size : length b ≡ length a
  pub others : (n : ℕ) → (n < first) ⊎ (first + count ≤ n) → sector b n ≡ sector a n
  pub here : (k : ℕ) → k < count → sector b (first + k) ≡ chunk bytes k

-- each of so many sectors from one on with these bytes or as before, all else as before
pub record MayBeAllWritten (first count : ℕ) (bytes : List ℕ) (a b : Image) : Type 0 where
  pub size : length b ≡ length a
  pub others : (n : ℕ) → (n < first) ⊎ (first + count ≤ n) → sector b n ≡ sector a n
  pub here : (k : ℕ) → k < count → (sector b (first + k) ≡ sector a (first + k)) ⊎ (sector b (first + k) ≡ chunk bytes k)
