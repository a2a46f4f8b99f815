-- Root slots, and which of them is current.
use Rattle.std.specs.Prelude.{◌≤◌, ◌<◌, ℕ, zero, suc, ◌*◌, Bool, List, [], ◌∷◌, ◌++◌, length, take, drop, Option, Some, None, Result, Ok, Err, nat_lt, nat_le, ◌==◌, ◌&&◌, if◌then◌else◌}
use Rattle.std.specs.Prelude.{bytes_eq}
use Rattle.std.specs.List.{list_all}
use Rattle.std.specs.Int.{w16, w32, w64, from_be_bytes}
use Rattle.page_store.specs.Sizes.{least_pages, most_pages}
use Rattle.common_types.specs.Names.{name_of, is_word, is_field}
use Rattle.common_types.specs.declared.refused.Refused.{Refused}
use Rattle.page_store.specs.Reading.{◌>>=◌, where_true, piece_at, byte_at, number_at}
use Rattle.page_store.specs.Sectors.{Image, sector}
use Rattle.page_store.specs.declared.slot.Root.{Root}
use Rattle.page_store.specs.declared.slot.Slot.{Slot}

-- GOPHROOT
abbrev pub root_word : List ℕ
root_word = 71 ∷ 79 ∷ 80 ∷ 72 ∷ 82 ∷ 79 ∷ 79 ∷ 84 ∷ []

-- the seal of sector n, where it bears magic word and number
unfoldable pub seal_of : ℕ → List ℕ → Option ℕ
seal_of n bytes = where_true (bytes_eq (take 8 bytes) root_word && (from_be_bytes w64 (take 8 (drop 8 bytes)) == n)) (Some (from_be_bytes w64 (take 8 (drop 16 bytes))))

-- the seal that so many sectors from n on share
abbrev pub shared_seal : Image → ℕ → ℕ → Option ℕ
shared_seal image n zero = None
shared_seal image n (suc zero) = seal_of n (sector image n)
shared_seal image n (suc (suc k)) = do
  first ← seal_of n (sector image n)
  others ← shared_seal image (suc n) (suc k)
  where_true (first == others) (Some first)

-- the record's bytes in so many sectors from n on
abbrev pub record_from : Image → ℕ → ℕ → List ℕ
record_from image n zero = []
record_from image n (suc k) = drop 24 (sector image n) ++ record_from image (suc n) k

abbrev pub is_zero : ℕ → Bool
is_zero b = b == 0

abbrev pub if_valid : Result (List ℕ) Refused → Option (List ℕ)
if_valid (Ok name) = Some name
if_valid (Err refused) = None

-- a length of one byte, and so many bytes
unfoldable pub short_text_at : List ℕ → Option (List ℕ × List ℕ)
short_text_at bytes = do
  size ← byte_at bytes
  piece_at size.0 size.1

-- version, host, port and administrator are read apart from the rest of the record
unfoldable pub root_at : ℕ → List ℕ → Option Root
root_at sectors bytes = do
  version ← number_at w16 bytes
  pages ← number_at w32 version.1
  tree ← number_at w32 pages.1
  height ← number_at w16 tree.1
  keys ← number_at w64 height.1
  host_text ← short_text_at keys.1
  port ← number_at w16 host_text.1
  admin_text ← short_text_at port.1
  host ← if_valid (name_of is_word 100 host_text.0)
  admin ← if_valid (name_of is_field 100 admin_text.0)
  where_true
      (nat_le least_pages pages.0 && (nat_le pages.0 most_pages && (nat_le (8 * pages.0) sectors && (nat_le 1 port.0 && list_all is_zero admin_text.1))))
      (Some (record { pages = pages.0; tree = tree.0; height = height.0; keys = keys.0; banner = record { version = version.0; host = host; port = port.0; admin = admin } }))

-- the root's image is on a device of so many sectors
abbrev pub FitsDevice : ℕ → Root → Type 0
FitsDevice sectors root = (least_pages ≤ root.pages) × (root.pages ≤ most_pages) × (8 * root.pages ≤ sectors)

-- What a slot is that is found on a device of so many sectors, whatever the device says.
abbrev pub IsFoundSlot : ℕ → Slot → Type 0
IsFoundSlot sectors slot = (slot.number < 2) × (0 < slot.root.banner.port) × FitsDevice sectors slot.root

-- slot s on a device of so many sectors, where it is valid: its eight sectors bear their magic word and number and share a seal, and its record reads
unfoldable pub slot_in : ℕ → Image → ℕ → Option Slot
slot_in sectors image s = do
  seal ← shared_seal image (8 * s) 8
  root ← root_at sectors (record_from image (8 * s) 8)
  Some (record { number = s; seal = seal; root = root })

abbrev pub slot_of : Image → ℕ → Option Slot
slot_of image s = slot_in (length image) image s

-- the one with the greater seal, or else the first
abbrev pub newer : Option Slot → Option Slot → Option Slot
newer None b = b
newer (Some a) None = Some a
newer (Some a) (Some b) = if nat_lt a.seal b.seal then Some b else Some a

-- the current slot
abbrev pub current : Image → Option Slot
current image = newer (slot_of image 0) (slot_of image 1)

abbrev pub seal_or_zero : Option ℕ → ℕ
seal_or_zero None = 0
seal_or_zero (Some seal) = seal

abbrev pub greater : ℕ → ℕ → ℕ
greater a b = if nat_lt a b then b else a

-- the greatest seal in the first so many sectors, of those that bear magic word and number; 0 where none does
unfoldable pub greatest_seal : Image → ℕ → ℕ
greatest_seal image zero = 0
greatest_seal image (suc n) = greater (greatest_seal image n) (seal_or_zero (seal_of n (sector image n)))
