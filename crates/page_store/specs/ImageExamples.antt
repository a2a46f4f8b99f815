-- Worked examples: records and root slots of an image of 16 pages, which of them is current, flat pages, and batches.
use Rattle.std.specs.Prelude.{◌≡◌, ℕ, zero, suc, List, [], ◌∷◌, ◌++◌, Some, None, true, false, codes, replicate, take, drop}
use Rattle.page_store.specs.Sectors.{Image}
use Rattle.page_store.specs.Roots.{seal_of, slot_of, current, greatest_seal}
use Rattle.page_store.specs.Pages.{Pair}
use Rattle.page_store.specs.Flat.{half_size, is_half, flat_page}
use Rattle.page_store.specs.Content.{HasContent}
use Rattle.page_store.specs.Batch.{value_at, pair_after, updated, is_batch}
use Rattle.page_store.specs.Encoding.{record_fields, root_sector, slot_bytes, flat_bytes, pages_needed}
use Rattle.page_store.specs.declared.banner.Banner.{Banner}
use Rattle.page_store.specs.declared.edit.Edit.{Edit}
use Rattle.page_store.specs.declared.slot.Root.{Root}
use Rattle.page_store.specs.declared.slot.Slot.{Slot}

abbrev pub banner : Banner
banner = record { version = 0; host = codes "host"; port = 70; admin = codes "Ada" }

-- the root of an image of 16 pages, with no pairs in its first half
abbrev pub root : Root
root = record { pages = 16; tree = 2; height = 0; keys = 0; banner = banner }

abbrev pub slot : ℕ → ℕ → Slot
slot number seal = record { number = number; seal = seal; root = root }

-- so many sectors of these bytes
abbrev pub in_sectors : ℕ → List ℕ → List (List ℕ)
in_sectors zero bytes = []
in_sectors (suc n) bytes = take 512 bytes ∷ in_sectors n (drop 512 bytes)

-- an image of 16 pages that begins with these sectors, and has zeros after them
abbrev pub image_of : List (List ℕ) → Image
image_of sectors = sectors ++ replicate 112 (replicate 512 0)

-- both slots, of these generations
abbrev pub both_slots : ℕ → ℕ → Image
both_slots first second = image_of (in_sectors 8 (slot_bytes (slot 0 first)) ++ in_sectors 8 (slot_bytes (slot 1 second)))

-- slot 0 has four sectors of generation 3 and four of generation 1, slot 1 is of generation 2
abbrev pub torn : Image
torn = image_of (in_sectors 4 (slot_bytes (slot 0 3)) ++ drop 4 (in_sectors 8 (slot_bytes (slot 0 1))) ++ in_sectors 8 (slot_bytes (slot 1 2)))

abbrev pub pair : List ℕ → List ℕ → Pair
pair key value = (key, value)

-- a pair that takes 1,029 bytes in a page
abbrev pub long : ℕ → Pair
long key = pair (key ∷ []) (replicate 1024 0)

abbrev pub put : List ℕ → List ℕ → Edit
put key value = record { key = key; value = Some value }

abbrev pub remove : List ℕ → Edit
remove key = record { key = key; value = None }

-- keys a, b and d
abbrev pub three : List Pair
three = pair (codes "a") (codes "1") ∷ pair (codes "b") (codes "2") ∷ pair (codes "d") [] ∷ []

pub record ImageExamples : Type 0 where
  pub fields : record_fields root ≡ 0 ∷ 0 ∷ 0 ∷ 0 ∷ 0 ∷ 16 ∷ 0 ∷ 0 ∷ 0 ∷ 2 ∷ 0 ∷ 0 ∷ 0 ∷ 0 ∷ 0 ∷ 0 ∷ 0 ∷ 0 ∷ 0 ∷ 0 ∷ 4 ∷ 104 ∷ 111 ∷ 115 ∷ 116 ∷ 0 ∷ 70 ∷ 3 ∷ 65 ∷ 100 ∷ 97 ∷ []
  pub root_head : root_sector 9 258 [] ≡ codes "GOPHROOT" ++ 0 ∷ 0 ∷ 0 ∷ 0 ∷ 0 ∷ 0 ∷ 0 ∷ 9 ∷ 0 ∷ 0 ∷ 0 ∷ 0 ∷ 0 ∷ 0 ∷ 1 ∷ 2 ∷ []
  pub right_number : seal_of 9 (root_sector 9 258 []) ≡ Some 258
  pub wrong_number : seal_of 1 (root_sector 9 258 []) ≡ None
  pub second_is_newer : current (both_slots 1 2) ≡ Some (slot 1 2)
  pub first_is_newer : current (both_slots 3 2) ≡ Some (slot 0 3)
  pub equal_seals : current (both_slots 2 2) ≡ Some (slot 0 2)
  pub no_slot : current (image_of (replicate 16 (replicate 512 0))) ≡ None
  pub half_written : slot_of torn 0 ≡ None
  pub other_slot_stays : current torn ≡ Some (slot 1 2)
  pub its_seal_counts : greatest_seal torn 16 ≡ 3
  pub device_too_small : slot_of (take 120 (both_slots 1 2)) 0 ≡ None
  pub empty : HasContent (both_slots 1 2) [] banner
  pub halves : half_size 16 ≡ 7
  pub second_half : is_half (record root { tree = 9 }) ≡ true
  pub no_half : is_half (record root { tree = 3 }) ≡ false
  pub page_head : take 31 (flat_bytes 258 9 (pair (codes "k") (codes "v") ∷ [])) ≡ codes "GOPHFLAT" ++ 0 ∷ 0 ∷ 0 ∷ 9 ∷ 0 ∷ 0 ∷ 0 ∷ 0 ∷ 0 ∷ 0 ∷ 1 ∷ 2 ∷ 0 ∷ 0 ∷ 0 ∷ 1 ∷ 0 ∷ 1 ∷ 0 ∷ 1 ∷ 107 ∷ 118 ∷ 0 ∷ []
  pub page_read : flat_page 258 9 (flat_bytes 258 9 (pair (codes "k") (codes "v") ∷ [])) ≡ Some (pair (codes "k") (codes "v") ∷ [], 4066)
  pub page_of_another_generation : flat_page 257 9 (flat_bytes 258 9 (pair (codes "k") (codes "v") ∷ [])) ≡ None
  pub no_pages : pages_needed [] ≡ 0
  pub one_page : pages_needed (long 1 ∷ long 2 ∷ long 3 ∷ []) ≡ 1
  pub two_pages : pages_needed (long 1 ∷ long 2 ∷ long 3 ∷ long 4 ∷ []) ≡ 2
  pub look_up : value_at three (codes "b") ≡ Some (codes "2")
  pub nothing_there : value_at three (codes "c") ≡ None
  pub first_of_all : pair_after three [] ≡ Some (pair (codes "a") (codes "1"))
  pub next_key : pair_after three (codes "b") ≡ Some (pair (codes "d") [])
  pub last_key : pair_after three (codes "d") ≡ None
  pub batch : updated three (remove (codes "a") ∷ put (codes "b") (codes "3") ∷ put (codes "c") (codes "4") ∷ remove (codes "e") ∷ []) ≡
      pair (codes "b") (codes "3") ∷ pair (codes "c") (codes "4") ∷ pair (codes "d") [] ∷ []
  pub keys_rise : is_batch (put (codes "a") [] ∷ remove (codes "b") ∷ []) ≡ true
  pub same_key_twice : is_batch (put (codes "a") [] ∷ remove (codes "a") ∷ []) ≡ false
  pub empty_key : is_batch (put [] [] ∷ []) ≡ false
