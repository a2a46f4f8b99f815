-- The bytes of flat pages and root slots.
use Rattle.std.specs.Prelude.{IsTrue, ◌<◌, ◌≤◌, ◌^◌, ℕ, zero, suc, ◌-◌, ◌*◌, List, [], ◌∷◌, ◌++◌, length, take, drop, replicate, nat_le, if◌then◌else◌}
use Rattle.std.specs.Int.{w16, w32, w64, to_be_bytes}
use Rattle.page_store.specs.Sizes.{page_size, part_size, record_size}
use Rattle.common_types.specs.Names.{is_word, is_field}
use Rattle.page_store.specs.Roots.{root_word}
use Rattle.page_store.specs.Pages.{Pair}
use Rattle.page_store.specs.Flat.{flat_word, entry_size}
use Rattle.page_store.specs.declared.commit.NewPage.{NewPage}
use Rattle.page_store.specs.declared.slot.Root.{Root}
use Rattle.page_store.specs.declared.slot.Slot.{Slot}

-- with zeros up to so many bytes
abbrev pub padded : ℕ → List ℕ → List ℕ
padded n bytes = bytes ++ replicate (n - length bytes) 0

abbrev pub entry_bytes : Pair → List ℕ
entry_bytes pair = to_be_bytes w16 (length pair.0) ++ to_be_bytes w16 (length pair.1) ++ pair.0 ++ pair.1

abbrev pub entries_bytes : List Pair → List ℕ
entries_bytes [] = []
entries_bytes (pair ∷ pairs) = entry_bytes pair ++ entries_bytes pairs

abbrev pub flat_head_bytes : ℕ → ℕ → ℕ → List ℕ
flat_head_bytes seal page count = flat_word ++ to_be_bytes w32 page ++ to_be_bytes w64 seal ++ to_be_bytes w16 0 ++ to_be_bytes w16 count

-- a flat page of a generation
unfoldable pub flat_bytes : ℕ → ℕ → List Pair → List ℕ
flat_bytes seal page pairs = padded page_size (flat_head_bytes seal page (length pairs) ++ entries_bytes pairs)

-- how many pairs from the first on fit into so many bytes
abbrev pub fitting : ℕ → List Pair → ℕ
fitting room [] = 0
fitting room (pair ∷ pairs) = if nat_le (entry_size pair) room then suc (fitting (room - entry_size pair) pairs) else 0

-- how many bytes of a page are for its entries
unfoldable pub page_room : ℕ
page_room = 4072

-- the pairs page by page, in at most so many pages
abbrev pub paged : ℕ → List Pair → List (List Pair)
paged zero pairs = []
paged (suc most) [] = []
paged (suc most) (pair ∷ pairs) = take (fitting page_room (pair ∷ pairs)) (pair ∷ pairs) ∷ paged most (drop (fitting page_room (pair ∷ pairs)) (pair ∷ pairs))

-- the pairs page by page: each page has as many as fit
abbrev pub by_pages : List Pair → List (List Pair)
by_pages pairs = paged (length pairs) pairs

-- how many pages the pairs need
abbrev pub pages_needed : List Pair → ℕ
pages_needed pairs = length (by_pages pairs)

-- pages of these pairs from a number on
abbrev pub flat_pages : ℕ → ℕ → List (List Pair) → List NewPage
flat_pages seal page [] = []
flat_pages seal page (group ∷ groups) = record { number = page; bytes = flat_bytes seal page group } ∷ flat_pages seal (suc page) groups

-- the fields of a root slot's record
unfoldable pub record_fields : Root → List ℕ
record_fields root =
    to_be_bytes w16 root.banner.version ++ to_be_bytes w32 root.pages ++ to_be_bytes w32 root.tree ++ to_be_bytes w16 root.height ++ to_be_bytes w64 root.keys
    ++ length root.banner.host ∷ [] ++ root.banner.host ++ to_be_bytes w16 root.banner.port ++ length root.banner.admin ∷ [] ++ root.banner.admin

-- the record of a root slot
unfoldable pub record_bytes : Root → List ℕ
record_bytes root = padded record_size (record_fields root)

-- a root sector
unfoldable pub root_sector : ℕ → ℕ → List ℕ → List ℕ
root_sector n seal part = root_word ++ to_be_bytes w64 n ++ to_be_bytes w64 seal ++ part

-- so many root sectors from one on, with the bytes of a record
unfoldable pub root_sectors : ℕ → ℕ → ℕ → List ℕ → List ℕ
root_sectors n seal zero bytes = []
root_sectors n seal (suc count) bytes = root_sector n seal (take part_size bytes) ++ root_sectors (suc n) seal count (drop part_size bytes)

-- the page of a slot
unfoldable pub slot_bytes : Slot → List ℕ
slot_bytes slot = root_sectors (8 * slot.number) slot.seal 8 (record_bytes slot.root)

-- what the type of a root sees to
pub record IsRootTyped (root : Root) : Type 0 where
  pub version : root.banner.version < 2 ^ 16
  pub tree : root.tree < 2 ^ 32
  pub height : root.height < 2 ^ 16
  pub keys : root.keys < 2 ^ 64
  pub host : IsTrue (is_word root.banner.host)
  pub host_size : length root.banner.host ≤ 100
  pub port : root.banner.port < 2 ^ 16
  pub admin : IsTrue (is_field root.banner.admin)
  pub admin_size : length root.banner.admin ≤ 100
