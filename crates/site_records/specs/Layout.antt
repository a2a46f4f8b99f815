-- The layout of a site: the pairs of keys and values that represent it. docs/IMAGE.md, 'Layout of a site'.
use Rattle.std.specs.Prelude.{drop, take, true, ◌==◌, ℕ, zero, suc, ◌+◌, ◌*◌, ◌/◌, Bool, false, List, [], ◌∷◌, ◌++◌, length, map, flat_map, nat_lt, slice_get, if◌then◌else◌, Option, Some, None}
use Rattle.std.specs.Map.{lookup}
use Rattle.std.specs.BTreeMap.{insert_entry, is_at}
use Rattle.host_types.specs.Site.{Site, byte_cmp, item_at}
use Rattle.host_types.specs.Card.{chunk_of}
use Rattle.host_types.specs.Words.{words_of, is_among}
use Rattle.site_records.specs.Keys.{item_key, chunk_key, word_key}
use Rattle.site_records.specs.Records.{item_bytes, parts_of}
use Rattle.host_types.specs.declared.item.Item.{Item}

-- a key and its value
abbrev pub LayoutPair : Type 0
LayoutPair = List ℕ × List ℕ

abbrev pub Pairs : Type 0
Pairs = List LayoutPair

-- how many chunks of 1,000 bytes so many bytes have; none have none
unfoldable pub chunk_count : ℕ → ℕ
chunk_count n = (n + 999) / 1000

-- so many chunks of a part, from number k on
abbrev pub chunk_pairs : List ℕ → ℕ → List ℕ → ℕ → ℕ → Pairs
chunk_pairs selector v part zero k = []
chunk_pairs selector v part (suc n) k = (chunk_key selector v k, chunk_of part k) ∷ chunk_pairs selector v part n (k + 1)

-- the chunks of the parts, from part v on
abbrev pub part_pairs : List ℕ → ℕ → List (List ℕ) → Pairs
part_pairs selector v [] = []
part_pairs selector v (part ∷ parts) = chunk_pairs selector v part (chunk_count (length part)) 0 ++ part_pairs selector (v + 1) parts

-- the item's words have no value: their keys say all
abbrev pub word_pairs : List ℕ → List (List ℕ) → Pairs
word_pairs selector words = map (λ w. (word_key w selector, [])) words

-- the pairs of an item's data: its record, and the chunks of its parts
abbrev pub data_pairs : List ℕ → Item → Pairs
data_pairs selector item = (item_key selector, item_bytes item) ∷ part_pairs selector 0 (parts_of item.body)

-- the pairs of one item: its data, and its words
unfoldable pub item_pairs : List ℕ → Item → Pairs
item_pairs selector item = data_pairs selector item ++ word_pairs selector (words_of item)

-- some pairs in the order of their keys. At a key that stands twice the first counts
abbrev pub in_order : Pairs → Pairs
in_order [] = []
in_order (p ∷ ps) = insert_entry byte_cmp (in_order ps) p.0 p.1

-- the pairs of all items, one item after the other
abbrev pub all_pairs : Site → Pairs
all_pairs s = flat_map (λ e. item_pairs e.0 e.1) s.items

-- the layout: the union, in byte order
unfoldable pub layout : Site → Pairs
layout s = in_order (all_pairs s)

-- what stands at a key
abbrev pub value_at : Pairs → List ℕ → Option (List ℕ)
value_at pairs key = lookup (is_at (byte_cmp key)) pairs

-- what stands at a key of what stands at a selector
abbrev pub value_in : List ℕ → Option Item → List ℕ → Option (List ℕ)
value_in selector None key = None
value_in selector (Some item) key = value_at (item_pairs selector item) key

-- a chunk of a part, where there is one
abbrev pub chunk_in : Option (List ℕ) → ℕ → Option (List ℕ)
chunk_in None k = None
chunk_in (Some part) k = if nat_lt (1000 * k) (length part) then Some (chunk_of part k) else None

-- chunk k of part v of what stands at a selector
abbrev pub kept_chunk : Option Item → ℕ → ℕ → Option (List ℕ)
kept_chunk None v k = None
kept_chunk (Some item) v k = chunk_in (slice_get (parts_of item.body) v) k

abbrev pub has_word : Option Item → List ℕ → Bool
has_word None word = false
has_word (Some item) word = is_among (words_of item) word

-- ---- version 1 of images

-- a record's key
abbrev pub is_record_key : List ℕ → Bool
is_record_key [] = false
is_record_key (tag ∷ rest) = tag == 73

-- a record without the eight bytes that say from when on its item isn't found
abbrev pub lowered : List ℕ → List ℕ
lowered bytes = take 9 bytes ++ drop 17 bytes

abbrev pub lowered_at : List ℕ → List ℕ → List ℕ
lowered_at key value = if is_record_key key then lowered value else value

abbrev pub lowered_pair : LayoutPair → LayoutPair
lowered_pair p = (p.0, lowered_at p.0 p.1)

-- The layout in version 1: the same, but for the records, which know no expiry.
abbrev pub layout_v1 : Site → Pairs
layout_v1 s = map lowered_pair (layout s)
