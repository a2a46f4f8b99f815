-- What holds of keys, records and the layout, as statements.
use Rattle.std.specs.Prelude.{false, ◌≡◌, ℕ, ◌<◌, ◌^◌, ◌||◌, None, List, [], Some, if◌then◌else◌, IsTrue, IsSome}
use Rattle.std.specs.Option.{option_map}
use Rattle.std.specs.List.{AllByRecursion}
use Rattle.std.specs.List.Sorted.{IsStrictlySortedBy}
use Rattle.std.specs.FinMap.{is_sorted}
use Rattle.std.specs.BTreeMap.{is_at}
use Rattle.host_types.specs.Items.{is_valid_item}
use Rattle.host_types.specs.Site.{Site, IsSite, byte_cmp, item_at, with_item, without_item}
use Rattle.host_types.specs.Change.{apply, touched}
use Rattle.host_types.specs.Words.{is_among}
use Rattle.host_types.specs.declared.item.Item.{Item}
use Rattle.host_types.specs.declared.change.Change.{Change}
use Rattle.site_records.specs.Keys.{item_key, chunk_key, word_key, owner}
use Rattle.site_records.specs.Records.{recorded, record_bytes, item_bytes, item_bytes_v1}
use Rattle.site_records.specs.Limits.{is_record}
use Rattle.site_records.specs.Layout.{Pairs, item_pairs, is_record_key, layout_v1, layout, value_at, kept_chunk, has_word}
use Rattle.site_records.specs.declared.record.Record.{Record}

-- a site's items stand in byte order of their selectors
abbrev pub InOrder : Site → Type 0
InOrder s = IsTrue (is_sorted byte_cmp s.items)

-- pairs of different items have no key in common
abbrev pub ItemsShareNoKey : Type 0
ItemsShareNoKey = (a b : List ℕ) (x y : Item) (key : List ℕ) → IsSome (value_at (item_pairs a x) key) → IsSome (value_at (item_pairs b y) key) → a ≡ b

-- Each pair of an item is what stands at its key, so no key stands twice with another value.
abbrev pub PairsStand : Type 0
PairsStand = (selector : List ℕ) (item : Item) → IsTrue (is_valid_item selector item) → AllByRecursion (λ p. value_at (item_pairs selector item) p.0 ≡ Some p.1) (item_pairs selector item)

abbrev pub LayoutIsInOrder : Type 0
LayoutIsInOrder = (s : Site) → IsTrue (is_sorted byte_cmp (layout s))

-- What stands at each key of a site's layout.
pub record LayoutHolds (s : Site) : Type 0 where
  pub records : (selector : List ℕ) → value_at (layout s) (item_key selector) ≡ option_map item_bytes (item_at s selector)
  pub chunks : (selector : List ℕ) (v k : ℕ) → k < 2 ^ 16 → value_at (layout s) (chunk_key selector v k) ≡ kept_chunk (item_at s selector) v k
  pub words : (word selector : List ℕ) → value_at (layout s) (word_key word selector) ≡ (if has_word (item_at s selector) word then Some [] else None)

-- What stands at each key of a site's layout in version 1.
pub record FirstLayoutHolds (s : Site) : Type 0 where
  pub records : (selector : List ℕ) → value_at (layout_v1 s) (item_key selector) ≡ option_map item_bytes_v1 (item_at s selector)
  pub others : (key : List ℕ) → is_record_key key ≡ false → value_at (layout_v1 s) key ≡ value_at (layout s) key

-- What becomes of the layout where an item is put, or goes: what stands at a key of its selector, and at all others.
pub record LayoutChanges (s : Site) : Type 0 where
  pub put : (selector : List ℕ) (item : Item) (key : List ℕ) → value_at (layout (with_item s selector item)) key ≡ (if is_at (byte_cmp (owner key)) selector then value_at (item_pairs selector item) key else value_at (layout s) key)
  pub gone : (selector key : List ℕ) → value_at (layout (without_item s selector)) key ≡ (if is_at (byte_cmp (owner key)) selector then None else value_at (layout s) key)

abbrev pub LayoutsHold : Type 0
LayoutsHold = (s : Site) → IsSite s → LayoutHolds s

abbrev pub FirstLayoutsHold : Type 0
FirstLayoutsHold = (s : Site) → IsSite s → FirstLayoutHolds s

abbrev pub LayoutsChange : Type 0
LayoutsChange = (s : Site) → InOrder s → LayoutChanges s

-- pairs in byte order of which each key has what it has in a layout are that layout
abbrev pub ValuesTell : Type 0
ValuesTell = (pairs : Pairs) (s : Site) → IsTrue (is_sorted byte_cmp pairs) → ((key : List ℕ) → value_at pairs key ≡ value_at (layout s) key) → pairs ≡ layout s

-- records that are written alike are one
abbrev pub RecordsTell : Type 0
RecordsTell = (r s : Record) → IsTrue (is_record r) → IsTrue (is_record s) → record_bytes r ≡ record_bytes s → r ≡ s

-- an item that keeps all limits has a record
abbrev pub ItemsHaveRecords : Type 0
ItemsHaveRecords = (selector : List ℕ) (item : Item) → IsTrue (is_valid_item selector item) → IsTrue (is_record (recorded item))

-- a record that keeps the limits is that of an item that keeps all limits, at some selector
abbrev pub RecordsHaveItems : Type 0
RecordsHaveItems = (r : Record) → IsTrue (is_record r) → (item : Item) × IsTrue (is_valid_item [] item) × (recorded item ≡ r)

-- Equal layouts of sites with the same address are those of one site.
abbrev pub LayoutTells : Type 0
LayoutTells = (s t : Site) → IsSite s → IsSite t → s.host ≡ t.host → s.port ≡ t.port → s.admin ≡ t.admin → layout s ≡ layout t → s ≡ t
