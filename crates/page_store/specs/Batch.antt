-- A map of keys in byte order, and a batch of edits of it.
use Rattle.std.specs.Prelude.{ℕ, Bool, true, List, length, map, fold, find, Option, Some, None, nat_le, ◌&&◌}
use Rattle.std.specs.List.{list_all}
use Rattle.std.specs.Ordering.{is_lt}
use Rattle.std.specs.Map.{lookup, remove_entry}
use Rattle.std.specs.BTreeMap.{insert_entry, is_at}
use Rattle.page_store.specs.Sizes.{longest_key, longest_value}
use Rattle.common_types.specs.ByteOrder.{byte_cmp}
use Rattle.page_store.specs.Keys.{rises}
use Rattle.page_store.specs.Pages.{Pair, key_of}
use Rattle.page_store.specs.declared.edit.Edit.{Edit}

-- 1 to 300 bytes
abbrev pub is_key : List ℕ → Bool
is_key key = nat_le 1 (length key) && nat_le (length key) longest_key

-- at most 1,024 bytes
unfoldable pub is_value : List ℕ → Bool
is_value value = nat_le (length value) longest_value

abbrev pub is_pair : Pair → Bool
is_pair pair = is_key pair.0 && is_value pair.1

-- pairs whose keys rise in byte order
abbrev pub is_map : List Pair → Bool
is_map pairs = rises (map key_of pairs) && list_all is_pair pairs

-- what stands at a key
abbrev pub value_at : List Pair → List ℕ → Option (List ℕ)
value_at pairs key = lookup (is_at (byte_cmp key)) pairs

-- the pair with the least key above this one
abbrev pub pair_after : List Pair → List ℕ → Option Pair
pair_after pairs key = find (λ e. is_lt (byte_cmp key e.0)) pairs

-- with a value at a key, or with none
abbrev pub with_value : List Pair → List ℕ → Option (List ℕ) → List Pair
with_value pairs key None = remove_entry (is_at (byte_cmp key)) pairs
with_value pairs key (Some value) = insert_entry byte_cmp pairs key value

abbrev pub edited : List Pair → Edit → List Pair
edited pairs edit = with_value pairs edit.key edit.value

-- the pairs after all edits of a batch
abbrev pub updated : List Pair → List Edit → List Pair
updated pairs batch = fold edited pairs batch

abbrev pub is_value_or_none : Option (List ℕ) → Bool
is_value_or_none None = true
is_value_or_none (Some value) = is_value value

abbrev pub is_edit : Edit → Bool
is_edit edit = is_key edit.key && is_value_or_none edit.value

abbrev pub edit_key : Edit → List ℕ
edit_key edit = edit.key

-- edits whose keys rise in byte order
abbrev pub is_batch : List Edit → Bool
is_batch batch = rises (map edit_key batch) && list_all is_edit batch
