-- Values of a table, beside the lists that definitions speak of.
use Rattle.std.proofs.Common.{◌≡◌, ℕ, List, [], ◌∷◌, map, String, Global, Bor, string_bytes, bytes_eq, refl, ap}
use Rattle.std.specs.List.{list_any, list_all}
use Rattle.std.specs.Map.{keys_of}
use Rattle.toml.specs.View.{view, items_view, members_view}
use Rattle.toml.specs.declared.value.Value.{Value}
use Rattle.change_file.specs.Tables.{values_of, is_among, has_only}
use Rattle.change_file.specs.Changes.{is_table}

-- the values of an array are its items
pub values_seen : (vs : List Value) → values_of (items_view vs) ≡ map view vs
values_seen [] = refl
values_seen (v ∷ vs) = ap (λ ds. view v ∷ ds) (values_seen vs)

pub any_of_texts : (keys : List (Bor (List ℕ))) (key : List ℕ) → is_among (map (λ k. k.now) keys) key ≡ list_any (λ k. bytes_eq k.now key) keys
any_of_texts [] key = refl
any_of_texts (k ∷ ks) key = rw (any_of_texts ks key)

-- a table has no key but these where each of its keys is one of them
pub only_of_keys : (keys : List (Bor (List ℕ))) (es : List (String Global × Value)) → has_only (map (λ k. k.now) keys) (members_view es) ≡ list_all (λ k. list_any (λ one. bytes_eq one.now (string_bytes k)) keys) (keys_of es)
only_of_keys keys [] = refl
only_of_keys keys (e ∷ es) = rw (any_of_texts keys (string_bytes e.0), only_of_keys keys es)

pub all_tables : (vs : List Value) → list_all is_table (map view vs) ≡ list_all (λ v. is_table (view v)) vs
all_tables [] = refl
all_tables (v ∷ vs) = rw (all_tables vs)
