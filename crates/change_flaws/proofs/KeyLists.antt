-- Keys of a table, beside the lists that definitions speak of.
use Rattle.std.proofs.Common.{◌≡◌, ◌∙◌, ℕ, Bool, true, false, cond, List, [], ◌∷◌, Option, None, Some, map, option_map, String, Global, Bor, string_bytes, bytes_eq, refl, sym, ap, ap₂, not}
use Rattle.std.specs.List.{list_any, find}
use Rattle.std.specs.Map.{keys_of}
use Rattle.toml.specs.View.{members_view}
use Rattle.toml.specs.declared.value.Value.{Value}
use Rattle.change_file.proofs.Values.{any_of_texts}
use Rattle.change_flaws.specs.Flaws.{first_other}

-- whether a key is none of these
abbrev is_other : List (Bor (List ℕ)) → String Global → Bool
is_other keys key = not (list_any (λ one. bytes_eq one.now (string_bytes key)) keys)

seen_of : (b : Bool) (key : String Global) (rest : Option (String Global)) → option_map string_bytes (cond b (Some key) rest) ≡ cond b (Some (string_bytes key)) (option_map string_bytes rest)
seen_of true key rest = refl
seen_of false key rest = refl

found : (keys : List (Bor (List ℕ))) (es : List (String Global × Value)) → option_map string_bytes (find (is_other keys) (keys_of es)) ≡ first_other (map (λ k. k.now) keys) (members_view es)
found keys [] = refl
found keys (e ∷ es) = seen_of (is_other keys e.0) e.0 (find (is_other keys) (keys_of es)) ∙ ap₂ (λ b rest. cond b (Some (string_bytes e.0)) rest) (ap not (sym (any_of_texts keys (string_bytes e.0)))) (found keys es)

bytes_of : (key : Option (Bor (String Global))) → option_map (λ k. string_bytes k.now) key ≡ option_map string_bytes (option_map (λ k. k.now) key)
bytes_of None = refl
bytes_of (Some key) = refl

pub first_of_keys : (keys : List (Bor (List ℕ))) (key : Option (Bor (String Global))) (es : List (String Global × Value)) → option_map (λ k. k.now) key ≡ find (is_other keys) (keys_of es) → option_map (λ k. string_bytes k.now) key ≡ first_other (map (λ k. k.now) keys) (members_view es)
first_of_keys keys key es is = bytes_of key ∙ ap (option_map string_bytes) is ∙ found keys es
