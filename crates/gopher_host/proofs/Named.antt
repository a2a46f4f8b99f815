-- What a fault says of the change that was refused.
use Rattle.std.proofs.Common.{◌≡◌, ◌∙◌, ◌⊎◌, inl, inr, ℕ, zero, suc, ◌-◌, ◌<◌, ◌≤◌, arith, get_or, length, List, [], ◌∷◌, Option, Some, None, Ok, Err, refl, sym, ap, map, option_map}
use Rattle.std.specs.Prelude.{Result, IfOk, string_bytes, slice_get}
use Rattle.std.specs.Borrow.{Bor}
use Rattle.std.specs.Slice.{IsItemAt}
use Rattle.std.proofs.lemmas.Option.{slice_get_cases, slice_get_read}
use Rattle.std.specs.declared.alloc.Global.{Global}
use Rattle.std.specs.declared.string.String.{String}
use Rattle.common_types.specs.declared.refused.Refused.{Refused}
use Rattle.gopher_host.specs.Naming.{HasAny, HasLine, TellsItemOf, name_of}
use Rattle.gopher_host.specs.declared.fault.Fault.{Fault}

-- the line that was made is the one that is said
has_line : (said : Option (List ℕ)) (fault now : Fault) (number : ℕ) (refused : Refused) (line : Option (String Global)) → option_map string_bytes line ≡ said → HasAny {E = ℕ} (Ok line) fault number refused now → HasLine said fault number refused now
has_line None fault now number refused None is has = has
has_line (Some bytes) fault now number refused (Some line) is has = (line, cc is, has)
has_line None fault now number refused (Some line) is has = absurd (cc is)
has_line (Some bytes) fault now number refused None is has = absurd (cc is)

pub has_any : {E : Type 0} (of : ℕ → Refused → Option (List ℕ)) (fault now : Fault) (number : ℕ) (refused : Refused) (line : Result (Option (String Global)) E) →
    IfOk line (λ said. option_map string_bytes said ≡ of number refused) → HasAny line fault number refused now → TellsItemOf of (Some (number, refused)) fault now
has_any of fault now number refused (Err e) is has = inl has
has_any of fault now number refused (Ok None) is has = inr (has_line (of number refused) fault now number refused None is has)
has_any of fault now number refused (Ok (Some line)) is has = inr (has_line (of number refused) fault now number refused (Some line) is has)

-- the name at a place
name_at : (names : List (Bor (List ℕ))) (place : ℕ) → option_map (λ name. name.now) (slice_get names place) ≡ slice_get (map (λ name. name.now) names) place
name_at [] place = refl
name_at (name ∷ names) zero = refl
name_at (name ∷ names) (suc place) = name_at names place

pub item_at : (names : List (Bor (List ℕ))) (place : ℕ) (item : Option (Bor (Bor (List ℕ)))) → IsItemAt names place item → option_map (λ item. item.now.now) item ≡ slice_get (map (λ name. name.now) names) place
item_at names place None is = past (slice_get_cases names place).1
  where
    past : ((name : Bor (List ℕ)) × (place < length names) × (slice_get names place ≡ Some name) × (get_or names place name ≡ name)) ⊎ ((length names ≤ place) × (slice_get names place ≡ None)) → None ≡ slice_get (map (λ name. name.now) names) place
    past (inl (name, within, got, same)) = let beyond : length names ≤ place = is.3 in absurd (omega (arith, within, beyond))
    past (inr (beyond, none)) = sym (ap (option_map (λ name. name.now)) none) ∙ name_at names place
item_at names place (Some item) is =
    let within : place < length names = is.3.0 in
    sym (ap (option_map (λ name. name.now)) (slice_get_read names (length names) place item.now refl within is.1)) ∙ name_at names place

-- and at that of a number, from 1
pub place_of : (number : ℕ) (names : List (List ℕ)) → (number ≡ 0 → ⊥) → slice_get names (number - 1) ≡ name_of number names
place_of zero names some = absurd (some refl)
place_of (suc place) names some = let same : suc place - 1 ≡ place = omega arith in ap (slice_get names) same
