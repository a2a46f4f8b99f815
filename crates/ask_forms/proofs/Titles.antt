-- Bytes that a title may have.
use Rattle.std.proofs.Common.{◌≡◌, ℕ, ◌<◌, ◌≤◌, ◌==◌, false, List, [], ◌∷◌, length, take, map, inl, inr, refl, arith, length-take}
use Rattle.std.specs.Prelude.{Ok}
use Rattle.std.proofs.lemmas.List.{length-map, take_all}
use Rattle.std.specs.List.{list_any}
use Rattle.std.proofs.lemmas.Bool.{cases_Bool, le-ltb}
use Rattle.host_types.specs.Names.{is_forbidden, is_field, name_of}
use Rattle.ask_forms.specs.Post.{title_byte, or_untitled}

none_forbidden : (bs : List ℕ) → list_any is_forbidden (map title_byte bs) ≡ false
none_forbidden [] = refl
none_forbidden (b ∷ bs) =
    elim (cases_Bool (is_forbidden b)) [
      | inl is ↦ rw is (none_forbidden bs)
      | inr other ↦ rw (other, other) (none_forbidden bs)
    ]

pub can_be_title : (bs : List ℕ) → length bs ≤ 69 → name_of is_field 69 (map title_byte bs) ≡ Ok (map title_byte bs)
can_be_title bs short =
    let same : length (map title_byte bs) ≡ length bs = length-map bs title_byte in
    rw (none_forbidden bs, le-ltb 69 (length (map title_byte bs)) (omega arith)) refl

pub front_length : (n : ℕ) (bs : List ℕ) → n < length bs → n ≡ length (take n bs)
front_length n bs less = simp length-take (omega arith)

pub all_fits : (bs : List ℕ) → length bs ≤ 69 → take 69 bs ≡ bs
all_fits bs short = take_all 69 bs short

-- bytes that are some are the title themselves
pub is_title : (bs : List ℕ) → (length bs == 0) ≡ false → or_untitled (map title_byte bs) ≡ map title_byte bs
is_title [] some = absurd (cc some)
is_title (b ∷ bs) some = refl
