-- Names of posts, cut at their last slash.
use Rattle.std.proofs.Common.{◌≡◌, ℕ, ◌+◌, ◌-◌, ◌<◌, ◌≤◌, ◌^◌, ◌%◌, Bool, true, false, List, [], ◌∷◌, ◌++◌, length, length-append, take, drop, refl, ap, sym, ◌∙◌, inl, inr, arith}
use Rattle.std.specs.Prelude.{codes, decimal, nat_lt, ◌==◌, ◌||◌, not, Ok, Err}
use Rattle.std.specs.Bool.{Decides}
use Rattle.std.specs.List.{list_any}
use Rattle.std.proofs.lemmas.Bool.{cases_Bool, both_ways, ne_eqb, eqb-true}
use Rattle.std.proofs.lemmas.Fmt.{decimal_by_steps, decimal_injective}
use Rattle.std.proofs.lemmas.List.{drop_at, append_assoc}
use Rattle.std.proofs.lemmas.List.Folds.{list_any-append}
use Rattle.std.proofs.lemmas.Grind.{common_steps}
use Rattle.common_types.specs.Names.{is_forbidden, is_field, name_of}
use Rattle.common_types.specs.declared.refused.Refused.TheVariants.{BadName, TooLong}
use Rattle.host_types.specs.declared.view.View.{View}
use Rattle.host_types.specs.Site.{post_selector, text_view}
use Rattle.mem_site.specs.ValidSites.{has_slash, IsCut}

-- some bytes without those behind, which have no slash
pub record IsSeen (bytes front : List ℕ) : Type 0 where
  pub parts : bytes ≡ front ++ drop (length front) bytes
  pub none : has_slash (drop (length front) bytes) ≡ false

pub nothing_seen : (bytes : List ℕ) → IsSeen bytes bytes
nothing_seen bytes = let behind : drop (length bytes) bytes ≡ [] = all_dropped bytes in record { parts = sym (ap (λ r. bytes ++ r) behind ∙ append-nil bytes); none = ap has_slash behind }
  where
    all_dropped : (bs : List ℕ) → drop (length bs) bs ≡ []
    all_dropped [] = refl
    all_dropped (b ∷ bs) = all_dropped bs

    append-nil : (bs : List ℕ) → bs ++ [] ≡ bs
    append-nil [] = refl
    append-nil (b ∷ bs) = ap (λ l. b ∷ l) (append-nil bs)

-- what stands behind the last byte but those
behind_last : (bytes others : List ℕ) (last : ℕ) → IsSeen bytes (others ++ last ∷ []) → drop (length others) bytes ≡ last ∷ drop (length (others ++ last ∷ [])) bytes
behind_last bytes others last seen = ap (drop (length others)) (seen.parts ∙ append_assoc others (last ∷ []) (drop (length (others ++ last ∷ [])) bytes)) ∙ drop_at others (last ∷ drop (length (others ++ last ∷ [])) bytes) (length others) refl

pub one_more_seen : (bytes others : List ℕ) (last : ℕ) → IsSeen bytes (others ++ last ∷ []) → (last == 47) ≡ false → IsSeen bytes others
one_more_seen bytes others last seen other =
    let behind = behind_last bytes others last seen in
    record {
      parts = seen.parts ∙ append_assoc others (last ∷ []) (drop (length (others ++ last ∷ [])) bytes) ∙ ap (λ r. others ++ r) (sym behind);
      none = ap has_slash behind ∙ ap (λ b. b || has_slash (drop (length (others ++ last ∷ [])) bytes)) other ∙ seen.none;
    }

pub cut_at : (bytes others : List ℕ) (last : ℕ) → IsSeen bytes (others ++ last ∷ []) → last ≡ 47 → IsCut bytes others (drop (length (others ++ last ∷ [])) bytes)
cut_at bytes others last seen is = record {
  parts = seen.parts ∙ append_assoc others (last ∷ []) (drop (length (others ++ last ∷ [])) bytes) ∙ ap (λ b. others ++ b ∷ drop (length (others ++ last ∷ [])) bytes) is;
  last = seen.none;
}

-- ---- one cut

slash_inside : (front behind : List ℕ) → has_slash (front ++ 47 ∷ behind) ≡ true
slash_inside [] behind = refl
slash_inside (b ∷ front) behind = slash_after (b == 47) (has_slash (front ++ 47 ∷ behind)) (slash_inside front behind)
  where
    slash_after : (x y : Bool) → y ≡ true → (x || y) ≡ true
    slash_after true y h = refl
    slash_after false y h = h

same_rest : (a b : ℕ) (xs ys : List ℕ) → a ∷ xs ≡ b ∷ ys → xs ≡ ys
same_rest a b xs ys e = cc e

same_head : (a b : ℕ) (xs ys : List ℕ) → a ∷ xs ≡ b ∷ ys → a ≡ b
same_head a b xs ys e = cc e

-- bytes have one last slash
one_cut : (f g x y : List ℕ) → f ++ 47 ∷ x ≡ g ++ 47 ∷ y → has_slash x ≡ false → has_slash y ≡ false → (f ≡ g) × (x ≡ y)
one_cut [] [] x y e p q = (refl, same_rest 47 47 x y e)
one_cut [] (b ∷ g) x y e p q = absurd (both_ways (has_slash x) p (ap has_slash (same_rest 47 b x (g ++ 47 ∷ y) e) ∙ slash_inside g y))
one_cut (a ∷ f) [] x y e p q = absurd (both_ways (has_slash y) q (ap has_slash (sym (same_rest a 47 (f ++ 47 ∷ x) y e)) ∙ slash_inside f x))
one_cut (a ∷ f) (b ∷ g) x y e p q =
    let rest = one_cut f g x y (same_rest a b (f ++ 47 ∷ x) (g ++ 47 ∷ y) e) p q in
    let heads : a ≡ b = same_head a b (f ++ 47 ∷ x) (g ++ 47 ∷ y) e in
    (λ i. heads i ∷ rest.0 i, rest.1)

no_slash_digit : (d : ℕ) → 48 ≤ d → (d == 47) ≡ false
no_slash_digit d h = ne_eqb d 47 (λ e. omega (arith, e))

no_slash_number : (n : ℕ) → n < 2 ^ 64 → has_slash (decimal n) ≡ false
no_slash_number = decimal_by_steps (λ n ds. has_slash ds ≡ false)
    (λ n lt. ap (λ b. b || false) (no_slash_digit (48 + n) (omega arith)))
    (λ n ds ge h. list_any-append (λ b. b == 47) ds ((48 + n % 10) ∷ []) ∙ rw (h, no_slash_digit (48 + n % 10) (omega arith)) refl)

-- a post's selector behind `post/`
abbrev behind_post : List ℕ → ℕ → List ℕ
behind_post board n = board ++ codes "/" ++ decimal n

post_cut : (board : List ℕ) (n : ℕ) → n < 2 ^ 64 → IsCut (behind_post board n) board (decimal n)
post_cut board n fits = record { parts = append_assoc board (codes "/") (decimal n); last = no_slash_number n fits }

-- the parts of a post's selector are its board and its number
pub named_parts : (name front behind board : List ℕ) (n : ℕ) → n < 2 ^ 64 → name ≡ post_selector board n → IsCut (drop 5 name) front behind → (front ≡ board) × (behind ≡ decimal n)
named_parts name front behind board n fits named cut =
    let rest : drop 5 name ≡ behind_post board n = ap (drop 5) named in
    let own = post_cut board n fits in
    one_cut front board behind (decimal n) (sym cut.parts ∙ rest ∙ own.parts) cut.last own.last

-- posts of different boards, or of different numbers, have different selectors
pub one_post : (a b : List ℕ) (m n : ℕ) → m < 2 ^ 64 → n < 2 ^ 64 → post_selector a m ≡ post_selector b n → (a ≡ b) × (m ≡ n)
one_post a b m n fits fits' same =
    let cut = post_cut a m fits in
    let parts = named_parts (post_selector a m) a (decimal m) b n fits' same cut in
    (parts.0, decimal_injective m n fits fits' parts.1)

-- ---- the board in a valid name

false_parts : (x y : Bool) → (x || y) ≡ false → (x ≡ false) × (y ≡ false)
false_parts true y h = absurd (cc h)
false_parts false y h = (refl, h)

unnot : (b : Bool) → not b ≡ true → b ≡ false
unnot true h = absurd (cc h)
unnot false h = refl

pub valid_board : (name board : List ℕ) (n : ℕ) → name ≡ post_selector board n → is_field name ≡ true → is_field board ≡ true
valid_board name board n named field =
    let none : list_any is_forbidden (post_selector board n) ≡ false = ap (list_any is_forbidden) (sym named) ∙ unnot (list_any is_forbidden name) field in
    let front = false_parts (list_any is_forbidden (codes "post/" ++ board ++ codes "/")) (list_any is_forbidden (decimal n)) (sym (list_any-append is_forbidden (codes "post/" ++ board ++ codes "/") (decimal n)) ∙ none) in
    let inner = false_parts (list_any is_forbidden (codes "post/" ++ board)) (list_any is_forbidden (codes "/")) (sym (list_any-append is_forbidden (codes "post/" ++ board) (codes "/")) ∙ front.0) in
    let own = false_parts (list_any is_forbidden (codes "post/")) (list_any is_forbidden board) (sym (list_any-append is_forbidden (codes "post/") board) ∙ inner.0) in
    ap not own.1

pub short_board : (name board : List ℕ) (n : ℕ) → name ≡ post_selector board n → length name ≤ 255 → length board ≤ 255
short_board name board n named short =
    omega (arith, ap length named, length-append (codes "post/" ++ board ++ codes "/") (decimal n), length-append (codes "post/" ++ board) (codes "/"), length-append (codes "post/") board)

-- the rest of a slice that is taken apart at its front
pub rest_is : (name : List ℕ) → take (length name - 5) (drop 5 name) ≡ drop 5 name
rest_is name = grind (arith, common_steps)

pub made_of : (name bytes : List ℕ) → Ok name ≡ name_of is_field 255 bytes → name ≡ bytes
made_of name bytes given =
    elim (cases_Bool (nat_lt 255 (length bytes))) [
      | inl long ↦
          let no : Ok name ≡ Err TooLong = given ∙ rw long refl in
          absurd (cc no)
      | inr short ↦ elim (cases_Bool (is_field bytes)) [
        | inl good ↦
            let is : Ok name ≡ Ok bytes = given ∙ rw (short, good) refl in
            cc is
        | inr bad ↦
            let no : Ok name ≡ Err BadName = given ∙ rw (short, bad) refl in
            absurd (cc no)
      ]
    ]

-- ---- texts

no_bytes : (bytes : List ℕ) → (length bytes == 0) ≡ true → bytes ≡ []
no_bytes [] h = refl
no_bytes (b ∷ bytes) h = let none : length (b ∷ bytes) ≡ 0 = eqb-true (length (b ∷ bytes)) 0 h in absurd (omega (arith, none))

pub plain_view : (v : View) (empty : Bool) → v.name ≡ codes "Text/plain" → empty ≡ (length v.language == 0) → Decides empty (v ≡ text_view v.bytes)
plain_view v empty named is = (
  λ yes. let none = no_bytes v.language (sym is ∙ yes) in λ i. record { name = named i; language = none i; bytes = v.bytes },
  λ same. is ∙ ap (λ (w : View). length w.language == 0) same,
)
