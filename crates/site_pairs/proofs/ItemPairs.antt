-- The pairs of an item, one after another.
use Rattle.std.proofs.Common.{◌≡◌, ℕ, zero, suc, ◌+◌, ◌-◌, ◌<◌, List, [], ◌∷◌, ◌++◌, length, map, Some, None, refl, sym, ap, ◌∙◌, append_assoc, arith}
use Rattle.std.proofs.Common.{◌≤◌, false}
use Rattle.std.specs.Prelude.{All, IsTrue, nat_lt, slice_index_or}
use Rattle.std.proofs.lemmas.Bool.{or_parts, not-true, ltb-false}
use Rattle.std.proofs.lemmas.List.Sums.{sum_by-cons}
use Rattle.std.proofs.lemmas.List.{length-map}
use Rattle.host_types.specs.Items.{view_bytes, most_view_bytes, is_long_body}
use Rattle.host_types.specs.declared.view.View.{View}
use Rattle.host_types.specs.declared.view.Kind.{Kind}
use Rattle.host_types.specs.declared.item.Body.{Body}
use Rattle.host_types.specs.declared.item.Body.TheVariants.{Views}
use Rattle.site_records.specs.Limits.{is_short_body}
use Rattle.site_pairs.specs.Edits.{Edits, with_edit, with_all, without_all}
use Rattle.host_types.specs.Card.{chunk_of}
use Rattle.site_records.specs.Keys.{chunk_key}
use Rattle.site_records.specs.Layout.{LayoutPair, Pairs, chunk_pairs}

pub next_chunk : (front all : Pairs) (selector : List ℕ) (v : ℕ) (part : List ℕ) (n k : ℕ) (p : LayoutPair) → k < n → p ≡ (chunk_key selector v k, chunk_of part k) → front ++ chunk_pairs selector v part (n - k) k ≡ all → (front ++ p ∷ []) ++ chunk_pairs selector v part (n - (k + 1)) (k + 1) ≡ all
next_chunk front all selector v part n k p lt is whole =
    let rest = chunk_pairs selector v part (n - (k + 1)) (k + 1) in
    let more : n - k ≡ suc (n - (k + 1)) = omega (arith, lt) in
    append_assoc front (p ∷ []) rest ∙ ap (λ (q : LayoutPair). front ++ q ∷ rest) is ∙ ap (λ (m : ℕ). front ++ chunk_pairs selector v part m k) (sym more) ∙ whole

pub put_last : (edits all : Edits) (ps qs : Pairs) (p : LayoutPair) → ps ≡ qs ++ p ∷ [] → with_all edits ps ≡ all → with_all (with_edit edits p.0 (Some p.1)) qs ≡ all
put_last edits all ps qs p is whole = sym (last qs) ∙ ap (with_all edits) (sym is) ∙ whole
  where
    last : (xs : Pairs) → with_all edits (xs ++ p ∷ []) ≡ with_all (with_edit edits p.0 (Some p.1)) xs
    last [] = refl
    last (x ∷ xs) = ap (λ (e : Edits). with_edit e x.0 (Some x.1)) (last xs)

pub drop_last : (edits all : Edits) (ps qs : Pairs) (p : LayoutPair) → ps ≡ qs ++ p ∷ [] → without_all edits ps ≡ all → without_all (with_edit edits p.0 None) qs ≡ all
drop_last edits all ps qs p is whole = sym (last qs) ∙ ap (without_all edits) (sym is) ∙ whole
  where
    last : (xs : Pairs) → without_all edits (xs ++ p ∷ []) ≡ without_all (with_edit edits p.0 None) xs
    last [] = refl
    last (x ∷ xs) = ap (λ (e : Edits). with_edit e x.0 None) (last xs)

-- ---- sizes of parts

pub short_views : (views : List View) → view_bytes views ≤ 262144 → All (λ p. length p ≤ 262144) (map (λ (v : View). v.bytes) views)
short_views views fits k d less = each views 262144 k d fits less
  where
    each : (vs : List View) (most k : ℕ) (d : List ℕ) → view_bytes vs ≤ most → k < length (map (λ (v : View). v.bytes) vs) → length (slice_index_or (map (λ (v : View). v.bytes) vs) k d) ≤ most
    each [] most k d fits less = absurd (omega (arith, less))
    each (v ∷ vs) most zero d fits less = omega (arith, fits, sum_by-cons (λ (w : View). length w.bytes) v vs)
    each (v ∷ vs) most (suc k) d fits less = each vs most k d (omega (arith, fits, sum_by-cons (λ (w : View). length w.bytes) v vs)) (omega (arith, less))

pub short_one : (part : List ℕ) → length part ≤ 262144 → All (λ p. length p ≤ 262144) (part ∷ [])
short_one part fits zero d less = fits
short_one part fits (suc k) d less = absurd (omega (arith, less))

-- what is known of the views of a body that is not too long
pub few_bytes : (body : Body) (kind : Kind) (views : List View) → body ≡ Views kind views → IsTrue (is_short_body body) → view_bytes views ≤ 262144
unfolding most_view_bytes
few_bytes body kind views is short =
    let long : is_long_body [] (Views kind views) ≡ false = ap (is_long_body []) (sym is) ∙ not-true (is_long_body [] body) short in
    let sizes = or_parts (nat_lt 8 (length views)) _ long in
    let bytes = or_parts (nat_lt 262144 (view_bytes views)) _ sizes.1 in
    ltb-false 262144 (view_bytes views) bytes.0

pub few_views : (body : Body) (kind : Kind) (views : List View) → body ≡ Views kind views → IsTrue (is_short_body body) → length (map (λ (v : View). v.bytes) views) ≤ 8
few_views body kind views is short =
    let long : is_long_body [] (Views kind views) ≡ false = ap (is_long_body []) (sym is) ∙ not-true (is_long_body [] body) short in
    let sizes = or_parts (nat_lt 8 (length views)) _ long in
    let few = ltb-false 8 (length views) sizes.0 in
    omega (arith, few, length-map views (λ (v : View). v.bytes))
