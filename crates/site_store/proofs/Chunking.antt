-- Cards, and chunks of views.
use Rattle.std.proofs.Common.{◌≡◌, ◌⊎◌, ℕ, zero, suc, ◌*◌, ◌<◌, ◌≤◌, ◌^◌, Bool, true, false, cond, List, [], ◌∷◌, length, map, take, drop, Option, Some, None, refl, inl, inr, sym, ap, ◌∙◌, arith}
use Rattle.std.specs.Prelude.{nat_lt, slice_get, slice_index, ◌==◌, ◌&&◌}
use Rattle.std.specs.Option.{option_map}
use Rattle.std.proofs.lemmas.Bool.{cases_lt, lt-ltb, le-ltb}
use Rattle.std.proofs.lemmas.List.{drop_all, length-take-le}
use Rattle.std.proofs.Props.{props}
use mathlib.Core.Logic.{∥∥₁_elim}
use Rattle.host_types.specs.Card.{card_of, card_body, card_at, viewed, viewed_in, viewed_at, bytes_of, chunk_of}
use Rattle.host_types.specs.Items.{view_bytes, most_view_bytes}
use Rattle.std.proofs.lemmas.List.Sums.{sum_by-cons}
use Rattle.host_types.specs.Site.{Site, IsSite, item_at}
use Rattle.host_types.specs.Standing.{limits_at, HasViewLimits, HasBodyLimits}
use Rattle.host_types.specs.declared.view.View.{View}
use Rattle.host_types.specs.declared.view.Kind.{Kind}
use Rattle.host_types.specs.declared.card.CardBody.{CardBody}
use Rattle.host_types.specs.declared.item.Item.{Item}
use Rattle.host_types.specs.declared.item.Body.{Body}
use Rattle.host_types.specs.declared.item.Body.TheVariants as bodies
use Rattle.page_store.specs.Batch.{value_at}
use Rattle.page_store.specs.StoreState.{StoreState}
use Rattle.site_records.specs.Keys.{item_key, chunk_key}
use Rattle.site_records.specs.Layout.{chunk_in, kept_chunk}
use Rattle.site_records.specs.Records.{recorded, recorded_body, record_bytes, tag_of, item_bytes, parts_of}
use Rattle.site_records.specs.declared.record.Record.{Record}
use Rattle.site_store.specs.Represented.{RepresentedBy}
use Rattle.site_store.specs.StoreReads.{is_views, is_document}
use Rattle.site_store.proofs.FoundItems.{kept_record}
use Rattle.site_store.proofs.DecodedViews.{kept_at, kept_parts}

pub whole_card : (s : Site) (selector : List ℕ) (r : Record) (body : CardBody) (item : Item) → item_at s selector ≡ Some item → r ≡ recorded item → body ≡ card_body item.body → Some (record { title = r.title; stamp = r.stamp; until = r.until; summary = r.summary; body = body }) ≡ card_at s selector
whole_card s selector r body item stands is body_is =
    (λ i. Some (record { title = (is i).title; stamp = (is i).stamp; until = (is i).until; summary = (is i).summary; body = body_is i })) ∙ ap (option_map card_of) (sym stands)

-- ---- documents

first_byte : (b x : ℕ) (xs ys : List ℕ) → x ∷ xs ≡ b ∷ ys → x ≡ b
first_byte b x xs ys e = cc e

-- a record's first byte tells whether its item is a document
tag_tells : (item : Item) (n : ℕ) (buffer : List ℕ) → take n buffer ≡ item_bytes item → (nat_lt 0 n && (slice_index buffer 0 == 86)) ≡ is_views item.body
unfolding record_bytes
tag_tells item zero buffer e = absurd (cc e)
tag_tells item (suc n) [] e = absurd (cc e)
tag_tells item (suc n) (x ∷ xs) e = by_body item.body (first_byte _ x (take n xs) _ e)
  where
    by_body : (body : Body) → x ≡ tag_of (recorded_body body) → (nat_lt 0 (suc n) && (x == 86)) ≡ is_views body
    by_body (bodies.Views kind views) h = rw (lt-ltb 0 (suc n) (omega arith), h) refl
    by_body (bodies.Menu es) h = rw (lt-ltb 0 (suc n) (omega arith), h) refl
    by_body (bodies.Board cap next) h = rw (lt-ltb 0 (suc n) (omega arith), h) refl
    by_body (bodies.Form board qs) h = rw (lt-ltb 0 (suc n) (omega arith), h) refl
    by_body (bodies.Search scope) h = rw (lt-ltb 0 (suc n) (omega arith), h) refl
    by_body (bodies.Moved target) h = rw (lt-ltb 0 (suc n) (omega arith), h) refl

pub document_found : (h : StoreState) (s : Site) (selector key : List ℕ) (n : ℕ) (buffer : List ℕ) → RepresentedBy h s → key ≡ item_key selector → Some (take n buffer) ≡ value_at h.pairs key → (nat_lt 0 n && (slice_index buffer 0 == 86)) ≡ is_document (item_at s selector)
document_found h s selector key n buffer kept is value = by_item (item_at s selector) (value ∙ ap (value_at h.pairs) is ∙ kept_record h s selector kept)
  where
    by_item : (o : Option Item) → Some (take n buffer) ≡ option_map item_bytes o → (nat_lt 0 n && (slice_index buffer 0 == 86)) ≡ is_document o
    by_item None e = absurd (cc e)
    by_item (Some item) e = tag_tells item n buffer (cc e)

pub no_document : (h : StoreState) (s : Site) (selector key : List ℕ) → RepresentedBy h s → key ≡ item_key selector → None ≡ value_at h.pairs key → false ≡ is_document (item_at s selector)
no_document h s selector key kept is value = by_item (item_at s selector) (value ∙ ap (value_at h.pairs) is ∙ kept_record h s selector kept)
  where
    by_item : (o : Option Item) → None ≡ option_map item_bytes o → false ≡ is_document o
    by_item None e = refl
    by_item (Some item) e = absurd (cc e)

-- ---- chunks

none_of : (k : ℕ) → chunk_of [] k ≡ []
unfolding chunk_of
none_of k = ap (take 1000) (drop_all (1000 * k) [] (omega arith))

past : (bytes : List ℕ) (k : ℕ) → length bytes ≤ 1000 * k → chunk_of bytes k ≡ []
unfolding chunk_of
past bytes k over = ap (take 1000) (drop_all (1000 * k) bytes over)

-- what is no document has no views
no_views : (o : Option Item) (view : ℕ) → is_document o ≡ false → viewed_in o view ≡ []
no_views None view h = refl
no_views (Some item) view h = by_body item.body h
  where
    by_body : (body : Body) → is_views body ≡ false → viewed body view ≡ []
    by_body (bodies.Views kind views) h = absurd (cc h)
    by_body (bodies.Menu es) h = refl
    by_body (bodies.Board cap next) h = refl
    by_body (bodies.Form board qs) h = refl
    by_body (bodies.Search scope) h = refl
    by_body (bodies.Moved target) h = refl

-- and so no chunks
pub no_chunk : (s : Site) (selector : List ℕ) (view k : ℕ) → is_document (item_at s selector) ≡ false → chunk_of (viewed_at s selector view) k ≡ []
no_chunk s selector view k h = ap (λ (b : List ℕ). chunk_of b k) (no_views (item_at s selector) view h) ∙ none_of k

-- what has bytes to view is a document
pub has_bytes : (s : Site) (selector : List ℕ) (view : ℕ) → (viewed_at s selector view ≡ [] → ⊥) → is_document (item_at s selector) ≡ true
has_bytes s selector view some = by (is_document (item_at s selector)) refl
  where
    by : (b : Bool) → is_document (item_at s selector) ≡ b → is_document (item_at s selector) ≡ true
    by true e = e
    by false e = absurd (some (no_views (item_at s selector) view e))

slice_map : (views : List View) (i : ℕ) → slice_get (map (λ (v : View). v.bytes) views) i ≡ option_map (λ (v : View). v.bytes) (slice_get views i)
slice_map [] i = refl
slice_map (v ∷ vs) zero = refl
slice_map (v ∷ vs) (suc i) = slice_map vs i

-- the bytes that were found, or none
abbrev pub value_of : Option (List ℕ) → List ℕ
value_of None = []
value_of (Some bytes) = bytes

in_view : (o : Option View) (k : ℕ) → value_of (chunk_in (option_map (λ (v : View). v.bytes) o) k) ≡ chunk_of (bytes_of o) k
in_view None k = sym (none_of k)
in_view (Some v) k = elim (cases_lt (1000 * k) (length v.bytes)) [
  | inl less ↦ ap (λ (b : Bool). value_of (cond b (Some (chunk_of v.bytes k)) None)) (lt-ltb (1000 * k) (length v.bytes) less)
  | inr over ↦ ap (λ (b : Bool). value_of (cond b (Some (chunk_of v.bytes k)) None)) (le-ltb (1000 * k) (length v.bytes) over) ∙ sym (past v.bytes k over)
]

-- a document's chunk is what stands at its key
pub one_chunk : (h : StoreState) (s : Site) (selector key : List ℕ) (view k : ℕ) (value : Option (List ℕ)) → RepresentedBy h s → is_document (item_at s selector) ≡ true → key ≡ chunk_key selector view k → k < 2 ^ 16 → value ≡ value_at h.pairs key → value_of value ≡ chunk_of (viewed_at s selector view) k
one_chunk h s selector key view k value kept document is fits found =
    elim (item_at s selector) as (λ o. item_at s selector ≡ o → is_document o ≡ true → value_of value ≡ chunk_of (viewed_in o view) k) [
      | None ↦ λ e d. absurd (cc d)
      | Some item ↦ λ e d. by_body item.body d (found ∙ ap (value_at h.pairs) is ∙ kept_parts h s selector item kept e view k fits)
    ] refl document
  where
    by_body : (body : Body) → is_views body ≡ true → value ≡ chunk_in (slice_get (parts_of body) view) k → value_of value ≡ chunk_of (viewed body view) k
    by_body (bodies.Views kind views) d e = ap value_of e ∙ ap (λ (o : Option (List ℕ)). value_of (chunk_in o k)) (slice_map views view) ∙ in_view (slice_get views view) k
    by_body (bodies.Menu es) d e = absurd (cc d)
    by_body (bodies.Board cap next) d e = absurd (cc d)
    by_body (bodies.Form board qs) d e = absurd (cc d)
    by_body (bodies.Search scope) d e = absurd (cc d)
    by_body (bodies.Moved target) d e = absurd (cc d)

slice_out : (views : List View) (i : ℕ) → length views ≤ i → slice_get views i ≡ None
slice_out [] i h = refl
slice_out (v ∷ vs) zero h = absurd (omega (arith, h))
slice_out (v ∷ vs) (suc i) h = slice_out vs i (omega (arith, h))

short_view : (views : List View) (i most : ℕ) → view_bytes views ≤ most → length (bytes_of (slice_get views i)) ≤ most
short_view [] i most h = omega arith
short_view (v ∷ vs) zero most h = omega (arith, h, sum_by-cons (λ (w : View). length w.bytes) v vs)
short_view (v ∷ vs) (suc i) most h = short_view vs i most (omega (arith, h, sum_by-cons (λ (w : View). length w.bytes) v vs))

-- no item has so many views, and no view so many chunks
pub far_chunk : (s : Site) (selector : List ℕ) (view k : ℕ) → ∥ IsSite s ∥₁ → (255 < view) ⊎ (65535 < k) → chunk_of (viewed_at s selector view) k ≡ []
unfolding most_view_bytes
far_chunk s selector view k site far =
    elim (item_at s selector) as (λ o. item_at s selector ≡ o → chunk_of (viewed_in o view) k ≡ []) [
      | None ↦ λ e. none_of k
      | Some item ↦ λ e. let prop : IsProp (chunk_of (viewed item.body view) k ≡ []) = hlevel props in ∥∥₁_elim site prop (λ h. by_body item.body (limits_at s selector item h e).body)
    ] refl
  where
    by_views : (kind : Kind) (views : List View) → HasViewLimits views → chunk_of (viewed (bodies.Views kind views) view) k ≡ []
    by_views kind views limits = elim far [
      | inl v ↦ ap (λ (o : Option View). chunk_of (bytes_of o) k) (slice_out views view (let m = limits.most in omega (arith, v, m))) ∙ none_of k
      | inr more ↦ past (bytes_of (slice_get views view)) k (let b = short_view views view 262144 limits.bytes in omega (arith, b, more))
    ]

    by_body : (body : Body) → HasBodyLimits selector body → chunk_of (viewed body view) k ≡ []
    by_body (bodies.Views kind views) limits = by_views kind views limits
    by_body (bodies.Menu es) limits = none_of k
    by_body (bodies.Board cap next) limits = none_of k
    by_body (bodies.Form board qs) limits = none_of k
    by_body (bodies.Search scope) limits = none_of k
    by_body (bodies.Moved target) limits = none_of k

length_of_chunk : (bytes : List ℕ) (k : ℕ) → length (chunk_of bytes k) ≤ 1000
unfolding chunk_of
length_of_chunk bytes k = within 1000 (drop (1000 * k) bytes)
  where
    within : (n : ℕ) (xs : List ℕ) → length (take n xs) ≤ n
    within zero xs = omega arith
    within (suc n) [] = omega arith
    within (suc n) (x ∷ xs) = let h = within n xs in omega (arith, h)

-- no chunk is longer than 1,000 bytes
pub long_found : (bytes found : List ℕ) (n k : ℕ) → n ≤ length found → take n found ≡ chunk_of bytes k → 1000 < n → ⊥
long_found bytes found n k fits is long =
    let a = length-take-le n found fits in
    let b = length_of_chunk bytes k in
    let e = ap length is in
    omega (arith, a, b, e, long)

-- whatever stands at a chunk's key is no longer either
pub long_value : (h : StoreState) (s : Site) (selector key found : List ℕ) (view k n : ℕ) → RepresentedBy h s → key ≡ chunk_key selector view k → k < 2 ^ 16 → n ≤ length found → Some (take n found) ≡ value_at h.pairs key → 1000 < n → ⊥
long_value h s selector key found view k n kept is fits within value long =
    by_item (item_at s selector) (value ∙ ap (value_at h.pairs) is ∙ kept_at h s selector kept view k fits)
  where
    by_bytes : (part : List ℕ) (b : Bool) → Some (take n found) ≡ cond b (Some (chunk_of part k)) None → ⊥
    by_bytes part true e = long_found part found n k within (cc e) long
    by_bytes part false e = absurd (cc e)

    by_part : (o : Option (List ℕ)) → Some (take n found) ≡ chunk_in o k → ⊥
    by_part None e = absurd (cc e)
    by_part (Some part) e = by_bytes part (nat_lt (1000 * k) (length part)) e

    by_item : (o : Option Item) → Some (take n found) ≡ kept_chunk o view k → ⊥
    by_item None e = absurd (cc e)
    by_item (Some item) e = by_part (slice_get (parts_of item.body) view) e
