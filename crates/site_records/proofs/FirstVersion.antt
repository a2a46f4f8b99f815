-- Records and layouts in version 1 of images.
use Rattle.std.proofs.Common.{◌≡◌, ℕ, ◌+◌, Bool, true, false, cond, List, [], ◌∷◌, ◌++◌, length, map, take, drop, Option, Some, None, refl, sym, ap, ◌∙◌, arith}
use Rattle.std.specs.Prelude.{IsTrue}
use Rattle.std.specs.Int.{w64, to_be_bytes}
use Rattle.std.specs.Option.{option_map}
use Rattle.std.specs.BTreeMap.{is_at}
use Rattle.std.specs.FinMap.{is_sorted}
use Rattle.std.proofs.lemmas.List.{append_assoc, length-append, take_at, drop_at}
use Rattle.host_types.specs.Site.{Site, IsSite, byte_cmp, item_at}
use Rattle.host_types.specs.declared.item.Item.{Item}
use Rattle.site_records.specs.Keys.{item_key}
use Rattle.site_records.specs.Records.{tag_of, until_number, until_bytes, rest_bytes, recorded, record_bytes, record_bytes_v1, item_bytes, item_bytes_v1}
use Rattle.site_records.specs.Layout.{Pairs, is_record_key, lowered, lowered_at, lowered_pair, layout, layout_v1, value_at}
use Rattle.site_records.specs.LayoutLaws.{is_at-Decides, record_in-layout}
use Rattle.site_records.specs.Laws.{FirstLayoutsHold}
use Rattle.site_records.specs.declared.record.Record.{Record}
use Rattle.site_records.proofs.Formats.{wide64}

-- the record without its expiry is that of version 1
pub lowered_record : (r : Record) → lowered (record_bytes r) ≡ record_bytes_v1 r
unfolding record_bytes record_bytes_v1
lowered_record r =
    let front : List ℕ = tag_of r.body ∷ to_be_bytes w64 r.stamp in
    let nine : length front ≡ 9 = omega (arith, wide64.len r.stamp) in
    let seventeen : length (front ++ until_bytes r.until) ≡ 17 = omega (arith, nine, length-append front (until_bytes r.until), wide64.len (until_number r.until)) in
    let first : take 9 ((front ++ until_bytes r.until) ++ rest_bytes r) ≡ front = ap (take 9) (append_assoc front (until_bytes r.until) (rest_bytes r)) ∙ take_at front (until_bytes r.until ++ rest_bytes r) 9 nine in
    let last : drop 17 ((front ++ until_bytes r.until) ++ rest_bytes r) ≡ rest_bytes r = drop_at (front ++ until_bytes r.until) (rest_bytes r) 17 seventeen in
    λ i. first i ++ last i

-- what stands at a key, once it is lowered
pub value_at-lowered : (ps : Pairs) (q : List ℕ) → value_at (map lowered_pair ps) q ≡ option_map (lowered_at q) (value_at ps q)
value_at-lowered [] q = refl
value_at-lowered (p ∷ ps) q =
    elim (is_at (byte_cmp q) p.0) as (λ b. is_at (byte_cmp q) p.0 ≡ b → cond b (Some (lowered_at p.0 p.1)) (value_at (map lowered_pair ps) q) ≡ option_map (lowered_at q) (cond b (Some p.1) (value_at ps q))) [
      | true ↦ λ t. ap (λ (k : List ℕ). Some (lowered_at k p.1)) (sym ((is_at-Decides q p.0).0 t))
      | false ↦ λ t. value_at-lowered ps q
    ] refl

lowered_items : (selector : List ℕ) (o : Option Item) → option_map (lowered_at (item_key selector)) (option_map item_bytes o) ≡ option_map item_bytes_v1 o
lowered_items selector None = refl
lowered_items selector (Some item) = ap (λ (bytes : List ℕ). Some bytes) (lowered_record (recorded item))

as_it_was : (q : List ℕ) (o : Option (List ℕ)) → is_record_key q ≡ false → option_map (lowered_at q) o ≡ o
as_it_was q None other = refl
as_it_was q (Some value) other = rw other refl

pub first_layouts : FirstLayoutsHold
first_layouts s site = record {
  records = λ selector. value_at-lowered (layout s) (item_key selector) ∙ ap (option_map (lowered_at (item_key selector))) (record_in-layout s selector site.sorted) ∙ lowered_items selector (item_at s selector);
  others = λ key other. value_at-lowered (layout s) key ∙ as_it_was key (value_at (layout s) key) other;
}
