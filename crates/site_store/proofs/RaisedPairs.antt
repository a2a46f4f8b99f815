-- The pairs of version 2 that are made of those of version 1.
use Rattle.std.proofs.Common.{◌≡◌, ℕ, Bool, true, false, cond, List, [], ◌∷◌, ◌++◌, length, map, Option, Some, None, refl, sym, ap, subst, ◌∙◌, zero, suc, ◌+◌}
use Rattle.std.specs.Prelude.{IsTrue, ◌&&◌, is_none, flat_map}
use Rattle.std.specs.List.{AllByRecursion}
use Rattle.std.specs.Option.{option_map}
use Rattle.std.specs.declared.cmp.Ordering.{Ordering}
use Rattle.std.specs.declared.cmp.Ordering.TheVariants.{Less, Equal, Greater}
use Rattle.std.specs.Ordering.{is_eq, is_lt, match_ordering}
use Rattle.std.specs.BTreeMap.{insert_entry, is_at}
use Rattle.std.specs.FinMap.{is_sorted, slice_cmp-IsAntisymmetric, nat_cmp-IsAntisymmetric}
use Rattle.std.specs.FinMap.Entries.{below_all}
use Rattle.std.proofs.lemmas.Bool.{and_parts}
use Rattle.host_types.specs.Items.{is_valid_item}
use Rattle.host_types.specs.Site.{Site, IsSite, byte_cmp, item_at}
use Rattle.host_types.specs.SiteLaws.{same_pairs}
use Rattle.host_types.specs.Words.{words_of}
use Rattle.host_types.specs.declared.item.Item.{Item}
use Rattle.mem_site.proofs.WholeSites.{all_stand}
use Rattle.page_store.specs.Batch.{updated}
use Rattle.site_records.specs.Keys.{item_key}
use Rattle.site_records.specs.Records.{parts_of, recorded, recorded_body, record_bytes, record_bytes_v1, item_bytes}
use Rattle.site_records.specs.Limits.{is_small, is_record, is_record_v1}
use Rattle.site_records.specs.Layout.{LayoutPair, Pairs, chunk_count, chunk_pairs, part_pairs, word_pairs, item_pairs, in_order, all_pairs, layout, layout_v1, value_at, is_record_key, lowered, lowered_at, lowered_pair}
use Rattle.site_records.specs.LayoutLaws.{is_at-Decides, record_in-layout, is_sorted-layout}
use Rattle.site_records.specs.declared.record.Record.{Record}
use Rattle.site_records.proofs.RecordLaws.{same_record, record_again_v1}
use Rattle.site_records.proofs.Sizes.{item_record}
use Rattle.site_records.proofs.FirstVersion.{lowered_record}
use Rattle.site_records.specs.Reading.{record_at_v1}
use Rattle.site_pairs.specs.Edits.{Edits, batch_of}
use Rattle.site_pairs.proofs.EditValues.{Value, edit_at}
use Rattle.site_store.specs.Upgrading.{is_first, IsRaised, IsRaisedAt, IsRaisedPair, AreRaised, record_edits}
use Rattle.site_store.proofs.EditsMakeLayouts.{after, sorted_updated, updated-at}

-- ---- lowered again

lowered_again : (key old new : List ℕ) → IsRaisedAt (is_record_key key) old new → lowered_at key new ≡ old
lowered_again key old new raised =
    elim (is_record_key key) as (λ b. IsRaisedAt b old new → cond b (lowered new) new ≡ old) [
      | true ↦ λ r. ap lowered r.new_is ∙ lowered_record r.kept ∙ sym r.old_is
      | false ↦ λ same. same
    ] raised

pub lowers : (ps qs : Pairs) → AreRaised ps qs → map lowered_pair qs ≡ ps
lowers [] [] h = refl
lowers [] (q ∷ qs) h = absurd h
lowers (p ∷ ps) [] h = absurd h
lowers (p ∷ ps) (q ∷ qs) h =
    let value : lowered_at q.0 q.1 ≡ p.1 = ap (λ (k : List ℕ). lowered_at k q.1) h.0.0 ∙ lowered_again p.0 p.1 q.1 h.0.1 in
    λ i. (h.0.0 i, value i) ∷ lowers ps qs h.1 i

-- pairs whose raised ones are a layout are the layout of version 1
pub first_layout : (ps qs : Pairs) (s : Site) → AreRaised ps qs → qs ≡ layout s → ps ≡ layout_v1 s
first_layout ps qs s raised is = sym (lowers ps qs raised) ∙ ap (map lowered_pair) is

-- ---- records of version 1 are those of items that never expire

raised_there : (ps qs : Pairs) (key v : List ℕ) → AreRaised ps qs → is_record_key key ≡ true → value_at qs key ≡ Some v → (old : List ℕ) × IsRaised old v
raised_there [] [] key v h record_is there = absurd (cc there)
raised_there [] (q ∷ qs) key v h record_is there = absurd h
raised_there (p ∷ ps) [] key v h record_is there = absurd h
raised_there (p ∷ ps) (q ∷ qs) key v h record_is there =
    elim (is_at (byte_cmp key) q.0) as (λ b. is_at (byte_cmp key) q.0 ≡ b → cond b (Some q.1) (value_at qs key) ≡ Some v → (old : List ℕ) × IsRaised old v) [
      | true ↦ λ t some.
          let key_is : key ≡ p.0 = (is_at-Decides key q.0).0 t ∙ h.0.0 in
          let value : q.1 ≡ v = cc some in
          let is : is_record_key p.0 ≡ true = sym (ap is_record_key key_is) ∙ record_is in
          (p.1, subst (λ (w : List ℕ). IsRaised p.1 w) value (subst (λ (b : Bool). IsRaisedAt b p.1 q.1) is h.0.1))
      | false ↦ λ t more. raised_there ps qs key v h.1 record_is more
    ] refl there

-- the item of a record that was raised
first_item : (selector : List ℕ) (item : Item) (old : List ℕ) → IsTrue (is_valid_item selector item) → IsRaised old (item_bytes item) → IsTrue (is_first item)
first_item selector item old valid raised =
    let parts = and_parts (is_record raised.kept) (is_none raised.kept.until && is_small raised.kept.body) raised.valid in
    let same : recorded item ≡ raised.kept = same_record (recorded item) raised.kept (item_record selector item valid) parts.0 raised.new_is in
    ap (λ (r : Record). is_none r.until && is_small r.body) same ∙ parts.1

firsts : (s : Site) (es : List (List ℕ × Item)) (ps qs : Pairs) → IsSite s → AreRaised ps qs → qs ≡ layout s → AllByRecursion (λ e. item_at s e.0 ≡ Some e.1) es → AllByRecursion (λ e. IsTrue (is_first e.1)) es
firsts s [] ps qs site raised is stand = tt
firsts s (e ∷ es) ps qs site raised is stand =
    let there : value_at qs (item_key e.0) ≡ Some (item_bytes e.1) = ap (λ (l : Pairs). value_at l (item_key e.0)) is ∙ record_in-layout s e.0 site.sorted ∙ ap (option_map item_bytes) stand.0 in
    let found = raised_there ps qs (item_key e.0) (item_bytes e.1) raised refl there in
    (first_item e.0 e.1 found.0 (site.each e.0 e.1 stand.0).valid found.1, firsts s es ps qs site raised is stand.1)

pub all_first : (s : Site) (ps qs : Pairs) → IsSite s → AreRaised ps qs → qs ≡ layout s → AllByRecursion (λ e. IsTrue (is_first e.1)) s.items
all_first s ps qs site raised is = firsts s s.items ps qs site raised is (all_stand s.items site.sorted)

-- ---- a layout of version 1 can be raised

-- the record of an item that version 1 knows
pub record IsKnown (value : List ℕ) : Type 0 where
  item : Item
  valid : IsTrue (is_record (recorded item))
  first : IsTrue (is_first item)
  bytes : value ≡ item_bytes item

abbrev IsKnownAt : (changes : Bool) → List ℕ → Type 0
IsKnownAt true value = IsKnown value
IsKnownAt false value = Unit {0}

abbrev AreKnown : Pairs → Type 0
AreKnown ps = AllByRecursion (λ p. IsKnownAt (is_record_key p.0) p.1) ps

known_append : (ps qs : Pairs) → AreKnown ps → AreKnown qs → AreKnown (ps ++ qs)
known_append [] qs g h = h
known_append (p ∷ ps) qs g h = (g.0, known_append ps qs g.1 h)

known_chunks : (selector : List ℕ) (v : ℕ) (part : List ℕ) (n k : ℕ) → AreKnown (chunk_pairs selector v part n k)
known_chunks selector v part zero k = tt
known_chunks selector v part (suc n) k = (tt, known_chunks selector v part n (k + 1))

known_parts : (selector : List ℕ) (v : ℕ) (parts : List (List ℕ)) → AreKnown (part_pairs selector v parts)
known_parts selector v [] = tt
known_parts selector v (part ∷ parts) = known_append (chunk_pairs selector v part (chunk_count (length part)) 0) (part_pairs selector (v + 1) parts) (known_chunks selector v part (chunk_count (length part)) 0) (known_parts selector (v + 1) parts)

known_words : (selector : List ℕ) (words : List (List ℕ)) → AreKnown (word_pairs selector words)
known_words selector [] = tt
known_words selector (w ∷ words) = (tt, known_words selector words)

known_item : (selector : List ℕ) (item : Item) → IsTrue (is_valid_item selector item) → IsTrue (is_first item) → AreKnown (item_pairs selector item)
unfolding item_pairs
known_item selector item valid first = (
  record { item = item; valid = item_record selector item valid; first = first; bytes = refl },
  known_append (part_pairs selector 0 (parts_of item.body)) (word_pairs selector (words_of item)) (known_parts selector 0 (parts_of item.body)) (known_words selector (words_of item)),
)

known_all : (s : Site) (es : List (List ℕ × Item)) → IsSite s → AllByRecursion (λ e. item_at s e.0 ≡ Some e.1) es → AllByRecursion (λ e. IsTrue (is_first e.1)) es → AreKnown (flat_map (λ e. item_pairs e.0 e.1) es)
known_all s [] site stand first = tt
known_all s (e ∷ es) site stand first = known_append (item_pairs e.0 e.1) (flat_map (λ e. item_pairs e.0 e.1) es) (known_item e.0 e.1 (site.each e.0 e.1 stand.0).valid first.0) (known_all s es site stand.1 first.1)

known_insert : (ps : Pairs) (k v : List ℕ) → IsKnownAt (is_record_key k) v → AreKnown ps → AreKnown (insert_entry byte_cmp ps k v)
known_insert [] k v known all = (known, tt)
known_insert (p ∷ ps) k v known all =
    elim (byte_cmp k p.0) as (λ (o : Ordering). byte_cmp k p.0 ≡ o → AreKnown (match_ordering o ((k, v) ∷ p ∷ ps) ((p.0, v) ∷ ps) (p ∷ insert_entry byte_cmp ps k v))) [
      | Less ↦ λ t. (known, (all.0, all.1))
      | Equal ↦ λ t. (subst (λ (key : List ℕ). IsKnownAt (is_record_key key) v) (slice_cmp-IsAntisymmetric nat_cmp-IsAntisymmetric k p.0 t) known, all.1)
      | Greater ↦ λ t. (all.0, known_insert ps k v known all.1)
    ] refl

known_in_order : (ps : Pairs) → AreKnown ps → AreKnown (in_order ps)
known_in_order [] all = tt
known_in_order (p ∷ ps) all = known_insert (in_order ps) p.0 p.1 all.0 (known_in_order ps all.1)

raised_known : (ps : Pairs) → AreKnown ps → AreRaised (map lowered_pair ps) ps
raised_known [] all = tt
raised_known (p ∷ ps) all = (
  (
    refl,
    elim (is_record_key p.0) as (λ b. IsKnownAt b p.1 → IsRaisedAt b (cond b (lowered p.1) p.1) p.1) [
      | true ↦ λ known.
          let parts : IsTrue (is_first known.item) = known.first in
          record {
            kept = recorded known.item;
            valid = rw (known.valid, parts) refl;
            old_is = ap lowered known.bytes ∙ lowered_record (recorded known.item);
            new_is = known.bytes;
          }
      | false ↦ λ _. refl
    ] all.0,
  ),
  raised_known ps all.1,
)

-- The layout of version 1 of a site that it knows is raised to the layout.
pub raises : (s : Site) → IsSite s → AllByRecursion (λ e. IsTrue (is_first e.1)) s.items → AreRaised (layout_v1 s) (layout s)
unfolding layout
raises s site first = raised_known (layout s) (known_in_order (all_pairs s) (known_all s s.items site (all_stand s.items site.sorted) first))

-- and to nothing else
same_raised : (old v w : List ℕ) → IsRaised old v → IsRaised old w → v ≡ w
same_raised old v w x y =
    let again : Some x.kept ≡ Some y.kept = sym (record_again_v1 x.kept x.valid) ∙ ap record_at_v1 (sym x.old_is ∙ y.old_is) ∙ record_again_v1 y.kept y.valid in
    let same : x.kept ≡ y.kept = cc again in
    x.new_is ∙ ap record_bytes same ∙ sym y.new_is

same_value : (b : Bool) (old v w : List ℕ) → IsRaisedAt b old v → IsRaisedAt b old w → v ≡ w
same_value true old v w x y = same_raised old v w x y
same_value false old v w x y = x ∙ sym y

pub raised_once : (ps qs rs : Pairs) → AreRaised ps qs → AreRaised ps rs → qs ≡ rs
raised_once [] [] [] g h = refl
raised_once [] [] (r ∷ rs) g h = absurd h
raised_once [] (q ∷ qs) rs g h = absurd g
raised_once (p ∷ ps) [] rs g h = absurd g
raised_once (p ∷ ps) (q ∷ qs) [] g h = absurd h
raised_once (p ∷ ps) (q ∷ qs) (r ∷ rs) g h =
    let key : q.0 ≡ r.0 = g.0.0 ∙ sym h.0.0 in
    let value : q.1 ≡ r.1 = same_value (is_record_key p.0) p.1 q.1 r.1 g.0.1 h.0.1 in
    λ i. (key i, value i) ∷ raised_once ps qs rs g.1 h.1 i

-- ---- the batch

edits_below : (k : List ℕ) (ps : Pairs) → below_all byte_cmp k ps ≡ true → below_all byte_cmp k (record_edits ps) ≡ true
edits_below k [] h = refl
edits_below k (p ∷ ps) h =
    let parts = and_parts (is_lt (byte_cmp k p.0)) (below_all byte_cmp k ps) h in
    let rest = edits_below k ps parts.1 in
    elim (is_record_key p.0) as (λ b. below_all byte_cmp k (cond b ((p.0, Some p.1) ∷ record_edits ps) (record_edits ps)) ≡ true) [
      | true ↦ rw (parts.0, rest) refl
      | false ↦ rest
    ]

pub edits_sorted : (ps : Pairs) → is_sorted byte_cmp ps ≡ true → is_sorted byte_cmp (record_edits ps) ≡ true
edits_sorted [] h = refl
edits_sorted (p ∷ ps) h =
    let parts = and_parts (below_all byte_cmp p.0 ps) (is_sorted byte_cmp ps) h in
    let rest = edits_sorted ps parts.1 in
    elim (is_record_key p.0) as (λ b. is_sorted byte_cmp (cond b ((p.0, Some p.1) ∷ record_edits ps) (record_edits ps)) ≡ true) [
      | true ↦ rw (edits_below p.0 ps parts.0, rest) refl
      | false ↦ rest
    ]

below_raised : (k : List ℕ) (ps qs : Pairs) → AreRaised ps qs → below_all byte_cmp k qs ≡ true → below_all byte_cmp k ps ≡ true
below_raised k [] [] h below = refl
below_raised k [] (q ∷ qs) h below = absurd h
below_raised k (p ∷ ps) [] h below = absurd h
below_raised k (p ∷ ps) (q ∷ qs) h below =
    let parts = and_parts (is_lt (byte_cmp k q.0)) (below_all byte_cmp k qs) below in
    let first : is_lt (byte_cmp k p.0) ≡ true = ap (λ (key : List ℕ). is_lt (byte_cmp k key)) (sym h.0.0) ∙ parts.0 in
    rw (first, below_raised k ps qs h.1 parts.1) refl

pub sorted_raised : (ps qs : Pairs) → AreRaised ps qs → is_sorted byte_cmp qs ≡ true → is_sorted byte_cmp ps ≡ true
sorted_raised [] [] h sorted = refl
sorted_raised [] (q ∷ qs) h sorted = absurd h
sorted_raised (p ∷ ps) [] h sorted = absurd h
sorted_raised (p ∷ ps) (q ∷ qs) h sorted =
    let parts = and_parts (below_all byte_cmp q.0 qs) (is_sorted byte_cmp qs) sorted in
    let below : below_all byte_cmp p.0 ps ≡ true = below_raised p.0 ps qs h.1 (ap (λ (key : List ℕ). below_all byte_cmp key qs) (sym h.0.0) ∙ parts.0) in
    rw (below, sorted_raised ps qs h.1 parts.1) refl

-- what the batch makes of a key
made_at : (ps qs : Pairs) (q : List ℕ) → AreRaised ps qs → after (edit_at (record_edits qs) q) (value_at ps q) ≡ value_at qs q
made_at [] [] q h = refl
made_at [] (r ∷ qs) q h = absurd h
made_at (p ∷ ps) [] q h = absurd h
made_at (p ∷ ps) (r ∷ qs) q h =
    let rest = made_at ps qs q h.1 in
    let at : is_at (byte_cmp q) p.0 ≡ is_at (byte_cmp q) r.0 = ap (is_at (byte_cmp q)) (sym h.0.0) in
    let key : is_record_key p.0 ≡ is_record_key r.0 = ap is_record_key (sym h.0.0) in
    ap (λ (b : Bool). after (edit_at (record_edits (r ∷ qs)) q) (cond b (Some p.1) (value_at ps q))) at
    ∙ elim (is_record_key r.0) as (λ b. is_record_key r.0 ≡ b → after (edit_at (cond b ((r.0, Some r.1) ∷ record_edits qs) (record_edits qs)) q) (cond (is_at (byte_cmp q) r.0) (Some p.1) (value_at ps q)) ≡ cond (is_at (byte_cmp q) r.0) (Some r.1) (value_at qs q)) [
      | true ↦ λ t. elim (is_at (byte_cmp q) r.0) as (λ c. after (cond c (Some (Some r.1)) (edit_at (record_edits qs) q)) (cond c (Some p.1) (value_at ps q)) ≡ cond c (Some r.1) (value_at qs q)) [
        | true ↦ refl
        | false ↦ rest
      ]
      | false ↦ λ t.
          let same : r.1 ≡ p.1 = subst (λ (b : Bool). IsRaisedAt b p.1 r.1) (key ∙ t) h.0.1 in
          elim (is_at (byte_cmp q) r.0) as (λ c. is_at (byte_cmp q) r.0 ≡ c → after (edit_at (record_edits qs) q) (cond c (Some p.1) (value_at ps q)) ≡ cond c (Some r.1) (value_at qs q)) [
            | true ↦ λ u.
                let none : edit_at (record_edits qs) q ≡ None = no_edit qs q (ap is_record_key ((is_at-Decides q r.0).0 u) ∙ t) in
                ap (λ (o : Option Value). after o (Some p.1)) none ∙ ap (λ (v : List ℕ). Some v) (sym same)
            | false ↦ λ u. rest
          ] refl
    ] refl
  where
    no_edit : (qs : Pairs) (q : List ℕ) → is_record_key q ≡ false → edit_at (record_edits qs) q ≡ None
    no_edit [] q other = refl
    no_edit (r ∷ qs) q other =
        elim (is_record_key r.0) as (λ b. is_record_key r.0 ≡ b → edit_at (cond b ((r.0, Some r.1) ∷ record_edits qs) (record_edits qs)) q ≡ None) [
          | true ↦ λ t.
              elim (is_at (byte_cmp q) r.0) as (λ c. is_at (byte_cmp q) r.0 ≡ c → cond c (Some (Some r.1)) (edit_at (record_edits qs) q) ≡ None) [
                | true ↦ λ u. absurd (let clash : true ≡ false = sym t ∙ ap is_record_key (sym ((is_at-Decides q r.0).0 u)) ∙ other in cc clash)
                | false ↦ λ u. no_edit qs q other
              ] refl
          | false ↦ λ t. no_edit qs q other
        ] refl

-- The batch makes the raised pairs.
pub batch_makes : (ps qs : Pairs) → AreRaised ps qs → is_sorted byte_cmp qs ≡ true → updated ps (batch_of (record_edits qs)) ≡ qs
batch_makes ps qs h sorted =
    let old = sorted_raised ps qs h sorted in
    same_pairs (updated ps (batch_of (record_edits qs))) qs (sorted_updated (record_edits qs) ps old) sorted (λ q. updated-at (record_edits qs) ps q (edits_sorted qs sorted) old ∙ made_at ps qs q h)
