-- Laws of the layout.
use Rattle.std.specs.Prelude.{◌≡◌, ◌≢◌, ℕ, zero, suc, ◌+◌, Bool, true, false, cond, ◌&&◌, List, [], ◌∷◌, ◌++◌, length, flat_map, Option, Some, None, IsTrue, IsSome, refl}
use Rattle.std.proofs.Common.{ap, sym, ◌∙◌}
use Rattle.std.specs.Bool.{Decides}
use Rattle.std.specs.Option.{option_map}
use Rattle.std.specs.List.{AllByRecursion}
use Rattle.std.specs.declared.cmp.Ordering.{Ordering}
use Rattle.std.specs.declared.cmp.Ordering.TheVariants.{Less, Equal, Greater}
use Rattle.std.specs.Ordering.{is_eq, is_lt}
use Rattle.std.specs.Map.{lookup}
use Rattle.std.specs.BTreeMap.{is_at}
use Rattle.std.specs.FinMap.{is_sorted}
use Rattle.std.specs.FinMap.Entries.{below_all}
use Rattle.std.proofs.lemmas.Bool.Decides.{Decides-at}
use Rattle.std.proofs.lemmas.Slice.Eq.{bytes_eq-Decides}
use Rattle.std.proofs.lemmas.Map.Text.{is_eq-slice_cmp}
use Rattle.host_types.specs.Site.{Site, byte_cmp, item_at, with_item, without_item}
use Rattle.host_types.specs.SiteLaws.{lookup-insert_entry, is_sorted-insert_entry, is_sorted-remove_entry, same_pairs, item_at-with_item, item_at-without_item}
use Rattle.host_types.specs.Words.{words_of}
use Rattle.host_types.specs.declared.item.Item.{Item}
use Rattle.site_records.specs.Keys.{Chunk, Word, item_key, owner, owner-key_bytes}
use Rattle.site_records.specs.Records.{item_bytes, parts_of}
use Rattle.site_records.specs.Layout.{Pairs, chunk_count, chunk_pairs, part_pairs, word_pairs, data_pairs, item_pairs, in_order, all_pairs, layout, value_at, value_in}

-- ---- order

pub is_sorted-in_order : (ps : Pairs) → IsTrue (is_sorted byte_cmp (in_order ps))
is_sorted-in_order [] = refl
is_sorted-in_order (p ∷ ps) = is_sorted-insert_entry (in_order ps) p.0 p.1 (is_sorted-in_order ps)

-- a key's value in the layout is that of its first pair
pub value_at-in_order : (ps : Pairs) (q : List ℕ) → value_at (in_order ps) q ≡ value_at ps q
value_at-in_order [] q = refl
value_at-in_order (p ∷ ps) q = lookup-insert_entry (in_order ps) p.0 p.1 q ∙ ap (cond (is_at (byte_cmp q) p.0) (Some p.1)) (value_at-in_order ps q)

pub value_at-all : (s : Site) (q : List ℕ) → value_at (layout s) q ≡ value_at (all_pairs s) q
unfolding layout
value_at-all s q = value_at-in_order (all_pairs s) q

pub is_sorted-layout : (s : Site) → IsTrue (is_sorted byte_cmp (layout s))
unfolding layout
is_sorted-layout s = is_sorted-in_order (all_pairs s)

-- pairs in order that answer as the layout does are the layout
pub layout_from_values : (pairs : Pairs) (s : Site) → IsTrue (is_sorted byte_cmp pairs) → ((q : List ℕ) → value_at pairs q ≡ value_at (layout s) q) → pairs ≡ layout s
layout_from_values pairs s sorted same = same_pairs pairs (layout s) sorted (is_sorted-layout s) same

-- ---- each pair belongs to one item

abbrev pub OwnedBy : List ℕ → Pairs → Type 0
OwnedBy selector ps = AllByRecursion (λ p. owner p.0 ≡ selector) ps

pub OwnedBy-append : (selector : List ℕ) (ps qs : Pairs) → OwnedBy selector ps → OwnedBy selector qs → OwnedBy selector (ps ++ qs)
OwnedBy-append selector [] qs h k = k
OwnedBy-append selector (p ∷ ps) qs h k = (h.0, OwnedBy-append selector ps qs h.1 k)

OwnedBy-chunk_pairs : (selector : List ℕ) (v : ℕ) (part : List ℕ) (n k : ℕ) → OwnedBy selector (chunk_pairs selector v part n k)
OwnedBy-chunk_pairs selector v part zero k = tt
OwnedBy-chunk_pairs selector v part (suc n) k = (owner-key_bytes (Chunk selector v k), OwnedBy-chunk_pairs selector v part n (k + 1))

OwnedBy-part_pairs : (selector : List ℕ) (v : ℕ) (parts : List (List ℕ)) → OwnedBy selector (part_pairs selector v parts)
OwnedBy-part_pairs selector v [] = tt
OwnedBy-part_pairs selector v (part ∷ parts) = OwnedBy-append selector (chunk_pairs selector v part (chunk_count (length part)) 0) (part_pairs selector (v + 1) parts) (OwnedBy-chunk_pairs selector v part (chunk_count (length part)) 0) (OwnedBy-part_pairs selector (v + 1) parts)

pub OwnedBy-word_pairs : (selector : List ℕ) (words : List (List ℕ)) → OwnedBy selector (word_pairs selector words)
OwnedBy-word_pairs selector [] = tt
OwnedBy-word_pairs selector (w ∷ words) = (owner-key_bytes (Word w selector), OwnedBy-word_pairs selector words)

pub OwnedBy-data_pairs : (selector : List ℕ) (item : Item) → OwnedBy selector (data_pairs selector item)
OwnedBy-data_pairs selector item = (refl, OwnedBy-part_pairs selector 0 (parts_of item.body))

pub OwnedBy-item_pairs : (selector : List ℕ) (item : Item) → OwnedBy selector (item_pairs selector item)
unfolding item_pairs
OwnedBy-item_pairs selector item = OwnedBy-append selector (data_pairs selector item) (word_pairs selector (words_of item)) (OwnedBy-data_pairs selector item) (OwnedBy-word_pairs selector (words_of item))

-- ---- tests of keys

pub is_at-Decides : (a b : List ℕ) → Decides (is_at (byte_cmp a) b) (a ≡ b)
is_at-Decides a b = Decides-at {P = a ≡ b} (is_at (byte_cmp a) b) _ (is_eq-slice_cmp a b) (bytes_eq-Decides a b)

pub at_itself : (a : List ℕ) → is_at (byte_cmp a) a ≡ true
at_itself a = (is_at-Decides a a).1 refl

pub not_at : (a b : List ℕ) → a ≢ b → is_at (byte_cmp a) b ≡ false
not_at a b apart = by_cases (is_at (byte_cmp a) b) (λ h. absurd (apart ((is_at-Decides a b).0 h)))
  where
    by_cases : (t : Bool) → (t ≡ true → t ≡ false) → t ≡ false
    by_cases true h = h refl
    by_cases false h = refl

-- a key of another selector's is none of these
pub value_at-not_owned : (selector : List ℕ) (ps : Pairs) (q : List ℕ) → OwnedBy selector ps → owner q ≢ selector → value_at ps q ≡ None
value_at-not_owned selector [] q h apart = refl
value_at-not_owned selector (p ∷ ps) q h apart =
    ap (λ (b : Bool). cond b (Some p.1) (value_at ps q)) (not_at q p.0 (λ e. apart (ap owner e ∙ h.0))) ∙ value_at-not_owned selector ps q h.1 apart

-- a key at which something stands is of the selector of these pairs
pub owner_of_value : (selector : List ℕ) (ps : Pairs) (q : List ℕ) → OwnedBy selector ps → IsSome (value_at ps q) → owner q ≡ selector
owner_of_value selector [] q h some = absurd cc
owner_of_value selector (p ∷ ps) q h some =
    elim (is_at (byte_cmp q) p.0) as (λ b. is_at (byte_cmp q) p.0 ≡ b → IsSome (cond b (Some p.1) (value_at ps q)) → owner q ≡ selector) [
      | true ↦ λ t _. ap owner ((is_at-Decides q p.0).0 t) ∙ h.0
      | false ↦ λ t more. owner_of_value selector ps q h.1 more
    ] refl some

-- pairs of different items have no key in common
pub share_no_key : (a b : List ℕ) (x y : Item) (key : List ℕ) → IsSome (value_at (item_pairs a x) key) → IsSome (value_at (item_pairs b y) key) → a ≡ b
share_no_key a b x y key g h = sym (owner_of_value a (item_pairs a x) key (OwnedBy-item_pairs a x) g) ∙ owner_of_value b (item_pairs b y) key (OwnedBy-item_pairs b y) h

pub value_at-append : (ps qs : Pairs) (q : List ℕ) → value_at ps q ≡ None → value_at (ps ++ qs) q ≡ value_at qs q
value_at-append [] qs q h = refl
value_at-append (p ∷ ps) qs q h =
    elim (is_at (byte_cmp q) p.0) as (λ b. cond b (Some p.1) (value_at ps q) ≡ None → cond b (Some p.1) (value_at (ps ++ qs) q) ≡ value_at qs q) [
      | true ↦ λ e. absurd cc
      | false ↦ λ e. value_at-append ps qs q e
    ] h

pub value_at-before : (ps qs : Pairs) (q : List ℕ) → value_at qs q ≡ None → value_at (ps ++ qs) q ≡ value_at ps q
value_at-before [] qs q h = h
value_at-before (p ∷ ps) qs q h = ap (cond (is_at (byte_cmp q) p.0) (Some p.1)) (value_at-before ps qs q h)

-- ---- what stands at each key

abbrev found_item : List (List ℕ × Item) → List ℕ → Option Item
found_item es selector = lookup (is_at (byte_cmp selector)) es

above_all : (k : List ℕ) (es : List (List ℕ × Item)) → below_all byte_cmp k es ≡ true → found_item es k ≡ None
above_all k [] h = refl
above_all k (e ∷ es) h =
    elim (byte_cmp k e.0) as (λ (r : Ordering). (is_lt r && below_all byte_cmp k es) ≡ true → cond (is_eq r) (Some e.1) (found_item es k) ≡ None) [
      | Less ↦ λ h. above_all k es h
      | Equal ↦ λ h. absurd cc
      | Greater ↦ λ h. absurd cc
    ] h

first_true : (a b : Bool) → (a && b) ≡ true → a ≡ true
first_true true b h = refl
first_true false b h = h

second_true : (a b : Bool) → (a && b) ≡ true → b ≡ true
second_true true b h = h
second_true false b h = absurd cc

value_at-flat : (es : List (List ℕ × Item)) (q : List ℕ) → is_sorted byte_cmp es ≡ true → value_at (flat_map (λ e. item_pairs e.0 e.1) es) q ≡ value_in (owner q) (found_item es (owner q)) q
value_at-flat [] q h = refl
value_at-flat (e ∷ es) q h =
    let others = value_at-flat es q (second_true (below_all byte_cmp e.0 es) _ h) in
    elim (is_at (byte_cmp (owner q)) e.0) as (λ b. is_at (byte_cmp (owner q)) e.0 ≡ b → value_at (item_pairs e.0 e.1 ++ flat_map (λ e. item_pairs e.0 e.1) es) q ≡ value_in (owner q) (cond b (Some e.1) (found_item es (owner q))) q) [
      | true ↦ λ t.
          let is : owner q ≡ e.0 = (is_at-Decides (owner q) e.0).0 t in
          let no_other : value_at (flat_map (λ e. item_pairs e.0 e.1) es) q ≡ None = others ∙ ap (λ (o : Option Item). value_in (owner q) o q) (ap (found_item es) is ∙ above_all e.0 es (first_true (below_all byte_cmp e.0 es) _ h)) in
          value_at-before (item_pairs e.0 e.1) _ q no_other ∙ ap (λ (k : List ℕ). value_at (item_pairs k e.1) q) (sym is)
      | false ↦ λ t.
          let apart : owner q ≢ e.0 = λ same. absurd (clash (sym t ∙ (is_at-Decides (owner q) e.0).1 same)) in
          value_at-append (item_pairs e.0 e.1) _ q (value_at-not_owned e.0 (item_pairs e.0 e.1) q (OwnedBy-item_pairs e.0 e.1) apart) ∙ others
    ] refl
  where
    clash : false ≡ true → ⊥
    clash h = cc h

-- The value of any key is that of the item at the key's selector.
pub value_at-layout : (s : Site) (q : List ℕ) → IsTrue (is_sorted byte_cmp s.items) → value_at (layout s) q ≡ value_in (owner q) (item_at s (owner q)) q
value_at-layout s q h = value_at-all s q ∙ value_at-flat s.items q h

pub value_in-record : (selector : List ℕ) (o : Option Item) → value_in selector o (item_key selector) ≡ option_map item_bytes o
unfolding item_pairs
value_in-record selector None = refl
value_in-record selector (Some item) = ap (λ (b : Bool). cond b (Some (item_bytes item)) (value_at (part_pairs selector 0 (parts_of item.body) ++ word_pairs selector (words_of item)) (item_key selector))) (at_itself (item_key selector))

-- The value of an item's key is its record.
pub record_in-layout : (s : Site) (selector : List ℕ) → IsTrue (is_sorted byte_cmp s.items) → value_at (layout s) (item_key selector) ≡ option_map item_bytes (item_at s selector)
record_in-layout s selector h = value_at-layout s (item_key selector) h ∙ value_in-record selector (item_at s selector)

-- ---- changes of one item

-- the site with an item in place of what was there: its pairs, and those of all other items
pub value_at-with_item : (s : Site) (selector : List ℕ) (item : Item) (q : List ℕ) → IsTrue (is_sorted byte_cmp s.items) → value_at (layout (with_item s selector item)) q ≡ cond (is_at (byte_cmp (owner q)) selector) (value_at (item_pairs selector item) q) (value_at (layout s) q)
value_at-with_item s selector item q h =
    value_at-layout (with_item s selector item) q (is_sorted-insert_entry s.items selector item h)
    ∙ ap (λ (o : Option Item). value_in (owner q) o q) (item_at-with_item s selector item (owner q))
    ∙ elim (is_at (byte_cmp (owner q)) selector) as (λ b. is_at (byte_cmp (owner q)) selector ≡ b → value_in (owner q) (cond b (Some item) (item_at s (owner q))) q ≡ cond b (value_at (item_pairs selector item) q) (value_at (layout s) q)) [
      | true ↦ λ t. ap (λ (k : List ℕ). value_at (item_pairs k item) q) ((is_at-Decides (owner q) selector).0 t)
      | false ↦ λ t. sym (value_at-layout s q h)
    ] refl

-- the site with nothing at a selector: the pairs of all other items
pub value_at-without_item : (s : Site) (selector q : List ℕ) → IsTrue (is_sorted byte_cmp s.items) → value_at (layout (without_item s selector)) q ≡ cond (is_at (byte_cmp (owner q)) selector) None (value_at (layout s) q)
value_at-without_item s selector q h =
    value_at-layout (without_item s selector) q (is_sorted-remove_entry s.items selector h)
    ∙ ap (λ (o : Option Item). value_in (owner q) o q) (item_at-without_item s selector (owner q) h)
    ∙ elim (is_at (byte_cmp (owner q)) selector) as (λ b. value_in (owner q) (cond b None (item_at s (owner q))) q ≡ cond b None (value_at (layout s) q)) [
      | true ↦ refl
      | false ↦ sym (value_at-layout s q h)
    ]
