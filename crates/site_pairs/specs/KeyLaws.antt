-- Laws of the keys that a change puts or removes.
use Rattle.std.specs.Prelude.{◌≡◌, ◌≢◌, ℕ, Bool, true, false, cond, ◌&&◌, ◌||◌, List, [], ◌∷◌, ◌++◌, map, Option, Some, None, is_some, bytes_eq, IsTrue, refl}
use Rattle.std.proofs.Common.{ap, sym, subst, ◌∙◌}
use Rattle.std.specs.List.{AllByRecursion}
use Rattle.std.specs.List.Sorted.{IsStrictlySortedBy}
use Rattle.std.proofs.lemmas.Bool.{and_parts}
use Rattle.std.specs.declared.cmp.Ordering.{Ordering}
use Rattle.std.specs.declared.cmp.Ordering.TheVariants.{Less, Equal, Greater}
use Rattle.std.specs.Ordering.{is_lt, match_ordering}
use Rattle.std.specs.Map.{lookup}
use Rattle.std.specs.BTreeMap.{insert_entry, is_at}
use Rattle.std.specs.BTreeSet.{insert_key}
use Rattle.std.specs.FinMap.{is_sorted}
use Rattle.std.specs.FinMap.Entries.{below_all}
use Rattle.std.proofs.lemmas.Slice.Eq.{bytes_eq-Decides}
use Rattle.std.proofs.lemmas.Map.Text.{is_eq-slice_cmp}
use Rattle.host_types.specs.Site.{Site, byte_cmp, item_at}
use Rattle.host_types.specs.SiteLaws.{same_pairs}
use Rattle.host_types.specs.Words.{is_among}
use Rattle.host_types.specs.declared.item.Item.{Item}
use Rattle.site_records.specs.Keys.{owner}
use Rattle.site_records.specs.Layout.{Pairs, word_pairs, in_order, value_at}
use Rattle.site_records.specs.LayoutLaws.{OwnedBy, OwnedBy-append, OwnedBy-data_pairs, OwnedBy-word_pairs, value_at-not_owned, is_sorted-in_order, value_at-in_order}
use Rattle.word_search.specs.WordChange.{dropped}
use Rattle.site_pairs.specs.Edits.{data_at, words_at, pairs_beside}
use Rattle.site_pairs.specs.ChangeKeys.{keys_beside, keys_in, each_once}

-- ---- keys of entries

abbrev pub entry_keys : {X : Type 0} → List (List ℕ × X) → List (List ℕ)
entry_keys es = map (λ e. e.0) es

-- whether something stands at a key
abbrev pub has_key : {X : Type 0} → List (List ℕ × X) → List ℕ → Bool
has_key es q = is_some (lookup (is_at (byte_cmp q)) es)

-- the entries without their values
abbrev blank : {X : Type 0} → List (List ℕ × X) → Pairs
blank es = map (λ e. (e.0, [])) es

module _ {X : Type 0} where
  blank_keys : (es : List (List ℕ × X)) → entry_keys (blank es) ≡ entry_keys es
  blank_keys [] = refl
  blank_keys (e ∷ es) = ap (λ l. e.0 ∷ l) (blank_keys es)

  blank_below : (k : List ℕ) (es : List (List ℕ × X)) → below_all byte_cmp k (blank es) ≡ below_all byte_cmp k es
  blank_below k [] = refl
  blank_below k (e ∷ es) = ap (λ b. is_lt (byte_cmp k e.0) && b) (blank_below k es)

  blank_sorted : (es : List (List ℕ × X)) → is_sorted byte_cmp (blank es) ≡ is_sorted byte_cmp es
  blank_sorted [] = refl
  blank_sorted (e ∷ es) = ap (λ b. b && is_sorted byte_cmp (blank es)) (blank_below e.0 es) ∙ ap (λ b. below_all byte_cmp e.0 es && b) (blank_sorted es)

  blank_at : (es : List (List ℕ × X)) (q : List ℕ) → value_at (blank es) q ≡ cond (has_key es q) (Some []) None
  blank_at [] q = refl
  blank_at (e ∷ es) q =
      elim (is_at (byte_cmp q) e.0) as (λ b. cond b (Some []) (value_at (blank es) q) ≡ cond (is_some (cond b (Some e.1) (lookup (is_at (byte_cmp q)) es))) (Some []) None) [
        | true ↦ refl
        | false ↦ blank_at es q
      ]

  -- a key is among those of the entries where something stands at it
  pub has_key-among : (es : List (List ℕ × X)) (q : List ℕ) → has_key es q ≡ is_among (entry_keys es) q
  has_key-among [] q = refl
  has_key-among (e ∷ es) q =
      elim (is_at (byte_cmp q) e.0) as (λ b. is_some (cond b (Some e.1) (lookup (is_at (byte_cmp q)) es)) ≡ (b || is_among (entry_keys es) q)) [
        | true ↦ refl
        | false ↦ has_key-among es q
      ] ∙ ap (λ b. b || is_among (entry_keys es) q) (is_eq-slice_cmp q e.0)

-- Entries in order at whose keys something stands alike have the same keys.
pub same_keys : {X Y : Type 0} → (es : List (List ℕ × X)) (fs : List (List ℕ × Y)) → IsTrue (is_sorted byte_cmp es) → IsTrue (is_sorted byte_cmp fs) → ((q : List ℕ) → has_key es q ≡ has_key fs q) → entry_keys es ≡ entry_keys fs
same_keys es fs g h same =
    sym (blank_keys es)
    ∙ ap (λ (l : Pairs). entry_keys l) (same_pairs (blank es) (blank fs) (blank_sorted es ∙ g) (blank_sorted fs ∙ h) (λ q. blank_at es q ∙ ap (λ (b : Bool). cond b (Some []) None) (same q) ∙ sym (blank_at fs q)))
    ∙ blank_keys fs

-- ---- each key once

inserted : (es : Pairs) (k v : List ℕ) → insert_key byte_cmp (entry_keys es) k ≡ entry_keys (insert_entry byte_cmp es k v)
inserted [] k v = refl
inserted (e ∷ es) k v =
    elim (byte_cmp k e.0) as (λ (o : Ordering). match_ordering o (k ∷ e.0 ∷ entry_keys es) (e.0 ∷ entry_keys es) (e.0 ∷ insert_key byte_cmp (entry_keys es) k) ≡ entry_keys (match_ordering o ((k, v) ∷ e ∷ es) ((e.0, v) ∷ es) (e ∷ insert_entry byte_cmp es k v))) [
      | Less ↦ refl
      | Equal ↦ refl
      | Greater ↦ ap (λ l. e.0 ∷ l) (inserted es k v)
    ]

abbrev pub without_values : List (List ℕ) → Pairs
without_values keys = map (λ k. (k, [])) keys

-- the same keys as those of pairs without values
abbrev pub as_pairs : List (List ℕ) → Pairs
as_pairs keys = in_order (without_values keys)

pub each_once-as_pairs : (keys : List (List ℕ)) → each_once keys ≡ entry_keys (as_pairs keys)
each_once-as_pairs [] = refl
each_once-as_pairs (k ∷ keys) = ap (λ l. insert_key byte_cmp l k) (each_once-as_pairs keys) ∙ inserted (as_pairs keys) k []

blank_list : (keys : List (List ℕ)) → entry_keys (without_values keys) ≡ keys
blank_list [] = refl
blank_list (k ∷ keys) = ap (λ l. k ∷ l) (blank_list keys)

pub has_key-as_pairs : (keys : List (List ℕ)) (q : List ℕ) → has_key (as_pairs keys) q ≡ is_among keys q
has_key-as_pairs keys q =
    let pairs = without_values keys in
    ap (λ o. is_some o) (value_at-in_order pairs q) ∙ has_key-among pairs q ∙ ap (λ (l : List (List ℕ)). is_among l q) (blank_list keys)

-- Entries in order at whose keys something stands exactly where the key is among some keys have those keys, each once.
pub keys_once : {X : Type 0} → (es : List (List ℕ × X)) (keys : List (List ℕ)) → IsTrue (is_sorted byte_cmp es) → ((q : List ℕ) → has_key es q ≡ is_among keys q) → entry_keys es ≡ each_once keys
keys_once es keys sorted same =
    same_keys es (as_pairs keys) sorted (is_sorted-in_order (without_values keys)) (λ q. same q ∙ sym (has_key-as_pairs keys q)) ∙ sym (each_once-as_pairs keys)

pub among-once : (keys : List (List ℕ)) (q : List ℕ) → is_among (each_once keys) q ≡ is_among keys q
among-once keys q = ap (λ (l : List (List ℕ)). is_among l q) (each_once-as_pairs keys) ∙ sym (has_key-among (as_pairs keys) q) ∙ has_key-as_pairs keys q

below_each : (k : List ℕ) (ps : Pairs) → below_all byte_cmp k ps ≡ true → AllByRecursion (λ y. byte_cmp k y ≡ Less) (entry_keys ps)
below_each k [] h = tt
below_each k (p ∷ ps) h = let parts = and_parts (is_lt (byte_cmp k p.0)) (below_all byte_cmp k ps) h in (less (byte_cmp k p.0) parts.0, below_each k ps parts.1)
  where
    less : (o : Ordering) → is_lt o ≡ true → o ≡ Less
    less Less h = refl
    less Equal h = absurd (cc h)
    less Greater h = absurd (cc h)

sorted_keys : (ps : Pairs) → is_sorted byte_cmp ps ≡ true → IsStrictlySortedBy byte_cmp (entry_keys ps)
unfolding IsStrictlySortedBy
sorted_keys [] h = tt
sorted_keys (p ∷ ps) h = let parts = and_parts (below_all byte_cmp p.0 ps) (is_sorted byte_cmp ps) h in (below_each p.0 ps parts.0, sorted_keys ps parts.1)

pub sorted-once : (keys : List (List ℕ)) → IsStrictlySortedBy byte_cmp (each_once keys)
sorted-once keys = subst (IsStrictlySortedBy byte_cmp) (sym (each_once-as_pairs keys)) (sorted_keys (as_pairs keys) (is_sorted-in_order (without_values keys)))

-- ---- the keys of what stands at some selectors

pub among-append : (ks ls : List (List ℕ)) (q : List ℕ) → is_among (ks ++ ls) q ≡ (is_among ks q || is_among ls q)
among-append [] ls q = refl
among-append (k ∷ ks) ls q =
    elim (bytes_eq q k) as (λ b. (b || is_among (ks ++ ls) q) ≡ ((b || is_among ks q) || is_among ls q)) [
      | true ↦ refl
      | false ↦ among-append ks ls q
    ]

-- whether a key is one of what stands at a selector, but of no word that something else has too
abbrev pub has_beside : List ℕ → Option Item → Option Item → List ℕ → Bool
has_beside selector item other q = has_key (pairs_beside selector item other) q

owned_data : (selector : List ℕ) (item : Option Item) → OwnedBy selector (data_at selector item)
owned_data selector None = tt
owned_data selector (Some item) = OwnedBy-data_pairs selector item

pub owned_beside : (selector : List ℕ) (item other : Option Item) → OwnedBy selector (pairs_beside selector item other)
owned_beside selector item other =
    let words = dropped (words_at item) (words_at other) in
    OwnedBy-append selector (data_at selector item) (word_pairs selector words) (owned_data selector item) (OwnedBy-word_pairs selector words)

pub not_its_own : (item other : Option Item) (selector q : List ℕ) → owner q ≢ selector → has_beside selector item other q ≡ false
not_its_own item other selector q apart = ap (λ v. is_some v) (value_at-not_owned selector (pairs_beside selector item other) q (owned_beside selector item other) apart)

-- a key is one of theirs where its selector is among them, and it is one of what stands there
pub keys_in-among : (s t : Site) (selectors : List (List ℕ)) (q : List ℕ) → is_among (keys_in s t selectors) q ≡ (is_among selectors (owner q) && has_beside (owner q) (item_at s (owner q)) (item_at t (owner q)) q)
keys_in-among s t [] q = refl
keys_in-among s t (selector ∷ selectors) q =
    let has = λ (k : List ℕ). has_beside k (item_at s k) (item_at t k) q in
    among-append (keys_beside selector (item_at s selector) (item_at t selector)) (keys_in s t selectors) q
    ∙ ap (λ b. b || is_among (keys_in s t selectors) q) (sym (has_key-among (pairs_beside selector (item_at s selector) (item_at t selector)) q))
    ∙ ap (λ b. has selector || b) (keys_in-among s t selectors q)
    ∙ elim (bytes_eq (owner q) selector) as (λ b. bytes_eq (owner q) selector ≡ b → (has selector || (is_among selectors (owner q) && has (owner q))) ≡ ((b || is_among selectors (owner q)) && has (owner q))) [
      | true ↦ λ t1.
          let own : owner q ≡ selector = (bytes_eq-Decides (owner q) selector).0 t1 in
          ap (λ (k : List ℕ). has k || (is_among selectors (owner q) && has (owner q))) (sym own) ∙ absorbed (has (owner q)) (is_among selectors (owner q))
      | false ↦ λ t1.
          ap (λ b. b || (is_among selectors (owner q) && has (owner q))) (not_its_own (item_at s selector) (item_at t selector) selector q (λ same. clash (sym t1 ∙ (bytes_eq-Decides (owner q) selector).1 same)))
    ] refl
  where
    absorbed : (a b : Bool) → (a || (b && a)) ≡ a
    absorbed true b = refl
    absorbed false true = refl
    absorbed false false = refl

    clash : false ≡ true → ⊥
    clash h = cc h
