-- Maps whose keys rise, after a batch.
use Rattle.std.proofs.Common.{◌≡◌, ℕ, Bool, true, false, List, [], ◌∷◌, map, cond, Option, Some, None, Ordering, refl, ap, ◌∙◌}
use Rattle.std.specs.List.{list_all}
use Rattle.std.specs.Ordering.{is_lt, match_ordering, ordering_reverse}
use Rattle.std.specs.declared.cmp.Ordering.TheVariants.{Less, Equal, Greater}
use Rattle.std.specs.Map.{remove_entry}
use Rattle.std.specs.BTreeMap.{insert_entry, is_at}
use Rattle.std.proofs.lemmas.Cmp.{nat_list_cmp_total}
use Rattle.common_types.specs.ByteOrder.{byte_cmp}
use Rattle.page_store.specs.Keys.{precedes, rises}
use Rattle.page_store.specs.Pages.{Pair, key_of}
use Rattle.page_store.specs.Batch.{is_pair, is_key, is_value, is_map, is_edit, is_value_or_none, edited, with_value, updated}
use Rattle.page_store.specs.declared.edit.Edit.{Edit}
use Rattle.page_store.proofs.CommitImages.{both_true}

precedes_less : (a b : List ℕ) → byte_cmp a b ≡ Less → precedes a b ≡ true
precedes_less a b e = ap is_lt e

less_precedes : (a b : List ℕ) → precedes a b ≡ true → byte_cmp a b ≡ Less
less_precedes a b h = less (byte_cmp a b) h
  where
    less : (o : Ordering) → is_lt o ≡ true → o ≡ Less
    less Less h = refl
    less Equal h = absurd (cc h)
    less Greater h = absurd (cc h)

precedes_trans : (a b c : List ℕ) → precedes a b ≡ true → precedes b c ≡ true → precedes a c ≡ true
precedes_trans a b c h k = precedes_less a c (nat_list_cmp_total.trans a b c (less_precedes a b h) (less_precedes b c k))

precedes_greater : (a b : List ℕ) → byte_cmp a b ≡ Greater → precedes b a ≡ true
precedes_greater a b e = precedes_less b a (nat_list_cmp_total.antisymm b a ∙ ap ordering_reverse e)

-- each key is above a lower one
rises_tail : (k : List ℕ) (ks : List (List ℕ)) → rises (k ∷ ks) ≡ true → rises ks ≡ true
rises_tail k [] h = refl
rises_tail k (j ∷ ks) h = (both_true (precedes k j) (rises (j ∷ ks)) h).1

rises_cons : (k j : List ℕ) (ks : List (List ℕ)) → precedes k j ≡ true → rises (j ∷ ks) ≡ true → rises (k ∷ j ∷ ks) ≡ true
rises_cons k j ks h r = rw (h, r) refl

keys : List Pair → List (List ℕ)
keys pairs = map key_of pairs

-- ---- a value at a key

-- keys that are above a lower one, before and after
abbrev Above : List ℕ → List Pair → Type 0
Above k pairs = rises (k ∷ map key_of pairs) ≡ true

put_above : (k : List ℕ) (pairs : List Pair) (key value : List ℕ) → Above k pairs → precedes k key ≡ true → Above k (insert_entry byte_cmp pairs key value)
put_above k [] key value above less = rw less refl
put_above k (e ∷ es) key value above less = go (λ h g. put_above e.0 es key value h g) (byte_cmp key e.0) refl
  where
    first : precedes k e.0 ≡ true
    first = (both_true (precedes k e.0) (rises (e.0 ∷ map key_of es)) above).0

    rest : Above e.0 es
    rest = (both_true (precedes k e.0) (rises (e.0 ∷ map key_of es)) above).1

    go : (Above e.0 es → precedes e.0 key ≡ true → Above e.0 (insert_entry byte_cmp es key value)) → (o : Ordering) → byte_cmp key e.0 ≡ o → rises (k ∷ map key_of (match_ordering o ((key, value) ∷ e ∷ es) ((e.0, value) ∷ es) (e ∷ insert_entry byte_cmp es key value))) ≡ true
    go more Less is = rw (less, precedes_less key e.0 is) rest
    go more Equal is = above
    go more Greater is = rw first (more rest (precedes_greater key e.0 is))

put_rises : (pairs : List Pair) (key value : List ℕ) → rises (map key_of pairs) ≡ true → rises (map key_of (insert_entry byte_cmp pairs key value)) ≡ true
put_rises [] key value h = refl
put_rises (e ∷ es) key value h = go (byte_cmp key e.0) refl
  where
    go : (o : Ordering) → byte_cmp key e.0 ≡ o → rises (map key_of (match_ordering o ((key, value) ∷ e ∷ es) ((e.0, value) ∷ es) (e ∷ insert_entry byte_cmp es key value))) ≡ true
    go Less is = rw (precedes_less key e.0 is) h
    go Equal is = h
    go Greater is = put_above e.0 es key value h (precedes_greater key e.0 is)

put_pairs : (pairs : List Pair) (key value : List ℕ) → list_all is_pair pairs ≡ true → is_pair (key, value) ≡ true → list_all is_pair (insert_entry byte_cmp pairs key value) ≡ true
put_pairs [] key value h p = rw p refl
put_pairs (e ∷ es) key value h p = go (λ a. put_pairs es key value a p) (byte_cmp key e.0)
  where
    both : (is_pair e ≡ true) × (list_all is_pair es ≡ true)
    both = both_true (is_pair e) (list_all is_pair es) h

    key_is : is_key e.0 ≡ true
    key_is = (both_true (is_key e.0) (is_value e.1) both.0).0

    value_is : is_value value ≡ true
    value_is = (both_true (is_key key) (is_value value) p).1

    go : (list_all is_pair es ≡ true → list_all is_pair (insert_entry byte_cmp es key value) ≡ true) → (o : Ordering) → list_all is_pair (match_ordering o ((key, value) ∷ e ∷ es) ((e.0, value) ∷ es) (e ∷ insert_entry byte_cmp es key value)) ≡ true
    go more Less = rw p h
    go more Equal = rw (key_is, value_is, both.1) refl
    go more Greater = rw both.0 (more both.1)

-- ---- no value at a key

drop_first : (k : List ℕ) (e : Pair) (es : List Pair) → Above k (e ∷ es) → Above k es
drop_first k e [] above = refl
drop_first k e (f ∷ es) above =
    let a = both_true (precedes k e.0) (rises (e.0 ∷ f.0 ∷ map key_of es)) above in
    let b = both_true (precedes e.0 f.0) (rises (f.0 ∷ map key_of es)) a.1 in
    rw (precedes_trans k e.0 f.0 a.0 b.0) b.1

take_above : (test : List ℕ → Bool) (k : List ℕ) (pairs : List Pair) → Above k pairs → Above k (remove_entry test pairs)
take_above test k [] above = refl
take_above test k (e ∷ es) above = go (λ h. take_above test e.0 es h) (test e.0)
  where
    both : (precedes k e.0 ≡ true) × (Above e.0 es)
    both = both_true (precedes k e.0) (rises (e.0 ∷ map key_of es)) above

    go : (Above e.0 es → Above e.0 (remove_entry test es)) → (b : Bool) → rises (k ∷ map key_of (cond b es (e ∷ remove_entry test es))) ≡ true
    go more true = drop_first k e es above
    go more false = rw both.0 (more both.1)

take_rises : (test : List ℕ → Bool) (pairs : List Pair) → rises (map key_of pairs) ≡ true → rises (map key_of (remove_entry test pairs)) ≡ true
take_rises test [] h = refl
take_rises test (e ∷ es) h = go (test e.0)
  where
    go : (b : Bool) → rises (map key_of (cond b es (e ∷ remove_entry test es))) ≡ true
    go true = rises_tail e.0 (map key_of es) h
    go false = take_above test e.0 es h

take_pairs : (test : List ℕ → Bool) (pairs : List Pair) → list_all is_pair pairs ≡ true → list_all is_pair (remove_entry test pairs) ≡ true
take_pairs test [] h = refl
take_pairs test (e ∷ es) h = go (λ a. take_pairs test es a) (test e.0)
  where
    both : (is_pair e ≡ true) × (list_all is_pair es ≡ true)
    both = both_true (is_pair e) (list_all is_pair es) h

    go : (list_all is_pair es ≡ true → list_all is_pair (remove_entry test es) ≡ true) → (b : Bool) → list_all is_pair (cond b es (e ∷ remove_entry test es)) ≡ true
    go more true = both.1
    go more false = rw both.0 (more both.1)

-- ---- a batch

with_value_map : (pairs : List Pair) (key : List ℕ) (value : Option (List ℕ)) → is_map pairs ≡ true → is_key key ≡ true → is_value_or_none value ≡ true → is_map (with_value pairs key value) ≡ true
with_value_map pairs key None h k v =
    let both = both_true (rises (map key_of pairs)) (list_all is_pair pairs) h in
    rw (take_rises (is_at (byte_cmp key)) pairs both.0, take_pairs (is_at (byte_cmp key)) pairs both.1) refl
with_value_map pairs key (Some value) h k v =
    let both = both_true (rises (map key_of pairs)) (list_all is_pair pairs) h in
    rw (put_rises pairs key value both.0, put_pairs pairs key value both.1 (rw (k, v) refl)) refl

pub updated_map : (pairs : List Pair) (batch : List Edit) → is_map pairs ≡ true → list_all is_edit batch ≡ true → is_map (updated pairs batch) ≡ true
updated_map pairs [] h b = h
updated_map pairs (edit ∷ batch) h b =
    let both = both_true (is_edit edit) (list_all is_edit batch) b in
    let ok = both_true (is_key edit.key) (is_value_or_none edit.value) both.0 in
    updated_map (edited pairs edit) batch (with_value_map pairs edit.key edit.value h ok.0 ok.1) both.1
