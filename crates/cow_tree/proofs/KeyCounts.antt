-- How many pairs there are after a put and after a delete.
use Rattle.std.proofs.Common.{◌≡◌, ◌≤◌, ◌<◌, ◌+◌, ◌-◌, ◌^◌, ℕ, suc, Bool, true, false, List, [], ◌∷◌, length, Option, Some, None, Ordering, refl, sym, ap, ◌∙◌, arith}
use Rattle.std.specs.Prelude.{is_some}
use Rattle.std.specs.Ordering.{is_lt}
use Rattle.std.specs.declared.cmp.Ordering.TheVariants.{Less, Equal, Greater}
use Rattle.std.specs.Map.{remove_entry}
use Rattle.std.specs.BTreeMap.{insert_entry, is_at}
use Rattle.common_types.specs.ByteOrder.{byte_cmp}
use Rattle.page_store.specs.Keys.{precedes}
use Rattle.page_store.specs.Pages.{Pair}
use Rattle.page_store.specs.Batch.{value_at, with_value, edited}
use Rattle.page_store.specs.declared.edit.Edit.{Edit}
use Rattle.tree_nodes.proofs.KeyOrder.{less_is, below_below}
use Rattle.tree_nodes.proofs.JoinedPairs.{AllKeys, keys_wider}
use Rattle.tree_nodes.proofs.RisingPairs.{Rises, tail_rises, above_all}
use Rattle.cow_tree.specs.Drafts.{keys_with, keys_without}

abbrev one_with : Bool → ℕ → ℕ
one_with true n = n
one_with false n = n + 1

absent : (key : List ℕ) (pairs : List Pair) → AllKeys (precedes key) pairs → value_at pairs key ≡ None
absent key [] h = refl
absent key (x ∷ xs) h = rw (less_is key x.0 h.0) (absent key xs h.1)

put_more : (b : Bool) (m n : ℕ) → m ≡ one_with b n → suc m ≡ one_with b (suc n)
put_more true m n e = ap suc e
put_more false m n e = omega (arith, e)

put_step : (x : Pair) (xs : List Pair) (key value : List ℕ) → AllKeys (precedes x.0) xs → length (insert_entry byte_cmp xs key value) ≡ one_with (is_some (value_at xs key)) (length xs) → (o : Ordering) → byte_cmp key x.0 ≡ o
    → length (insert_entry byte_cmp (x ∷ xs) key value) ≡ one_with (is_some (value_at (x ∷ xs) key)) (length (x ∷ xs))
put_step x xs key value above more Less e =
    let below : precedes key x.0 ≡ true = ap is_lt e in
    let none = absent key xs (keys_wider (precedes x.0) (precedes key) (λ k l. below_below key x.0 k below l) xs above) in
    rw e (rw none (omega arith))
put_step x xs key value above more Equal e = rw e refl
put_step x xs key value above more Greater e = rw e (put_more (is_some (value_at xs key)) (length (insert_entry byte_cmp xs key value)) (length xs) more)

pub put_length : (pairs : List Pair) (key value : List ℕ) → Rises pairs → length (insert_entry byte_cmp pairs key value) ≡ one_with (is_some (value_at pairs key)) (length pairs)
put_length [] key value r = refl
put_length (x ∷ xs) key value r = put_step x xs key value (above_all x.0 xs r) (put_length xs key value (tail_rises x.0 xs r)) (byte_cmp key x.0) refl

take_more : (b : Bool) (m : ℕ) (xs : List Pair) (key : List ℕ) → is_some (value_at xs key) ≡ b → m ≡ keys_without b (length xs) → suc m ≡ keys_without b (suc (length xs))
take_more false m xs key is e = ap suc e
take_more true m [] key is e = absurd (cc is)
take_more true m (x ∷ xs) key is e = omega (arith, e)

take_step : (x : Pair) (xs : List Pair) (key : List ℕ) → suc (length (remove_entry (is_at (byte_cmp key)) xs)) ≡ keys_without (is_some (value_at xs key)) (suc (length xs)) → (o : Ordering) → byte_cmp key x.0 ≡ o
    → length (remove_entry (is_at (byte_cmp key)) (x ∷ xs)) ≡ keys_without (is_some (value_at (x ∷ xs) key)) (length (x ∷ xs))
take_step x xs key more Less e = rw e more
take_step x xs key more Equal e = rw e (omega arith)
take_step x xs key more Greater e = rw e more

pub take_length : (pairs : List Pair) (key : List ℕ) → length (remove_entry (is_at (byte_cmp key)) pairs) ≡ keys_without (is_some (value_at pairs key)) (length pairs)
take_length [] key = refl
take_length (x ∷ xs) key =
    take_step x xs key (take_more (is_some (value_at xs key)) (length (remove_entry (is_at (byte_cmp key)) xs)) xs key refl (take_length xs key)) (byte_cmp key x.0) refl

pub keys_after_put : (keys : ℕ) (b : Bool) (pairs : List Pair) (key value : List ℕ) → Rises pairs → keys ≡ length pairs → length pairs < 2 ^ 64 - 1 → b ≡ is_some (value_at pairs key) → keys_with b keys ≡ length (insert_entry byte_cmp pairs key value)
keys_after_put keys b pairs key value r is small has = exact b ∙ ap (λ (c : Bool). one_with c (length pairs)) has ∙ sym (put_length pairs key value r)
  where
    exact : (c : Bool) → keys_with c keys ≡ one_with c (length pairs)
    exact true = is
    exact false = omega (arith, is, small)

pub keys_after_delete : (keys : ℕ) (b : Bool) (pairs : List Pair) (key : List ℕ) → keys ≡ length pairs → b ≡ is_some (value_at pairs key) → keys_without b keys ≡ length (remove_entry (is_at (byte_cmp key)) pairs)
keys_after_delete keys b pairs key is has = ap (λ (c : Bool). keys_without c keys) has ∙ ap (keys_without (is_some (value_at pairs key))) is ∙ sym (take_length pairs key)

with_most : (b : Bool) (n : ℕ) → one_with b n ≤ n + 1
with_most true n = omega arith
with_most false n = omega arith

without_most : (b : Bool) (n : ℕ) → keys_without b n ≤ n
without_most true n = omega arith
without_most false n = omega arith

value_most : (pairs : List Pair) (key : List ℕ) (value : Option (List ℕ)) → Rises pairs → length (with_value pairs key value) ≤ length pairs + 1
value_most pairs key None r = let e = take_length pairs key in let m = without_most (is_some (value_at pairs key)) (length pairs) in omega (arith, e, m)
value_most pairs key (Some value) r = let e = put_length pairs key value r in let m = with_most (is_some (value_at pairs key)) (length pairs) in omega (arith, e, m)

pub edited_most : (pairs : List Pair) (edit : Edit) → Rises pairs → length (edited pairs edit) ≤ length pairs + 1
edited_most pairs edit r = value_most pairs edit.key edit.value r
