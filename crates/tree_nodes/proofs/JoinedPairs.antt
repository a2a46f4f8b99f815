-- Pairs put into and taken from lists that are joined.
use Rattle.std.proofs.Common.{◌≡◌, ℕ, Bool, true, false, List, [], ◌∷◌, ◌++◌, map, cond, Ordering, refl, ap}
use Rattle.std.specs.List.{list_all}
use Rattle.std.specs.Ordering.{match_ordering}
use Rattle.std.specs.declared.cmp.Ordering.TheVariants.{Less, Equal, Greater}
use Rattle.std.specs.Map.{remove_entry}
use Rattle.std.specs.BTreeMap.{insert_entry, is_at}
use Rattle.common_types.specs.ByteOrder.{byte_cmp}
use Rattle.page_store.specs.Keys.{precedes}
use Rattle.page_store.specs.Pages.{Pair, key_of}
use Rattle.tree_nodes.proofs.KeyOrder.{both_true, less_is, greater_is}

-- the keys of all pairs pass a test
abbrev pub AllKeys : (List ℕ → Bool) → List Pair → Type 0
AllKeys p [] = Unit {0}
AllKeys p (e ∷ es) = (p e.0 ≡ true) × AllKeys p es

pub keys_joined : (p : List ℕ → Bool) (xs ys : List Pair) → AllKeys p xs → AllKeys p ys → AllKeys p (xs ++ ys)
keys_joined p [] ys h k = k
keys_joined p (x ∷ xs) ys h k = (h.0, keys_joined p xs ys h.1 k)

pub keys_wider : (p q : List ℕ → Bool) → ((key : List ℕ) → p key ≡ true → q key ≡ true) → (xs : List Pair) → AllKeys p xs → AllKeys q xs
keys_wider p q f [] h = tt
keys_wider p q f (x ∷ xs) h = (f x.0 h.0, keys_wider p q f xs h.1)

pub keys_all : (p : List ℕ → Bool) (xs : List Pair) → AllKeys p xs → list_all p (map key_of xs) ≡ true
keys_all p [] h = refl
keys_all p (x ∷ xs) h = rw h.0 (keys_all p xs h.1)

pub all_keys : (p : List ℕ → Bool) (xs : List Pair) → list_all p (map key_of xs) ≡ true → AllKeys p xs
all_keys p [] h = tt
all_keys p (x ∷ xs) h = let b = both_true (p x.0) (list_all p (map key_of xs)) h in (b.0, all_keys p xs b.1)

-- ---- a pair put

put_before : (key value : List ℕ) (ys : List Pair) → AllKeys (precedes key) ys → insert_entry byte_cmp ys key value ≡ (key, value) ∷ ys
put_before key value [] h = refl
put_before key value (y ∷ ys) h = rw (less_is key y.0 h.0) refl

-- into the first of two, where its key is below the second's
pub put_left : (key value : List ℕ) (xs ys : List Pair) → AllKeys (precedes key) ys → insert_entry byte_cmp (xs ++ ys) key value ≡ insert_entry byte_cmp xs key value ++ ys
put_left key value [] ys h = put_before key value ys h
put_left key value (x ∷ xs) ys h = go (byte_cmp key x.0) (put_left key value xs ys h)
  where
    go : (o : Ordering) → insert_entry byte_cmp (xs ++ ys) key value ≡ insert_entry byte_cmp xs key value ++ ys
        → match_ordering o ((key, value) ∷ x ∷ (xs ++ ys)) ((x.0, value) ∷ (xs ++ ys)) (x ∷ insert_entry byte_cmp (xs ++ ys) key value)
        ≡ match_ordering o ((key, value) ∷ x ∷ xs) ((x.0, value) ∷ xs) (x ∷ insert_entry byte_cmp xs key value) ++ ys
    go Less more = refl
    go Equal more = refl
    go Greater more = ap (λ (l : List Pair). x ∷ l) more

abbrev pub follows : List ℕ → List ℕ → Bool
follows key k = precedes k key

-- into the second of two, where its key is above the first's
pub put_right : (key value : List ℕ) (xs ys : List Pair) → AllKeys (follows key) xs → insert_entry byte_cmp (xs ++ ys) key value ≡ xs ++ insert_entry byte_cmp ys key value
put_right key value [] ys h = refl
put_right key value (x ∷ xs) ys h = rw (greater_is x.0 key h.0) (ap (λ (l : List Pair). x ∷ l) (put_right key value xs ys h.1))

-- ---- a pair taken

abbrev pub taken : List ℕ → List Pair → List Pair
taken key pairs = remove_entry (is_at (byte_cmp key)) pairs

take_before : (key : List ℕ) (ys : List Pair) → AllKeys (precedes key) ys → taken key ys ≡ ys
take_before key [] h = refl
take_before key (y ∷ ys) h = rw (less_is key y.0 h.0) (ap (λ (l : List Pair). y ∷ l) (take_before key ys h.1))

pub take_left : (key : List ℕ) (xs ys : List Pair) → AllKeys (precedes key) ys → taken key (xs ++ ys) ≡ taken key xs ++ ys
take_left key [] ys h = take_before key ys h
take_left key (x ∷ xs) ys h = go (is_at (byte_cmp key) x.0) (take_left key xs ys h)
  where
    go : (b : Bool) → taken key (xs ++ ys) ≡ taken key xs ++ ys → cond b (xs ++ ys) (x ∷ taken key (xs ++ ys)) ≡ cond b xs (x ∷ taken key xs) ++ ys
    go true more = refl
    go false more = ap (λ (l : List Pair). x ∷ l) more

pub take_right : (key : List ℕ) (xs ys : List Pair) → AllKeys (follows key) xs → taken key (xs ++ ys) ≡ xs ++ taken key ys
take_right key [] ys h = refl
take_right key (x ∷ xs) ys h = rw (greater_is x.0 key h.0) (ap (λ (l : List Pair). x ∷ l) (take_right key xs ys h.1))
