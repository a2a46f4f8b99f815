-- A value at a place of a list.
use Rattle.std.proofs.Common.{◌≡◌, ℕ, zero, suc, ◌<◌, ◌≤◌, Bool, true, List, [], ◌∷◌, ◌++◌, length, take, drop, get_or, set, insert, refl, sym, ap, subst, ◌∙◌, arith, IsTrue}
use Rattle.std.specs.List.{list_all}
use Rattle.std.specs.declared.cmp.Ordering.TheVariants.{Less, Equal}
use Rattle.std.specs.BTreeMap.{insert_entry}
use Rattle.std.proofs.Math.Seq.{drop-cons}
use Rattle.std.proofs.lemmas.List.{take_all, drop_all, set_split}
use Rattle.common_types.specs.ByteOrder.{byte_cmp}
use Rattle.page_store.specs.Pages.{Pair}
use Rattle.page_store.proofs.CommitImages.{both_true}

pub all_at : {A : Type 0} (f : A → Bool) (xs : List A) (i : ℕ) (x : A) → IsTrue (list_all f xs) → i < length xs → x ≡ get_or xs i x → f x ≡ true
all_at f [] i x all lt is = absurd (omega arith)
all_at f (y ∷ ys) zero x all lt is = ap f is ∙ (both_true (f y) (list_all f ys) all).0
all_at f (y ∷ ys) (suc i) x all lt is = all_at f ys i x (both_true (f y) (list_all f ys) all).1 (omega arith) is

pub put_less : (xs old whole : List Pair) (i : ℕ) (key value : List ℕ) (item : Pair) → old ≡ xs → i < length old → item ≡ get_or old i item → byte_cmp key item.0 ≡ Less → whole ≡ take i xs ++ insert_entry byte_cmp (drop i xs) key value
    → insert old i (key, value) ≡ whole
put_less xs old whole i key value item same lt at less is =
    let lt2 : i < length xs = subst (λ (l : List Pair). i < length l) same lt in
    let at2 : item ≡ get_or xs i item = subst (λ (l : List Pair). item ≡ get_or l i item) same at in
    let less2 : byte_cmp key (get_or xs i item).0 ≡ Less = subst (λ (p : Pair). byte_cmp key p.0 ≡ Less) at2 less in
    let step : insert_entry byte_cmp (drop i xs) key value ≡ (key, value) ∷ drop i xs = rw (drop-cons xs i item lt2) (rw less2 refl) in
    ap (λ (l : List Pair). insert l i (key, value)) same ∙ ap (λ (l : List Pair). take i xs ++ l) (sym step) ∙ sym is

pub put_equal : (xs old whole : List Pair) (i : ℕ) (key value : List ℕ) (item now : Pair) → old ≡ xs → i < length old → item ≡ get_or old i item → byte_cmp key item.0 ≡ Equal → now ≡ (item.0, value) → whole ≡ take i xs ++ insert_entry byte_cmp (drop i xs) key value
    → set old i now ≡ whole
put_equal xs old whole i key value item now same lt at equal made is =
    let lt2 : i < length xs = subst (λ (l : List Pair). i < length l) same lt in
    let at2 : item ≡ get_or xs i item = subst (λ (l : List Pair). item ≡ get_or l i item) same at in
    let equal2 : byte_cmp key (get_or xs i item).0 ≡ Equal = subst (λ (p : Pair). byte_cmp key p.0 ≡ Equal) at2 equal in
    let step : insert_entry byte_cmp (drop i xs) key value ≡ ((get_or xs i item).0, value) ∷ drop (suc i) xs = rw (drop-cons xs i item lt2) (rw equal2 refl) in
    let made2 : now ≡ ((get_or xs i item).0, value) = made ∙ ap (λ (p : Pair). (p.0, value)) at2 in
    ap (λ (l : List Pair). set l i now) same ∙ set_split xs i now lt2 ∙ ap (λ (p : Pair). take i xs ++ p ∷ drop (suc i) xs) made2 ∙ ap (λ (l : List Pair). take i xs ++ l) (sym step) ∙ sym is

pub put_last : (xs old whole : List Pair) (i : ℕ) (key value : List ℕ) → old ≡ xs → length old ≤ i → whole ≡ take i xs ++ insert_entry byte_cmp (drop i xs) key value → old ++ (key, value) ∷ [] ≡ whole
put_last xs old whole i key value same le is =
    let le2 : length xs ≤ i = subst (λ (l : List Pair). length l ≤ i) same le in
    let none : drop i xs ≡ [] = drop_all i xs le2 in
    let all : take i xs ≡ xs = take_all i xs le2 in
    ap (λ (l : List Pair). l ++ (key, value) ∷ []) same ∙ sym (is ∙ rw (none, all) refl)

pub same_at : {A : Type 0} (xs : List A) (i : ℕ) (a b : A) → i < length xs → a ≡ get_or xs i a → b ≡ get_or xs i b → a ≡ b
same_at [] i a b lt p q = absurd (omega arith)
same_at (x ∷ xs) zero a b lt p q = p ∙ sym q
same_at (x ∷ xs) (suc i) a b lt p q = same_at xs i a b (omega arith) p q
