-- Lists that a loop reads value by value.
use Rattle.std.proofs.Common.{◌≡◌, ◌∙◌, ℕ, zero, suc, ◌+◌, ◌<◌, cond, List, [], ◌∷◌, ◌++◌, length, map, take, drop, get_or, Option, Some, None, is_none, not, Result, Ok, Err, refl, ap, sym, arith}
use Rattle.std.proofs.lemmas.List.{take_more, map-append, take-append-drop, drop_more}
use Rattle.std.specs.List.{position_or_len}
use Rattle.common_types.specs.declared.refused.Refused.{Refused}
use Rattle.toml.specs.Data.{Data}
use Rattle.change_file.specs.Tables.{◌>>=◌, each}
use Rattle.change_file.specs.Named.{◌◂◌, all_named}

-- ---- values that give something each

one_more : {A : Type 0} (o : Option A) (r s : Option (List A)) (done : List A) (one : A) → ((d : List A) → r ≡ Some d → s ≡ Some (d ++ one ∷ [])) → (o >>= (λ a. r >>= (λ others. Some (a ∷ others)))) ≡ Some done → (o >>= (λ a. s >>= (λ others. Some (a ∷ others)))) ≡ Some (done ++ one ∷ [])
one_more None r s done one more is = absurd (cc)
one_more (Some a) None s done one more is = absurd (cc)
one_more {A = A} (Some a) (Some d) s done one more is = rw (more d refl) (ap (λ (x : Option (List A)). x >>= (λ y. Some (y ++ one ∷ []))) is)

each_last : {A : Type 0} (f : Data → Option A) (values : List Data) (value : Data) (done : List A) (one : A) → each f values ≡ Some done → f value ≡ Some one → each f (values ++ value ∷ []) ≡ Some (done ++ one ∷ [])
each_last {A = A} f [] value done one is gives = rw gives (ap (λ (x : Option (List A)). x >>= (λ y. Some (y ++ one ∷ []))) is)
each_last f (v ∷ vs) value done one is gives = one_more (f v) (each f vs) (each f (vs ++ value ∷ [])) done one (λ d e. each_last f vs value d one e gives) is

-- one value more
pub each_more : {X A : Type 0} (f : Data → Option A) (h : X → Data) (xs : List X) (i : ℕ) (d : X) (done : List A) (one : A) → i < length xs → each f (map h (take i xs)) ≡ Some done → f (h (get_or xs i d)) ≡ Some one → each f (map h (take (i + 1) xs)) ≡ Some (done ++ one ∷ [])
each_more f h xs i d done one within is gives = rw (take_more xs i d within, map-append h (take i xs) (get_or xs i d ∷ [])) (each_last f (map h (take i xs)) (h (get_or xs i d)) done one is gives)

none_behind : {A : Type 0} (o : Option A) (r : Option (List A)) → r ≡ None → (o >>= (λ a. r >>= (λ others. Some (a ∷ others)))) ≡ None
none_behind None r is = refl
none_behind (Some a) r is = rw is

-- a value that gives nothing
pub each_none : {X A : Type 0} (f : Data → Option A) (h : X → Data) (xs : List X) (i : ℕ) (d : X) → i < length xs → f (h (get_or xs i d)) ≡ None → each f (map h xs) ≡ None
each_none f h [] i d within gives = absurd (omega arith)
each_none f h (x ∷ xs) zero d within gives = rw gives
each_none f h (x ∷ xs) (suc i) d within gives = none_behind (f (h x)) (each f (map h xs)) (each_none f h xs i d (omega arith) gives)

next_place : {A : Type 0} (o : Option A) (r : Option (List A)) (done : List A) (place i : ℕ) → ((d : List A) → r ≡ Some d → place ≡ i) → (o >>= (λ a. r >>= (λ others. Some (a ∷ others)))) ≡ Some done → cond (not (is_none o)) (1 + place) 0 ≡ suc i
next_place None r done place i same is = absurd (cc)
next_place (Some a) None done place i same is = absurd (cc)
next_place (Some a) (Some d) done place i same is = omega (arith, same d refl)

-- it is the first that gives nothing, where each before it gives something
pub first_none : {X A : Type 0} (f : Data → Option A) (h : X → Data) (xs : List X) (i : ℕ) (d : X) (done : List A) → i < length xs → each f (map h (take i xs)) ≡ Some done → f (h (get_or xs i d)) ≡ None → position_or_len (λ v. is_none (f v)) (map h xs) ≡ i
first_none f h [] i d done within is gives = absurd (omega arith)
first_none f h (x ∷ xs) zero d done within is gives = rw gives
first_none f h (x ∷ xs) (suc i) d done within is gives = next_place (f (h x)) (each f (map h (take i xs))) done _ i (λ e same. first_none f h xs i d e (omega arith) same gives) is

-- ---- names, of which the first refusal counts

named_last : {A : Type 0} (o : Result A Refused) (r s : Result (List A) Refused) (done : List A) (one : A) → ((d : List A) → r ≡ Ok d → s ≡ Ok (d ++ one ∷ [])) → (Ok (λ x xs. x ∷ xs) ◂ o ◂ r) ≡ Ok done → (Ok (λ x xs. x ∷ xs) ◂ o ◂ s) ≡ Ok (done ++ one ∷ [])
named_last (Err e) r s done one more is = absurd (cc)
named_last (Ok a) (Err e) s done one more is = absurd (cc)
named_last {A = A} (Ok a) (Ok d) s done one more is = rw (more d refl) (ap (λ (x : Result (List A) Refused). Ok (λ y. y ++ one ∷ []) ◂ x) is)

pub all_named_last : {A : Type 0} (names : List (Result A Refused)) (done : List A) (one : A) → all_named names ≡ Ok done → all_named (names ++ Ok one ∷ []) ≡ Ok (done ++ one ∷ [])
all_named_last {A = A} [] done one is = ap (λ (x : Result (List A) Refused). Ok (λ y. y ++ one ∷ []) ◂ x) is
all_named_last (n ∷ ns) done one is = named_last n (all_named ns) (all_named (ns ++ Ok one ∷ [])) done one (λ d e. all_named_last ns d one e) is

ends_there : {A : Type 0} (o : Result A Refused) (r s : Result (List A) Refused) (done : List A) (refused : Refused) → ((d : List A) → r ≡ Ok d → s ≡ Err refused) → (Ok (λ x xs. x ∷ xs) ◂ o ◂ r) ≡ Ok done → (Ok (λ x xs. x ∷ xs) ◂ o ◂ s) ≡ Err refused
ends_there (Err e) r s done refused more is = absurd (cc)
ends_there (Ok a) (Err e) s done refused more is = absurd (cc)
ends_there (Ok a) (Ok d) s done refused more is = rw (more d refl)

-- the first that is refused
pub all_named_stop : {A : Type 0} (names : List (Result A Refused)) (i : ℕ) (d : Result A Refused) (done : List A) (refused : Refused) → i < length names → all_named (take i names) ≡ Ok done → get_or names i d ≡ Err refused → all_named names ≡ Err refused
all_named_stop [] i d done refused within is gives = absurd (omega arith)
all_named_stop (n ∷ ns) zero d done refused within is gives = rw gives
all_named_stop (n ∷ ns) (suc i) d done refused within is gives = ends_there n (all_named (take i ns)) (all_named ns) done refused (λ e same. all_named_stop ns i d e refused (omega arith) same gives) is

-- ---- a loop over values that it takes

-- what was taken, the value in hand, and what is left
pub parts_at : {X : Type 0} (xs : List X) (front : List X) (x : X) → front ≡ take (length front) xs → length front < length xs → x ≡ get_or xs (length front) x → xs ≡ front ++ x ∷ drop (length front + 1) xs
parts_at xs front x so_far within turn =
    sym (take-append-drop (length front) xs)
    ∙ ap (λ l. take (length front) xs ++ l) (drop_more xs (length front) x within)
    ∙ ap (λ (y : _). take (length front) xs ++ y ∷ drop (length front + 1) xs) (sym turn)
    ∙ ap (λ l. l ++ x ∷ drop (length front + 1) xs) (sym so_far)
