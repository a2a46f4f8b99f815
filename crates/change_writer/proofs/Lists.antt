-- Lists that a loop writes value by value.
use Rattle.std.proofs.Common.{◌≡◌, ◌∙◌, ◌≤◌, ◌<◌, ◌+◌, ℕ, List, [], ◌∷◌, ◌++◌, length, map, take, get_or, zero, suc, Option, Some, None, Result, Ok, refl, ap, sym, arith}
use Rattle.std.proofs.lemmas.List.{take_more, map-append, take_all}
use Rattle.std.proofs.lemmas.List.Elements.{All-get_or, All-append}
use Rattle.std.specs.List.{All}
use Rattle.toml.specs.Data.{Data, depth, items_depth}
use Rattle.toml.specs.View.{view, items_view}
use Rattle.toml.specs.declared.value.Value.{Value}
use Rattle.common_types.specs.declared.refused.Refused.{Refused}
use Rattle.change_file.specs.Tables.{◌>>=◌, each, values_of}
use Rattle.change_file.specs.Named.{◌◂◌, all_named}

-- ---- values that are read

one_more : {A : Type 0} (o : Option A) (r s : Option (List A)) (done : List A) (one : A) → ((d : List A) → r ≡ Some d → s ≡ Some (d ++ one ∷ [])) → (o >>= (λ a. r >>= (λ others. Some (a ∷ others)))) ≡ Some done → (o >>= (λ a. s >>= (λ others. Some (a ∷ others)))) ≡ Some (done ++ one ∷ [])
one_more None r s done one more is = absurd (cc)
one_more (Some a) None s done one more is = absurd (cc)
one_more {A = A} (Some a) (Some d) s done one more is = rw (more d refl) (ap (λ (x : Option (List A)). x >>= (λ y. Some (y ++ one ∷ []))) is)

each_last : {A : Type 0} (f : Data → Option A) (values : List Data) (value : Data) (done : List A) (one : A) → each f values ≡ Some done → f value ≡ Some one → each f (values ++ value ∷ []) ≡ Some (done ++ one ∷ [])
each_last {A = A} f [] value done one is gives = rw gives (ap (λ (x : Option (List A)). x >>= (λ y. Some (y ++ one ∷ []))) is)
each_last f (v ∷ vs) value done one is gives = one_more (f v) (each f vs) (each f (vs ++ value ∷ [])) done one (λ d e. each_last f vs value d one e gives) is

-- one value behind those that are read
pub each_behind : {A : Type 0} (f : Data → Option A) (vs : List Value) (v : Value) (done : List A) (one : A) → each f (map view vs) ≡ Some done → f (view v) ≡ Some one → each f (map view (vs ++ v ∷ [])) ≡ Some (done ++ one ∷ [])
each_behind f vs v done one is gives = rw (map-append view vs (v ∷ [])) (each_last f (map view vs) (view v) done one is gives)

-- one more of what is written
pub each_more : {X A : Type 0} (f : Data → Option A) (g : X → A) (xs : List X) (i : ℕ) (d : X) (vs : List Value) (v : Value) → i < length xs → each f (map view vs) ≡ Some (map g (take i xs)) → f (view v) ≡ Some (g (get_or xs i d)) → each f (map view (vs ++ v ∷ [])) ≡ Some (map g (take (i + 1) xs))
each_more f g xs i d vs v within is gives =
    each_behind f vs v (map g (take i xs)) (g (get_or xs i d)) is gives
    ∙ ap Some (sym (ap (map g) (take_more xs i d within) ∙ map-append g (take i xs) (get_or xs i d ∷ [])))

pub each_same : {A : Type 0} (f : Data → Option A) (xs : List A) (i : ℕ) (d : A) (vs : List Value) (v : Value) → i < length xs → each f (map view vs) ≡ Some (take i xs) → f (view v) ≡ Some (get_or xs i d) → each f (map view (vs ++ v ∷ [])) ≡ Some (take (i + 1) xs)
each_same f xs i d vs v within is gives = each_behind f vs v (take i xs) (get_or xs i d) is gives ∙ ap Some (sym (take_more xs i d within))

-- ---- their depth

pub depth_more : (n : ℕ) (vs : List Value) (v : Value) → items_depth (items_view vs) ≤ n → depth (view v) ≤ n → items_depth (items_view (vs ++ v ∷ [])) ≤ n
depth_more n [] v all one = omega (arith, one)
depth_more n (w ∷ vs) v all one = omega (arith, all, depth_more n vs v (omega (arith, all)) one)

-- ---- what holds of each

one_holds : {X : Type 0} (P : X → Type 0) (x : X) → P x → All P (x ∷ [])
one_holds P x one zero e h = one
one_holds P x one (suc k) e h = absurd (omega arith)

pub all_more : {X : Type 0} (P : X → Type 0) (xs : List X) (i : ℕ) (d : X) → i < length xs → All P (take i xs) → P (get_or xs i d) → All P (take (i + 1) xs)
all_more P xs i d within so_far one = rw (take_more xs i d within) (All-append P (take i xs) (get_or xs i d ∷ []) so_far (one_holds P (get_or xs i d) one))

pub not_all : {X : Type 0} (P : X → Type 0) (xs : List X) (i : ℕ) (d : X) → i < length xs → ¬ (P (get_or xs i d)) → ¬ (All P xs)
not_all P xs i d within fails all = fails (All-get_or P xs i d within all)

-- ---- values and names

pub values_seen : (vs : List Value) → values_of (items_view vs) ≡ map view vs
values_seen [] = refl
values_seen (v ∷ vs) = ap (λ ds. view v ∷ ds) (values_seen vs)

-- where no name is refused, all are named
pub all_named_fine : {A : Type 0} (xs : List A) → all_named (map (λ x. Ok x) xs) ≡ Ok xs
all_named_fine [] = refl
all_named_fine {A = A} (x ∷ xs) = ap (λ (r : Result (List A) Refused). Ok (λ y ys. y ∷ ys) ◂ Ok x ◂ r) (all_named_fine xs)

-- ---- a loop over all three

-- the values so far are read as the first things, are so deep at most, and those things are said
abbrev pub AreWritten : {X A : Type 0} → (Data → Option A) → (X → A) → (X → Type 0) → ℕ → List X → ℕ → List Value → Type 0
AreWritten f g P n xs i vs = ((each f (map view vs) ≡ Some (map g (take i xs))) × (items_depth (items_view vs) ≤ n)) × All P (take i xs)

pub one_written : {X A : Type 0} (f : Data → Option A) (g : X → A) (P : X → Type 0) (n : ℕ) (xs : List X) (i : ℕ) (d x : X) (vs : List Value) (v : Value)
    → i < length xs → x ≡ get_or xs i d → AreWritten f g P n xs i vs → f (view v) ≡ Some (g x) → depth (view v) ≤ n → P x → AreWritten f g P n xs (i + 1) (vs ++ v ∷ [])
one_written f g P n xs i d x vs v within is so_far read shallow said =
    ((each_more f g xs i d vs v within so_far.0.0 (rw (← is) read), depth_more n vs v so_far.0.1 shallow), all_more P xs i d within so_far.1 (rw (← is) said))

-- the same where the values are read as the things themselves
abbrev pub AreSame : {A : Type 0} → (Data → Option A) → (A → Type 0) → ℕ → List A → ℕ → List Value → Type 0
AreSame f P n xs i vs = ((each f (map view vs) ≡ Some (take i xs)) × (items_depth (items_view vs) ≤ n)) × All P (take i xs)

pub one_same : {A : Type 0} (f : Data → Option A) (P : A → Type 0) (n : ℕ) (xs : List A) (i : ℕ) (d x : A) (vs : List Value) (v : Value)
    → i < length xs → x ≡ get_or xs i d → AreSame f P n xs i vs → f (view v) ≡ Some x → depth (view v) ≤ n → P x → AreSame f P n xs (i + 1) (vs ++ v ∷ [])
one_same f P n xs i d x vs v within is so_far read shallow said =
    ((each_same f xs i d vs v within so_far.0.0 (rw (← is) read), depth_more n vs v so_far.0.1 shallow), all_more P xs i d within so_far.1 (rw (← is) said))

-- where one is not said, not all are
pub one_unsaid : {X : Type 0} (P : X → Type 0) (xs : List X) (i : ℕ) (d x : X) → i < length xs → x ≡ get_or xs i d → ¬ (P x) → ¬ (All P xs)
one_unsaid P xs i d x within is fails = not_all P xs i d within (rw (← is) fails)

-- all that a loop has said
pub all_said : {X : Type 0} (P : X → Type 0) (xs : List X) (i : ℕ) → length xs ≤ i → All P (take i xs) → All P xs
all_said P xs i past so_far = rw (← take_all i xs past) so_far

-- a list of one
pub single : {X : Type 0} (xs : List X) (x : X) → 1 ≤ length xs → length xs < 2 → x ≡ get_or xs 0 x → xs ≡ x ∷ []
single [] x some few is = absurd (omega arith)
single (y ∷ []) x some few is = ap (λ z. z ∷ []) (sym is)
single (y ∷ z ∷ ys) x some few is = absurd (omega arith)
