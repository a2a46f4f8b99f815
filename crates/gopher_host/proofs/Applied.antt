-- What a file of changes says.
use Rattle.std.proofs.Common.{◌≡◌, ℕ, List, [], ◌∷◌, Ok, Err, ap, map, refl}
use Rattle.std.specs.Borrow.{Bor}
use Rattle.std.specs.Prelude.{Result, IsErrAnd, IsOkAnd}
use Rattle.gopher_host.specs.Kept.{removal}

pub what_is : {T E : Type 0} {P : T → Type 0} (result : Result T E) → IsOkAnd result P → (t : T) × P t
what_is (Ok t) is = (t, is)
what_is (Err e) is = absurd is

pub the_error : {T E : Type 0} (result : Result T E) (fault : E) → IsErrAnd result (λ e. e ≡ fault) → result ≡ Err fault
the_error (Ok t) fault is = absurd is
the_error (Err e) fault is = ap Err is

-- the changes that remove the items of some names
pub each_removal : (names : List (Bor (List ℕ))) → map (λ (name : Bor (List ℕ)). removal name.now) names ≡ map removal (map (λ (name : Bor (List ℕ)). name.now) names)
each_removal [] = refl
each_removal (name ∷ names) = ap (λ changes. removal name.now ∷ changes) (each_removal names)
