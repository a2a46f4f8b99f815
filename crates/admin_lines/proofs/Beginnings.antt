-- What bytes begin with they begin with whatever comes behind them.
use Rattle.std.proofs.Common.{◌≡◌, ℕ, Bool, true, false, ◌&&◌, List, [], ◌∷◌, ◌++◌, refl}
use Rattle.std.specs.Prelude.{nat_eq}
use Rattle.std.specs.List.{starts_with}

both : (b c d : Bool) → (c ≡ true → d ≡ true) → (b && c) ≡ true → (b && d) ≡ true
both true c d later is = later is
both false c d later is = is

pub begins_still : (xs more front : List ℕ) → starts_with nat_eq xs front ≡ true → starts_with nat_eq (xs ++ more) front ≡ true
begins_still xs more [] is = refl
begins_still [] more (y ∷ ys) is = absurd cc
begins_still (x ∷ xs) more (y ∷ ys) is = both (nat_eq y x) (starts_with nat_eq xs ys) (starts_with nat_eq (xs ++ more) ys) (begins_still xs more ys) is
