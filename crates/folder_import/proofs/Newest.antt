-- What rises, turned, falls.
use Rattle.std.proofs.Common.{◌≡◌, ◌-◌, ap, sym, subst, List, length, reverse, arith}
use Rattle.std.proofs.lemmas.List.{get_or-reverse, length-reverse}
use Rattle.std.specs.List.Sorted.{IsNonDecreasingBy}
use Rattle.folder_import.specs.Found.{IsNewestFirst}
use Rattle.folder_import.specs.declared.found.Found.{Found}

of_reverse : (xs : List Found) → IsNonDecreasingBy (λ one. one.time) xs → IsNewestFirst (reverse xs)
of_reverse xs up i j one before within =
    let n = length-reverse xs in
    let high = ap (λ (f : Found). f.time) (get_or-reverse xs i one (omega (arith, n))) in
    let low = ap (λ (f : Found). f.time) (get_or-reverse xs j one (omega (arith, n))) in
    omega (arith, high, low, up (length xs - 1 - j) (length xs - 1 - i) one (omega arith) (omega (arith, n)))

pub newest_of : (xs ys : List Found) → ys ≡ reverse xs → IsNonDecreasingBy (λ one. one.time) xs → IsNewestFirst ys
newest_of xs ys is up = subst IsNewestFirst (sym is) (of_reverse xs up)
