-- What the log gets for some clients, one after another.
use Rattle.std.proofs.Common.{◌≡◌, ℕ, ◌<◌, ◌+◌, add-one, Option, List, [], ◌∷◌, ◌++◌, length, take, refl, sym, ap, subst, ◌∙◌, get_or}
use Rattle.std.proofs.Math.Seq.{take-suc}
use Rattle.turns.specs.WireCalls.{WireCall}
use Rattle.daily_server.specs.Logged.{AllTold}

one_more : {X : Type 0} (xs : List X) (i : ℕ) (other x : X) → i < length xs → x ≡ get_or xs i other → take i xs ++ x ∷ [] ≡ take (i + 1) xs
one_more xs i other x within is = ap (λ y. take i xs ++ y ∷ []) is ∙ sym (take-suc xs i other within) ∙ ap (λ n. take n xs) (sym (add-one i))

module _ {L X : Type 0} (contents : L → Option (List ℕ)) (Tells : X → L × List WireCall → L × List WireCall → Type 0) where
  told_then : (xs : List X) (x : X) (old mid new : L × List WireCall) → AllTold contents Tells xs old mid → Tells x mid new → AllTold contents Tells (xs ++ x ∷ []) old new
  told_then [] x old mid new none one = (new, subst (λ l. Tells x l new) none one, refl)
  told_then (first ∷ xs) x old mid new told one = (told.0, told.1, told_then xs x told.0 mid new told.2 one)

  pub one_more_told : (xs : List X) (i : ℕ) (other x : X) (old mid new : L × List WireCall) → i < length xs → x ≡ get_or xs i other → AllTold contents Tells (take i xs) old mid → Tells x mid new → AllTold contents Tells (take (i + 1) xs) old new
  one_more_told xs i other x old mid new within is told one = subst (λ ys. AllTold contents Tells ys old new) (one_more xs i other x within is) (told_then (take i xs) x old mid new told one)
