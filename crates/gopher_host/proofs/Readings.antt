-- A reader that came to its end has given all of its bytes.
use Rattle.std.proofs.Common.{◌≡◌, ℕ, List, ◌++◌, Option, Some, None, sym, ap, ◌∙◌}
use Rattle.std.proofs.lemmas.List.{append-nil}
use Rattle.std.specs.Prelude.{IfSome}
use Rattle.std.specs.Io.KnownBytes.{Consumes, IsAtEnd}

pub whole_of : (known left : Option (List ℕ)) (read : List ℕ) → Consumes known left read → IsAtEnd left → IfSome known (λ xs. read ≡ xs)
whole_of None left read is end = tt
whole_of (Some xs) None read is end = absurd is
whole_of (Some xs) (Some ys) read is end = sym (is ∙ ap (λ l. read ++ l) end ∙ append-nil read)
