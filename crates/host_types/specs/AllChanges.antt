-- Several changes, one after another, each at its own moment.
use Rattle.std.specs.Prelude.{ℕ, ◌+◌, List, [], ◌∷◌, Result, Ok, Err}
use Rattle.host_types.specs.Site.{Site}
use Rattle.host_types.specs.Change.{apply}
use Rattle.host_types.specs.declared.change.Change.{Change}
use Rattle.common_types.specs.declared.refused.Refused.{Refused}

-- changes, each with the moment at which it is made
abbrev pub Changes : Type 0
Changes = List (Change × ℕ)

-- what comes after a change that is made; one that is refused is told with its place
abbrev pub then_at : ℕ → (Site → Result Site (ℕ × Refused)) → Result Site Refused → Result Site (ℕ × Refused)
then_at place f (Ok s) = f s
then_at place f (Err refused) = Err (place, refused)

-- the site with these changes, whose places count on from a number
abbrev pub applied_from : ℕ → Site → Changes → Result Site (ℕ × Refused)
applied_from place s [] = Ok s
applied_from place s (c ∷ changes) = then_at place (λ t. applied_from (place + 1) t changes) (apply s c.0 c.1)

-- the site with all of them, or the first that is refused on the site with those before it: its place, counted from 0, and its refusal
abbrev pub all_applied : Site → Changes → Result Site (ℕ × Refused)
all_applied s changes = applied_from 0 s changes

-- the refusal without its place
abbrev pub one_refusal : Result Site (ℕ × Refused) → Result Site Refused
one_refusal (Ok s) = Ok s
one_refusal (Err refused) = Err refused.1
