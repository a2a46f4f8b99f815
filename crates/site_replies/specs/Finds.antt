-- What a search has found of a site.
use Rattle.std.specs.Prelude.{◌≡◌, ℕ, List, Some, map}
use Rattle.host_types.specs.Site.{Site}
use Rattle.word_search.specs.Finds.{find_at}
use Rattle.word_search.specs.declared.find.Find.{Find}

-- it stands there as it was found
abbrev pub IsFindOf : Site → Find → Type 0
IsFindOf s find = find_at s find.selector ≡ Some find

abbrev pub found_names : List Find → List (List ℕ)
found_names finds = map (λ find. find.selector) finds
