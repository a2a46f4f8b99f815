-- When a link has no page.
use Rattle.std.specs.Prelude.{◌≡◌, true, false, List, ℕ}
use Rattle.url_page.specs.Page.{is_allowed}
use Rattle.url_page.specs.declared.fault.UrlFault.{UrlFault}
use Rattle.url_page.specs.declared.fault.UrlFault.TheVariants.{NotAllowed, Memory}

abbrev pub IsUrlFault : List ℕ → UrlFault → Type 0
IsUrlFault url NotAllowed = is_allowed url ≡ false
IsUrlFault url Memory = is_allowed url ≡ true
