-- What a call leaves that reads a site, and may pin it meanwhile.
use Rattle.std.specs.Prelude.{◌≡◌, ◌≤◌, [], IsTrue}
use Rattle.host_types.specs.SiteState.{SiteState}

-- The site, its flags and the count of failed writes stay, and reads may have failed. A pin that was given back may leave more room than before; where none was out, none is.
pub record HasLooked (old new : SiteState) : Type 0 where
  pub site : IsTrue old.honest → new.site ≡ old.site
  pub honest : new.honest ≡ old.honest
  pub usable : new.usable ≡ old.usable
  pub reads : old.failed_reads ≤ new.failed_reads
  pub writes : new.failed_writes ≡ old.failed_writes
  pub pins : old.pins ≡ [] → new.pins ≡ []
