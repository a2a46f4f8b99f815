-- Under which name clients find a site, and who keeps it.
use Rattle.std.specs.Prelude.{ℕ, List}
use Rattle.host_types.specs.Site.{Site}

pub record Address : Type 0 where
  pub host : List ℕ
  pub port : ℕ
  pub admin : List ℕ

-- that of a site
abbrev pub address : Site → Address
address s = record { host = s.host; port = s.port; admin = s.admin }
