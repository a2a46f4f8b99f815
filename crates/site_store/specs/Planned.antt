-- A plan as a key-value store makes it: replacements, and a banner.
use Rattle.std.specs.Prelude.{ℕ, List, Option, Some, None}
use Rattle.host_types.specs.Site.{Site}
use Rattle.change_plan.specs.declared.replacement.Replacement.{Replacement}
use Rattle.page_store.specs.declared.banner.Banner.{Banner}
use Rattle.page_store.specs.declared.edit.Edit.{Edit}
use Rattle.site_pairs.specs.Edits.{batch_of, edits_of}

-- a banner with another name, where one is set
abbrev pub with_host : Banner → Option (List ℕ × ℕ) → Banner
with_host b None = b
with_host b (Some name) = record { version = b.version; host = name.0; port = name.1; admin = b.admin }

abbrev pub with_admin : Banner → Option (List ℕ) → Banner
with_admin b None = b
with_admin b (Some admin) = record { version = b.version; host = b.host; port = b.port; admin = admin }

-- the banner after a plan
abbrev pub banner_after : Banner → Option (List ℕ × ℕ) → Option (List ℕ) → Banner
banner_after b host admin = with_admin (with_host b host) admin

-- a site under the name of a banner
abbrev pub named : Site → Banner → Site
named s banner = record s { host = banner.host; port = banner.port; admin = banner.admin }

-- the batch that makes some replacements
abbrev pub batch_by : List Replacement → List Edit
batch_by replacements = batch_of (edits_of replacements)
