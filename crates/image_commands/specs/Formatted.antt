-- What `format` is given, and what it makes.
use Rattle.std.specs.Prelude.{◌≡◌, ℕ, ◌*◌, ◌||◌, List, Result, Ok, Err, nat_lt, if◌then◌else◌}
use Rattle.page_store.specs.Sizes.{least_pages, most_pages}
use Rattle.common_types.specs.Names.{name_of, is_field, is_word}
use Rattle.common_types.specs.declared.refused.Refused.{Refused}
use Rattle.host_types.specs.Site.{Site, fresh_site}
use Rattle.page_store.specs.Sectors.{Image}
use Rattle.page_store.specs.Formatting.{IsFirst}
use Rattle.page_store.specs.declared.fault.KeeperFault.{KeeperFault}
use Rattle.page_store.specs.declared.fault.KeeperFault.TheVariants.{Small}
use Rattle.host_on_disk.specs.ImageSites.{ImageRepresents}
use Rattle.image_commands.specs.declared.names.SiteNames.{SiteNames}

abbrev pub all_names : Result (List ℕ) Refused → Result (List ℕ) Refused → Result (List ℕ) Refused → Result SiteNames Refused
all_names (Err refused) admin title = Err refused
all_names (Ok host) (Err refused) title = Err refused
all_names (Ok host) (Ok admin) (Err refused) = Err refused
all_names (Ok host) (Ok admin) (Ok title) = Ok (record { host = host; admin = admin; title = title })

-- the names of these bytes: the host is examined first, then the administrator, then the title
abbrev pub names_of : List ℕ → List ℕ → List ℕ → Result SiteNames Refused
names_of host admin title = all_names (name_of is_word 100 host) (name_of is_field 100 admin) (name_of is_field 69 title)

-- how many sectors an image of so many pages has
abbrev pub sectors_of : ℕ → Result ℕ KeeperFault
sectors_of pages = if nat_lt pages least_pages || nat_lt most_pages pages then Err Small else Ok (8 * pages)

-- the site of these names, port and moment, of which only the top menu is there, without entries
abbrev pub first_site : SiteNames → ℕ → ℕ → Site
first_site names port now = fresh_site names.host port names.admin names.title now

-- The image represents this site and no other, and is the first of its generations, with so many pages.
pub record IsFormatted (image : Image) (pages : ℕ) (site : Site) : Type 0 where
  pub stands : ImageRepresents image site
  pub alone : (s : Site) → ImageRepresents image s → s ≡ site
  pub first : IsFirst pages image
