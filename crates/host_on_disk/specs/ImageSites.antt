-- Which site a disk image represents.
use Rattle.host_types.specs.Site.{Site}
use Rattle.page_store.specs.Sectors.{Image}
use Rattle.cow_tree.specs.Committed.{TreeHas}
use Rattle.site_store.specs.Represented.{Represents}

-- The image has the layout of a valid site, under a banner with its host, port and administrator, in a version that is opened.
abbrev pub ImageRepresents : Image → Site → Type 0
ImageRepresents image s = Represents TreeHas image s

-- The image represents no site.
abbrev pub RepresentsNone : Image → Type 0
RepresentsNone image = (s : Site) → ImageRepresents image s → ⊥
