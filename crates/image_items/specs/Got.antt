-- What is read of the site of an image.
use Rattle.std.specs.Prelude.{◌≡◌, ℕ, List, Option, Result}
use Rattle.host_types.specs.Site.{Site}
use Rattle.page_store.specs.Sectors.{Image}
use Rattle.host_on_disk.specs.ImageSites.{ImageRepresents}
use Rattle.image_items.specs.Documents.{document_at}
use Rattle.image_items.specs.Posts.{posts_at}
use Rattle.image_items.specs.declared.fault.ItemFault.{ItemFault}

-- The image represents a site, and these are the bytes of its document, or why it has none.
abbrev pub IsGot : Image → List ℕ → Option (List ℕ) → Result (List ℕ) ItemFault → Type 0
IsGot image selector view found = (s : Site) × ImageRepresents image s × (found ≡ document_at s selector view)

-- The image represents a site, and these are the lines of the posts of its board, or why there are none.
abbrev pub ArePosts : Image → List ℕ → Result (List ℕ) ItemFault → Type 0
ArePosts image board found = (s : Site) × ImageRepresents image s × (found ≡ posts_at s board)
