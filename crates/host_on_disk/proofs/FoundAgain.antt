-- What is found again after a crash.
use Rattle.std.proofs.Common.{ℕ, List}
use Rattle.host_types.specs.Site.{Site}
use Rattle.page_store.specs.Sectors.{Image}
use Rattle.group_world.specs.CrashStates.{CommitOfChanges, HoldsCommits}
use Rattle.host_on_disk.specs.ImageSites.{ImageRepresents}
use Rattle.host_on_disk.specs.Headline.{IsFound}
use Rattle.host_on_disk.proofs.Images.{one_site}

pub found_again : (first : Site) (commits : List CommitOfChanges) (least : ℕ) (image : Image) (s : Site) → HoldsCommits ImageRepresents first commits least image → ImageRepresents image s → IsFound first commits least s
found_again first commits least image s h here = record { count = h.count; at_least = h.at_least; at_most = h.at_most; represented = one_site image s _ here h.represented }
