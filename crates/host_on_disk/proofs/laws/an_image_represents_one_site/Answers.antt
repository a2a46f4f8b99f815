use Rattle.host_on_disk.proofs.Images.{one_site}
use Rattle.host_on_disk.proofs.laws.an_image_represents_one_site.Goals as goal

pub returns : goal.returns
returns c = one_site
