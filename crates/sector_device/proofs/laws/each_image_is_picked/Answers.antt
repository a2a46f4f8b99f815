use Rattle.sector_device.proofs.EachImage.{some_picks}
use Rattle.sector_device.proofs.laws.each_image_is_picked.Goals as goal

pub returns : goal.returns
returns c = some_picks
