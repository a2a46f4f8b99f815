use Rattle.sector_device.proofs.Picks.{picked_is_image}
use Rattle.sector_device.proofs.laws.picks_leave_images.Goals as goal

pub returns : goal.returns
returns c = picked_is_image
