use Rattle.sector_device.specs.Images.{all_images}
use Rattle.sector_device.proofs.Picks.{if_ok, left_of}
use Rattle.sector_device.proofs.mem_disk.MemDisk.after_stop.Goals as goal

pub returns-clause-image : goal.returns-clause-image
returns-clause-image c =
    let disk = c.args.self.now in
    if_ok c.picked.result (λ left is. left_of c.args.picks.now disk left.items is) c.picked.ensures

pub returns-clause-left : goal.returns-clause-left
returns-clause-left c =
    let disk = c.args.self.now in
    if_ok c.picked.result (λ left is. all_images disk.first disk.writes_and_syncs left.items (left_of c.args.picks.now disk left.items is)) c.picked.ensures
