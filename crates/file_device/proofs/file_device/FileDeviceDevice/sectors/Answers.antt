use Rattle.std.proofs.Common.{length, ap, arith}
use Rattle.file_device.specs.FileCalls.{FileHistory, disk_of}
use Rattle.file_device.proofs.Shown.{as_many}
use Rattle.file_device.proofs.file_device.FileDeviceDevice.sectors.Goals as goal

pub returns : goal.returns
returns c =
    let f = c.self.inside in
    omega (arith, c.len.ensures, as_many f.file.made.calls f.view.items c.self.invariant.shown, f.view.ok.0, ap (λ (h : FileHistory). length (disk_of h.calls).base) c.self.view_is)
