use Rattle.std.proofs.Common.{length, ap, arith}
use Rattle.file_device.specs.FileCalls.{FileHistory, disk_of}
use Rattle.file_device.proofs.Shown.{as_many}
use Rattle.file_device.proofs.file_device.FileDeviceDevice.write.Goals as goal

pub index_mut-requires : goal.index_mut-requires
index_mut-requires c =
    let f = c.self.inside in
    omega (arith, c.requires, as_many f.file.made.calls f.view.items c.self.invariant.shown, f.view.ok.0, ap (λ (h : FileHistory). length (disk_of h.calls).base) c.self.view_is)
