use Rattle.std.proofs.Common.{length, ap, arith}
use Rattle.file_device.specs.FileCalls.{FileHistory, disk_of}
use Rattle.file_device.proofs.Shown.{as_many, read_of}
use Rattle.file_device.proofs.file_device.FileDeviceDevice.read.Goals as goal

pub index-requires : goal.index-requires
index-requires c =
    let f = c.self.inside in
    omega (arith, c.requires, as_many f.file.made.calls f.view.items c.self.invariant.shown, f.view.ok.0, ap (λ (h : FileHistory). length (disk_of h.calls).base) c.self.view_is)

pub returns-clause-read : goal.returns-clause-read
returns-clause-read c =
    let f = c.self.inside in
    λ honest. rw (← c.self.view_is) (read_of f.file.made.calls f.view.items c.args.n _ c.self.invariant.shown (omega (arith, c.requires, ap (λ (h : FileHistory). length (disk_of h.calls).base) c.self.view_is)) c.index.ensures)
