use Rattle.std.proofs.Common.{List, length, refl, ap, ◌∙◌}
use Rattle.file_device.specs.FileCalls.{disk_of}
use Rattle.file_device.specs.FileCallLaws.{not_synced, sync_size}
use Rattle.file_device.specs.declared.file_call.FileCall.{FileCall}
use Rattle.file_device.proofs.file_device.FileDeviceDevice.sync.Goals as goal

pub returns-then-not-self-clause-failed : goal.returns-then-not-self-clause-failed
returns-then-not-self-clause-failed c =
    let f = c.self.inside in
    λ honest. rw (← c.self.view_is) (not_synced f.file.made.calls f.file.made.calls refl)

pub returns-in-Ok-clause-outcome : goal.returns-in-Ok-clause-outcome
returns-in-Ok-clause-outcome c =
    let f = c.self.inside in
    rw (← c.self.view_is) (record {
      same = record { size = ap (λ (l : List FileCall). length (disk_of l).base) c.in-Ok.ensures ∙ sync_size f.file.made.calls; honest = refl };
      reads = refl;
      writes = refl;
      fault = tt;
    })

pub returns-in-Err-clause-failed : goal.returns-in-Err-clause-failed
returns-in-Err-clause-failed c =
    let f = c.self.inside in
    λ honest. rw (← c.self.view_is) (not_synced f.file.made.calls c.sync.new.self.made.calls (ap disk_of c.in-Err.ensures))
