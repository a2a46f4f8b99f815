use Rattle.std.proofs.Common.{sym, refl}
use Rattle.file_device.proofs.Opened.{there, unread_yet}
use Rattle.file_device.proofs.file_device.FileDevice.open_to_read.Goals as goal

pub invariant_of-result : goal.invariant_of-result
invariant_of-result g c =
    let at = there _ c.length.new.self.made.calls c.read_all.new.file.made.calls (unread_yet c.in-Ok-length.length c.in-Ok-open_to_read.file.made.calls c.length.new.self.made.calls c.in-Ok-open_to_read.ensures c.in-Ok-length.ensures) c.in_ok-view.ensures.read in
    record { shown = c.in_ok-view.ensures.shown; known = sym at.sound }

pub returns-clause-unused : goal.returns-clause-unused
returns-clause-unused g c =
    let at = there _ c.length.new.self.made.calls c.read_all.new.file.made.calls (unread_yet c.in-Ok-length.length c.in-Ok-open_to_read.file.made.calls c.length.new.self.made.calls c.in-Ok-open_to_read.ensures c.in-Ok-length.ensures) c.in_ok-view.ensures.read in
    record { writes = at.writes; view = at.view; sound = at.sound; failures = refl; made = c.new.ensures }
