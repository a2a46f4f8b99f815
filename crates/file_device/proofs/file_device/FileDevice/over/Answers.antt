use Rattle.std.proofs.Common.{sym, refl, subst, true, List}
use Rattle.std.specs.String.{string_bytes}
use Rattle.file_device.specs.FileCalls.{IsCopy}
use Rattle.file_device.specs.Opening.{IsUnused}
use Rattle.file_device.specs.declared.file_call.FileCall.{FileCall}
use Rattle.file_device.proofs.Opened.{there, still_unread}
use Rattle.file_device.proofs.file_device.FileDevice.over.Goals as goal

pub invariant_of-result : goal.invariant_of-result
invariant_of-result c =
    let at = there _ c.sync_and_measure.new.file.made.calls c.read_all.new.file.made.calls (still_unread c.in-Ok-sync_and_measure.length c.args.file.made.calls c.sync_and_measure.new.file.made.calls c.requires c.in-Ok-sync_and_measure.ensures) c.in_ok-view.ensures.read in
    subst (λ (calls : List FileCall). IsCopy calls c.in_ok-view.view.items true) (sym c.in-Ok-renew_cache.ensures) (record { shown = c.in_ok-view.ensures.shown; known = sym at.sound })

pub returns-clause-unused : goal.returns-clause-unused
returns-clause-unused c =
    let at = there _ c.sync_and_measure.new.file.made.calls c.read_all.new.file.made.calls (still_unread c.in-Ok-sync_and_measure.length c.args.file.made.calls c.sync_and_measure.new.file.made.calls c.requires c.in-Ok-sync_and_measure.ensures) c.in_ok-view.ensures.read in
    subst (λ (calls : List FileCall). IsUnused (record { path = string_bytes c.in-Ok.path; calls = calls; failed_writes = 0; made = c.new.result.made })) (sym c.in-Ok-renew_cache.ensures) (record { writes = at.writes; view = at.view; sound = at.sound; failures = refl; made = c.new.ensures })
