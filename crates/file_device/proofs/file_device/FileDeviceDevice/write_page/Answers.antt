use Rattle.std.proofs.Common.{◌≡◌, ◌≤◌, ◌+◌, ◌*◌, ◌∙◌, List, length, ap, sym, subst, arith, IsTrue}
use Rattle.common_types.specs.Counts.{counted}
use Rattle.sector_device.specs.Steps.{AreWritten}
use Rattle.sector_device.proofs.WrittenPages.{page-written}
use Rattle.file_device.specs.FileCalls.{FileHistory, disk_of, page_calls}
use Rattle.file_device.specs.declared.file_call.FileCall.{FileCall}
use Rattle.file_device.specs.declared.file_call.FileCall.TheVariants.{Write, FailedWrite}
use Rattle.file_device.proofs.PageCalls.{page_written, page_failed, page_refused, copy_written, copy_failed, written_shows}
use Rattle.file_device.proofs.Shown.{as_many}
use Rattle.file_device.proofs.file_device.FileDeviceDevice.write_page.Goals as goal

pub put_page-requires : goal.put_page-requires
put_page-requires c =
    let f = c.self.inside in
    omega (arith, c.requires, as_many f.file.made.calls f.view.items c.self.invariant.shown, ap (λ (h : FileHistory). length (disk_of h.calls).base) c.self.view_is)

pub invariant_of-self-in-Ok : goal.invariant_of-self-in-Ok
invariant_of-self-in-Ok c = copy_written c.args.n c.args.bytes.now c.self.inside.file.made.calls c.write_page.new.self.made.calls c.self.inside.view.items c.put_page.new.sectors.items c.self.inside.is_sound c.self.invariant c.in-Ok.ensures (c.put_page.ensures c.self.inside.file.made.calls)

pub invariant_of-self-in-Err : goal.invariant_of-self-in-Err
invariant_of-self-in-Err c = copy_failed c.args.n c.args.bytes.now c.self.inside.file.made.calls c.write_page.new.self.made.calls c.self.inside.view.items c.self.inside.is_sound c.gives_up-in-Err.new.is_sound c.self.invariant c.in-Err.ensures c.gives_up-in-Err.ensures.sound

pub returns-in-Ok-clause-sectors : goal.returns-in-Ok-clause-sectors
returns-in-Ok-clause-sectors c =
    let same : c.self.inside.file.made.calls ≡ c.args.self.now.calls = ap (λ (h : FileHistory). h.calls) c.self.view_is in
    page_written c.args.n c.args.bytes.now c.args.self.now _ c.requires (c.in-Ok.ensures ∙ ap (λ (l : List FileCall). page_calls Write (8 * c.args.n) c.args.bytes.now 8 l) same) (ap (λ (h : FileHistory). h.failed_writes) c.self.view_is)

pub returns-in-Ok-clause-page : goal.returns-in-Ok-clause-page
returns-in-Ok-clause-page c = λ honest.
    let calls = c.self.inside.file.made.calls in
    let room : 8 * c.args.n + 8 ≤ length (disk_of calls).base = omega (arith, c.requires, ap (λ (h : FileHistory). length (disk_of h.calls).base) c.self.view_is) in
    let shown : AreWritten (8 * c.args.n) 8 c.args.bytes.now (disk_of calls).view (disk_of c.write_page.new.self.made.calls).view =
    subst (λ (l : List FileCall). AreWritten (8 * c.args.n) 8 c.args.bytes.now (disk_of calls).view (disk_of l).view) (sym c.in-Ok.ensures) (written_shows (8 * c.args.n) c.args.bytes.now calls room 8 (omega arith)) in
    page-written c.args.n c.args.bytes.now (disk_of calls).view (disk_of c.write_page.new.self.made.calls).view c.told-bytes shown

pub returns-in-Err-clause-sectors : goal.returns-in-Err-clause-sectors
returns-in-Err-clause-sectors c =
    let same : c.self.inside.file.made.calls ≡ c.args.self.now.calls = ap (λ (h : FileHistory). h.calls) c.self.view_is in
    page_failed c.args.n c.args.bytes.now c.args.self.now _ c.requires c.gives_up-in-Err.result (c.in-Err.ensures ∙ ap (λ (l : List FileCall). page_calls FailedWrite (8 * c.args.n) c.args.bytes.now 8 l) same)
    (c.gives_up-in-Err.ensures.next ∙ ap (λ (h : FileHistory). counted h.failed_writes) c.self.view_is) c.gives_up-in-Err.ensures.fault
