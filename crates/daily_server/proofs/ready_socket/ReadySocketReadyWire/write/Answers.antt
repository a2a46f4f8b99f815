use Rattle.std.proofs.Common.{take, ◌++◌, ◌+◌, ◌-◌, ◌^◌, min, refl, sym, ap, ◌∙◌}
use Rattle.turns.specs.WireCalls.{Wrote, WriteFailed, WriteWaited}
use Rattle.daily_server.specs.Sent.{has_line, taken_by}
use Rattle.daily_server.specs.Stored.{told_of}
use Rattle.daily_server.proofs.SocketCalls.{line_same, taken_more, taken_same, told_more}
use Rattle.daily_server.proofs.ready_socket.ReadySocketReadyWire.write.Goals as goal

pub invariant_of-self-clause-told_is : goal.invariant_of-self-clause-told_is
invariant_of-self-clause-told_is c = c.hear.ensures ∙ ap (λ bytes. take 256 (bytes ++ c.args.bytes.now)) c.args.self.now.told_is ∙ told_more c.args.self.now.made.calls (Wrote c.args.bytes.now c.in-Ok.count) ∙ ap told_of (sym c.note.ensures)

pub invariant_of-self-clause-line_is : goal.invariant_of-self-clause-line_is
invariant_of-self-clause-line_is c = c.args.self.now.line_is ∙ line_same c.args.self.now.made.calls (Wrote c.args.bytes.now c.in-Ok.count) refl ∙ ap has_line (sym c.note.ensures)

pub invariant_of-self-clause-taken_is : goal.invariant_of-self-clause-taken_is
invariant_of-self-clause-taken_is c = c.saturating_add-self.ensures ∙ ap (λ taken. min (taken + c.in-Ok.count) (2 ^ 64 - 1)) c.args.self.now.taken_is ∙ taken_more c.args.self.now.made.calls (Wrote c.args.bytes.now c.in-Ok.count) ∙ ap taken_by (sym c.note.ensures)

pub invariant_of-self-in-Err-clause-told_is : goal.invariant_of-self-in-Err-clause-told_is
invariant_of-self-in-Err-clause-told_is c = c.hear.ensures ∙ ap (λ bytes. take 256 (bytes ++ c.args.bytes.now)) c.args.self.now.told_is ∙ told_more c.args.self.now.made.calls (WriteWaited c.args.bytes.now) ∙ ap told_of (sym c.note-in-Err.ensures)

pub invariant_of-self-in-Err-clause-line_is : goal.invariant_of-self-in-Err-clause-line_is
invariant_of-self-in-Err-clause-line_is c = c.args.self.now.line_is ∙ line_same c.args.self.now.made.calls (WriteWaited c.args.bytes.now) refl ∙ ap has_line (sym c.note-in-Err.ensures)

pub invariant_of-self-in-Err-clause-taken_is : goal.invariant_of-self-in-Err-clause-taken_is
invariant_of-self-in-Err-clause-taken_is c = c.args.self.now.taken_is ∙ taken_same c.args.self.now.made.calls (WriteWaited c.args.bytes.now) refl ∙ ap taken_by (sym c.note-in-Err.ensures)

pub invariant_of-self-in-Err-2-clause-told_is : goal.invariant_of-self-in-Err-2-clause-told_is
invariant_of-self-in-Err-2-clause-told_is c = c.hear.ensures ∙ ap (λ bytes. take 256 (bytes ++ c.args.bytes.now)) c.args.self.now.told_is ∙ told_more c.args.self.now.made.calls (WriteFailed c.args.bytes.now) ∙ ap told_of (sym c.note-in-Err-2.ensures)

pub invariant_of-self-in-Err-2-clause-line_is : goal.invariant_of-self-in-Err-2-clause-line_is
invariant_of-self-in-Err-2-clause-line_is c = c.args.self.now.line_is ∙ line_same c.args.self.now.made.calls (WriteFailed c.args.bytes.now) refl ∙ ap has_line (sym c.note-in-Err-2.ensures)

pub invariant_of-self-in-Err-2-clause-taken_is : goal.invariant_of-self-in-Err-2-clause-taken_is
invariant_of-self-in-Err-2-clause-taken_is c = c.args.self.now.taken_is ∙ taken_same c.args.self.now.made.calls (WriteFailed c.args.bytes.now) refl ∙ ap taken_by (sym c.note-in-Err-2.ensures)
