use Rattle.std.proofs.Common.{length, refl, take, ◌||◌, ◌++◌, sym, ap, ◌∙◌}
use Rattle.turns.specs.WireCalls.{Read}
use Rattle.daily_server.specs.Sent.{head_of, has_line, taken_by}
use Rattle.daily_server.specs.Stored.{told_of}
use Rattle.daily_server.proofs.SocketCalls.{head_more, line_more, taken_same, told_same}
use Rattle.daily_server.proofs.ready_socket.ReadySocketReadyWire.read.Goals as goal

pub invariant_of-self : goal.invariant_of-self
invariant_of-self c =
    let was = c.args.self.now in
    let piece = take c.in-Ok.count c.read.new.buf in
    let call = Read (length c.read.new.buf) piece in
    record {
      head_is = c.hear.ensures ∙ ap (λ bytes. take 256 (bytes ++ piece)) was.head_is ∙ head_more was.made.calls call ∙ ap head_of (sym c.note.ensures);
      told_is = was.told_is ∙ told_same was.made.calls call refl ∙ ap told_of (sym c.note.ensures);
      line_is = ap (λ b. b || c.has_lf.result) was.line_is ∙ ap (λ b. has_line was.made.calls || b) c.has_lf.ensures ∙ line_more was.made.calls call ∙ ap has_line (sym c.note.ensures);
      taken_is = was.taken_is ∙ taken_same was.made.calls call refl ∙ ap taken_by (sym c.note.ensures);
    }
