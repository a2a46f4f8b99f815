use Rattle.std.proofs.Common.{ap}
use Rattle.gopher_host.proofs.Scripts.{script_of}
use Rattle.gopher_host.proofs.run.Goals as goal

pub returns-in-Format-clause-command : goal.returns-in-Format-clause-command
returns-in-Format-clause-command g c = rw c.in-Format.is (c.seconds_of-now.result, c.seconds_of-now.ensures, record { asked = c.format.ensures.asked; made = c.format.ensures.made; printed = c.format.ensures.printed; fault = c.format.ensures.fault })

pub returns-in-Apply-clause-command : goal.returns-in-Apply-clause-command
returns-in-Apply-clause-command g c =
    let none = c.new in
    rw c.in-Apply.is (c.seconds_of-now-in-Apply.result, c.seconds_of-now-in-Apply.ensures, none.result.calls, c.apply.new.sockets.calls, none.ensures, (λ e is. let told = c.apply.ensures.moment e is in (told.0, told.1, told.2, ap (λ s. s.calls) told.3), c.apply.ensures.image))

pub returns-in-Init-clause-command : goal.returns-in-Init-clause-command
returns-in-Init-clause-command g c = let names = c.new-in-Init in rw c.in-Init.is (c.seconds_of-now-in-Init.result, c.seconds_of-now-in-Init.ensures, names.result.calls, c.init.new.names.calls, names.ensures, c.init.ensures)

pub returns-in-Get-clause-command : goal.returns-in-Get-clause-command
returns-in-Get-clause-command g c = let none = c.new-in-Get in rw c.in-Get.is (none.result.calls, c.get.new.sockets.calls, none.ensures, record { refused = λ e is. let told = c.get.ensures.name e is in (told.0, (told.1, told.2, ap (λ s. s.calls) told.3)); named = c.get.ensures.got })

pub returns-in-Posts-clause-command : goal.returns-in-Posts-clause-command
returns-in-Posts-clause-command g c = let none = c.new-in-Posts in rw c.in-Posts.is (none.result.calls, c.posts.new.sockets.calls, none.ensures, record { refused = λ e is. let told = c.posts.ensures.name e is in (told.0, (told.1, told.2, ap (λ s. s.calls) told.3)); named = c.posts.ensures.listed })

pub returns-in-Remove-clause-command : goal.returns-in-Remove-clause-command
returns-in-Remove-clause-command g c = let none = c.new-in-Remove in rw c.in-Remove.is (c.moment_now-now.result, c.moment_now-now.ensures, none.result.calls, c.remove.new.sockets.calls, none.ensures, rw c.deref.ensures.value at c.remove.ensures)

pub returns-in-Copy-clause-command : goal.returns-in-Copy-clause-command
returns-in-Copy-clause-command g c =
    let made = c.new-in-Copy in
    let none = c.new-in-Copy-2 in
    rw c.in-Copy.is (made.result.calls, c.copy.new.names.calls, made.ensures, none.result.calls, c.copy.new.sockets.calls, none.ensures, c.copy.ensures)

pub returns-in-ServeRounds-clause-sessions : goal.returns-in-ServeRounds-clause-sessions
returns-in-ServeRounds-clause-sessions g c = let new = c.new-in-ServeRounds in rw c.in-ServeRounds.is (record {
  rounds = (new.result.calls, c.serve_rounds.new.asked.calls, new.ensures, c.serve_rounds.ensures);
  logged = tt;
  unlogged = tt;
  script = tt;
})

pub returns-in-ServeClients-clause-sessions : goal.returns-in-ServeClients-clause-sessions
returns-in-ServeClients-clause-sessions g c =
    let sockets = c.new-in-ServeClients in
    let new = c.new-in-ServeClients-2 in
    rw c.in-ServeClients.is (record {
      rounds = tt;
      logged = λ is. (new.result.calls, c.serve.new.asked.calls, new.ensures, sockets.result.calls, c.serve.new.sockets.calls, sockets.ensures, rw c.terms_of.ensures at (c.serve.ensures.logged is));
      unlogged = λ is. (c.serve.ensures.quiet is, new.result.calls, c.serve.new.asked.calls, new.ensures, sockets.result.calls, c.serve.new.sockets.calls, sockets.ensures, rw c.terms_of.ensures at (c.serve.ensures.unlogged is));
      script = tt;
    })

pub returns-in-Replay-clause-sessions : goal.returns-in-Replay-clause-sessions
returns-in-Replay-clause-sessions g c = rw c.in-Replay.is (record {
  rounds = tt;
  logged = tt;
  unlogged = tt;
  script = script_of c.in-Replay.image c.in-Replay.group _ c.replay.ensures.image;
})

pub returns-in-Show-clause-command : goal.returns-in-Show-clause-command
returns-in-Show-clause-command g c = let none = c.new-in-Show in rw c.in-Show.is (none.result.calls, c.show.new.sockets.calls, none.ensures, c.show.ensures)

pub returns-in-Export-clause-command : goal.returns-in-Export-clause-command
returns-in-Export-clause-command g c = let none = c.new-in-Export in rw c.in-Export.is (none.result.calls, c.export.new.sockets.calls, none.ensures, c.export.ensures)

pub returns-in-Check-clause-command : goal.returns-in-Check-clause-command
returns-in-Check-clause-command g c = let none = c.new-in-Check in rw c.in-Check.is (none.result.calls, c.check.new.sockets.calls, none.ensures, c.check.ensures)
