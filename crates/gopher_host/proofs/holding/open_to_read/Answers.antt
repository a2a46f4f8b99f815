use Rattle.std.proofs.Common.{refl, subst}
use Rattle.gopher_host.specs.Held.{OnServed, alone, served}
use Rattle.gopher_host.proofs.HeldImages.{lacking_then}
use Rattle.gopher_host.proofs.holding.open_to_read.Goals as goal

pub returns-in-Ok : goal.returns-in-Ok
returns-in-Ok g c = alone c.in-Ok.device c.in-Ok.ensures.noted c.in-Ok.ensures.named c.in-Ok.ensures.opened c.in-Ok.ensures.unused refl

pub returns-in_default : goal.returns-in_default
returns-in_default g c = lacking_then c.args.image.now _ _ _ _ c.in-Err.fault c.in-Err.ensures.fault c.in_default.not-NoFile c.in-Err.ensures.noted refl

pub returns : goal.returns
returns g c = served c.open_served.result (subst (λ b. OnServed c.args.image.now b c.open_served.new.used.log.uses c.args.sockets.now.calls c.open_served.new.sockets.calls c.open_served.result) c.in-Err.ensures.noted c.open_served.ensures)
