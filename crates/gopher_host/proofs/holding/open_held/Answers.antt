use Rattle.std.proofs.Common.{ap, ◌∙◌, ⊎_elim, inl, inr}
use Rattle.image_commands.specs.Faults.{of_device}
use Rattle.gopher_host.proofs.Ended.{two_more}
use Rattle.gopher_host.proofs.HeldImages.{unheld, vanished, kept, let_go_late}
use Rattle.gopher_host.proofs.holding.open_held.Goals as goal

pub returns-then-not-hold : goal.returns-then-not-hold
returns-then-not-hold c = unheld c.args.image.now _ _ _ c.hold.result c.hold.ensures c.if-not-hold.true

pub returns-in-Err : goal.returns-in-Err
returns-in-Err c = vanished c.args.image.now _ _ _ c.hold.result c.hold.ensures _ c.from.result c.if-not-hold.false (⊎_elim (λ n. inl (c.from.ensures ∙ ap of_device n)) (λ m. inr (c.from.ensures ∙ ap of_device m)) c.in-Err.ensures.fault) c.in-Err.ensures.noted

pub returns-in-Ok-let_go : goal.returns-in-Ok-let_go
returns-in-Ok-let_go c = kept c.args.image.now _ _ _ c.hold.result c.hold.ensures _ c.in-Ok.device _ _ c.if-not-hold.false c.in-Ok.ensures.noted c.in-Ok.ensures.named c.in-Ok.ensures.opened c.in-Ok.ensures.unused c.in-Ok-let_go.ensures

pub returns-in-Err-let_go : goal.returns-in-Err-let_go
returns-in-Err-let_go c = let_go_late c.args.image.now _ _ _ c.hold.result c.hold.ensures _ c.in-Ok.device _ _ c.let_go.result c.in-Err-let_go.fault c.if-not-hold.false (two_more _ _ _ _ _ c.in-Ok.ensures.noted c.close.ensures) c.in-Err-let_go.is c.let_go.ensures
