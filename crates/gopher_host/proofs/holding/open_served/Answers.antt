use Rattle.std.proofs.Common.{refl, sym, ap, ◌∙◌, subst, inl, inr, ◌++◌, ◌∷◌, [], true, false, Err}
use Rattle.admin_socket.specs.SocketCalls.{Connected}
use Rattle.image_commands.specs.declared.fault.ImageFault.TheVariants.{NoFile, Memory}
use Rattle.gopher_host.specs.Held.{OnServed, nobody, answered}
use Rattle.gopher_host.proofs.holding.open_served.Goals as goal

pub returns-in_default : goal.returns-in_default
returns-in_default g c = subst (λ f. OnServed c.args.image.now c.args.used.now.log.uses c.args.used.now.log.uses c.args.sockets.now.calls c.args.sockets.now.calls (Err f)) (sym c.of_memory.ensures) (nobody Memory (inr refl) refl (inl refl))

pub returns-in-Some : goal.returns-in-Some
returns-in-Some g c = answered c.open_held.result (c.in-Some.ensures.had ∙ ap (λ n. c.args.sockets.now.calls ++ Connected n true ∷ []) (c.deref.ensures ∙ c.in-Ok.ensures)) c.open_held.ensures

pub returns : goal.returns
returns g c = nobody NoFile (inl refl) refl (inr (c.connect_to.ensures.not_had c.in-None.is ∙ ap (λ n. c.args.sockets.now.calls ++ Connected n false ∷ []) (c.deref.ensures ∙ c.in-Ok.ensures)))
