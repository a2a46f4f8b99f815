use Rattle.std.proofs.Common.{ap, ◌∙◌, ◌∷◌, [], ◌++◌, inl, inr, refl, sym, take}
use Rattle.std.proofs.lemmas.List.{append-nil}
use Rattle.turns.specs.WireCalls.{Read, ReadFailed}
use Rattle.admin_client.proofs.Asked.{nothing_yet, heard_more, heard_all}
use Rattle.admin_client.proofs.asking.hear.Goals as goal

pub loop-read-init : goal.loop-read-init
loop-read-init g c = rw c.new-reply.ensures.items (nothing_yet (g.W.Wire.calls c.args.wire.now))

pub loop-read-preserved : goal.loop-read-preserved
loop-read-preserved g c = heard_more c.loop-read.reply.items (take c.in-Ok.count c.read.new.buffer) _ _ _ _ c.loop-read.invariant
    (c.in-Ok.ensures.calls ∙ ap (λ n. g.W.Wire.calls c.loop-read.wire ++ Read n (take c.in-Ok.count c.read.new.buffer) ∷ []) c.read.auto.buffer) c.in_ok-extend_from_slice.ensures.items

pub returns-in_default : goal.returns-in_default
returns-in_default g c = heard_all _ (ReadFailed 2048 ∷ []) _ _ _ c.loop-read.invariant (c.in_default.ensures.calls ∙ ap (λ n. g.W.Wire.calls c.loop-read.wire ++ ReadFailed n ∷ []) c.read.auto.buffer) (inr (inl refl))

pub returns-then-count-eq0 : goal.returns-then-count-eq0
returns-then-count-eq0 g c = heard_all _ (Read 2048 [] ∷ []) _ _ _ c.loop-read.invariant (c.in-Ok.ensures.calls ∙ rw c.if-count-eq0.true (ap (λ n. g.W.Wire.calls c.loop-read.wire ++ Read n [] ∷ []) c.read.auto.buffer)) (inl refl)

pub returns : goal.returns
returns g c = heard_all _ [] _ _ _ c.loop-read.invariant (sym (append-nil _)) (inr (inr refl))
