use Rattle.std.proofs.Common.{ap, ◌∙◌}
use Rattle.site_pairs.specs.Edits.{Edits, with_all}
use Rattle.site_pairs.proofs.ItemPairs.{put_last}
use Rattle.site_pairs.proofs.edits.put_all.Goals as goal

pub loop-key-preserved-in_ok-insert : goal.loop-key-preserved-in_ok-insert
loop-key-preserved-in_ok-insert c =
    ap (λ (e : Edits). with_all e c.pop.new.self.items) c.in_ok-insert.ensures.entries
    ∙ put_last c.loop-key.edits.entries (with_all c.args.edits.now.entries c.args.pairs.items) c.loop-key.rest.items c.pop.new.self.items (c.in-Some.key, c.in-Some.value) c.in-Some.ensures.items c.loop-key.invariant

pub loop-key-preserved-in_ok-insert-2 : goal.loop-key-preserved-in_ok-insert-2
loop-key-preserved-in_ok-insert-2 c =
    ap (λ (e : Edits). with_all e c.pop.new.self.items) c.in_ok-insert.ensures.entries
    ∙ put_last c.loop-key.edits.entries (with_all c.args.edits.now.entries c.args.pairs.items) c.loop-key.rest.items c.pop.new.self.items (c.in-Some.key, c.in-Some.value) c.in-Some.ensures.items c.loop-key.invariant

pub loop-key-preserved : goal.loop-key-preserved
loop-key-preserved c =
    ap (λ (e : Edits). with_all e c.pop.new.self.items) c.in_ok-insert.ensures.entries
    ∙ put_last c.loop-key.edits.entries (with_all c.args.edits.now.entries c.args.pairs.items) c.loop-key.rest.items c.pop.new.self.items (c.in-Some.key, c.in-Some.value) c.in-Some.ensures.items c.loop-key.invariant
