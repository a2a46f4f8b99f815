use Rattle.std.proofs.Common.{ap, ◌∙◌}
use Rattle.site_pairs.specs.Edits.{Edits, without_all}
use Rattle.site_pairs.proofs.ItemPairs.{drop_last}
use Rattle.site_pairs.proofs.edits.drop_all.Goals as goal

pub loop-key-preserved : goal.loop-key-preserved
loop-key-preserved c =
    ap (λ (e : Edits). without_all e c.pop.new.self.items) c.in_ok-insert.ensures.entries
    ∙ drop_last c.loop-key.edits.entries (without_all c.args.edits.now.entries c.args.pairs.items) c.loop-key.rest.items c.pop.new.self.items (c.in-Some.key, c.in-Some._value) c.in-Some.ensures.items c.loop-key.invariant
