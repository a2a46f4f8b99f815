use Rattle.std.proofs.Common.{ap, ◌∙◌, refl, rules, tests}
use Rattle.std.specs.Prelude.{filter}
use Rattle.std.proofs.lemmas.Iterator.Splits.{YieldsList-from_slice_split}
use Rattle.std.proofs.lemmas.Iterator.Consumers.{YieldsList-end}
use Rattle.request_reader.specs.RequestLine.{is_space, not_empty}
use Rattle.request_reader.proofs.names.Names.to_list.Goals as goal

pub returns : goal.returns
returns c =
    let parts = YieldsList-from_slice_split _ is_space c.args.self.bytes.now (cc) (cc) refl (λ x b q k. search (rules, tests)) in
    let t = YieldsList-end parts c.loop-name.yielded _ c.loop-name.yielded_by _ _ c.in-None.is c.next.ensures.steps in
    c.loop-name.invariant ∙ ap (filter not_empty) t.0
