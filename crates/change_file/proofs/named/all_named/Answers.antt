use Rattle.std.proofs.Common.{◌∙◌, sym, ap, length, rules}
use Rattle.std.proofs.lemmas.List.{map-id}
use Rattle.std.proofs.lemmas.Iterator.Adapters.{YieldsList-from_vec}
use Rattle.std.proofs.lemmas.Iterator.Consumers.{YieldsList-turn, YieldsList-so_far}
use Rattle.change_file.specs.Named.{all_named}
use Rattle.change_file.proofs.Lists.{all_named_stop}
use Rattle.change_file.proofs.named.all_named.Goals as goal

pub returns-in-Err : goal.returns-in-Err
returns-in-Err g c =
    let names = YieldsList-from_vec {s = c.into_iter-one-iterator.result} c.args.named.items (search rules) (search rules) in
    let t = YieldsList-turn names c.loop-one.yielded _ c.loop-one.yielded_by _ c.next.new.self c.in-Some.one c.in-Some.is c.next.ensures.steps in
    let s = YieldsList-so_far names c.loop-one.yielded _ c.loop-one.yielded_by in
    sym (
    all_named_stop c.args.named.items (length c.loop-one.yielded) c.in-Some.one c.loop-one.all.items c.in-Err.refused t.0
    (ap all_named (sym (sym (map-id c.loop-one.yielded) ∙ s)) ∙ c.loop-one.invariant)
    (sym t.1 ∙ c.in-Err.is))
