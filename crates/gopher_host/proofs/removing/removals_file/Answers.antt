use Rattle.std.proofs.Common.{ap, ◌∙◌, map, arith, Ok, []}
use Rattle.std.specs.Prelude.{Some}
use Rattle.std.proofs.lemmas.List.{take_all}
use Rattle.gopher_host.specs.Kept.{removal}
use Rattle.gopher_host.proofs.removing.removals_file.Goals as goal

pub returns-clause-text : goal.returns-clause-text
returns-clause-text c = c.in_ok-text.ensures [] ∙ ap (λ l. Some (Ok l)) (c.loop-name.invariant ∙ ap (λ ns. map (λ name. removal name.now) ns) (take_all c.loop-name.name-index c.args.names.now (let t = c.loop-name-test.false in omega (arith, t))))
