use Rattle.std.proofs.Common.{◌∙◌, sym, ap, map, option_map}
use Rattle.gopher_host.proofs.Named.{item_at, place_of}
use Rattle.gopher_host.proofs.naming.name_of.Goals as goal

pub returns-in-Some : goal.returns-in-Some
returns-in-Some c = ap (option_map (λ item. item.now.now)) (sym c.in-Some.is) ∙ item_at c.args.names.now _ c.get.result c.get.ensures.lookup ∙ place_of c.args.number (map (λ name. name.now) c.args.names.now) c.if-number-eq0.false

pub returns-in-None : goal.returns-in-None
returns-in-None c = ap (option_map (λ item. item.now.now)) (sym c.in-None.is) ∙ item_at c.args.names.now _ c.get.result c.get.ensures.lookup ∙ place_of c.args.number (map (λ name. name.now) c.args.names.now) c.if-number-eq0.false
