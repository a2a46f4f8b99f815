use Rattle.std.proofs.Common.{rules, not, bytes_eq, string_bytes}
use Rattle.std.specs.List.{list_any}
use Rattle.std.proofs.lemmas.Iterator.Consumers.{YieldsList-from_rest}
use Rattle.std.proofs.lemmas.Iterator.Search.{find_from_yields_List}
use Rattle.change_flaws.proofs.KeyLists.{first_of_keys}
use Rattle.change_flaws.proofs.keys.first_other.Goals as goal

pub returns : goal.returns
returns c =
    first_of_keys c.args.keys.now c.find.result c.args.table.now.entries
    (find_from_yields_List (λ k. not (list_any (λ one. bytes_eq one.now (string_bytes k)) c.args.keys.now)) _ _ c.find.result c.find.ensures.ran (YieldsList-from_rest _ c.keys.ensures.rest) (λ x b q k. search rules))
