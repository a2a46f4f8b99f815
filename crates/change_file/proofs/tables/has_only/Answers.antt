use Rattle.std.proofs.Common.{◌∙◌, sym, rules, bytes_eq, string_bytes}
use Rattle.std.specs.List.{list_any}
use Rattle.std.proofs.lemmas.Iterator.Consumers.{YieldsList-from_rest}
use Rattle.std.proofs.lemmas.Iterator.Search.{all_from_yields_List}
use Rattle.change_file.proofs.Values.{only_of_keys}
use Rattle.change_file.proofs.tables.has_only.Goals as goal

pub returns : goal.returns
returns c =
    all_from_yields_List (λ k. list_any (λ one. bytes_eq one.now (string_bytes k)) c.args.keys.now) _ _ c.all.result c.all.ensures.ran (YieldsList-from_rest _ c.keys.ensures.rest) (λ x b q k. search rules)
    ∙ sym (only_of_keys c.args.keys.now c.args.table.now.entries)
