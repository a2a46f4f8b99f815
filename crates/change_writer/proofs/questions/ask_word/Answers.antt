use Rattle.std.proofs.Common.{◌≡◌, ◌==◌, Some, Ok, pos, false, true, nat_lt, List, ℕ, [], ◌∷◌, None, IfOk, codes, rules, refl, arith, sym, ap, ◌∙◌}
use Rattle.toml.proofs.Views.{view-String, view-Array, view-Table}
use Rattle.toml.specs.View.{view, table_view, items_view}
use Rattle.toml.specs.Data.{string, integer, array, table, no_members}
use Rattle.change_writer.specs.Members.{with_member}
use Rattle.change_writer.proofs.SmallTables.{askp_reads}
use Rattle.change_writer.proofs.questions.ask_word.Goals as goal

pub returns-clause-read : goal.returns-clause-read
returns-clause-read c =
    let same : table_view c.in_ok-with.field-0 ≡ with_member (codes "word") (string c.args.word.now) (with_member (codes "askp") (string c.args.title.now) no_members) = search (rules, view-String, view-Array, view-Table) in
    rw (view-Table c.in_ok-with.field-0, same) (askp_reads c.args.title.now c.args.word.now c.in_ok-title.ensures.named)
