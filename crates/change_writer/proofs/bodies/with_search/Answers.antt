use Rattle.std.proofs.Common.{◌≡◌, ◌==◌, Some, Ok, pos, false, true, nat_lt, List, ℕ, [], ◌∷◌, None, IfOk, codes, rules, refl, arith, sym, ap, ◌∙◌}
use Rattle.toml.proofs.Views.{view-String, view-Array, view-Table}
use Rattle.toml.specs.View.{view, table_view, items_view}
use Rattle.toml.specs.Data.{string, integer, array, table, no_members}
use Rattle.change_writer.specs.Members.{with_member}
use Rattle.change_file.specs.Named.{selector_named}
use Rattle.change_writer.proofs.Puts.{search_added}
use Rattle.change_writer.proofs.bodies.with_search.Goals as goal

pub returns-clause-adds : goal.returns-clause-adds
returns-clause-adds c =
    let same : table_view c.in_ok-with.field-0 ≡ with_member (codes "search") (string c.args.scope.now) (table_view c.args.table) = search (rules, view-String, view-Array, view-Table) in
    let named : selector_named c.args.scope.now ≡ Ok c.args.scope.now = search (rules, view-String, view-Array, view-Table) in
    rw same (search_added (table_view c.args.table) c.args.scope.now named)
