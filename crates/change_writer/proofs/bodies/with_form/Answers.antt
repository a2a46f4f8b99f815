use Rattle.std.proofs.Common.{◌≡◌, ◌==◌, Some, Ok, pos, false, true, nat_lt, List, ℕ, [], ◌∷◌, None, IfOk, codes, rules, refl, arith, sym, ap, ◌∙◌}
use Rattle.toml.proofs.Views.{view-String, view-Array, view-Table}
use Rattle.toml.specs.View.{view, table_view, items_view}
use Rattle.toml.specs.Data.{string, integer, array, table, no_members}
use Rattle.change_writer.specs.Members.{with_member}
use Rattle.change_file.specs.Named.{selector_named}
use Rattle.change_writer.proofs.Lists.{values_seen, all_named_fine}
use Rattle.change_writer.proofs.Puts.{form_added, form_table}
use Rattle.change_writer.proofs.bodies.with_form.Goals as goal

pub returns-clause-adds : goal.returns-clause-adds
returns-clause-adds c =
    let same : table_view c.in_ok-with.field-0 ≡ with_member (codes "form") (form_table c.args.board.now (items_view c.in_ok-values.values.items)) (table_view c.args.table) = search (rules, view-String, view-Array, view-Table) in
    let named : selector_named c.args.board.now ≡ Ok c.args.board.now = search (rules, view-String, view-Array, view-Table) in
    rw same (form_added (table_view c.args.table) c.args.board.now (items_view c.in_ok-values.values.items) c.args.asked.now c.in_ok-values.ensures.depth named (rw (values_seen c.in_ok-values.values.items) c.in_ok-values.ensures.read) (all_named_fine c.args.asked.now))
