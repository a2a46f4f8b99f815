use Rattle.std.proofs.Common.{◌≡◌, ◌==◌, Some, Ok, pos, false, true, nat_lt, List, ℕ, [], ◌∷◌, None, IfOk, codes, rules, refl, arith, sym, ap, ◌∙◌}
use Rattle.toml.proofs.Views.{view-String, view-Array, view-Table}
use Rattle.toml.specs.View.{view, table_view, items_view}
use Rattle.toml.specs.Data.{string, integer, array, table, no_members}
use Rattle.change_writer.specs.Members.{with_member}
use Rattle.host_types.specs.Items.{kind_letter}
use Rattle.change_writer.proofs.Lists.{values_seen}
use Rattle.change_writer.proofs.Puts.{views_added}
use Rattle.change_writer.proofs.bodies.with_views.Goals as goal

pub returns-clause-adds : goal.returns-clause-adds
returns-clause-adds c =
    let same : table_view c.in_ok-with.field-0 ≡ with_member (codes "views") (array (items_view c.in_ok-values.values.items)) (with_member (codes "kind") (string (kind_letter c.args.kind ∷ [])) (table_view c.args.table)) = search (rules, view-String, view-Array, view-Table) in
    rw same (views_added (table_view c.args.table) c.args.kind (items_view c.in_ok-values.values.items) c.args.views_of.now c.in_ok-values.ensures.depth (rw (values_seen c.in_ok-values.values.items) c.in_ok-values.ensures.read))
