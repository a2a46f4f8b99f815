use Rattle.std.proofs.Common.{◌≡◌, ◌==◌, Some, Ok, pos, false, true, nat_lt, List, ℕ, [], ◌∷◌, None, IfOk, codes, rules, refl, arith, sym, ap, ◌∙◌}
use Rattle.toml.proofs.Views.{view-String, view-Array, view-Table}
use Rattle.toml.specs.View.{view, table_view, items_view}
use Rattle.toml.specs.Data.{string, integer, array, table, no_members}
use Rattle.change_writer.specs.Members.{with_member}
use Rattle.change_writer.proofs.Puts.{summary_added}
use Rattle.change_writer.proofs.changes.with_summary.Goals as goal

pub returns-clause-begins : goal.returns-clause-begins
returns-clause-begins c s t begins =
    let same : table_view c.in_ok-with.field-0 ≡ with_member (codes "abstract") (string c.args.summary.now) (table_view c.args.table) = c.in_ok-with.ensures ∙ ap (λ d. with_member (codes "abstract") d (table_view c.args.table)) (c.in_ok-summary.ensures.text ∙ ap string c.as_slice.ensures) in
    rw same (summary_added (table_view c.args.table) s t c.args.summary.now begins)
