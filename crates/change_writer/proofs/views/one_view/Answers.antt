use Rattle.std.proofs.Common.{◌≡◌, subst, rules, arith}
use Rattle.toml.proofs.Views.{view-Table}
use Rattle.toml.specs.View.{table_view}
use Rattle.change_writer.specs.Members.{HasBytes, names}
use Rattle.change_writer.proofs.SmallTables.{view_reads, view_depth}
use Rattle.change_writer.proofs.views.one_view.Goals as goal

pub returns-clause-read : goal.returns-clause-read
returns-clause-read c =
    let v = c.args.one.now in
    let has : HasBytes v.bytes (names v.name v.language) (table_view c.in_ok-with_bytes.field-0) = rw (← c.in_ok-table.ensures.named) (subst (λ b. HasBytes b (table_view c.in_ok-table.table) (table_view c.in_ok-with_bytes.field-0)) c.as_slice.ensures c.in_ok-with_bytes.ensures) in
    rw (view-Table c.in_ok-with_bytes.field-0) (view_reads v.name v.language v.bytes (table_view c.in_ok-with_bytes.field-0) has)

pub returns-clause-depth : goal.returns-clause-depth
returns-clause-depth c =
    let v = c.args.one.now in
    let has : HasBytes v.bytes (names v.name v.language) (table_view c.in_ok-with_bytes.field-0) = rw (← c.in_ok-table.ensures.named) (subst (λ b. HasBytes b (table_view c.in_ok-table.table) (table_view c.in_ok-with_bytes.field-0)) c.as_slice.ensures c.in_ok-with_bytes.ensures) in
    rw (view-Table c.in_ok-with_bytes.field-0) (view_depth v.name v.language v.bytes (table_view c.in_ok-with_bytes.field-0) has)
