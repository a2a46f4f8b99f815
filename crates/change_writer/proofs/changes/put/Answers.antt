use Rattle.std.proofs.Common.{◌≡◌, Some, Ok, List, ℕ, [], None, rules}
use Rattle.toml.specs.View.{table_view}
use Rattle.change_writer.specs.Bodies.{BeginsPut}
use Rattle.change_writer.proofs.Puts.{put_reads}
use Rattle.change_writer.proofs.changes.put.Goals as goal

pub returns-clause-read : goal.returns-clause-read
returns-clause-read c =
    let s = c.args.selector.now in
    let t = c.args.item.now.title in
    let a = c.args.item.now.summary in
    let b1 : BeginsPut (table_view c.in_ok-table.table) s t [] None = c.in_ok-table.ensures.begins in
    let b2 : BeginsPut (table_view c.in_ok-table-2.table) s t a None = c.in_ok-table-2.ensures.begins s t b1 in
    let b3 : BeginsPut (table_view c.in_ok-table-3.table) s t a c.args.item.now.until = c.in_ok-table-3.ensures.begins s t a b2 in
    put_reads (table_view c.in_ok-table-3.table) (table_view c.in_ok-with_body.field-0) s t a c.args.item.now.until c.args.item.now.body b3 c.in_ok-with_body.ensures.adds

pub returns-clause-depth : goal.returns-clause-depth
returns-clause-depth c =
    let s = c.args.selector.now in
    let t = c.args.item.now.title in
    let a = c.args.item.now.summary in
    let b2 : BeginsPut (table_view c.in_ok-table-2.table) s t a None = c.in_ok-table-2.ensures.begins s t c.in_ok-table.ensures.begins in
    c.in_ok-with_body.ensures.adds.depth (c.in_ok-table-3.ensures.begins s t a b2).depth
