use Rattle.std.proofs.Common.{◌≡◌, ◌==◌, Some, Ok, pos, false, true, nat_lt, List, ℕ, [], ◌∷◌, None, IfOk, codes, rules, refl, arith, sym, ap, ◌∙◌}
use Rattle.toml.proofs.Views.{view-String, view-Array, view-Table}
use Rattle.toml.specs.View.{view, table_view, items_view}
use Rattle.toml.specs.Data.{string, integer, array, table, no_members}
use Rattle.change_writer.specs.Members.{with_member}
use Rattle.host_types.specs.Items.{link_letter}
use Rattle.change_file.specs.Named.{selector_named, title_named, host_named}
use Rattle.change_writer.proofs.SmallTables.{remote_table, remote_reads}
use Rattle.change_writer.proofs.entries.remote.Goals as goal

pub returns-clause-read : goal.returns-clause-read
returns-clause-read c =
    let same : table_view c.in_ok-with.field-0 ≡ (remote_table (link_letter c.args.kind ∷ []) c.args.title.now c.args.selector.now c.args.host.now c.args.port) = search (rules, view-String, view-Array, view-Table) in
    let t : title_named c.args.title.now ≡ Ok c.args.title.now = search (rules, view-String, view-Array, view-Table) in
    let s : selector_named c.args.selector.now ≡ Ok c.args.selector.now = search (rules, view-String, view-Array, view-Table) in
    let h : host_named c.args.host.now ≡ Ok c.args.host.now = search (rules, view-String, view-Array, view-Table) in
    let small : nat_lt c.args.port 65536 ≡ true = search (rules, view-String, view-Array, view-Table) in
    let some : (c.args.port == 0) ≡ false = search (rules, view-String, view-Array, view-Table) in
    rw (view-Table c.in_ok-with.field-0, same) (remote_reads c.args.kind c.args.title.now c.args.selector.now c.args.host.now c.args.port t s h small some)
