use Rattle.std.proofs.Common.{ℕ, List, ◌≡◌, ◌≤◌, ◌++◌, [], ◌∷◌, Some, refl, ap, rules, arith}
use Rattle.toml.specs.Data.{depth}
use Rattle.toml.specs.View.{view}
use Rattle.toml.proofs.Views.{view-Table}
use Rattle.toml.specs.declared.value.Value as Value
use Rattle.change_file.specs.Changes.{change_of, file_change, remove}
use Rattle.change_file.specs.Named.{selector_named}
use Rattle.change_file.specs.declared.fault.FileChange.{FileChange}
use Rattle.change_writer.specs.Writer.{all_read, changes_in}
use Rattle.change_writer.proofs.Lists.{depth_more}
use Rattle.change_writer.proofs.Files.{adds_one}
use Rattle.change_writer.proofs.writer.ChangeWriter.remove.Goals as goal

-- what the table of this name says
abbrev removal : List ℕ → FileChange
removal name = file_change (remove (selector_named name))

pub invariant_of-self-2 : goal.invariant_of-self-2
invariant_of-self-2 c =
    let old = c.self.inside.tables.items in
    let one = Value.Table c.in_ok-table.table in
    let gives : change_of (view one) ≡ Some (removal c.args.name.now) = rw (view-Table c.in_ok-table.table) c.in_ok-table.ensures.read in
    let read : all_read (old ++ one ∷ []) ≡ Some (changes_in old ++ removal c.args.name.now ∷ []) = adds_one old one (removal c.args.name.now) c.self.invariant.0 gives in
    let deep : depth (view one) ≤ 5 = rw (view-Table c.in_ok-table.table) (omega (arith, c.in_ok-table.ensures.depth)) in
    rw c.in_ok-push.ensures.items (rw read refl, depth_more 5 old one c.self.invariant.1 deep)

pub returns-clause-added : goal.returns-clause-added
returns-clause-added c =
    let old = c.self.inside.tables.items in
    let one = Value.Table c.in_ok-table.table in
    let gives : change_of (view one) ≡ Some (removal c.args.name.now) = rw (view-Table c.in_ok-table.table) c.in_ok-table.ensures.read in
    let read : all_read (old ++ one ∷ []) ≡ Some (changes_in old ++ removal c.args.name.now ∷ []) = adds_one old one (removal c.args.name.now) c.self.invariant.0 gives in
    rw (c.in_ok-push.ensures.items, read) (ap (λ xs. xs ++ removal c.args.name.now ∷ []) (search (rules, c.self.view_is)))
