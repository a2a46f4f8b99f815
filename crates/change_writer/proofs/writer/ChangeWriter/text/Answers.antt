use Rattle.std.proofs.Common.{◌≡◌, ◌++◌, ℕ, List, true, Some, Ok, codes, subst, string_bytes, refl, ap, rules, arith, ◌∙◌}
use Rattle.toml.specs.Data.{array, no_members}
use Rattle.toml.specs.View.{view, table_view, items_view}
use Rattle.toml.specs.Parse.{parse_document}
use Rattle.toml.specs.Text.{IsDocumentText}
use Rattle.toml.proofs.Views.{view-Array}
use Rattle.change_writer.specs.Members.{with_member}
use Rattle.change_writer.proofs.CommentLines.{behind_comments}
use Rattle.change_writer.specs.Comments.{comments}
use Rattle.change_writer.proofs.Files.{file_reads, file_depth}
use Rattle.change_writer.proofs.writer.ChangeWriter.text.Goals as goal

pub returns-in-Ok : goal.returns-in-Ok
returns-in-Ok c = λ texts.
    let vs = c.self.inside.tables.items in
    let same : table_view c.in_ok-document.document ≡ with_member (codes "change") (array (items_view vs)) no_members = rw (c.in_ok-document.ensures, view-Array c.self.inside.tables, c.no_table.ensures) refl in
    let back : parse_document (string_bytes c.in-Ok.text) ≡ Some (with_member (codes "change") (array (items_view vs)) no_members) = subst (λ d. parse_document (string_bytes c.in-Ok.text) ≡ Some d) same (c.in-Ok.ensures.reads_back (rw same (file_depth vs c.self.invariant.1))) in
    let shape : IsDocumentText true (with_member (codes "change") (array (items_view vs)) no_members) (string_bytes c.in-Ok.text) = subst (λ d. IsDocumentText true d (string_bytes c.in-Ok.text)) same c.in-Ok.ensures.text in
    let behind : parse_document (comments texts ++ string_bytes c.in-Ok.text) ≡ Some (with_member (codes "change") (array (items_view vs)) no_members) = behind_comments texts (items_view vs) (string_bytes c.in-Ok.text) shape back in
    rw (behind, file_reads vs c.self.invariant.0) (ap (λ xs. Some (Ok xs)) (search (rules, c.self.view_is)))
