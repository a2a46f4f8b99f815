use Rattle.std.proofs.Common.{◌≡◌, Some, Ok, pos, List, ℕ, None, codes, rules, ap, ◌∙◌}
use Rattle.common_types.specs.Names.{stamp_of}
use Rattle.toml.specs.Data.{integer}
use Rattle.toml.specs.View.{table_view}
use Rattle.change_writer.specs.Members.{with_member}
use Rattle.change_writer.proofs.Puts.{until_added}
use Rattle.change_writer.proofs.changes.with_until.Goals as goal

pub returns-in_ok-with-in-Some : goal.returns-in_ok-with-in-Some
returns-in_ok-with-in-Some c =
    let same : table_view c.in_ok-with-in-Some.field-0 ≡ with_member (codes "until") (integer (pos c.in-Some.stamp)) (table_view c.args.table)
    = c.in_ok-with-in-Some.ensures ∙ ap (λ d. with_member (codes "until") d (table_view c.args.table)) (c.number.ensures ∙ ap (λ n. integer (pos n)) c.seconds.ensures.value) in
    let is_moment : stamp_of c.in-Some.stamp ≡ Ok c.in-Some.stamp = search rules in
    record { begins = λ s t a begins. rw (c.in-Some.is, same) (until_added (table_view c.args.table) s t a c.in-Some.stamp is_moment begins) }
