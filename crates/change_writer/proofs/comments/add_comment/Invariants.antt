use Rattle.std.proofs.Common.{◌≡◌, ◌++◌, codes, string_bytes}
use Rattle.std.specs.Prelude.{filter, encode_utf8_all}
use Rattle.change_writer.specs.Comments.{fits}
use Rattle.change_writer.proofs.comments.add_comment.Given as goal

-- the characters so far, but for those that no comment has
abbrev pub invariant-loop-c : goal.invariant-loop-c
invariant-loop-c l = string_bytes l.comments ≡ string_bytes l.fn.comments ++ (codes "# " ++ encode_utf8_all (filter fits l.yielded))
