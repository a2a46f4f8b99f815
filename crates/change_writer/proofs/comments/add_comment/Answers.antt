use Rattle.std.proofs.Common.{codes, sym, ◌∙◌, string_bytes}
use Rattle.std.specs.Str.{chars}
use Rattle.std.proofs.lemmas.Iterator.{YieldsList-from_chars}
use Rattle.std.proofs.lemmas.Iterator.Consumers.{YieldsList-end}
use Rattle.std.proofs.lemmas.List.{map-id}
use Rattle.change_writer.proofs.CommentLines.{one_more, one_less, ends_here}
use Rattle.change_writer.proofs.comments.add_comment.Goals as goal

pub loop-c-preserved : goal.loop-c-preserved
loop-c-preserved c = one_less (string_bytes c.args.comments.now) (codes "# ") (string_bytes c.loop-c.comments) c.loop-c.yielded c.in-Some.c (sym c.fits.ensures ∙ c.if-fits.false) c.loop-c.invariant

pub loop-c-preserved-in-Continue-branch-2 : goal.loop-c-preserved-in-Continue-branch-2
loop-c-preserved-in-Continue-branch-2 c = one_more (string_bytes c.args.comments.now) (codes "# ") (string_bytes c.loop-c.comments) (string_bytes c.push.new.self) c.loop-c.yielded c.in-Some.c (sym c.fits.ensures ∙ c.if-fits.true) c.loop-c.invariant c.in_ok-push.ensures.bytes

pub returns : goal.returns
returns c =
    let all = YieldsList-end (YieldsList-from_chars c.args.text.now c.utf8.text cc) c.loop-c.yielded _ c.loop-c.yielded_by _ _ c.in-None.is c.next.ensures.steps in
    ends_here (string_bytes c.args.comments.now) (codes "# ") (string_bytes c.loop-c.comments) (string_bytes c.push_str-2.new.self) c.loop-c.yielded (chars c.args.text.now) (sym (map-id c.loop-c.yielded) ∙ all.0) c.loop-c.invariant c.in_ok-push_str-2.ensures.bytes
