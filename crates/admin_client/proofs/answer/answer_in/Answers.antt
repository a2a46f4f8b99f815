use Rattle.std.proofs.Common.{ap, sym, ◌∙◌, ◌++◌, ◌∷◌, [], append_assoc}
use Rattle.std.specs.String.{string_bytes}
use Rattle.admin_lines.specs.Replies.{first_line}
use Rattle.admin_client.proofs.Replied.{behind_first, rest_of}
use Rattle.admin_client.proofs.answer.answer_in.Goals as goal

pub returns-clause-says : goal.returns-clause-says
returns-clause-says c = behind_first c.args.bytes.now c.in-Ok.read (sym c.in-Ok.ensures.read) ∙ ap (λ l. first_line c.in-Ok.read.done ++ l) (sym (rest_of c.in-Ok.read.start c.args.bytes.now) ∙ c.in-Ok-text_in.ensures.text) ∙ sym (append_assoc (first_line c.in-Ok.read.done) (string_bytes c.in-Ok-text_in.text) (10 ∷ []))
