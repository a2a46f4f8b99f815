use Rattle.std.proofs.Common.{ap, ◌∙◌, refl, Ok}
use Rattle.admin_lines.specs.Heads.{head_in}
use Rattle.admin_office.proofs.Steps.{heard_by, hold_heard, no_hold}
use Rattle.admin_office.proofs.hearing.heard_so_far.Goals as goal

pub returns-then-is_hold : goal.returns-then-is_hold
returns-then-is_hold c = hold_heard c.args.heard.items c.as_slice.result.now c.is_hold.result c.as_slice.ensures.value c.is_hold.ensures c.if-is_hold.true

pub returns-in-Ok-None : goal.returns-in-Ok-None
returns-in-Ok-None c =
    let other = no_hold c.args.heard.items c.as_slice.result.now c.is_hold.result c.as_slice.ensures.value c.is_hold.ensures c.if-is_hold.false in
    heard_by c.args.heard.items c.read_head.result _ _ other (c.read_head.ensures.read ∙ ap (λ l. head_in l) c.as_slice-2.ensures.value) (c.in-Ok-None.is ∙ ap (λ h. Ok h) c.in-Ok-None.field-0-is) refl

pub returns-in-Ok-Some : goal.returns-in-Ok-Some
returns-in-Ok-Some c =
    let other = no_hold c.args.heard.items c.as_slice.result.now c.is_hold.result c.as_slice.ensures.value c.is_hold.ensures c.if-is_hold.false in
    heard_by c.args.heard.items c.read_head.result _ _ other (c.read_head.ensures.read ∙ ap (λ l. head_in l) c.as_slice-2.ensures.value) (c.in-Ok-Some.is ∙ ap (λ h. Ok h) c.in-Ok-Some.field-0-is) c.heard_file.ensures

pub returns-in-Err : goal.returns-in-Err
returns-in-Err c =
    let other = no_hold c.args.heard.items c.as_slice.result.now c.is_hold.result c.as_slice.ensures.value c.is_hold.ensures c.if-is_hold.false in
    heard_by c.args.heard.items c.read_head.result _ _ other (c.read_head.ensures.read ∙ ap (λ l. head_in l) c.as_slice-2.ensures.value) c.in-Err.is (rw c.request_line.ensures at c.refuse.ensures)
