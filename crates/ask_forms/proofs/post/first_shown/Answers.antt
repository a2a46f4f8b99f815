use Rattle.std.proofs.Common.{ap, sym, ◌∙◌, length}
use Rattle.std.specs.Prelude.{filter}
use Rattle.std.specs.List.{zip}
use Rattle.std.proofs.lemmas.Iterator.{YieldsList-from_slice, YieldsList-from_zip}
use Rattle.std.proofs.lemmas.Iterator.Consumers.{YieldsList-turn, YieldsList-so_far, YieldsList-end}
use Rattle.ask_forms.specs.Post.{first_line, first_answered}
use Rattle.host_types.specs.declared.form.Question.{Question}
use Rattle.ask_forms.specs.declared.answer.Answer.{Answer}
use Rattle.ask_forms.proofs.Steps.{shows, first_of}
use Rattle.ask_forms.proofs.post.first_shown.Goals as goal

pub returns-then-is_shown : goal.returns-then-is_shown
returns-then-is_shown c =
    let pairs = YieldsList-from_zip (YieldsList-from_slice c.args.questions.now (cc)) (YieldsList-from_slice c.args.answers.now (cc)) in
    let t = YieldsList-turn pairs c.loop-question.yielded _ c.loop-question.yielded_by _ c.next.new.self (c.in-Some.question, c.in-Some.answer) c.in-Some.is c.next.ensures.steps in
    let s = YieldsList-so_far pairs c.loop-question.yielded _ c.loop-question.yielded_by in
    let pair : Question × Answer = (c.in-Some.question.now, c.in-Some.answer.now) in
    let all = zip c.args.questions.now c.args.answers.now in
    c.first_line.ensures
    ∙ ap (λ p. first_line p.1) t.1
    ∙ sym (first_of all (length c.loop-question.yielded) pair t.0 (ap (filter shows) (sym s) ∙ c.loop-question.invariant.2) (ap shows (sym t.1) ∙ sym c.is_shown.ensures ∙ c.if-is_shown.true))

pub returns : goal.returns
returns c =
    let pairs = YieldsList-from_zip (YieldsList-from_slice c.args.questions.now (cc)) (YieldsList-from_slice c.args.answers.now (cc)) in
    let t = YieldsList-end pairs c.loop-question.yielded _ c.loop-question.yielded_by _ c.next.new.self c.in-None.is c.next.ensures.steps in
    ap first_answered (sym c.loop-question.invariant.2 ∙ ap (filter shows) t.0)
