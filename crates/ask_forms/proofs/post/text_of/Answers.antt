use Rattle.std.proofs.Common.{ap, ◌∙◌, flat_map}
use Rattle.std.specs.Prelude.{filter}
use Rattle.std.proofs.lemmas.Iterator.{YieldsList-from_slice, YieldsList-from_zip}
use Rattle.std.proofs.lemmas.Iterator.Consumers.{YieldsList-end}
use Rattle.ask_forms.specs.Post.{post_text}
use Rattle.ask_forms.proofs.Steps.{shows, pair_text}
use Rattle.ask_forms.proofs.post.text_of.Goals as goal

pub returns : goal.returns
unfolding post_text
returns c =
    let pairs = YieldsList-from_zip (YieldsList-from_slice c.args.questions.now (cc)) (YieldsList-from_slice c.args.answers.now (cc)) in
    let t = YieldsList-end pairs c.loop-question.yielded _ c.loop-question.yielded_by _ c.next.new.self c.in-None.is c.next.ensures.steps in
    c.from.ensures ∙ c.loop-question.invariant.2 ∙ ap (λ ps. flat_map pair_text (filter shows ps)) t.0
