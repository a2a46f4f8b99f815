use Rattle.std.proofs.Common.{rules}
use Rattle.request_reader.specs.Seen.{seen}
use Rattle.group_hub.proofs.AnsweredAlone.{alone_phase}
use Rattle.group_hub.proofs.singly.answer_alone.Goals as goal

pub returns-in-Ok-Answered-clause-answers : goal.returns-in-Ok-Answered-clause-answers
returns-in-Ok-Answered-clause-answers g c =
    record {
      phase = λ honest.
          let s = g.S.SiteKeeper in
          let come = rw c.in-Ok-Answered.field-0-is at (c.in-Ok-Answered.ensures.concludes.concluded honest) in
          rw c.put.ensures.site (alone_phase s.pinned (s.site_state c.args.site.now) (s.site_state c.conclude.new.site) c.args.phase.now c.put.new.phase c.in-Ok-Answered.next c.in-Waiting.waiting (seen c.answer.result) c.in-Ok-Answered.field-0-0 c.in-Waiting.is c.answer.ensures c.put.ensures.phase come);
      answered = search rules;
      err = search rules;
      sound = search rules;
      pins = search rules;
      uncrowded = search rules;
    }
