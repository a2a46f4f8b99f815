use Rattle.std.proofs.Common.{inl, inr, refl}
use Rattle.image_copies.proofs.copying.copy_image.Goals as goal

pub returns-in-Err-clause-refused : goal.returns-in-Err-clause-refused
returns-in-Err-clause-refused g c = λ honest. inl (c.in-Err.ensures.refused.caused, refl)

pub returns-clause-refused : goal.returns-clause-refused
returns-clause-refused g c = λ honest.
    let planned = c.in-Ok.ensures.planned honest in
    inr (c.in-Ok.ensures.counts, planned.count, planned.counted, c.in-Err-write.ensures.fault planned.site planned.count planned.copy_is)

pub returns-in-Ok-write-clause-copied : goal.returns-in-Ok-write-clause-copied
returns-in-Ok-write-clause-copied g c = λ honest other.
    let planned = c.in-Ok.ensures.planned honest in
    record {
      site = planned.site;
      stands = planned.stands;
      count = planned.count;
      counted = planned.counted;
      copied = c.in-Ok-write.ensures.copied other planned.site planned.count planned.copy_is;
      sure = c.in-Ok-write.ensures.sure other;
    }
