use Rattle.std.proofs.Common.{inl, inr, refl}
use Rattle.file_copies.proofs.copying.copy_opened.Goals as goal

pub returns-in-Err : goal.returns-in-Err
returns-in-Err g c = λ part. record {
  left = c.in-Err.old;
  between = c.args.used.now.log.uses;
  used = c.close.ensures;
  unwritten = c.in-Err.ensures.refused.no_new_crash_state refl;
  came = inl (record { fault = c.in-Err.fault; given_is = refl; cause = c.in-Err.ensures.refused.caused; used = refl; names = refl });
}

pub returns : goal.returns
returns g c = λ part.
    let planned = c.in-Ok.ensures.planned refl in
    record {
      left = c.in-Ok.old;
      between = c.make_new-made.new.used.log.uses;
      used = c.close-2.ensures;
      unwritten = c.in-Ok.ensures.at_crash refl;
      came = inr (record {
        site = planned.site;
        stands = planned.stands;
        alone = planned.alone;
        count = planned.count;
        counted = planned.counted;
        makes = c.make_new-made.ensures planned.site planned.count planned.copy_is part;
      });
    }
