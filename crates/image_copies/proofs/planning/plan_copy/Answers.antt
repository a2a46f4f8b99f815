use Rattle.std.proofs.Common.{ap, ◌∙◌, inr}
use Rattle.common_types.specs.CrashStates.{adds_none_again}
use Rattle.image_copies.specs.declared.fault.CopyFault.TheVariants.{Image as OfImage}
use Rattle.image_copies.proofs.Plans.{read_since, counted_since, not_planned}
use Rattle.image_copies.proofs.planning.plan_copy.Goals as goal

pub returns-in-Err-clause-refused : goal.returns-in-Err-clause-refused
returns-in-Err-clause-refused g c =
    let refused = c.in-Err.ensures.refused in
    record { caused = refused.caused; honest = refused.honest; no_new_crash_state = refused.no_new_crash_state }

pub returns-in-Err-clause-small : goal.returns-in-Err-clause-small
returns-in-Err-clause-small g c = λ small. let is = c.in-Err.ensures.small small in (ap OfImage is.0, is.1)

pub returns-in-Err-count_for-clause-refused : goal.returns-in-Err-count_for-clause-refused
returns-in-Err-count_for-clause-refused g c =
    let state = g.D.Device.state in
    let read = c.in-Ok.ensures in
    let mid = c.in-Ok.device in
    let reads = c.count_for.ensures.reads in
    record {
      caused = inr (read_since (state c.args.device) (state mid) (state c.count_for.new.device) c.in-Err-count_for.fault read.counts read.honest read.large.0 c.in-Err-count_for.ensures.fault);
      honest = reads.only.same.honest ∙ read.honest;
      no_new_crash_state = λ honest. adds_none_again _ _ _ (read.at_crash honest) (reads.no_new_crash_state (read.honest ∙ honest));
    }

pub returns-clause-planned : goal.returns-clause-planned
returns-clause-planned g c = λ honest.
    let read = c.in-Ok.ensures.read honest in
    record {
      site = read.site;
      stands = read.stands;
      alone = read.alone;
      count = c.in-Ok-count_for.count;
      counted = c.in-Ok-count_for.ensures.count (c.in-Ok.ensures.honest ∙ honest);
      copy_is = c.in-Ok-copy_of.ensures.copy read.site read.read_is;
    }

pub returns-clause-counts : goal.returns-clause-counts
returns-clause-counts g c =
    let reads = c.count_for.ensures.reads in
    counted_since _ _ _ c.in-Ok.ensures.counts (record { reads = c.in-Ok-count_for.ensures.counts; writes = reads.only.writes })

pub returns-clause-honest : goal.returns-clause-honest
returns-clause-honest g c = c.count_for.ensures.reads.only.same.honest ∙ c.in-Ok.ensures.honest

pub returns-clause-at_crash : goal.returns-clause-at_crash
returns-clause-at_crash g c = λ honest. adds_none_again _ _ _ (c.in-Ok.ensures.at_crash honest) (c.count_for.ensures.reads.no_new_crash_state (c.in-Ok.ensures.honest ∙ honest))

pub returns-in-Err-copy_of-clause-refused : goal.returns-in-Err-copy_of-clause-refused
returns-in-Err-copy_of-clause-refused g c =
    let state = g.D.Device.state in
    let read = c.in-Ok.ensures in
    let reads = c.count_for.ensures.reads in
    record {
      caused = not_planned c.args.pages (state c.args.device) (state c.count_for.new.device) c.in-Ok-count_for.count c.in-Ok.read.pairs.items c.in-Err-copy_of.fault
          (counted_since _ _ _ read.counts (record { reads = c.in-Ok-count_for.ensures.counts; writes = reads.only.writes })) read.large.0 c.in-Ok-count_for.ensures.possible
          (λ honest. c.in-Ok-count_for.ensures.count (read.honest ∙ honest)) (λ honest. let r = read.read honest in (r.site, r.stands, r.read_is.shows.all)) c.in-Err-copy_of.ensures.fault;
      honest = reads.only.same.honest ∙ read.honest;
      no_new_crash_state = λ honest. adds_none_again _ _ _ (read.at_crash honest) (reads.no_new_crash_state (read.honest ∙ honest));
    }
