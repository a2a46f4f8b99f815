use Rattle.std.proofs.Common.{rules, ◌≡◌, List, length, sym, ap, ◌∙◌, arith}
use Rattle.common_types.specs.Counts.{counted_rises}
use Rattle.sector_device.proofs.Works.{no_more_than}
use Rattle.page_store.specs.Pages.{Pair}
use Rattle.page_store.specs.Batch.{updated}
use Rattle.page_store.specs.Encoding.{by_pages, pages_needed}
use Rattle.page_store.proofs.Outcomes.{both_flags}
use Rattle.page_store.proofs.PairsByPage.{flat_pages_length}
use Rattle.page_store.proofs.Flats.{now_map}
use Rattle.page_store.proofs.flat_calls.FlatKeeperKeeper.commit.Goals as goal

pub write_plan-requires-clause-may : goal.write_plan-requires-clause-may
write_plan-requires-clause-may g c =
    let k = c.args.self.now in
    let plan = c.in_ok-plan.ensures.plan in
    record {
      usable = c.if-not-self.false;
      left = omega arith;
      map = now_map k.pairs.items c.in_ok-plan.plan.pairs.items c.args.batch.now (plan.pairs_are ∙ ap (λ (l : List Pair). updated l c.args.batch.now) c.deref.ensures.value) k.fitted.map c.requires.batch;
      version = search (rules, plan.slot_is, c.requires.banner);
    }

pub returns-in-Ok-clause-writes : goal.returns-in-Ok-clause-writes
returns-in-Ok-clause-writes g c =
    let k = c.args.self.now in
    let count : length c.in_ok-plan.plan.pages.items ≡ pages_needed (updated k.pairs.items c.args.batch.now) =
    ap length c.in_ok-plan.ensures.plan.pages_are ∙ flat_pages_length _ _ (by_pages _) ∙ ap (λ (l : List Pair). pages_needed (updated l c.args.batch.now)) c.deref.ensures.value in
    let made = c.in-Ok.ensures.counts.work in
    record {
      between = search rules;
      written = record { reads = made.reads; writes = omega (arith, made.writes, count); syncs = made.syncs };
      unwritten = tt;
    }

pub returns-in-Err-clause-writes : goal.returns-in-Err-clause-writes
returns-in-Err-clause-writes g c =
    let k = c.args.self.now in
    let count : length c.in_ok-plan.plan.pages.items ≡ pages_needed (updated k.pairs.items c.args.batch.now) =
    ap length c.in_ok-plan.ensures.plan.pages_are ∙ flat_pages_length _ _ (by_pages _) ∙ ap (λ (l : List Pair). pages_needed (updated l c.args.batch.now)) c.deref.ensures.value in
    record {
      between = search rules;
      written = no_more_than c.in-Err.ensures.counts.work (omega arith) (omega (arith, count)) (omega arith);
      unwritten = λ same. both_flags k.usable c.if-not-self.false (sym same ∙ c.in-Err.ensures.failed.shut);
    }

pub returns-in-Ok-clause-counts : goal.returns-in-Ok-clause-counts
returns-in-Ok-clause-counts g c =
    let plan = c.in_ok-plan.ensures.plan in
    let count = ap length plan.pages_are ∙ flat_pages_length _ _ (by_pages _) in
    let room = plan.room in
    let made = c.in-Ok.ensures.counts.work in
    record {
      tried = search rules;
      reads = search rules;
      writes = search rules;
      work = record {
        reads = (omega (arith, made.reads), omega (arith, made.reads));
        wrote = record { writes = (omega (arith, made.writes), omega (arith, made.writes, count, room)); syncs = (omega (arith, made.syncs), omega (arith, made.syncs)) };
      };
    }

pub returns-in-Err-clause-counts : goal.returns-in-Err-clause-counts
returns-in-Err-clause-counts g c =
    let plan = c.in_ok-plan.ensures.plan in
    let count = ap length plan.pages_are ∙ flat_pages_length _ _ (by_pages _) in
    let room = plan.room in
    let made = c.in-Err.ensures.counts.work in
    record {
      tried = record {
        honest = c.write_plan.ensures.counts.honest;
        reads = omega (arith, c.write_plan.ensures.counts.reads);
        writes = omega (arith, c.in-Err.ensures.counts.writes, counted_rises (g.D.Device.state c.args.self.now.device).failed_writes);
        top = omega (arith, c.write_plan.ensures.counts.top);
      };
      reads = search rules;
      writes = search rules;
      work = record {
        reads = (made.reads.0, omega (arith, made.reads.1));
        wrote = record { writes = (made.writes.0, omega (arith, made.writes.1, count, room)); syncs = made.syncs };
      };
    }
