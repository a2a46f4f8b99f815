use Rattle.std.proofs.Common.{arith, sym, rules}
use Rattle.host_types.specs.Counting.{counted_below}
use Rattle.host_tests.proofs.failing_site.FailingSiteSiteKeeper.change_all.Goals as goal

-- the first failed write is counted
pub returns-then-self-eq0-clause-counts : goal.returns-then-self-eq0-clause-counts
returns-then-self-eq0-clause-counts c = record {
  tried = search rules;
  reads = search rules;
  writes = rw c.if-not-self.false (sym (counted_below 0 (omega arith)));
}
