use Rattle.std.proofs.Common.{sym}
use Rattle.mem_site.proofs.ShortPairs.{found_short}
use Rattle.mem_site.proofs.mem_site.MemSite.item_at.Goals as goal

pub returns-in-Some-clause-short : goal.returns-in-Some-clause-short
returns-in-Some-clause-short c = found_short c.self.inside.items.entries c.args.selector.now c.in-Some.item.now c.self.invariant (sym c.in-Some.ensures.value)
