use Rattle.mem_site.proofs.ShortPairs.{kept_insert}
use Rattle.mem_site.proofs.mem_site.MemSite.insert.Goals as goal

pub invariant_of-self-2 : goal.invariant_of-self-2
invariant_of-self-2 c = rw c.in_ok-insert.ensures.entries (kept_insert c.self.inside.items.entries c.args.selector c.args.item c.self.invariant c.as_bytes.ensures.length c.requires)
