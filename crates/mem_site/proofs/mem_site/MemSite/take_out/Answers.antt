use Rattle.mem_site.proofs.ShortPairs.{kept_remove}
use Rattle.mem_site.proofs.mem_site.MemSite.take_out.Goals as goal

pub invariant_of-self : goal.invariant_of-self
invariant_of-self c = rw c.remove.ensures.entries (kept_remove c.self.inside.items.entries c.args.selector.now c.self.invariant)
