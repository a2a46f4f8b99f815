use Rattle.mem_site.proofs.ShortPairs.{lookup-long}
use Rattle.mem_site.proofs.mem_site.MemSite.long_selectors.Goals as goal

pub returns : goal.returns
returns c = λ q long. rw (← c.self.view_is) (lookup-long c.self.inside.items.entries q c.self.invariant long)
