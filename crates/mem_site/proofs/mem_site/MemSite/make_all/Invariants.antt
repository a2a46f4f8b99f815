use Rattle.std.proofs.Common.{◌≡◌, ◌+◌, length}
use Rattle.host_types.specs.AllChanges.{applied_from, all_applied}
use Rattle.mem_site.proofs.mem_site.MemSite.make_all.Given as goal

-- the changes that are left make of the copy what all make of the site
abbrev pub invariant-loop-rest : goal.invariant-loop-rest
invariant-loop-rest l = record {
  same : all_applied l.fn.self l.fn.changes.items ≡ applied_from l.place l.made l.rest.items;
  counted : l.place + length l.rest.items ≡ length l.fn.changes.items;
  stays : l.self ≡ l.fn.self;
}

abbrev pub decreases-loop-rest : goal.decreases-loop-rest
decreases-loop-rest l = length l.rest.items
