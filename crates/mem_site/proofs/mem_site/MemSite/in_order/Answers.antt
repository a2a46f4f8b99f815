use Rattle.std.proofs.Common.{◌≡◌, true, subst}
use Rattle.std.specs.FinMap.{is_sorted}
use Rattle.host_types.specs.Site.{byte_cmp}
use Rattle.mem_site.proofs.WholeSites.{sorted_from_keys}
use Rattle.mem_site.proofs.mem_site.MemSite.in_order.Goals as goal

pub returns : goal.returns
returns c = subst (λ es. is_sorted byte_cmp es ≡ true) c.items.ensures (sorted_from_keys c.items.result.now.entries c.len.ensures.ordered)
