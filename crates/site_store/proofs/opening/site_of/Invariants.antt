use Rattle.std.proofs.Common.{◌≡◌, drop}
use Rattle.host_types.specs.Site.{Site}
use Rattle.site_store.specs.Represented.{PairsShowSite}
use Rattle.site_store.specs.Opening.{site_under, with_all_named, HasAddressOf}
use Rattle.site_store.proofs.opening.site_of.Given as goal

-- what is left names the rest
abbrev pub invariant-loop-pair : goal.invariant-loop-pair
invariant-loop-pair l =
    record {
      same : l.read ≡ l.fn.read;
      address : HasAddressOf l.site l.fn.read.1;
      named : (s : Site) → PairsShowSite l.fn.read.0 l.fn.read.1 s → with_all_named s (site_under l.fn.read.1) l.pairs ≡ with_all_named s l.site (drop l.pair-index l.pairs);
    }
