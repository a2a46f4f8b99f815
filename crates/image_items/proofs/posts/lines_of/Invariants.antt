use Rattle.std.proofs.Common.{◌≡◌, take}
use Rattle.std.specs.Prelude.{flat_map, IsTrue}
use Rattle.image_items.specs.Posts.{line_at}
use Rattle.host_types.specs.SiteCalls.{ReadsOnly}
use Rattle.image_items.proofs.posts.lines_of.Given as goal

-- the lines so far, nothing of the site has changed, and no read has failed
abbrev pub invariant-loop-selector : goal.invariant-loop-selector
invariant-loop-selector g l =
    let site_state = g.S.SiteKeeper.site_state in
    record {
      only : ReadsOnly site_state g.S.SiteKeeper.lacks g.S.SiteKeeper.crash_states l.fn.site l.site;
      none_failed : (site_state l.site).failed_reads ≡ (site_state l.fn.site).failed_reads;
      lines : IsTrue (site_state l.fn.site).honest → l.text.items ≡ flat_map (line_at (site_state l.fn.site).site) (take l.selector-index l.selectors);
    }
