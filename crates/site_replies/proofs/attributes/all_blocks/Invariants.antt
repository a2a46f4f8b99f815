use Rattle.std.proofs.Common.{◌≡◌, take}
use Rattle.std.specs.Prelude.{filter_map, IsTrue}
use Rattle.host_types.specs.Visible.{visible}
use Rattle.host_types.specs.SiteCalls.{ReadsOnly}
use Rattle.site_replies.specs.Reply.{entry_block}
use Rattle.site_replies.proofs.attributes.all_blocks.Given as goal

-- the blocks so far, nothing of the site has changed, and no read has failed
abbrev pub invariant-loop-entry : goal.invariant-loop-entry
invariant-loop-entry g l =
    let site_state = g.S.SiteKeeper.site_state in
    record {
      only : ReadsOnly site_state g.S.SiteKeeper.lacks g.S.SiteKeeper.crash_states l.fn.site l.site;
      none_failed : (site_state l.site).failed_reads ≡ (site_state l.fn.site).failed_reads;
      blocks : IsTrue (site_state l.fn.site).honest → l.all ≡ filter_map (entry_block (visible (site_state l.fn.site).site l.now) l.names) (take l.entry-index l.entries);
    }
