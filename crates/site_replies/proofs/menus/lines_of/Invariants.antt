use Rattle.std.proofs.Common.{◌≡◌, take}
use Rattle.std.specs.Prelude.{filter_map, flat_map, IsTrue}
use Rattle.host_types.specs.Visible.{visible}
use Rattle.host_types.specs.SiteCalls.{ReadsOnly}
use Rattle.text_writer.specs.Menu.{entry_line}
use Rattle.site_replies.proofs.menus.lines_of.Given as goal

-- the lines so far, nothing of the site has changed, and no read has failed
abbrev pub invariant-loop-entry : goal.invariant-loop-entry
invariant-loop-entry g l =
    let site_state = g.S.SiteKeeper.site_state in
    record {
      only : ReadsOnly site_state g.S.SiteKeeper.lacks g.S.SiteKeeper.crash_states l.fn.site l.site;
      none_failed : (site_state l.site).failed_reads ≡ (site_state l.fn.site).failed_reads;
      lines : IsTrue (site_state l.fn.site).honest → l.lines.items ≡ flat_map (λ line. line) (filter_map (entry_line (visible (site_state l.fn.site).site l.now)) (take l.entry-index l.entries));
    }
