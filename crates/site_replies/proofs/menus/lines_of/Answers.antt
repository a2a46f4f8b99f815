use Rattle.std.proofs.Common.{◌≡◌, ◌+◌, ◌++◌, ◌∷◌, [], ◌∙◌, take, arith}
use Rattle.std.proofs.lemmas.Grind.{common_steps}
use Rattle.text_writer.specs.Menu.{entry_line}
use Rattle.host_types.specs.Visible.{visible}
use Rattle.site_replies.proofs.AfterReads.{only_on, ok_gives}
use Rattle.site_replies.proofs.Picks.{line_next, still_fields}
use Rattle.site_replies.proofs.menus.lines_of.Goals as goal

pub loop-entry-preserved : goal.loop-entry-preserved
loop-entry-preserved g c =
    let site_state = g.S.SiteKeeper.site_state in
    let more : take (c.loop-entry.entry-index + 1) c.args.entries.now ≡ take c.loop-entry.entry-index c.args.entries.now ++ c.entry-item.result ∷ [] = grind (arith, common_steps) in
    record {
      only = only_on site_state g.S.SiteKeeper.lacks g.S.SiteKeeper.crash_states c.args.site.now c.loop-entry.site c.add_line_of.new.site c.loop-entry.invariant.only c.add_line_of.ensures.line.only;
      none_failed = c.in_ok-add_line_of.ensures.line.counts ∙ c.loop-entry.invariant.none_failed;
      lines = λ honest.
          line_next (site_state c.args.site.now) (site_state c.loop-entry.site) (λ s. entry_line (visible s c.args.now)) _ _ _ c.loop-entry.lines.items c.add_line_of.new.lines.items
          c.loop-entry.invariant.only.kept honest (c.loop-entry.invariant.lines honest) (λ after. ok_gives c.in_ok-add_line_of.field-0 c.add_line_of.ensures.line c.in_ok-add_line_of.was after
          (still_fields (site_state c.args.site.now) (site_state c.loop-entry.site) c.as_slice-fields.result.now c.front.result c.loop-entry.invariant.only.kept honest (c.as_slice-fields.ensures ∙ c.in_ok-address.ensures.fields) c.front.ensures)) more;
    }
