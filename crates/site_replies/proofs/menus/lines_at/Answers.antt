use Rattle.std.proofs.Common.{◌≡◌, ◌+◌, ◌++◌, ◌∷◌, [], ◌∙◌, take, arith}
use Rattle.std.proofs.lemmas.Grind.{common_steps}
use Rattle.text_writer.specs.Menu.{entry_line}
use Rattle.host_types.specs.Visible.{visible}
use Rattle.host_types.specs.declared.menu.Entry.TheVariants.{Local}
use Rattle.site_replies.specs.Reply.{locals}
use Rattle.site_replies.proofs.AfterReads.{only_on, ok_gives}
use Rattle.site_replies.proofs.Picks.{line_next, still_fields}
use Rattle.site_replies.proofs.menus.lines_at.Goals as goal

pub loop-selector-preserved : goal.loop-selector-preserved
loop-selector-preserved g c =
    let site_state = g.S.SiteKeeper.site_state in
    let more : locals (take (c.loop-selector.selector-index + 1) c.args.selectors.now) ≡ locals (take c.loop-selector.selector-index c.args.selectors.now) ++ Local c.selector-item.result ∷ [] = grind (arith, common_steps) in
    record {
      only = only_on site_state g.S.SiteKeeper.lacks g.S.SiteKeeper.crash_states c.args.site.now c.loop-selector.site c.add_line_at.new.site c.loop-selector.invariant.only c.add_line_at.ensures.line.only;
      none_failed = c.in_ok-add_line_at.ensures.line.counts ∙ c.loop-selector.invariant.none_failed;
      lines = λ honest.
          line_next (site_state c.args.site.now) (site_state c.loop-selector.site) (λ s. entry_line (visible s c.args.now)) _ _ _ c.loop-selector.lines.items c.add_line_at.new.lines.items
          c.loop-selector.invariant.only.kept honest (c.loop-selector.invariant.lines honest) (λ after. ok_gives c.in_ok-add_line_at.field-0 c.add_line_at.ensures.line c.in_ok-add_line_at.was after
          (still_fields (site_state c.args.site.now) (site_state c.loop-selector.site) c.as_slice-fields.result.now c.front.result c.loop-selector.invariant.only.kept honest (c.as_slice-fields.ensures ∙ c.in_ok-address.ensures.fields) c.front.ensures)) more;
    }
