use Rattle.std.proofs.Common.{◌≡◌, ◌+◌, ◌++◌, ◌∷◌, [], ◌∙◌, take, arith}
use Rattle.std.proofs.lemmas.Grind.{common_steps}
use Rattle.std.specs.Option.{option_to_list}
use Rattle.site_replies.specs.Reply.{entry_block}
use Rattle.host_types.specs.Visible.{visible}
use Rattle.site_replies.proofs.AfterReads.{only_on, ok_gives}
use Rattle.site_replies.proofs.Picks.{picked_next}
use Rattle.site_replies.proofs.attributes.all_blocks.Goals as goal

pub loop-entry-preserved : goal.loop-entry-preserved
loop-entry-preserved g c =
    let site_state = g.S.SiteKeeper.site_state in
    let more : take (c.loop-entry.entry-index + 1) c.args.entries.now ≡ take c.loop-entry.entry-index c.args.entries.now ++ c.entry-item.result ∷ [] = grind (arith, common_steps) in
    let added : c.add_any.new.all ≡ c.loop-entry.all ++ option_to_list c.in_ok-blocks.blocks = grind (arith, common_steps) in
    record {
      only = only_on site_state g.S.SiteKeeper.lacks g.S.SiteKeeper.crash_states c.args.site.now c.loop-entry.site c.blocks_of.new.site c.loop-entry.invariant.only c.blocks_of.ensures.blocks.only;
      none_failed = c.in_ok-blocks.ensures.blocks.counts ∙ c.loop-entry.invariant.none_failed;
      blocks = λ honest.
          picked_next (site_state c.args.site.now) (site_state c.loop-entry.site) (λ s. entry_block (visible s c.args.now) c.args.names.now) _ _ _ c.loop-entry.all c.add_any.new.all c.in_ok-blocks.blocks
          c.loop-entry.invariant.only.kept honest (c.loop-entry.invariant.blocks honest) (ok_gives c.in_ok-blocks.blocks c.blocks_of.ensures.blocks c.in_ok-blocks.was) added more;
    }
