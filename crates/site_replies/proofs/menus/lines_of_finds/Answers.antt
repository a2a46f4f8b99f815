use Rattle.std.proofs.Common.{◌≡◌, ◌<◌, ◌+◌, ◌++◌, ◌∷◌, [], List, length, ◌∙◌, ap, sym, subst, take, arith}
use Rattle.std.specs.Prelude.{filter_map, flat_map, slice_index_or}
use Rattle.std.proofs.lemmas.Grind.{common_steps}
use Rattle.text_writer.specs.Menu.{address_fields, entry_line, line_bytes}
use Rattle.host_types.specs.declared.menu.Entry.{Entry}
use Rattle.host_types.specs.declared.menu.Entry.TheVariants.{Local}
use Rattle.site_replies.specs.Finds.{IsFindOf, found_names}
use Rattle.site_replies.specs.Reply.{locals}
use Rattle.site_replies.proofs.Picks.{line_push}
use Rattle.site_replies.proofs.menus.lines_of_finds.Goals as goal

pub loop-find-preserved : goal.loop-find-preserved
loop-find-preserved c = λ s at all.
    let so_far : List Entry = locals (found_names (take c.loop-find.find-index c.args.finds.now)) in
    let more : locals (found_names (take (c.loop-find.find-index + 1) c.args.finds.now)) ≡ so_far ++ Local c.find-item.result.selector ∷ [] = grind (arith, common_steps) in
    let inside : c.loop-find.find-index < length c.args.finds.now = grind (arith, common_steps) in
    let place : slice_index_or c.args.finds.now c.loop-find.find-index c.find-item.result ≡ c.find-item.result = grind (arith, common_steps) in
    let here : IsFindOf s c.find-item.result = subst (IsFindOf s) place (all c.loop-find.find-index c.find-item.result inside) in
    c.in_ok-add_find_line.ensures.line s (c.as_slice-fields.ensures ∙ c.in_ok-address.ensures.fields ∙ ap address_fields at) here
    ∙ ap (λ l. l ++ line_bytes (entry_line s (Local c.find-item.result.selector))) (c.loop-find.invariant s at all)
    ∙ sym (line_push (entry_line s) so_far (Local c.find-item.result.selector))
    ∙ ap (λ l. flat_map (λ line. line) (filter_map (entry_line s) l)) (sym more)
