use Rattle.std.proofs.Common.{◌≡◌, ◌∙◌, [], ◌∷◌, ◌++◌, List, ap, sym, subst, append_assoc, append-nil, false, rules}
use Rattle.folder_import.specs.declared.found.Folder.{Folder}
use Rattle.folder_reader.proofs.Walks.{IsOnTheWay, at_first, ends, first_left, further, none_left}
use Rattle.folder_reader.proofs.walking.import_all.Goals as goal

pub loop-turn-init : goal.loop-turn-init
loop-turn-init c =
    let folder = c.args.folder.now in
    let top = c.args.top.now in
    let start = c.new-out.result in
    let same : c.in_ok-clone.field-0 ≡ top = search (rules, c.in_ok-clone.ensures.cases) in
    let pushed : c.push_back.new.self.items ≡ record { at = c.in_ok-clone.field-0; title = c.in_ok-top_title.field-0; is_titled = false } ∷ [] = search (rules, c.in_ok-push_back.ensures.items, c.new-left.ensures.items) in
    let first = first_left top c.in_ok-clone.field-0 c.in_ok-top_title.field-0 c.push_back.new.self.items same c.in_ok-top_title.ensures pushed in
    (start, [], (c.new-out.ensures.changes, c.new-out.ensures.left_out), sym (append-nil _), subst (λ (l : List Folder). IsOnTheWay folder top start [] l start) (sym first) (at_first folder top start))

pub returns-in_default-clause-walked : goal.returns-in_default-clause-walked
returns-in_default-clause-walked c =
    let folder = c.args.folder.now in
    let top = c.args.top.now in
    let so = c.loop-turn.invariant in
    let none = none_left c.loop-turn.left.items (search (rules, c.in_default.ensures.cases)) in
    (so.0, so.1, so.3, so.2, ends folder top so.0 c.loop-turn.out so.1 (subst (λ (l : List Folder). IsOnTheWay folder top so.0 so.1 l c.loop-turn.out) none so.4))

pub loop-turn-preserved : goal.loop-turn-preserved
loop-turn-preserved c =
    let folder = c.args.folder.now in
    let top = c.args.top.now in
    let so = c.loop-turn.invariant in
    let taken = c.in_ok-below.ensures.taken in
    let on = subst (λ (l : List Folder). IsOnTheWay folder top so.0 so.1 l c.loop-turn.out) c.in-Some.ensures.items so.4 in
    (so.0, so.1 ++ taken.0 ∷ [], so.2, taken.1 ∙ ap (λ l. l ++ taken.0 ∷ []) so.3 ∙ append_assoc c.args.log.now.folders so.1 (taken.0 ∷ []), further folder top so.0 c.loop-turn.out c.take_folder.new.out so.1 c.in-Some.next c.pop_front.new.self.items c.in_ok-below.below.items c.add_below.new.left.items taken.0 c.in_ok-add_below.ensures taken.2 on)
