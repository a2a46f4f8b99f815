use Rattle.std.proofs.Common.{◌∙◌, ◌∷◌, ◌++◌, [], Some, ap, refl}
use Rattle.std.specs.Option.{option_to_list}
use Rattle.admin_office.specs.Tasks.{Telling}
use Rattle.turns.specs.Turns.{trace, nothing}
use Rattle.turns.proofs.Runnings.{run_none, run_as}
use Rattle.change_file.specs.declared.fault.FileChange.TheVariants.{Change, Refused}
use Rattle.admin_office.proofs.Steps.{none_left, makes_as}
use Rattle.admin_office.proofs.turn.make_next.Goals as goal

pub returns-in_default : goal.returns-in_default
returns-in_default g c =
    let text = g.T.FaultTexts.says c.args.texts.now in
    let none = none_left c.args.making.left.items c.pop_front.new.self.items (c.pop_front.ensures.items ∙ ap (λ r. option_to_list r ++ c.pop_front.new.self.items) c.in_default.is) c.pop_front.ensures.rest in
    run_none _ _ _ _ g.met.S.SiteKeeper.crash_states_represent _ _ _ (makes_as text c.args.making.left.items [] c.args.making.count nothing _ none (refl, ap (λ u. Telling u) (c.new.ensures.made ∙ c.args.making.text_is)))

pub returns-in-Change : goal.returns-in-Change
returns-in-Change g c =
    let text = g.T.FaultTexts.says c.args.texts.now in
    run_as _ _ _ _ _ _ _ c.make.ensures (λ es os p. makes_as text c.args.making.left.items (Change c.in-Change.change ∷ c.pop_front.new.self.items) c.args.making.count (trace [] es os) _ (c.pop_front.ensures.items ∙ ap (λ r. option_to_list r ++ c.pop_front.new.self.items) (c.in-Some.is ∙ ap (λ x. Some x) c.in-Change.is)) p)

pub returns-in-Refused : goal.returns-in-Refused
returns-in-Refused g c =
    let text = g.T.FaultTexts.says c.args.texts.now in
    run_none _ _ _ _ g.met.S.SiteKeeper.crash_states_represent _ _ _
    (makes_as text c.args.making.left.items (Refused c.in-Refused.refused ∷ c.pop_front.new.self.items) c.args.making.count nothing _ (c.pop_front.ensures.items ∙ ap (λ r. option_to_list r ++ c.pop_front.new.self.items) (c.in-Some.is ∙ ap (λ x. Some x) c.in-Refused.is)) (refl, rw c.number.ensures at c.refuse_change.ensures))
