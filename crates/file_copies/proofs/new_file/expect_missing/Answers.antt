use Rattle.std.proofs.Common.{◌++◌, ◌∷◌, [], ap, ◌∙◌, refl}
use Rattle.file_names.specs.NameCalls.{Looked}
use Rattle.file_names.specs.declared.names.Look.{Look}
use Rattle.file_names.specs.declared.names.Look.TheVariants.{There, Missing, Unknown}
use Rattle.file_copies.proofs.new_file.expect_missing.Goals as goal

pub returns-in-Missing-clause-missing : goal.returns-in-Missing-clause-missing
returns-in-Missing-clause-missing g c = c.look_for.ensures ∙ ap (λ (a : Look). c.args.names.now.calls ++ Looked c.args.new.now a ∷ []) c.in-Missing.is

pub returns-in-There-clause-refused : goal.returns-in-There-clause-refused
returns-in-There-clause-refused g c = (There, refl, c.look_for.ensures ∙ ap (λ (a : Look). c.args.names.now.calls ++ Looked c.args.new.now a ∷ []) c.in-There.is)

pub returns-in-Unknown-clause-refused : goal.returns-in-Unknown-clause-refused
returns-in-Unknown-clause-refused g c = (Unknown, refl, c.look_for.ensures ∙ ap (λ (a : Look). c.args.names.now.calls ++ Looked c.args.new.now a ∷ []) c.in-Unknown.is)
