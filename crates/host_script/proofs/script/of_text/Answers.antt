use Rattle.std.proofs.Common.{◌≡◌, List, ℕ, ◌∙◌, ap, sym, map, subst, arith, Bor}
use Rattle.std.specs.Prelude.{IfOk, Ok, Some}
use Rattle.std.specs.declared.alloc.AllocError.{AllocError}
use Rattle.std.proofs.lemmas.Iterator.Splits.{YieldsList-from_str_split}
use Rattle.std.proofs.lemmas.Iterator.Consumers.{map_from_collect}
use Rattle.host_script.proofs.script.of_text.Goals as goal
use Rattle.host_script.specs.Script.{command_of, fields}

abbrev seen : List (Bor (List ℕ)) → List (List ℕ)
seen = map (λ f. f.now)

-- what was collected is the fields
collected : (c : goal.After-drop-fields) → seen c.as_slice.result.now ≡ fields c.args.line.now
collected c =
    let parts = map_from_collect {E = AllocError} (Ok c.in_ok-fields.fields) c.in_ok-fields.ensures.ran (YieldsList-from_str_split 32 c.args.line.now (omega arith) c.split.ensures.text c.split.ensures.has_more c.split.ensures.pattern) in
    ap seen c.as_slice.ensures.value ∙ parts

pub returns-clause-ok : goal.returns-clause-ok
returns-clause-ok c = subst (λ (fs : List (List ℕ)). IfOk c.of_fields.result (λ k. command_of fs ≡ Some k)) (collected c) c.of_fields.ensures.ok

pub returns-clause-form : goal.returns-clause-form
returns-clause-form c = λ form. sym (ap command_of (collected c)) ∙ c.of_fields.ensures.form form
