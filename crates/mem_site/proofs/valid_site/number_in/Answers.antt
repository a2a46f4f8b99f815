use Rattle.std.proofs.Common.{◌∙◌, ap, sym, subst}
use Rattle.std.specs.Str.{IsUtf8}
use Rattle.std.specs.Result.{result_ok}
use Rattle.std.proofs.lemmas.Str.{IsUtf8-from_ascii}
use Rattle.std.proofs.lemmas.Fmt.{IsAscii-decimal, parse-decimal}
use Rattle.mem_site.proofs.valid_site.number_in.Goals as goal

pub returns-in_default : goal.returns-in_default
returns-in_default c = λ n fits is. absurd (c.in_default.ensures.cases.0 (subst IsUtf8 (sym is) (IsUtf8-from_ascii _ (IsAscii-decimal n fits))))

pub returns : goal.returns
returns c = λ n fits is. c.ok.ensures.value ∙ ap result_ok (parse-decimal 64 n c.in-Ok.text.now c.parse.result fits fits (c.in-Ok.ensures.cases.0 ∙ is) c.parse.ensures.value.0)
