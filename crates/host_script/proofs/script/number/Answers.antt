use Rattle.std.proofs.Common.{◌∙◌, ap, sym}
use Rattle.std.specs.Str.{all_ascii_digits}
use Rattle.host_script.proofs.Numbers.{read_digits, no_digits}
use Rattle.host_script.proofs.script.number.Goals as goal

pub returns-then-not-is_digits : goal.returns-then-not-is_digits
returns-then-not-is_digits c = sym (no_digits c.args.field.now (ap all_ascii_digits (sym c.as_bytes.ensures.value) ∙ sym c.is_digits.ensures ∙ c.if-not-is_digits.true))

pub returns : goal.returns
returns c =
    c.ok.ensures.value
    ∙ read_digits c.args.field.now c.parse.result (ap all_ascii_digits (sym c.as_bytes.ensures.value) ∙ sym c.is_digits.ensures ∙ c.if-not-is_digits.false) c.parse.ensures.value.0
