use Rattle.std.proofs.Common.{refl, ap, arith, ◌++◌, ◌∷◌, []}
use Rattle.std.proofs.lemmas.Fmt.{decimal_digit}
use Rattle.admin_lines.specs.Heads.{apply_word}
use Rattle.admin_lines.proofs.laws.worked_examples.Goals as goal

pub returns-clause-heads : goal.returns-clause-heads
returns-clause-heads c = record {
  written = ap (λ ds. apply_word ++ ds ++ 10 ∷ []) (decimal_digit 5 (omega arith));
  whole = refl;
  empty = refl;
  not_whole = refl;
  nothing = refl;
  most = refl;
  too_much = refl;
  zero_in_front = refl;
  no_digits = refl;
  return_in_front = refl;
  another_word = refl;
  hold = refl;
  hold_not_whole = refl;
  no_end = refl;
}
