use Rattle.std.proofs.Common.{◌≡◌, arith, w64, ◌∙◌}
use Rattle.std.specs.Prelude.{pos}
use Rattle.jiff.proofs.SpanFacts.{signed_arith, date_add-days, can_add-days}
use Rattle.jiff.specs.Words.{epoch_day}
use Rattle.jiff_core.proofs.StandardFacts.{known_days}
use Rattle.std.proofs.lemmas.Int.{to_z_pos}
use Rattle.plus_blocks.proofs.date.date_after.Goals as goal

pub unwrap-requires : goal.unwrap-requires
unwrap-requires c =
    let month : c.date.result.month ≡ 1 = omega (arith, signed_arith, c.date.ensures.1) in
    let day : c.date.result.day ≡ 1 = omega (arith, signed_arith, c.date.ensures.2) in
    let first : epoch_day c.date.result ≡ pos 0 = rw (c.date.ensures.0, month, day) (known_days.0) in
    let only = rw (to_z_pos w64 c.args.days (omega arith)) at c.days.ensures in
    let can = can_add-days c.date.result (pos c.args.days) c.days.result only in
    c.checked_add.ensures.succeeds.1 (can.1 (omega (arith, signed_arith, first)))

pub returns : goal.returns
returns c =
    let month : c.date.result.month ≡ 1 = omega (arith, signed_arith, c.date.ensures.1) in
    let day : c.date.result.day ≡ 1 = omega (arith, signed_arith, c.date.ensures.2) in
    let first : epoch_day c.date.result ≡ pos 0 = rw (c.date.ensures.0, month, day) (known_days.0) in
    let only = rw (to_z_pos w64 c.args.days (omega arith)) at c.days.ensures in
    let value = rw c.unwrap.ensures at c.checked_add.ensures.value in
    value ∙ date_add-days c.date.result (pos c.args.days) c.days.result only ∙ omega (arith, signed_arith, first)
