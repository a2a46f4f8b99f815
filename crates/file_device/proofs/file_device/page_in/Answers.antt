use Rattle.std.proofs.Common.{◌≡◌, ℕ, ◌+◌, ◌*◌, ◌-◌, ◌∙◌, ap, take, drop, arith}
use Rattle.file_device.proofs.Pages.{page_lent}
use Rattle.file_device.proofs.file_device.page_in.Goals as goal

pub returns : goal.returns
returns c =
    let lent = c.in_ok-page.ensures.lookup.0 in
    let eight : 8 * c.args.n + 8 - 8 * c.args.n ≡ 8 = omega arith in
    page_lent (λ y. y.now) c.as_array.result c.args.sectors.now c.in_ok-page.page.now c.as_flattened.result.now c.args.n c.as_array.ensures.cases lent.1 c.as_flattened.ensures.value
    (lent.2 ∙ ap (λ (many : ℕ). take many (drop (8 * c.args.n) c.args.sectors.now)) eight) (omega (arith, c.as_flattened.ensures.len, lent.3))
