use Rattle.std.proofs.Common.{◌≡◌, length, ap, ap₂, arith, inl, inr}
use Rattle.admin_office.specs.Tasks.{Making, Telling}
use Rattle.admin_office.proofs.hearing.take.Goals as goal

pub returns-in-Ok : goal.returns-in-Ok
returns-in-Ok c =
    let count : c.len-count.result ≡ length c.args.changes.items = omega (arith, c.len-count.ensures, c.args.changes.ok.0) in
    inl (ap₂ (λ l n. Making l n) c.from-left.ensures.0 count)

pub returns-in-Err : goal.returns-in-Err
returns-in-Err c = inr (ap (λ u. Telling u) c.new.ensures.not_made)
