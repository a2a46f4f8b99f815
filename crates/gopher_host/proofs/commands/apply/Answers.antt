use Rattle.std.proofs.Common.{inl, inr, refl}
use Rattle.gopher_host.proofs.Applied.{the_error, what_is}
use Rattle.gopher_host.proofs.Moments.{same_moment}
use Rattle.gopher_host.proofs.commands.apply.Goals as goal

pub returns-clause-image : goal.returns-clause-image
returns-clause-image g c =
    let said = what_is c.whole_file.result c.in_ok-bytes.ensures.ok in
    rw (← c.in_ok-now.ensures) (inr (
      c.in_ok-bytes.bytes.items,
      c.in_ok-bytes.changes.items,
      rw said.1.0 said.1.1,
      rw said.1.0 said.1.2,
      (c.apply_said-ended.result, rw (same_moment c.args.now c.in_ok-now.now c.in_ok-now.ensures) at (rw c.deref.ensures.value at c.apply_said-ended.ensures), rw c.deref-2.ensures.value at c.end_named.ensures),
    ))

pub returns-in_err-bytes-clause-image : goal.returns-in_err-bytes-clause-image
returns-in_err-bytes-clause-image g c =
    rw (← c.in_ok-now.ensures) (inl (
      _,
      c.in_err-bytes.field-0.0,
      the_error c.from_residual-in_err-bytes.result c.in_err-bytes.field-0.0 c.from_residual-in_err-bytes.ensures.1,
      c.in_err-bytes.ensures.refused,
      (refl, refl, refl),
    ))
