use Rattle.std.proofs.Common.{◌*◌, ◌++◌, ◌∷◌, [], ℕ, List, ⊎_elim, inl, inr, ap, subst, ◌∙◌, refl}
use Rattle.file_device.specs.FileUses.{NotOpened}
use Rattle.file_device.specs.Opening.{IsOpened}
use Rattle.file_device.specs.declared.file_call.FileCall.TheVariants.{Create, Lock, SetLength}
use Rattle.file_copies.specs.FileCopies.{of_new_file}
use Rattle.file_copies.proofs.Notes.{two_more}
use Rattle.file_copies.proofs.new_file.make_new.Goals as goal

pub returns-in-Err : goal.returns-in-Err
returns-in-Err g c = λ s count copy part. inr (record {
  fault = c.not_had.result;
  cause = ⊎_elim (λ n. inl (c.not_had.ensures ∙ ap of_new_file n)) (λ m. inr (c.not_had.ensures ∙ ap of_new_file m)) c.in-Err.ensures.fault;
  given_is = refl;
  used = c.in-Err.ensures.noted ∙ ap (λ (p : List ℕ). c.args.used.now.log.uses ++ NotOpened p ∷ []) part;
  names = refl;
})

pub returns : goal.returns
returns g c = λ s count copy part. inl (record {
  created = c.in-Ok.device;
  written = c.write_new-made.new.device;
  used = two_more _ _ _ _ _ c.in-Ok.ensures.noted c.close.ensures;
  part = c.in-Ok.ensures.named ∙ part;
  calls = subst (λ (n : ℕ). IsOpened (SetLength (512 * n) ∷ Lock ∷ Create ∷ []) c.in-Ok.device) (c.sectors_of-sectors.ensures s count copy) c.in-Ok.ensures.opened;
  unused = c.in-Ok.ensures.unused;
  names = c.write_new-made.ensures s count copy part;
})
