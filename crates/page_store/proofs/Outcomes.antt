-- What is known once a call succeeded.
use Rattle.std.proofs.Common.{◌≡◌, ℕ, Bool, true, false, Result, Ok, Err, OnOk, sym, ◌∙◌}
use Rattle.std.specs.Result.{is_err}
use Rattle.common_types.specs.Counts.{counted, Counts}
use Rattle.sector_device.specs.Device.{State}
use Rattle.sector_device.specs.Effects.{MadeExactly, MadeIfOk}

pub on_ok : {T E : Type 0} (r : Result T E) (b : Bool) (P : Type 0) → b ≡ is_err r → b ≡ false → OnOk r P → P
on_ok (Ok _) b P is off h = h
on_ok (Err _) b P is off h = absurd (cc (is, off))

pub counts_ok : {T E : Type 0} (r : Result T E) (b : Bool) (before now : ℕ) → b ≡ is_err r → b ≡ false → Counts r before now → now ≡ before
counts_ok (Ok _) b before now is off h = h
counts_ok (Err _) b before now is off h = absurd (cc (is, off))

pub counts_err : {T E : Type 0} (r : Result T E) (b : Bool) (before now : ℕ) → b ≡ is_err r → b ≡ true → Counts r before now → now ≡ counted before
counts_err (Ok _) b before now is on h = absurd (cc (is, on))
counts_err (Err _) b before now is on h = h

pub made_ok : {T E : Type 0} (result : Result T E) (is : Bool) {r w s : ℕ} {a b : State} → is ≡ is_err result → is ≡ false → MadeIfOk result r w s a b → MadeExactly r w s a b
made_ok (Ok _) b is off h = h
made_ok (Err _) b is off h = absurd (cc (is, off))

-- no keeper is both usable and closed
pub both_flags : {A : Type 0} (usable : Bool) → usable ≡ true → usable ≡ false → A
both_flags usable up shut = let clash : true ≡ false = sym up ∙ shut in absurd (cc clash)
