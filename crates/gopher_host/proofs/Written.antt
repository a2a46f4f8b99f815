-- What is left of a script's answers is written at its end.
use Rattle.std.proofs.Common.{◌≡◌, ℕ, List, [], Option, Ok, Err, refl, sym, subst}
use Rattle.std.specs.Prelude.{Result, OnOk}
use Rattle.std.specs.Io.KnownBytes.{Keeps}
use Rattle.gopher_host.specs.Endings.{all_written}
use Rattle.gopher_host.specs.Served.{IsPrintedWhole}
use Rattle.gopher_host.specs.declared.fault.Fault.{Fault}

so : {Y E : Type 0} (IsReplayed : Option (List ℕ) → Result (Unit {0}) Fault → Type 0) (printed now : Option (List ℕ)) (left : List ℕ) (ended : Result (Unit {0}) Fault) (written : Result Y E) → IsReplayed printed ended → Keeps printed now → OnOk written (left ≡ []) →
    IsPrintedWhole IsReplayed now left (all_written ended written)
so IsReplayed printed now left (Err e) written replayed kept none = record { ended = Err e; printed = printed; replayed = replayed; kept = kept; fault = refl; written = tt; all = tt }
so IsReplayed printed now left (Ok x) (Ok y) replayed kept none = record { ended = Ok x; printed = printed; replayed = replayed; kept = kept; fault = tt; written = tt; all = none }
so IsReplayed printed now left (Ok x) (Err e) replayed kept none = record { ended = Ok x; printed = printed; replayed = replayed; kept = kept; fault = tt; written = refl; all = tt }

pub written_so : {Y E : Type 0} (IsReplayed : Option (List ℕ) → Result (Unit {0}) Fault → Type 0) (printed now : Option (List ℕ)) (left : List ℕ) (ended : Result (Unit {0}) Fault) (written : Result Y E) (result : Result (Unit {0}) Fault) → IsReplayed printed ended → Keeps printed now → OnOk written (left ≡ []) →
    result ≡ all_written ended written → IsPrintedWhole IsReplayed now left result
written_so IsReplayed printed now left ended written result replayed kept none is = subst (λ r. IsPrintedWhole IsReplayed now left r) (sym is) (so IsReplayed printed now left ended written replayed kept none)
