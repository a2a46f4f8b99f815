-- How many calls are made by one call after another.
use Rattle.std.proofs.Common.{◌≡◌, ◌≤◌, ◌+◌, ℕ, Result, Ok, Err, refl, ◌∙◌, arith}
use Rattle.std.specs.Prelude.{IsErr}
use Rattle.sector_device.specs.Device.{State}
use Rattle.sector_device.specs.Effects.{MadeReads, MadeExactly, MadeAtMost, MadeIfOk}

pub no_calls : (a : State) → MadeExactly 0 0 0 a a
no_calls a = record { reads = omega arith; writes = omega arith; syncs = omega arith }

pub exactly_then : {r w s r' w' s' : ℕ} {a b c : State} → MadeExactly r w s a b → MadeExactly r' w' s' b c → MadeExactly (r + r') (w + w') (s + s') a c
exactly_then first second = record {
  reads = omega (arith, first.reads, second.reads);
  writes = omega (arith, first.writes, second.writes);
  syncs = omega (arith, first.syncs, second.syncs);
}

pub at_most : {r w s : ℕ} {a b : State} → MadeExactly r w s a b → MadeAtMost r w s a b
at_most is = record {
  reads = (omega (arith, is.reads), omega (arith, is.reads));
  writes = (omega (arith, is.writes), omega (arith, is.writes));
  syncs = (omega (arith, is.syncs), omega (arith, is.syncs));
}

pub most_then : {r w s r' w' s' : ℕ} {a b c : State} → MadeAtMost r w s a b → MadeAtMost r' w' s' b c → MadeAtMost (r + r') (w + w') (s + s') a c
most_then first second = record {
  reads = (omega (arith, first.reads.0, second.reads.0), omega (arith, first.reads.1, second.reads.1));
  writes = (omega (arith, first.writes.0, second.writes.0), omega (arith, first.writes.1, second.writes.1));
  syncs = (omega (arith, first.syncs.0, second.syncs.0), omega (arith, first.syncs.1, second.syncs.1));
}

pub no_more_than : {r w s r' w' s' : ℕ} {a b : State} → MadeAtMost r w s a b → r ≤ r' → w ≤ w' → s ≤ s' → MadeAtMost r' w' s' a b
no_more_than is reads writes syncs = record {
  reads = (is.reads.0, omega (arith, is.reads.1, reads));
  writes = (is.writes.0, omega (arith, is.writes.1, writes));
  syncs = (is.syncs.0, omega (arith, is.syncs.1, syncs));
}

pub most_of : {T E : Type 0} (result : Result T E) {r w s : ℕ} {a b : State} → MadeIfOk result r w s a b → MadeAtMost r w s a b
most_of (Ok _) is = at_most is
most_of (Err _) is = is

pub if_err : {T E : Type 0} (result : Result T E) {r w s : ℕ} {a b : State} → IsErr result → MadeAtMost r w s a b → MadeIfOk result r w s a b
if_err (Ok _) err is = absurd (cc err)
if_err (Err _) err is = is

pub ok_then : {T E : Type 0} (result : Result T E) (r' w' s' : ℕ) {r w s : ℕ} {a b : State} (c : State) → MadeExactly r w s a b → MadeIfOk result r' w' s' b c → MadeIfOk result (r + r') (w + w') (s + s') a c
ok_then (Ok _) r' w' s' c first second = exactly_then first second
ok_then (Err _) r' w' s' c first second = most_then (at_most first) second

pub only_read : {r : ℕ} {a b : State} → MadeExactly r 0 0 a b → MadeReads a b
only_read is = record { reads = omega (arith, is.reads); writes = omega (arith, is.writes); syncs = omega (arith, is.syncs) }

pub read_then : {a b c : State} → MadeReads a b → MadeReads b c → MadeReads a c
read_then first second = record { reads = omega (arith, first.reads, second.reads); writes = second.writes ∙ first.writes; syncs = second.syncs ∙ first.syncs }

pub none_made_of : (a : State) → MadeReads a a
none_made_of a = record { reads = omega arith; writes = refl; syncs = refl }
