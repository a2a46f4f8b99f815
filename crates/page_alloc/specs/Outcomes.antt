-- What a call of a ledger that may fail answers, and what it leaves.
use Rattle.std.specs.Prelude.{◌≡◌, ◌<◌, ℕ, true, false, Result, Ok, Err}
use Rattle.page_alloc.specs.declared.ledger.LedgerFault.{LedgerFault}
use Rattle.page_alloc.specs.declared.ledger.LedgerFault.TheVariants.{Crowded}
use Rattle.page_alloc.specs.LedgerState.{LedgerState, is_out, is_crowded}
use Rattle.page_alloc.specs.Calls.{pinning}

-- a pin of a number that was not out, or the fault, exactly where all pins are out
abbrev pub PinOutcome : LedgerState → Result ℕ LedgerFault → LedgerState → Type 0
PinOutcome old (Ok number) new = (number < 32) × (is_out old number ≡ false) × (is_out new number ≡ true) × (new ≡ pinning number old)
PinOutcome old (Err fault) new = (fault ≡ Crowded) × (is_crowded old ≡ true) × (new ≡ old)
