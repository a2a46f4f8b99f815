-- How many calls were made of a device, those that failed too.
use Rattle.std.specs.Prelude.{ℕ, suc}
use Rattle.sector_device.specs.declared.call_counts.CallKind.{CallKind}
use Rattle.sector_device.specs.declared.call_counts.CallKind.TheVariants as kinds

pub record CallsMade : Type 0 where
  pub reads : ℕ
  pub writes : ℕ
  pub syncs : ℕ

abbrev pub none_made : CallsMade
none_made = record { reads = 0; writes = 0; syncs = 0 }

-- after one call more
abbrev pub with_call : CallKind → CallsMade → CallsMade
with_call kinds.Read made = record { reads = suc made.reads; writes = made.writes; syncs = made.syncs }
with_call kinds.Write made = record { reads = made.reads; writes = suc made.writes; syncs = made.syncs }
with_call kinds.Sync made = record { reads = made.reads; writes = made.writes; syncs = suc made.syncs }
