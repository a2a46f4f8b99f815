-- Worked examples of what a crash leaves: two writes to one sector and one to another, over a base of three sectors of one byte.
use Rattle.std.specs.Prelude.{◌≡◌, ℕ, List, [], ◌∷◌}
use Rattle.sector_device.specs.Disk.{Disk}
use Rattle.sector_device.specs.AfterStop.{after_stop}
use Rattle.sector_device.specs.Calls.{fresh, replay}
use Rattle.sector_device.specs.declared.call.Call.TheVariants.{Write, Sync}

-- these sectors, each of one byte
abbrev pub sectors : ℕ → ℕ → ℕ → List (List ℕ)
sectors a b c = (a ∷ []) ∷ (b ∷ []) ∷ (c ∷ []) ∷ []

-- sector 1 was written twice and sector 2 once since the last sync; an earlier write to sector 0 was synced
abbrev pub torn : Disk
torn = replay (fresh (sectors 0 0 0)) (Write 0 (9 ∷ []) ∷ Sync ∷ Write 1 (7 ∷ []) ∷ Write 1 (8 ∷ []) ∷ Write 2 (5 ∷ []) ∷ [])

pub record CrashExamples : Type 0 where
  pub base : torn.base ≡ sectors 9 0 0
  pub view : torn.view ≡ sectors 9 8 5
  pub none : after_stop [] torn ≡ sectors 9 0 0
  pub all : after_stop (0 ∷ 1 ∷ 2 ∷ []) torn ≡ sectors 9 8 5
  pub in_order_of_writes : after_stop (2 ∷ 1 ∷ 0 ∷ []) torn ≡ sectors 9 8 5
  pub first_alone : after_stop (0 ∷ []) torn ≡ sectors 9 7 0
  pub later_ones : after_stop (1 ∷ 2 ∷ []) torn ≡ sectors 9 8 5
  pub last_alone : after_stop (2 ∷ []) torn ≡ sectors 9 0 5
  pub twice : after_stop (0 ∷ 0 ∷ []) torn ≡ sectors 9 7 0
  pub outside : after_stop (3 ∷ 0 ∷ 99 ∷ []) torn ≡ sectors 9 7 0
  pub after_a_sync : after_stop (0 ∷ 1 ∷ []) (replay torn (Sync ∷ [])) ≡ sectors 9 8 5
