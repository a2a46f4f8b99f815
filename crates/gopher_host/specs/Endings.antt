-- How a command ends, by what the function gave that did its work.
use Rattle.std.specs.Prelude.{◌≡◌, ◌⊎◌, ℕ, List, Option, Result, Ok, Err}
use Rattle.std.specs.Io.KnownBytes.{Appends}
use Rattle.host_script.specs.declared.fault.ReplayFault.{ReplayFault as ScriptFault}
use Rattle.host_on_disk.specs.declared.open_fault.OpenFault.{OpenFault}
use Rattle.image_commands.specs.Faults.{of_opening}
use Rattle.image_commands.specs.declared.fault.ImageFault.{ImageFault}
use Rattle.image_server.specs.Serving.{of_daily}
use Rattle.image_server.specs.declared.serving.ServingFault.{ServingFault}
use Rattle.daily_server.specs.declared.service.DailyFault.{DailyFault}
use Rattle.gopher_host.specs.Faults.{ended, output_fault, memory_fault}
use Rattle.gopher_host.specs.declared.fault.Fault.{Fault}
use Rattle.gopher_host.specs.declared.fault.Fault.TheVariants.{Image, Serving, Script}

-- what was given beside a device
abbrev pub given_beside : {A E D : Type 0} → Result (A × D) (E × D) → Result A E
given_beside (Ok given) = Ok given.0
given_beside (Err refused) = Err refused.0

-- and that device
abbrev pub device_beside : {A E D : Type 0} → Result (A × D) (E × D) → D
device_beside (Ok given) = given.1
device_beside (Err refused) = refused.1

-- the text of what was given
abbrev pub text_of : {A E : Type 0} → (A → List ℕ) → Result A E → Result (List ℕ) E
text_of text (Ok given) = Ok (text given)
text_of text (Err refused) = Err refused

-- The text that was given is printed and nothing else, or standard output took no more; or its fault is answered as this one, and nothing is printed.
abbrev pub GivesAs : {W X : Type 0} → (ImageFault → Fault) → Result (List ℕ) ImageFault → (W → Option (List ℕ)) → W → W → Result X Fault → Type 0
GivesAs as_fault (Ok text) contents old new (Ok _) = Appends (contents old) (contents new) text
GivesAs as_fault (Ok text) contents old new (Err fault) = fault ≡ output_fault
GivesAs as_fault (Err refused) contents old new (Ok _) = ⊥
GivesAs as_fault (Err refused) contents old new (Err fault) = (fault ≡ as_fault refused) × (new ≡ old)

abbrev pub PrintsGiven : {W X : Type 0} → Result (List ℕ) ImageFault → (W → Option (List ℕ)) → W → W → Result X Fault → Type 0
PrintsGiven given contents old new result = GivesAs (λ fault. Image fault) given contents old new result

-- The line of a count is printed and nothing else, or standard output took no more, or there was no memory for the line; or a fault is answered, and nothing is printed.
abbrev pub GivesCount : {I E W X : Type 0} → Result (Result ℕ I) E → (ℕ → List ℕ) → (I → Fault) → (E → Fault) → (W → Option (List ℕ)) → W → W → Result X Fault → Type 0
GivesCount (Ok (Ok count)) line inner outer contents old new (Ok _) = Appends (contents old) (contents new) (ended (line count))
GivesCount (Ok (Ok count)) line inner outer contents old new (Err fault) = (fault ≡ output_fault) ⊎ ((fault ≡ memory_fault) × (new ≡ old))
GivesCount (Ok (Err e)) line inner outer contents old new (Ok _) = ⊥
GivesCount (Ok (Err e)) line inner outer contents old new (Err fault) = (fault ≡ inner e) × (new ≡ old)
GivesCount (Err e) line inner outer contents old new (Ok _) = ⊥
GivesCount (Err e) line inner outer contents old new (Err fault) = (fault ≡ outer e) × (new ≡ old)

-- clients were served until that could not go on
abbrev pub daily_ended : {X : Type 0} → Result X DailyFault → Result X Fault
daily_ended (Ok x) = Ok x
daily_ended (Err fault) = Err (Serving (of_daily fault))

abbrev pub serving_ended : {X : Type 0} → Result (Result X DailyFault) ServingFault → Result X Fault
serving_ended (Ok given) = daily_ended given
serving_ended (Err fault) = Err (Serving fault)

-- a script came to its end, or a fault ended it
abbrev pub script_ended : {X : Type 0} → Result X ScriptFault → Result X Fault
script_ended (Ok x) = Ok x
script_ended (Err fault) = Err (Script fault)

abbrev pub replay_ended : {X : Type 0} → Result (Result X ScriptFault) OpenFault → Result X Fault
replay_ended (Ok given) = script_ended given
replay_ended (Err fault) = Err (Image (of_opening fault))

-- A fault of the script comes before one of the output.
abbrev pub all_written : {X Y E : Type 0} → Result X Fault → Result Y E → Result X Fault
all_written (Err fault) written = Err fault
all_written (Ok x) (Ok _) = Ok x
all_written (Ok x) (Err _) = Err output_fault
