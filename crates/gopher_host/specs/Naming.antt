-- A change that was refused is named.
use Rattle.std.specs.Prelude.{◌≡◌, ◌⊎◌, ℕ, zero, suc, List, Option, Some, None, Result, Ok, Err, IsErrAnd, slice_get, string_bytes}
use Rattle.std.specs.declared.alloc.Global.{Global}
use Rattle.std.specs.declared.string.String.{String}
use Rattle.common_types.specs.declared.refused.Refused.{Refused}
use Rattle.host_types.specs.declared.site_fault.SiteFault.{SiteFault}
use Rattle.host_types.specs.declared.site_fault.SiteFault.TheVariants as site
use Rattle.change_file.specs.Tables.{◌>>=◌}
use Rattle.change_flaws.specs.Refusals as flaws
use Rattle.change_flaws.specs.Told.{refusal_told}
use Rattle.gopher_host.specs.declared.fault.Fault.{Fault}
use Rattle.gopher_host.specs.declared.fault.Fault.TheVariants as faults

-- the number of a change and why it was refused, where a fault says that one was
abbrev pub refusal_with : ℕ → SiteFault → Option (ℕ × Refused)
refusal_with number (site.Refused refused) = Some (number, refused)
refusal_with number _ = None

abbrev pub refusal_of : Fault → Option (ℕ × Refused)
refusal_of (faults.Stopped stopped) = refusal_with stopped.number stopped.fault
refusal_of (faults.Told text) = refusal_told (string_bytes text)
refusal_of _ = None

-- the same fault, with a line about that change
abbrev pub with_line : Fault → ℕ → Refused → String Global → Fault
with_line (faults.Told text) number refused line = faults.ToldOf text line
with_line _ number refused line = faults.Refused number refused line

-- ---- the line, by the number and the refusal

-- of the change in a file
abbrev pub file_line : List ℕ → ℕ → Refused → Option (List ℕ)
file_line file number refused = flaws.refusal_line number refused file

-- of the change that removes the item of a name
abbrev pub name_of : ℕ → List (List ℕ) → Option (List ℕ)
name_of zero names = None
name_of (suc place) names = slice_get names place

abbrev pub names_line : List (List ℕ) → ℕ → Refused → Option (List ℕ)
names_line names number refused = do
  name ← name_of number names
  Some (flaws.removal_line number refused name)

-- ---- faults that are told with it

abbrev pub HasLine : Option (List ℕ) → Fault → ℕ → Refused → Fault → Type 0
HasLine None fault number refused now = now ≡ fault
HasLine (Some said) fault number refused now = (line : String Global) × (string_bytes line ≡ said) × (now ≡ with_line fault number refused line)

-- the line that was made for it, if one was
abbrev pub HasAny : {E : Type 0} → Result (Option (String Global)) E → Fault → ℕ → Refused → Fault → Type 0
HasAny (Ok (Some line)) fault number refused now = now ≡ with_line fault number refused line
HasAny (Ok None) fault number refused now = now ≡ fault
HasAny (Err _) fault number refused now = now ≡ fault

-- The fault has the line where there is one, or stays as it is: where there was no memory for the line. So does a fault that says of no change that it was refused.
abbrev pub TellsItemOf : (ℕ → Refused → Option (List ℕ)) → Option (ℕ × Refused) → Fault → Fault → Type 0
TellsItemOf line None fault now = now ≡ fault
TellsItemOf line (Some r) fault now = (now ≡ fault) ⊎ HasLine (line r.0 r.1) fault r.0 r.1 now

abbrev pub TellsItem : (ℕ → Refused → Option (List ℕ)) → Fault → Fault → Type 0
TellsItem line fault now = TellsItemOf line (refusal_of fault) fault now

abbrev pub NamesEnd : {X : Type 0} → (ℕ → Refused → Option (List ℕ)) → Result X Fault → Result X Fault → Type 0
NamesEnd line (Ok x) result = result ≡ Ok x
NamesEnd line (Err fault) result = IsErrAnd result (TellsItem line fault)

-- It ended so, and that is answered, with the change named that was refused.
abbrev pub EndsNamed : {X : Type 0} → (ℕ → Refused → Option (List ℕ)) → (Result X Fault → Type 0) → Result X Fault → Type 0
EndsNamed {X = X} line Ends result = (given : Result X Fault) × Ends given × NamesEnd line given result
