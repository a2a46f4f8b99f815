-- From what the function gave that read an item to how the command ends.
use Rattle.std.proofs.Common.{◌≡◌, ℕ, Bool, true, false, List, Option, Ok, Err, length, nat_lt, if◌then◌else◌, subst}
use Rattle.std.specs.Prelude.{Result, IfOk, IfErr}
use Rattle.common_types.specs.Names.{is_field}
use Rattle.common_types.specs.declared.refused.Refused.TheVariants.{BadName, TooLong}
use Rattle.file_device.specs.FileCalls.{FileHistory, file_state}
use Rattle.host_on_disk.specs.OpenFaults.{HandsBack}
use Rattle.image_commands.specs.Faults.{IsReadingFault}
use Rattle.image_commands.specs.declared.fault.ImageFault.{ImageFault}
use Rattle.image_items.specs.Documents.{bytes_in}
use Rattle.image_items.specs.declared.fault.ItemFault.{ItemFault}
use Rattle.gopher_host.specs.Endings.{given_beside, device_beside}
use Rattle.gopher_host.specs.ImageFiles.{IsUnwritten, file_crash_states}
use Rattle.gopher_host.specs.Items.{GivesItem, ReadsItem, item_bytes, selector_or, selector_named}
use Rattle.gopher_host.specs.declared.fault.Fault.{Fault}
use Rattle.gopher_host.proofs.Ended.{unwritten}

module _ {A W X : Type 0} (bytes : A → List ℕ) (opened : FileHistory) (Is : Result (List ℕ) ItemFault → Type 0) (contents : W → Option (List ℕ)) (old new : W) (result : Result X Fault) where
  is_read : (handed : Result (Result A ItemFault × FileHistory) (ImageFault × FileHistory)) → IfOk handed (λ r. Is (bytes_in bytes r.0)) → IfOk (item_bytes bytes (given_beside handed)) Is
  is_read (Ok r) is = is
  is_read (Err e) is = tt

  is_caused : (handed : Result (Result A ItemFault × FileHistory) (ImageFault × FileHistory)) → IfErr handed (λ e. HandsBack IsReadingFault file_state file_crash_states opened e.1 e.0) → IfErr (item_bytes bytes (given_beside handed)) (IsReadingFault (file_state opened) (file_state (device_beside handed)))
  is_caused (Ok r) refused = tt
  is_caused (Err e) refused = refused.caused

  -- what was read is printed, or a fault is answered
  pub item_read : (handed : Result (Result A ItemFault × FileHistory) (ImageFault × FileHistory)) (given : Result (Result A ItemFault) ImageFault) → given ≡ given_beside handed → GivesItem (item_bytes bytes given) contents old new result →
      IfOk handed (λ r. Is (bytes_in bytes r.0)) → IfErr handed (λ e. HandsBack IsReadingFault file_state file_crash_states opened e.1 e.0) → IfOk handed (λ r. IsUnwritten opened r.1) → ReadsItem Is contents old new result opened (device_beside handed)
  item_read handed given same gives is refused kept = record {
    given = item_bytes bytes (given_beside handed);
    gives = subst (λ g. GivesItem (item_bytes bytes g) contents old new result) same gives;
    is = is_read handed is;
    caused = is_caused handed refused;
    unwritten = unwritten IsReadingFault opened handed kept refused;
  }

-- a name that is a selector is its bytes
chosen_is : (long fits : Bool) (name selector : List ℕ) → Ok selector ≡ selector_or (if long then Err TooLong else if fits then Ok name else Err BadName) → selector ≡ name
chosen_is true fits name selector is = absurd (cc is)
chosen_is false true name selector is = cc is
chosen_is false false name selector is = absurd (cc is)

pub same_selector : (name selector : List ℕ) → Ok selector ≡ selector_named name → selector ≡ name
same_selector name selector is = chosen_is (nat_lt 255 (length name)) (is_field name) name selector is
