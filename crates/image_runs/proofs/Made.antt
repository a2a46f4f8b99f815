-- From what changes answer to what a crash leaves of them.
use Rattle.std.proofs.Common.{◌≡◌, ◌≢◌, ℕ, Bool, List, Ok, Err, refl, sym, ap, ◌∙◌, subst, true, ◌-◌, take}
use Rattle.std.specs.Prelude.{Result, OnOk, IfErr}
use Rattle.host_types.specs.AllChanges.{Changes}
use Rattle.host_types.specs.Site.{Site}
use Rattle.host_types.specs.SiteState.{SiteState}
use Rattle.host_types.specs.CrashStates.{CrashStates, may_crash_to}
use Rattle.host_types.specs.Counting.{IsReadCounted}
use Rattle.host_types.specs.declared.site_fault.SiteFault.{SiteFault}
use Rattle.host_types.specs.declared.site_fault.SiteFault.TheVariants as faults
use Rattle.change_file.specs.Applied.{apply_all, IsStop, IsStopped}
use Rattle.change_file.specs.declared.fault.FileChange.{FileChange}
use Rattle.change_file.specs.declared.fault.FileChange.TheVariants.{Change, Refused}
use Rattle.change_file.specs.declared.fault.ApplyFault.{ApplyFault}
use Rattle.image_runs.specs.ImageChanges.{HasMadeChanges}

-- but for a failed write or sync the keeper stays usable
not_shut : {S : Type 0} (state : S → SiteState) (lacks : S → Changes → SiteFault → Type 0) (change : FileChange) (now : ℕ) (made new : S) (fault : SiteFault) → fault ≢ faults.Failed → IsStop state lacks change now made new fault → (state new).usable ≡ (state made).usable
not_shut state lacks (Change change) now made new (faults.Refused r) other stop = stop.0.0.usable
not_shut state lacks (Change change) now made new faults.Read other stop = stop.0.0.usable
not_shut state lacks (Change change) now made new (faults.Full need free) other stop = stop.0.0.usable
not_shut state lacks (Change change) now made new faults.Spent other stop = stop.0.0.usable
not_shut state lacks (Change change) now made new faults.Deep other stop = stop.0.0.usable
not_shut state lacks (Change change) now made new faults.Failed other stop = absurd (other refl)
not_shut state lacks (Change change) now made new faults.Memory other stop = stop.0.usable
not_shut state lacks (Refused refused) now made new fault other stop = ap (λ k. (state k).usable) stop.1

pub all_made : {L : Type 0} (represents : L → Site → Type 0) (states : CrashStates L) (old t : Site) (changes : List FileChange) (now : ℕ) (U : Type 0) (result : Result ℕ ApplyFault) →
    OnOk result (apply_all old changes now ≡ Ok t) → OnOk result U → (U → (c : L) → may_crash_to states c → represents c t) → OnOk result (HasMadeChanges represents states old changes now)
all_made represents states old t changes now U (Ok n) made usable sure = (t, made, sure usable)
all_made represents states old t changes now U (Err e) made usable sure = made

at_err : (P : ApplyFault → Type 0) (result : Result ℕ ApplyFault) (e : ApplyFault) → result ≡ Err e → IfErr result P → P e
at_err P result e is h = subst (λ (r : Result ℕ ApplyFault). IfErr r P) is h

pub before_made : {S L : Type 0} (state : S → SiteState) (lacks : S → Changes → SiteFault → Type 0) (represents : L → Site → Type 0) (states : CrashStates L) (old new : S) (changes : List FileChange) (now : ℕ) (result : Result ℕ ApplyFault) →
    (state old).usable ≡ true →
    IfErr result (λ e. IsStopped state lacks old new changes now e.number e.fault) →
    IfErr result (λ e. apply_all (state old).site (take (e.number - 1) changes) now ≡ Ok (state new).site) →
    ((state new).usable ≡ true → (c : L) → may_crash_to states c → represents c (state new).site) →
    (e : ApplyFault) → result ≡ Err e → e.fault ≢ faults.Failed → HasMadeChanges represents states (state old).site (take (e.number - 1) changes) now
before_made state lacks represents states old new changes now result usable stopped kept sure e is other =
    let stop : IsStopped state lacks old new changes now e.number e.fault = at_err (λ e. IsStopped state lacks old new changes now e.number e.fault) result e is stopped in (
      (state new).site,
      at_err (λ e. apply_all (state old).site (take (e.number - 1) changes) now ≡ Ok (state new).site) result e is kept,
      sure (not_shut state lacks stop.change now stop.made new e.fault other stop.stop ∙ stop.usable ∙ usable),
    )

-- ---- what follows of an answer

pub on_ok_too : {T E : Type 0} {P Q : Type 0} (result : Result T E) → (P → Q) → OnOk result P → OnOk result Q
on_ok_too (Ok t) f h = f h
on_ok_too (Err e) f h = h

pub err_too : {T E : Type 0} {P Q : E → Type 0} (result : Result T E) → ((e : E) → P e → Q e) → IfErr result P → IfErr result Q
err_too (Ok t) f h = h
err_too (Err e) f h = f e h

-- the count of failed reads of a device that was opened with nothing counted, and handed back
pub reads_on_device : (honest still : Bool) (fault : SiteFault) (before opened closed now : ℕ) → still ≡ honest → opened ≡ before → now ≡ closed → IsReadCounted still fault opened closed → IsReadCounted honest fault before now
reads_on_device honest still fault before opened closed now same from to is =
    subst (λ h. IsReadCounted h fault before now) same (subst (λ n. IsReadCounted still fault n now) from (subst (λ n. IsReadCounted still fault opened n) (sym to) is))
