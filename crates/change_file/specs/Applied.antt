-- The changes of a file, made on a site one after another.
use Rattle.std.specs.Prelude.{◌≡◌, ◌⊎◌, ℕ, zero, suc, ◌+◌, ◌-◌, true, false, List, [], ◌∷◌, ◌++◌, length, take, Result, Ok, Err, IfOk, OnOk, IfErr, IsTrue}
use Rattle.common_types.specs.CrashStates.{CrashStates, AddsOnly, AddsNone}
use Rattle.common_types.specs.declared.refused.Refused.{Refused as Refusal}
use Rattle.host_types.specs.AllChanges.{Changes}
use Rattle.host_types.specs.Site.{Site}
use Rattle.host_types.specs.Change.{apply}
use Rattle.host_types.specs.Counting.{CountsFault, CountsNothing}
use Rattle.host_types.specs.SiteState.{SiteState, HasTried, IsChangeFault}
use Rattle.host_types.specs.declared.change.Change.{Change as SiteChange}
use Rattle.host_types.specs.declared.site_fault.SiteFault.{SiteFault}
use Rattle.host_types.specs.declared.site_fault.SiteFault.TheVariants as faults
use Rattle.change_file.specs.declared.fault.ApplyFault.{ApplyFault}
use Rattle.change_file.specs.declared.fault.FileChange.{FileChange}
use Rattle.change_file.specs.declared.fault.FileChange.TheVariants.{Change, Refused}

-- the site with one change of a file, or its refusal
abbrev pub apply_one : Site → FileChange → ℕ → Result Site Refusal
apply_one s (Change change) now = apply s change now
apply_one s (Refused refused) now = Err refused

abbrev pub and_then : (Site → Result Site Refusal) → Result Site Refusal → Result Site Refusal
and_then f (Ok s) = f s
and_then f (Err refused) = Err refused

-- the site with all of some changes, one after another, or the first refusal
abbrev pub apply_all : Site → List FileChange → ℕ → Result Site Refusal
apply_all s [] now = Ok s
apply_all s (change ∷ changes) now = and_then (λ t. apply_all t changes now) (apply_one s change now)

-- What a crash leaves represents the site after some of the changes, from the front.
pub record RepresentsFront {L : Type 0} (represents : L → Site → Type 0) (old : Site) (changes : List FileChange) (now : ℕ) (c : L) : Type 0 where
  pub front : List FileChange
  pub rest : List FileChange
  pub site : Site
  pub parts : changes ≡ front ++ rest
  pub applied : apply_all old front now ≡ Ok site
  pub stands : represents c site

-- What a crash within one change leaves represents the site before it, or the changed one.
abbrev pub RepresentsEither : {L : Type 0} → (L → Site → Type 0) → Site → FileChange → ℕ → L → Type 0
RepresentsEither represents s change now c = represents c s ⊎ ((t : Site) × (apply_one s change now ≡ Ok t) × represents c t)

-- the numbers of the first changes, from 1, each with how many there are in all
abbrev pub numbered : ℕ → ℕ → List (ℕ × ℕ)
numbered zero count = []
numbered (suc n) count = numbered n count ++ (suc n, count) ∷ []

-- What every attempt leaves, whatever it answers: the site is as honest as before, no count falls, and a closed site gets no new crash state.
pub record Tries {S L : Type 0} (state : S → SiteState) (crash_states : S → CrashStates L) (old new : S) : Type 0 where
  pub tried : HasTried (state old) (state new)
  pub no_new_crash_state_when_closed : IsTrue (state old).honest → (state old).usable ≡ false → AddsNone (crash_states old) (crash_states new)

-- Why a change was not made, and what stands then: as a keeper's own clause says; a name that its type refuses changes nothing.
abbrev pub IsStop : {S : Type 0} → (S → SiteState) → (S → Changes → SiteFault → Type 0) → FileChange → ℕ → S → S → SiteFault → Type 0
IsStop state lacks (Change change) now old new fault = IsChangeFault (lacks old ((change, now) ∷ [])) (state old) (state new) (apply (state old).site change now) fault × ((state old).usable ≡ false → fault ≡ faults.Failed)
IsStop state lacks (Refused refused) now old new fault = (fault ≡ faults.Refused refused) × (new ≡ old)

-- The changes up to one of this number were made, from the keeper `old` to `made`, and that one was not: `new` is what it left.
pub record IsStopped {S : Type 0} (state : S → SiteState) (lacks : S → Changes → SiteFault → Type 0) (old new : S) (changes : List FileChange) (now number : ℕ) (fault : SiteFault) : Type 0 where
  pub front : List FileChange
  pub change : FileChange
  pub rest : List FileChange
  pub made : S
  pub parts : changes ≡ front ++ change ∷ rest
  pub number_is : number ≡ length front + 1
  pub applied : IsTrue (state old).honest → apply_all (state old).site front now ≡ Ok (state made).site
  pub usable : (state made).usable ≡ (state old).usable
  pub tried : HasTried (state old) (state made)
  pub none_before : front ≡ [] → made ≡ old
  pub stop : IsStop state lacks change now made new fault

-- All of the changes are made, and so many they are; then nothing has failed.
pub record MakesAll {S : Type 0} (state : S → SiteState) (old new : S) (changes : List FileChange) (now : ℕ) (result : Result ℕ ApplyFault) : Type 0 where
  pub done : IsTrue (state old).honest → OnOk result (apply_all (state old).site changes now ≡ Ok (state new).site)
  pub count : IfOk result (λ n. n ≡ length changes)
  pub usable : OnOk result ((state new).usable ≡ (state old).usable)
  pub counts : OnOk result (CountsNothing (state old) (state new))

-- Or one is not, and its fault is counted; those before it stay.
pub record StopsAt {S : Type 0} (state : S → SiteState) (lacks : S → Changes → SiteFault → Type 0) (old new : S) (changes : List FileChange) (now : ℕ) (result : Result ℕ ApplyFault) : Type 0 where
  pub stopped : IfErr result (λ e. IsStopped state lacks old new changes now e.number e.fault)
  pub kept : IsTrue (state old).honest → IfErr result (λ e. apply_all (state old).site (take (e.number - 1) changes) now ≡ Ok (state new).site)
  pub counts : IfErr result (λ e. CountsFault e.fault (state old) (state new))

-- The progress saw each change that was made, in order, and no other.
pub record HasSeen {P : Type 0} (seen : P → List (ℕ × ℕ)) (changes : List FileChange) (old new : P) (result : Result ℕ ApplyFault) : Type 0 where
  pub all : OnOk result (seen new ≡ seen old ++ numbered (length changes) (length changes))
  pub before : IfErr result (λ e. seen new ≡ seen old ++ numbered (e.number - 1) (length changes))

-- A crash at any moment leaves what represents the site after some of the changes, from the front. Where no write failed, what ended them wrote nothing: a crash leaves what the changes before it may leave.
pub record CrashesOnFront {S L : Type 0} (state : S → SiteState) (crash_states : S → CrashStates L) (represents : L → Site → Type 0) (old new : S) (changes : List FileChange) (now : ℕ) (result : Result ℕ ApplyFault) : Type 0 where
  pub at_crash : IsTrue (state old).honest → (state old).usable ≡ true → AddsOnly (crash_states old) (crash_states new) (RepresentsFront represents (state old).site changes now)
  pub at_crash_when_refused : IsTrue (state old).honest → (state old).usable ≡ true → IfErr result (λ e. (state new).usable ≡ true → AddsOnly (crash_states old) (crash_states new) (RepresentsFront represents (state old).site (take (e.number - 1) changes) now))
