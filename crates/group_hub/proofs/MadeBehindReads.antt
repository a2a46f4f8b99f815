-- Calls that make changes, or none, behind calls that only read.
use Rattle.std.proofs.Common.{◌≡◌, ◌⊎◌, inl, inr, ⊎_elim, ℕ, true, [], ◌∷◌, sym, ap, subst, ◌∙◌, arith}
use Rattle.std.specs.Prelude.{Result, Ok, Err, IsTrue, nat_lt, length}
use Rattle.host_types.specs.AllChanges.{Changes}
use Rattle.host_types.specs.Site.{Site}
use Rattle.host_types.specs.SiteState.{SiteState, Rose, HasRead, HasNotChanged, LacksTheSame}
use Rattle.host_types.specs.CrashStates.{CrashStates, AddsOnly, may_crash_to, adds_both}
use Rattle.host_types.specs.declared.site_fault.SiteFault.{SiteFault}
use Rattle.host_types.specs.declared.site_fault.SiteFault.TheVariants as faults
use Rattle.group_world.specs.Calls.{IsKeeperLacking, IsUnspent}
use Rattle.group_world.specs.CrashStates.{with_changes}
use Rattle.group_world.specs.declared.fault.HubFault.{HubFault}
use Rattle.group_world.specs.declared.fault.HubFault.TheVariants as hub
use Rattle.group_hub.specs.Counting.{CountsCall}
use Rattle.group_hub.specs.Understood.{HasFailedNow, IsPostFault, HasWorked}
use Rattle.group_hub.specs.Hears.{MakesChanges}
use Rattle.group_hub.specs.Preparing.{KeeperOnlyReads}
use Rattle.group_hub.specs.declared.posting.Posting.{Posting}
use Rattle.group_hub.specs.declared.phase.Concluded.{Concluded}
use Rattle.group_hub.proofs.CountedCalls.{call_since}
use Rattle.group_hub.proofs.Concluded.{LetsWait}

pub weaker : {L : Type 0} (p q : CrashStates L) (P R : L → Type 0) → AddsOnly p q P → ((c : L) → P c → R c) → AddsOnly p q R
weaker p q P R adds on = record {
  later = adds.later;
  keeps = adds.keeps;
  nothing_else = λ t c le left. ⊎_elim (λ old. inl old) (λ new. inr (on c new)) (adds.nothing_else t c le left);
  now = λ c left. on c (adds.now c left);
}

-- ---- why changes could not be made

pub lacking_still : (before now : Changes → SiteFault → Type 0) (changes made : Changes) (fault : SiteFault) → LacksTheSame before now → changes ≡ made → IsKeeperLacking now made fault → IsKeeperLacking before changes fault
lacking_still before now changes made fault same is lack = subst (λ (c : Changes). IsKeeperLacking before c fault) (sym is) (still made lack)
  where
    still : (c : Changes) → IsKeeperLacking now c fault → IsKeeperLacking before c fault
    still [] never = never
    still (x ∷ c) so = same.before (x ∷ c) fault so

-- and what a keeper does not lack behind them, it did not lack before
pub unspent_still : (before now : Changes → SiteFault → Type 0) (changes made : Changes) → LacksTheSame before now → changes ≡ made → IsUnspent now made → IsUnspent before changes
unspent_still before now changes made same is none = λ spent. none (on made (subst (λ (c : Changes). IsKeeperLacking before c faults.Spent) is spent))
  where
    on : (c : Changes) → IsKeeperLacking before c faults.Spent → IsKeeperLacking now c faults.Spent
    on [] never = never
    on (x ∷ c) so = same.after (x ∷ c) faults.Spent so

not_changed_since : (a m b : SiteState) → HasRead a m → HasNotChanged m b → HasNotChanged a b
not_changed_since a m b kept stays = record {
  site = λ honest. stays.site (subst IsTrue (sym kept.honest) honest) ∙ kept.site honest;
  usable = stays.usable ∙ kept.usable;
  free = stays.free ∙ kept.free;
}

failed_since : (a m b : SiteState) (changes made : Changes) → HasRead a m → (IsTrue a.honest → changes ≡ made) → HasFailedNow m b made → HasFailedNow a b changes
failed_since a m b changes made kept same failed = record {
  site = λ honest. failed.site (on honest) ∙ kept.site honest;
  shut = failed.shut;
  cause = λ honest. subst (λ (n : ℕ). Rose n b.failed_writes) kept.writes (failed.cause (on honest));
  change = λ honest. ap (λ (c : Changes). nat_lt 0 (length c)) (same honest) ∙ failed.change (on honest);
}
  where
    on : IsTrue a.honest → IsTrue m.honest
    on honest = subst IsTrue (sym kept.honest) honest

post_fault_since : (before now : Changes → SiteFault → Type 0) (changes made : Changes) (a m b : SiteState) (fault : HubFault) → HasRead a m → m.failed_reads ≡ a.failed_reads → LacksTheSame before now → (IsTrue a.honest → changes ≡ made)
    → IsPostFault now made m b fault → IsPostFault before changes a b fault
post_fault_since before now changes made a m b hub.Memory kept none lack same is = not_changed_since a m b kept is
post_fault_since before now changes made a m b hub.Crowded kept none lack same is = not_changed_since a m b kept is
post_fault_since before now changes made a m b hub.Broken kept none lack same is = (not_changed_since a m b kept is.0, λ honest. subst (λ (n : ℕ). Rose n b.failed_reads) none (is.1 (subst IsTrue (sym kept.honest) honest)))
post_fault_since before now changes made a m b (hub.Full need free) kept none lack same is =
    (not_changed_since a m b kept is.0, (is.1.0 ∙ kept.free, is.1.1), λ honest. (let why = is.2 (subst IsTrue (sym kept.honest) honest) in (lacking_still before now changes made (faults.Full need free) lack (same honest) why.0, unspent_still before now changes made lack (same honest) why.1)))
post_fault_since before now changes made a m b hub.Spent kept none lack same is = (not_changed_since a m b kept is.0, λ honest. lacking_still before now changes made faults.Spent lack (same honest) (is.1 (subst IsTrue (sym kept.honest) honest)))
post_fault_since before now changes made a m b hub.Deep kept none lack same is =
    (not_changed_since a m b kept is.0, λ honest. (let why = is.1 (subst IsTrue (sym kept.honest) honest) in (lacking_still before now changes made faults.Deep lack (same honest) why.0, unspent_still before now changes made lack (same honest) why.1)))
post_fault_since before now changes made a m b hub.Failed kept none lack same is = failed_since a m b changes made kept same is
post_fault_since before now changes made a m b hub.Unknown kept none lack same is = is
post_fault_since before now changes made a m b (hub.Refused refused) kept none lack same is = is
post_fault_since before now changes made a m b hub.NotReady kept none lack same is = is

-- ---- what is left of a keeper

module _ {K L : Type 0} (site_state : K → SiteState) (lacks : K → Changes → SiteFault → Type 0) (crash_states : K → CrashStates L) (represents : L → Site → Type 0) where
  -- what a crash before the calls leaves represents the site
  abbrev pub Represents : K → Type 0
  Represents k = (c : L) → IsTrue (site_state k).honest → (site_state k).usable ≡ true → may_crash_to (crash_states k) c → represents c (site_state k).site

  -- calls of a usable keeper that only read
  pub record HaveRead (old new : K) : Type 0 where
    pub usable : (site_state old).usable ≡ true
    pub stands : Represents old
    pub only : KeeperOnlyReads site_state lacks crash_states old new

  abbrev MakesThem : {T : Type 0} → Changes → K → K → Result T HubFault → Type 0
  MakesThem changes old new result = MakesChanges site_state lacks crash_states represents changes old new result

  worked_by : (a b : SiteState) → HasRead a b → HasWorked a b
  worked_by a b kept = record { honest = kept.honest; reads = kept.reads; writes = omega (arith, kept.writes) }

  -- what has been read stands, and there is nothing to be made
  pub reads_made : {T : Type 0} (changes : Changes) (old new : K) (x : T) → HaveRead old new → (site_state new).failed_reads ≡ (site_state old).failed_reads → changes ≡ [] → MakesThem changes old new (Ok x)
  reads_made changes old new x read none is = record {
    done = λ honest. read.only.kept.site honest ∙ sym (ap (λ (c : Changes). with_changes (site_state old).site c) is);
    still_usable = read.only.kept.usable ∙ read.usable;
    fault = tt;
    worked = worked_by _ _ read.only.kept;
    counts = record { reads = none; writes = read.only.kept.writes };
    unchanged = λ honest. tt;
    at_crash = λ honest. weaker _ _ _ _ (read.only.no_new_crash_state honest) (λ c may. inl (read.stands c honest read.usable may));
  }

  -- a fault before anything is made
  pub none_made : {T : Type 0} (changes : Changes) (old new : K) (fault : HubFault) → HaveRead old new → CountsCall {T = T} (Err fault) (site_state old) (site_state new) → IsPostFault (lacks old) changes (site_state old) (site_state new) fault → MakesThem {T = T} changes old new (Err fault)
  none_made changes old new fault read counts is = record {
    done = λ honest. tt;
    still_usable = tt;
    fault = is;
    worked = worked_by _ _ read.only.kept;
    counts = counts;
    unchanged = λ honest usable. read.only.no_new_crash_state honest;
    at_crash = λ honest. weaker _ _ _ _ (read.only.no_new_crash_state honest) (λ c may. inl (read.stands c honest read.usable may));
  }

  worked_since : (a m b : SiteState) → HasRead a m → HasWorked m b → HasWorked a b
  worked_since a m b kept worked = record { honest = worked.honest ∙ kept.honest; reads = omega (arith, kept.reads, worked.reads); writes = omega (arith, kept.writes, worked.writes) }

  crashes_since : (old mid new : K) (changes made : Changes) → HaveRead old mid → IsTrue (site_state old).honest → changes ≡ made
      → AddsOnly (crash_states mid) (crash_states new) (λ c. represents c (site_state mid).site ⊎ represents c (with_changes (site_state mid).site made))
      → AddsOnly (crash_states old) (crash_states new) (λ c. represents c (site_state old).site ⊎ represents c (with_changes (site_state old).site changes))
  crashes_since old mid new changes made read honest same adds =
      let stands : (site_state mid).site ≡ (site_state old).site = read.only.kept.site honest in
      adds_both _ _ _ _ _ _ (read.only.no_new_crash_state honest) adds
      (λ c may. inl (read.stands c honest read.usable may))
      (λ c left. ⊎_elim (λ old. inl (subst (λ (s : Site). represents c s) stands old)) (λ new. inr (subst (λ (s : Site). represents c (with_changes s changes)) stands (subst (λ (x : Changes). represents c (with_changes (site_state mid).site x)) (sym same) new))) left)

  -- what is made behind reads of which none failed
  pub made_since : {T U : Type 0} (changes made : Changes) (old mid new : K) (x : T) (y : U) → HaveRead old mid → (site_state mid).failed_reads ≡ (site_state old).failed_reads → (IsTrue (site_state old).honest → changes ≡ made)
      → MakesThem made mid new (Ok y) → MakesThem changes old new (Ok x)
  made_since changes made old mid new x y read none same makes = record {
    done = λ honest. (let after = makes.done (subst IsTrue (sym read.only.kept.honest) honest) in after ∙ ap (λ (s : Site). with_changes s made) (read.only.kept.site honest) ∙ ap (λ (c : Changes). with_changes (site_state old).site c) (sym (same honest)));
    still_usable = makes.still_usable;
    fault = tt;
    worked = worked_since _ _ _ read.only.kept makes.worked;
    counts = record { reads = makes.counts.reads ∙ none; writes = makes.counts.writes ∙ read.only.kept.writes };
    unchanged = λ honest. tt;
    at_crash = λ honest. crashes_since old mid new changes made read honest (same honest) (makes.at_crash (subst IsTrue (sym read.only.kept.honest) honest));
  }

  -- the same of a fault
  pub not_made_since : {T U : Type 0} (changes made : Changes) (old mid new : K) (fault : HubFault) → HaveRead old mid → (site_state mid).failed_reads ≡ (site_state old).failed_reads → (IsTrue (site_state old).honest → changes ≡ made)
      → MakesThem {T = U} made mid new (Err fault) → MakesThem {T = T} changes old new (Err fault)
  not_made_since {T = T} {U = U} changes made old mid new fault read none same makes =
      let counts : CountsCall {T = T} (Err fault) (site_state mid) (site_state new) = record { reads = makes.counts.reads; writes = makes.counts.writes } in
      record {
        done = λ honest. tt;
        still_usable = tt;
        fault = post_fault_since (lacks old) (lacks mid) changes made _ _ _ fault read.only.kept none read.only.lacking same makes.fault;
        worked = worked_since _ _ _ read.only.kept makes.worked;
        counts = call_since {T = T} (Err fault) _ _ _ read.only.kept none counts;
        unchanged = λ honest usable. adds_both _ _ _ _ _ _ (read.only.no_new_crash_state honest) (makes.unchanged (subst IsTrue (sym read.only.kept.honest) honest) usable) (λ c may. may) (λ c may. (read.only.no_new_crash_state honest).now c may);
        at_crash = λ honest. crashes_since old mid new changes made read honest (same honest) (makes.at_crash (subst IsTrue (sym read.only.kept.honest) honest));
      }

  -- what has been read stands, and a post is let wait or may not come to wait
  pub waits_made : {P : Type 0} (posting : Posting) (changes : Changes) (old new : K) (result : Result (Concluded P) HubFault) → LetsWait posting result → HaveRead old new → (site_state new).failed_reads ≡ (site_state old).failed_reads → changes ≡ [] → MakesThem changes old new result
  waits_made posting changes old new (Ok c) lets read none is = reads_made changes old new c read none is
  waits_made {P = P} posting changes old new (Err e) (ok, err) read none is =
      subst (λ (fault : HubFault). MakesThem {T = Concluded P} changes old new (Err fault)) (sym err.0)
      (none_made changes old new hub.Crowded read (record { reads = none; writes = read.only.kept.writes }) (record { site = read.only.kept.site; usable = read.only.kept.usable; free = read.only.kept.free }))
