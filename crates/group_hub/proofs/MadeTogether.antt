-- A group that is prepared, and then made in one step.
use Rattle.std.proofs.Common.{◌≡◌, ◌⊎◌, inl, inr, ⊎_elim, ℕ, ◌<◌, Bool, true, List, [], ◌∷◌, length, refl, sym, ap, subst, ◌∙◌, arith, lt-ltb}
use Rattle.std.specs.Prelude.{Some, Result, Ok, Err, OnOk, IfOk, IfErr, IsTrue, nat_lt}
use Rattle.host_types.specs.AllChanges.{Changes}
use Rattle.host_types.specs.Site.{Site}
use Rattle.host_types.specs.SiteState.{SiteState, Rose, HasNotChanged}
use Rattle.host_types.specs.Pins.{Pinned}
use Rattle.host_types.specs.CrashStates.{CrashStates, AddsOnly, may_crash_to, adds_both, adds_none_again}
use Rattle.host_types.specs.declared.site_fault.SiteFault.{SiteFault}
use Rattle.host_types.specs.declared.site_fault.SiteFault.TheVariants as faults
use Rattle.group_world.specs.Calls.{IsKeeperLacking, MaySplit}
use Rattle.group_world.specs.CrashStates.{with_changes}
use Rattle.group_world.specs.Laws.{all_made}
use Rattle.group_world.specs.Step.{Group, without_forms, all_of}
use Rattle.group_world.specs.declared.fault.HubFault.{HubFault}
use Rattle.group_world.specs.declared.fault.HubFault.TheVariants as hub
use Rattle.group_world.proofs.Groups.{groups_are_right}
use Rattle.group_world.proofs.Stored.{right_make}
use Rattle.group_hub.specs.Counting.{HubCountsWrites, writes_after}
use Rattle.group_hub.specs.Flushing.{next_pins, AreNextSound, AreForWaiting, ArePrepared, StandsBeside, IsGroupFault, MakesGroup}
use Rattle.group_hub.specs.Preparing.{IsPrepareFault, Prepares}
use Rattle.group_hub.specs.Sessions.{sessions_of}
use Rattle.group_hub.specs.Together.{group_of, IsUntouched, IsTogetherFault, IsApart, MakesTogether}
use Rattle.group_hub.specs.declared.group_commit.GroupCommit.{GroupCommit}
use Rattle.group_hub.specs.declared.group_commit.GroupCommit.TheVariants as commits
use Rattle.group_hub.specs.declared.next.Next.{Next}
use Rattle.group_hub.specs.declared.session.Session.{Session}
use Rattle.group_hub.proofs.MadeBehindReads.{weaker, lacking_still, unspent_still}
use Rattle.group_hub.proofs.NextPins.{OneMore, none_beside}
use Rattle.group_hub.proofs.PreparesThen.{counts_behind}

on_ok : {T E : Type 0} {P : Type 0} (r : Result T E) → P → OnOk r P
on_ok (Ok x) p = p
on_ok (Err e) p = tt

if_ok : {T E : Type 0} {P Q : T → Type 0} (r : Result T E) → ((x : T) → P x → Q x) → IfOk r P → IfOk r Q
if_ok (Ok x) on p = on x p
if_ok (Err e) on p = tt

some_of : (lacks : Changes → SiteFault → Type 0) (changes : Changes) (fault : SiteFault) → IsKeeperLacking lacks changes fault → nat_lt 0 (length changes) ≡ true
some_of lacks [] fault never = absurd never
some_of lacks (c ∷ changes) fault lack = lt-ltb 0 (length (c ∷ changes)) (omega arith)

module _ {S L P : Type 0} (site_state : S → SiteState) (lacks : S → Changes → SiteFault → Type 0) (crash_states : S → CrashStates L) (represents : L → Site → Type 0) (pinned : P → Pinned) (sessions : List (Session P)) (next : List (Next P)) (k m : S)
    (usable : (site_state k).usable ≡ true) (stand : (c : L) → IsTrue (site_state k).honest → (site_state k).usable ≡ true → may_crash_to (crash_states k) c → represents c (site_state k).site)
    (sound : IsTrue (site_state k).honest → AreNextSound pinned (site_state m) next) (stands : StandsBeside pinned (site_state k) (site_state m) (next_pins pinned next) sessions) where
  abbrev PreparesSo : {T : Type 0} → Result T HubFault → Type 0
  PreparesSo r = Prepares site_state lacks crash_states k m r

  abbrev whole_group : Group
  whole_group = group_of pinned (site_state k) sessions

  abbrev MakesSo : S → Result GroupCommit HubFault → Type 0
  MakesSo l r = MakesTogether site_state lacks crash_states represents pinned sessions next k l r

  -- ---- a fault while it is prepared

  module _ (fault : HubFault) (p : PreparesSo {T = Unit {0}} (Err fault)) where
    untouched : IsUntouched site_state crash_states k m
    untouched = record { usable = p.usable ∙ usable; site = p.site; no_new_crash_state = p.no_new_crash_state }

    so_fails : (x : HubFault) → IsPrepareFault (site_state k) (site_state m) x → IsTogetherFault site_state lacks crash_states whole_group.changes k m x
    so_fails hub.Memory is = untouched
    so_fails hub.Broken is = (untouched, is)
    so_fails hub.Unknown is = is
    so_fails hub.Crowded is = is
    so_fails hub.Spent is = absurd is
    so_fails (hub.Refused refused) is = is
    so_fails (hub.Full need free) is = is
    so_fails hub.Failed is = absurd is
    so_fails hub.NotReady is = is
    so_fails hub.Deep is = is

    none_written : (x : HubFault) → IsPrepareFault (site_state k) (site_state m) x → (site_state k).failed_writes ≡ writes_after (site_state k).usable x (site_state k).failed_writes
    none_written hub.Failed is = absurd is
    none_written hub.Memory is = refl
    none_written hub.Broken is = refl
    none_written hub.Unknown is = refl
    none_written hub.Crowded is = refl
    none_written hub.Spent is = refl
    none_written (hub.Refused refused) is = refl
    none_written (hub.Full need free) is = refl
    none_written hub.NotReady is = refl
    none_written hub.Deep is = refl

    pub not_prepared : MakesSo m (Err fault)
    not_prepared = record {
      honest = p.honest;
      whole = λ honest. tt;
      put = λ honest. tt;
      gone = λ honest. tt;
      waiting = tt;
      sound = sound;
      stands = stands;
      still_usable = tt;
      apart = tt;
      fault = so_fails fault p.fault;
      counts = record { reads = p.reads; writes = p.writes ∙ none_written fault p.fault };
      at_crash = λ honest. weaker _ _ _ _ (p.no_new_crash_state honest) (λ c may. inl (stand c honest usable may));
    }

  -- ---- and then made

  module _ (changes : Changes) (p : PreparesSo (Ok (tt {0}))) (prepared : IsTrue (site_state k).honest → ArePrepared pinned (site_state m) (site_state k).site (sessions_of pinned (site_state k) sessions) next changes) (waiting : AreForWaiting sessions next) where
    on : IsTrue (site_state k).honest → IsTrue (site_state m).honest
    on honest = subst IsTrue (sym p.honest) honest

    all_right : all_made (site_state k).site whole_group.changes ≡ Some whole_group.site
    all_right = groups_are_right (site_state k).site (all_of (sessions_of pinned (site_state k) sessions)) (without_forms (site_state k).site (sessions_of pinned (site_state k) sessions))

    -- so the commit is of changes that are right
    pub changes_right : IsTrue (site_state m).honest → (t : Site) × (all_made (site_state m).site changes ≡ Some t)
    changes_right honest =
        let was : IsTrue (site_state k).honest = subst IsTrue p.honest honest in
        (whole_group.site, ap (λ (s : Site). all_made s changes) (p.site was) ∙ ap (all_made (site_state k).site) (prepared was).changes ∙ all_right)

    module _ (l : S) (r : Result GroupCommit HubFault) (c : MakesGroup site_state lacks crash_states represents changes m l r) where
      one : OneMore pinned (site_state k) (site_state m) (site_state l) sessions next next
      one = none_beside pinned (site_state k) (site_state m) (site_state l) sessions next stands c.tried.pins

      prepared_now : IsTrue (site_state k).honest → ArePrepared pinned (site_state l) (site_state k).site (sessions_of pinned (site_state k) sessions) next changes
      prepared_now honest = one.prepared _ _ _ (prepared honest)

      with_all : IsTrue (site_state k).honest → with_changes (site_state m).site changes ≡ with_changes (site_state k).site whole_group.changes
      with_all honest = ap (λ (s : Site). with_changes s changes) (p.site honest) ∙ ap (with_changes (site_state k).site) (prepared honest).changes

      whole_site : IsTrue (site_state k).honest → with_changes (site_state m).site changes ≡ whole_group.site
      whole_site honest = with_all honest ∙ right_make (site_state k).site whole_group.site whole_group.changes all_right

      unchanged_since : HasNotChanged (site_state m) (site_state l) → (IsTrue (site_state m).honest → (site_state l).usable ≡ true → AddsOnly (crash_states m) (crash_states l) (may_crash_to (crash_states m))) → IsUntouched site_state crash_states k l
      unchanged_since stays none =
          let up : (site_state l).usable ≡ true = stays.usable ∙ p.usable ∙ usable in
          record {
            usable = up;
            site = λ honest. stays.site (on honest) ∙ p.site honest;
            no_new_crash_state = λ honest. adds_none_again (crash_states k) (crash_states m) (crash_states l) (p.no_new_crash_state honest) (none (on honest) up);
          }

      lack_since : (fault : SiteFault) → IsTrue (site_state k).honest → IsKeeperLacking (lacks m) changes fault → IsKeeperLacking (lacks k) whole_group.changes fault
      lack_since fault honest lack = lacking_still (lacks k) (lacks m) whole_group.changes changes fault p.lacking (sym (prepared honest).changes) lack

      split_since : IsTrue (site_state k).honest → MaySplit (lacks m) (site_state m) changes → MaySplit (lacks k) (site_state k) whole_group.changes
      split_since honest split = record {
        cause = cause_since split.cause;
        unspent = unspent_still (lacks k) (lacks m) whole_group.changes changes p.lacking (sym (prepared honest).changes) split.unspent;
      }
        where
          cause_since : ((need : ℕ) × ((site_state m).free < need) × IsKeeperLacking (lacks m) changes (faults.Full need (site_state m).free)) ⊎ IsKeeperLacking (lacks m) changes faults.Deep
              → ((need : ℕ) × ((site_state k).free < need) × IsKeeperLacking (lacks k) whole_group.changes (faults.Full need (site_state k).free)) ⊎ IsKeeperLacking (lacks k) whole_group.changes faults.Deep
          cause_since (inl (need, less, lack)) = inl (need, subst (λ (n : ℕ). n < need) p.free less, lack_since (faults.Full need (site_state k).free) honest (subst (λ (n : ℕ). IsKeeperLacking (lacks m) changes (faults.Full need n)) p.free lack))
          cause_since (inr lack) = inr (lack_since faults.Deep honest lack)

      some_split : IsTrue (site_state k).honest → MaySplit (lacks k) (site_state k) whole_group.changes → nat_lt 0 (length whole_group.changes) ≡ true
      some_split honest split = by split.cause
        where
          by : ((need : ℕ) × ((site_state k).free < need) × IsKeeperLacking (lacks k) whole_group.changes (faults.Full need (site_state k).free)) ⊎ IsKeeperLacking (lacks k) whole_group.changes faults.Deep → nat_lt 0 (length whole_group.changes) ≡ true
          by (inl (need, less, lack)) = some_of (lacks k) whole_group.changes (faults.Full need (site_state k).free) lack
          by (inr lack) = some_of (lacks k) whole_group.changes faults.Deep lack

      abbrev Apart : GroupCommit → Type 0
      Apart x = x ≡ commits.TooLarge → IsApart site_state lacks crash_states whole_group.changes k l

      is_apart : (q : Result GroupCommit HubFault) → MakesGroup site_state lacks crash_states represents changes m l q → IfOk q Apart
      is_apart (Ok x) made = λ large.
          let why = made.too_large large in
          record {
            untouched = unchanged_since why.0 (λ honest up. made.too_large_adds_none honest large);
            some = λ honest. some_split honest (split_since honest (why.1 (on honest)));
            split = λ honest. split_since honest (why.1 (on honest));
          }
      is_apart (Err fault) made = tt

      fault_since : (fault : HubFault) → MakesGroup site_state lacks crash_states represents changes m l (Err fault) → IsGroupFault (lacks m) changes (site_state m) (site_state l) fault → IsTogetherFault site_state lacks crash_states whole_group.changes k l fault
      fault_since hub.Memory made is = unchanged_since is made.unchanged
      fault_since hub.Broken made is = (unchanged_since is.0 made.unchanged, λ honest. subst (λ (n : ℕ). Rose n (site_state l).failed_reads) p.reads (is.1 (on honest)))
      fault_since hub.Spent made is = (unchanged_since is.0 made.unchanged, λ honest. (let lack = lack_since faults.Spent honest (is.1 (on honest)) in (some_of (lacks k) whole_group.changes faults.Spent lack, lack)))
      fault_since hub.Failed made is = record {
        shut = is.shut;
        site = λ honest. is.site (on honest) ∙ p.site honest;
        some = λ honest. ap (λ (x : Changes). nat_lt 0 (length x)) (sym (prepared honest).changes) ∙ is.change (on honest);
        cause = λ honest. subst (λ (n : ℕ). Rose n (site_state l).failed_writes) p.writes (is.cause (on honest));
      }
      fault_since hub.Unknown made is = is
      fault_since hub.Crowded made is = is
      fault_since (hub.Refused refused) made is = is
      fault_since (hub.Full need free) made is = is
      fault_since hub.NotReady made is = is
      fault_since hub.Deep made is = is

      faults_since : (q : Result GroupCommit HubFault) → MakesGroup site_state lacks crash_states represents changes m l q → IfErr q (IsTogetherFault site_state lacks crash_states whole_group.changes k l)
      faults_since (Ok x) made = tt
      faults_since (Err fault) made = fault_since fault made made.fault

      writes_since : (q : Result GroupCommit HubFault) → HubCountsWrites q (site_state m) (site_state l) → HubCountsWrites q (site_state k) (site_state l)
      writes_since (Ok x) is = is ∙ p.writes
      writes_since (Err fault) is = is ∙ ap (λ (b : Bool). writes_after b fault (site_state m).failed_writes) p.usable ∙ ap (writes_after (site_state k).usable fault) p.writes

      pub made_together : MakesSo l r
      made_together = record {
        honest = c.tried.honest ∙ p.honest;
        whole = λ honest. if_ok r (λ x made whole. made whole ∙ whole_site honest) (c.whole (on honest));
        put = λ honest. on_ok r (prepared_now honest).put;
        gone = λ honest. on_ok r (prepared_now honest).gone;
        waiting = on_ok r waiting;
        sound = λ honest. one.sound (sound honest);
        stands = one.stands;
        still_usable = c.still_usable;
        apart = is_apart r c;
        fault = faults_since r c;
        counts = record { reads = counts_behind r (site_state k) (site_state m) (site_state l) p.honest p.reads c.counts.reads; writes = writes_since r c.counts.writes };
        at_crash = λ honest. adds_both (crash_states k) (crash_states m) (crash_states l) _ _ _ (p.no_new_crash_state honest) (c.at_crash (on honest))
            (λ x may. inl (stand x honest usable may))
            (λ x left. ⊎_elim (λ old. inl (subst (λ (s : Site). represents x s) (p.site honest) old)) (λ new. inr (subst (λ (s : Site). represents x s) (with_all honest) new)) left);
      }
