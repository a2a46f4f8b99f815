-- A change of the administrator as a call of a hub.
use Rattle.std.proofs.Common.{◌≡◌, ◌⊎◌, ⊎_elim, ℕ, ◌≤◌, Bool, true, false, List, [], ◌∷◌, length, not, refl, sym, subst, ap, ◌∙◌, inl, inr}
use Rattle.std.specs.Prelude.{Result, Ok, Err, OnOk, IfErr, IsTrue, IsOk, nat_lt}
use mathlib.Core.Logic.{∥∥₁_elim, ∥∥₁_prop}
use Rattle.common_types.specs.declared.refused.Refused.{Refused}
use Rattle.host_types.specs.AllChanges.{Changes}
use Rattle.host_types.specs.Site.{Site, IsSite}
use Rattle.host_types.specs.Change.{apply}
use Rattle.host_types.specs.SiteState.{SiteState, HasNotChanged, SpentFirst, IsChangeFault}
use Rattle.host_types.specs.CrashStates.{CrashStates, AddsOnly, AddsNone}
use Rattle.host_types.specs.ValidChanges.{ChangesKeepSites, is_typed_change}
use Rattle.host_types.specs.declared.change.Change.{Change}
use Rattle.host_types.specs.declared.site_fault.SiteFault.{SiteFault}
use Rattle.host_types.specs.declared.site_fault.SiteFault.TheVariants as faults
use Rattle.group_world.specs.World.{World, Phase}
use Rattle.group_world.specs.Step.{changed, made_or}
use Rattle.group_world.specs.Run.{valid_one, IsFaulty}
use Rattle.group_world.specs.Calls.{IsKeeperLacking, IsUnspent}
use Rattle.group_world.specs.CrashStates.{with_changes}
use Rattle.group_world.specs.Outcomes.{fault_of}
use Rattle.group_world.specs.declared.event.Event.TheVariants.{Admin}
use Rattle.group_world.specs.declared.event.Outcome.{Outcome}
use Rattle.group_world.specs.declared.event.Outcome.TheVariants.{Done, Fault}
use Rattle.group_world.specs.declared.fault.HubFault.{HubFault}
use Rattle.group_world.specs.declared.fault.HubFault.TheVariants as hub
use Rattle.group_world.proofs.Leaving.{leaves_nothing, leaves_changes, leaves_in_flight, fault_stores, weaker, nothing, all_in_one, all_in_flight}
use Rattle.group_hub.specs.Calls.{CallOverKeeper, Splits}
use Rattle.group_hub.specs.Causes.{IsAdminCause}
use Rattle.group_hub.specs.Counting.{CountsCall}
use Rattle.group_hub.specs.Understood.{IsPostFault}
use Rattle.group_hub.specs.Worlds.{world_at}
use Rattle.group_hub.proofs.Steps.{answered_by, faulty_by, is_answer, same_parts, post_fault}
use Rattle.group_hub.proofs.CallsMade.{Represents, acknowledged_of, starts, both}
use Rattle.group_hub.proofs.Heard.{heard_steady, open_after}

-- ---- the change, where it is valid

is_valid : (change : Change) (now : ℕ) (r : Result Site Refused) → IsOk r → valid_one change now r ≡ (change, now) ∷ []
is_valid change now (Ok site) is = refl
is_valid change now (Err refused) is = absurd (cc is)

is_ok : (r : Result Site Refused) (t : Site) → r ≡ Ok t → IsOk r
is_ok (Ok s) t e = refl
is_ok (Err refused) t e = absurd (cc e)

lacking : (lacks : Changes → SiteFault → Type 0) (change : Change) (now : ℕ) (applied : Result Site Refused) (fault : SiteFault) → IsOk applied → lacks ((change, now) ∷ []) fault → IsKeeperLacking lacks (valid_one change now applied) fault
lacking lacks change now applied fault is h = subst (λ (l : Changes). IsKeeperLacking lacks l fault) (sym (is_valid change now applied is)) h

-- what the keeper does not lack for the change it does not lack where that is not valid either
unspent : (lacks : Changes → SiteFault → Type 0) (change : Change) (now : ℕ) (applied : Result Site Refused) → (lacks ((change, now) ∷ []) faults.Spent → ⊥) → IsUnspent lacks (valid_one change now applied)
unspent lacks change now (Ok site) none = none
unspent lacks change now (Err refused) none = λ never. never

made_site : (change : Change) (now : ℕ) (site t : Site) → apply site change now ≡ Ok t → with_changes site (valid_one change now (apply site change now)) ≡ t
made_site change now site t is = ap (with_changes site) (is_valid change now (apply site change now) (is_ok (apply site change now) t is)) ∙ ap (made_or site) is

-- what is made keeps a site valid, and what isn't leaves it
unmade : (a b : SiteState) (applied : Result Site Refused) (lacks : SiteFault → Type 0) (fault : SiteFault) → IsTrue a.honest → IsChangeFault lacks a b applied fault → b.site ≡ a.site
unmade a b applied lacks (faults.Refused r) honest h = h.0.site honest
unmade a b applied lacks faults.Read honest h = h.0.site honest
unmade a b applied lacks (faults.Full need free) honest h = h.0.site honest
unmade a b applied lacks faults.Spent honest h = h.0.site honest
unmade a b applied lacks faults.Deep honest h = h.0.site honest
unmade a b applied lacks faults.Failed honest h = h.site honest
unmade a b applied lacks faults.Memory honest h = h.site honest

still_unmade : (a b : SiteState) (applied : Result Site Refused) (lacks : SiteFault → Type 0) (fault : SiteFault) → IsTrue a.honest → IsChangeFault lacks a b applied fault → ∥ IsSite a.site ∥₁ → ∥ IsSite b.site ∥₁
still_unmade a b applied lacks fault honest h site = subst (λ (t : Site). ∥ IsSite t ∥₁) (sym (unmade a b applied lacks fault honest h)) site

still_valid : ChangesKeepSites → (s t : Site) (change : Change) (now : ℕ) → ∥ IsSite s ∥₁ → IsTrue (is_typed_change change) → now ≤ 253402300799 → apply s change now ≡ Ok t → ∥ IsSite t ∥₁
still_valid laws s t change now site typed early applied = ∥∥₁_elim site ∥∥₁_prop (λ h. ∣ laws s t change now h typed early applied ∣₁)

pub keeps_valid : {T : Type 0} → ChangesKeepSites → (a b : SiteState) (change : Change) (now : ℕ) (lacks : SiteFault → Type 0) (result : Result T SiteFault) → IsTrue a.honest → IsTrue (is_typed_change change) → now ≤ 253402300799
    → OnOk result (apply a.site change now ≡ Ok b.site) → IfErr result (IsChangeFault lacks a b (apply a.site change now)) → ∥ IsSite a.site ∥₁ → ∥ IsSite b.site ∥₁
keeps_valid laws a b change now lacks (Ok done) honest typed early made fault site = still_valid laws a.site b.site change now site typed early made
keeps_valid laws a b change now lacks (Err fault) honest typed early made is site = still_unmade a b (apply a.site change now) lacks fault honest is site

module _ {S L : Type 0} (site_state : S → SiteState) (lacks : S → Changes → SiteFault → Type 0) (crash_states : S → CrashStates L) (stands : L → Site → Type 0) (k l : S) (next : ℕ) (g : Bool) (sessions : List (ℕ × Phase)) (change : Change) (now : ℕ) where
  abbrev It : Outcome → Type 0
  It o = CallOverKeeper site_state lacks crash_states stands (world_at (site_state k) next g sessions) k (Admin change now) o (world_at (site_state l) next g sessions) l

  abbrev was : World
  was = world_at (site_state k) next g sessions

  abbrev is_now : World
  is_now = world_at (site_state l) next g sessions

  abbrev applied : Result Site Refused
  applied = apply (site_state k).site change now

  abbrev own : Changes
  own = valid_one change now applied

  abbrev Crashes : Type 0
  Crashes = IsTrue (site_state k).honest → AddsOnly (crash_states k) (crash_states l) (λ c. stands c (site_state k).site ⊎ ((s : Site) × (applied ≡ Ok s) × stands c s))

  abbrev WritesNothing : Type 0
  WritesNothing = IsTrue (site_state k).honest → (site_state l).usable ≡ true → AddsNone (crash_states k) (crash_states l)

  as_changes : Crashes → IsTrue (site_state k).honest → AddsOnly (crash_states k) (crash_states l) (λ c. stands c (site_state k).site ⊎ stands c (with_changes (site_state k).site own))
  as_changes crashes honest = weaker (crash_states k) (crash_states l) _ (λ c. stands c (site_state k).site ⊎ stands c (with_changes (site_state k).site own)) (crashes honest)
      (λ c. ⊎_elim (λ old. inl old) (λ made. inr (subst (stands c) (sym (made_site change now (site_state k).site made.0 made.1)) made.2)))

  -- one that is made
  pub made_call : CountsCall {T = Outcome} (Ok Done) (site_state k) (site_state l) → (site_state k).usable ≡ true → (site_state l).usable ≡ true → (site_state l).honest ≡ (site_state k).honest → (IsTrue (site_state k).honest → applied ≡ Ok (site_state l).site)
      → Represents site_state crash_states stands l → Crashes → It Done
  made_call counts usable unchanged same made represent crashes =
      let a = site_state k in
      let b = site_state l in
      let w = world_at a next g sessions in
      let v = world_at b next g sessions in
      let e = Admin change now in
      let off = ap not usable in
      let answers = λ (honest : IsTrue a.honest). is_answer w e _ Done v off (ap (changed w) (made honest)) refl (same_parts b.site b.site b.usable a.usable next g sessions sessions refl (unchanged ∙ sym usable) refl) in
      record {
        step = λ honest. answered_by w.failed w e Done v (answers honest);
        cause = tt;
        counts = record { reads = counts.reads; writes = counts.writes };
        honest = same;
        site = refl;
        flag = refl;
        steady = record {
          closed = λ shut. absurd (both w.failed w.failed off shut refl);
          shuts = λ no shut. absurd (both v.failed v.failed (ap not unchanged) shut refl);
          failed = λ fails. absurd (cc fails);
          next = λ any fails. refl;
          sessions = λ any fails whole. refl;
          unknown = λ fails. absurd (cc fails);
          grouped = refl;
        };
        acknowledged = λ honest. acknowledged_of site_state crash_states stands Done v l represent (subst IsTrue (sym same) honest) refl refl;
        leaves = λ honest. (
          all_in_one own,
          leaves_changes stands (Splits site_state lacks k w e) w v e Done l (crash_states k) (crash_states l) off (answers honest) (as_changes crashes honest)
              (sym (made_site change now a.site b.site (made honest))) (λ c may. represent c (subst IsTrue (sym same) honest) unchanged may),
        );
      }

  -- a fault of the keeper, of a change that may be valid
  failed_call : (fault : HubFault) → (fault ≡ hub.Crowded → ⊥) → CountsCall {T = Outcome} (Err fault) (site_state k) (site_state l) → (site_state k).usable ≡ true → (site_state l).honest ≡ (site_state k).honest → Represents site_state crash_states stands k → Crashes → WritesNothing
      → IsAdminCause (lacks k) own (site_state k) (site_state l) fault → IsPostFault (lacks k) own (site_state k) (site_state l) fault → It (Fault fault)
  failed_call fault room counts usable same represent crashes none cause post = by fault refl
    where
      is_faulty : IsTrue (site_state k).honest → IsFaulty was (Admin change now) (Fault fault) is_now
      is_faulty honest = post_fault (site_state k) (site_state l) (lacks k) next g sessions sessions (Admin change now) own fault refl room honest usable refl refl refl refl post

      kept : (fault ≡ hub.Failed → ⊥) → It (Fault fault)
      kept other = record {
        step = λ honest. faulty_by was.failed was (Admin change now) (Fault fault) is_now (ap not usable) (is_faulty honest);
        cause = cause;
        counts = record { reads = counts.reads; writes = counts.writes };
        honest = same;
        site = refl;
        flag = refl;
        steady = heard_steady site_state (lacks k) was k (Admin change now) is_now l own (Err fault) (ap not usable) usable refl refl refl refl tt post;
        acknowledged = λ honest. tt;
        leaves = λ honest. (
          nothing,
          leaves_nothing stands (Splits site_state lacks k was (Admin change now)) was is_now (Admin change now) (Fault fault) l (crash_states k) (crash_states l) (inr (is_faulty honest)) (fault_stores was (Admin change now) fault other)
              (none honest (open_after (site_state k) (site_state l) (lacks k) own fault other post ∙ usable)) (starts site_state crash_states stands was k represent honest refl refl),
        );
      }

      failing : fault ≡ hub.Failed → It (Fault fault)
      failing is = subst (λ (x : HubFault). It (Fault x)) (sym is) (record {
        step = λ honest. faulty_by was.failed was (Admin change now) (Fault hub.Failed) is_now (ap not usable) (subst (λ (x : HubFault). IsFaulty was (Admin change now) (Fault x) is_now) is (is_faulty honest));
        cause = subst (IsAdminCause (lacks k) own (site_state k) (site_state l)) is cause;
        counts = (let moved = subst (λ (x : HubFault). CountsCall {T = Outcome} (Err x) (site_state k) (site_state l)) is counts in record { reads = moved.reads; writes = moved.writes });
        honest = same;
        site = refl;
        flag = refl;
        steady = heard_steady site_state (lacks k) was k (Admin change now) is_now l own (Err hub.Failed) (ap not usable) usable refl refl refl refl tt (subst (IsPostFault (lacks k) own (site_state k) (site_state l)) is post);
        acknowledged = λ honest. tt;
        leaves = λ honest. (all_in_flight own, leaves_in_flight stands (Splits site_state lacks k was (Admin change now)) was is_now (Admin change now) l (crash_states k) (crash_states l) (ap not usable) (subst (λ (x : HubFault). IsFaulty was (Admin change now) (Fault x) is_now) is (is_faulty honest)) (as_changes crashes honest));
      })

      by : (x : HubFault) → fault ≡ x → It (Fault fault)
      by hub.Failed is = failing is
      by hub.Unknown is = kept (λ e. (let no : hub.Unknown ≡ hub.Failed = sym is ∙ e in cc no))
      by hub.Crowded is = absurd (room is)
      by hub.Spent is = kept (λ e. (let no : hub.Spent ≡ hub.Failed = sym is ∙ e in cc no))
      by hub.Deep is = kept (λ e. (let no : hub.Deep ≡ hub.Failed = sym is ∙ e in cc no))
      by (hub.Refused r) is = kept (λ e. (let no : hub.Refused r ≡ hub.Failed = sym is ∙ e in cc no))
      by (hub.Full need free) is = kept (λ e. (let no : hub.Full need free ≡ hub.Failed = sym is ∙ e in cc no))
      by hub.Broken is = kept (λ e. (let no : hub.Broken ≡ hub.Failed = sym is ∙ e in cc no))
      by hub.Memory is = kept (λ e. (let no : hub.Memory ≡ hub.Failed = sym is ∙ e in cc no))
      by hub.NotReady is = kept (λ e. (let no : hub.NotReady ≡ hub.Failed = sym is ∙ e in cc no))

  -- a change that is not valid
  refused_call : (refused : Refused) → CountsCall {T = Outcome} (Err (hub.Refused refused)) (site_state k) (site_state l) → (site_state k).usable ≡ true → (site_state l).honest ≡ (site_state k).honest → Represents site_state crash_states stands k → WritesNothing → HasNotChanged (site_state k) (site_state l)
      → (IsTrue (site_state k).honest → applied ≡ Err refused) → It (Fault (hub.Refused refused))
  refused_call refused counts usable same represent none stays is =
      let a = site_state k in
      let b = site_state l in
      let w = world_at a next g sessions in
      let v = world_at b next g sessions in
      let e = Admin change now in
      let off : w.failed ≡ false = ap not usable in
      let answers = λ (honest : IsTrue a.honest). is_answer w e _ (Fault (hub.Refused refused)) v off (ap (changed w) (is honest)) refl (same_parts b.site a.site b.usable a.usable next g sessions sessions (stays.site honest) stays.usable refl) in
      record {
        step = λ honest. answered_by w.failed w e (Fault (hub.Refused refused)) v (answers honest);
        cause = usable;
        counts = record { reads = counts.reads; writes = counts.writes };
        honest = same;
        site = refl;
        flag = refl;
        steady = record {
          closed = λ shut. absurd (both w.failed w.failed off shut refl);
          shuts = λ no shut. absurd (both w.failed v.failed off shut (ap not (sym stays.usable)));
          failed = λ fails. absurd (cc fails);
          next = λ any fails. refl;
          sessions = λ any fails whole. refl;
          unknown = λ fails. absurd (cc fails);
          grouped = refl;
        };
        acknowledged = λ honest. tt;
        leaves = λ honest. (
          nothing,
          leaves_nothing stands (Splits site_state lacks k w e) w v e (Fault (hub.Refused refused)) l (crash_states k) (crash_states l) (inl (answers honest)) (fault_stores w e (hub.Refused refused) (λ x. cc x))
              (none honest (stays.usable ∙ usable)) (starts site_state crash_states stands w k represent honest refl refl),
        );
      }

  pub not_made_call : (fault : SiteFault) → CountsCall {T = Outcome} (Err (fault_of fault)) (site_state k) (site_state l) → (site_state k).usable ≡ true → (site_state l).honest ≡ (site_state k).honest → Represents site_state crash_states stands k → Crashes → WritesNothing
      → IsChangeFault (lacks k ((change, now) ∷ [])) (site_state k) (site_state l) applied fault → SpentFirst {T = Unit {0}} (lacks k ((change, now) ∷ [])) (Err fault) → It (Fault (fault_of fault))
  not_made_call (faults.Refused refused) counts usable same represent crashes none h order = refused_call refused counts usable same represent none h.0 h.1
  not_made_call faults.Read counts usable same represent crashes none h order = failed_call hub.Broken (λ x. cc x) counts usable same represent crashes none (usable, h.1) (h.0, h.1)
  not_made_call (faults.Full need free) counts usable same represent crashes none h order =
      let lack : IsTrue (site_state k).honest → IsKeeperLacking (lacks k) own (faults.Full need free) × IsUnspent (lacks k) own =
      λ honest. (lacking (lacks k) change now applied (faults.Full need free) (h.2 honest).0 (h.2 honest).1, unspent (lacks k) change now applied order) in
      failed_call (hub.Full need free) (λ x. cc x) counts usable same represent crashes none (usable, h.1, lack) (h.0, h.1, lack)
  not_made_call faults.Spent counts usable same represent crashes none h order =
      let lack : IsTrue (site_state k).honest → IsKeeperLacking (lacks k) own faults.Spent = λ honest. lacking (lacks k) change now applied faults.Spent (h.1 honest).0 (h.1 honest).1 in
      failed_call hub.Spent (λ x. cc x) counts usable same represent crashes none (usable, lack) (h.0, lack)
  not_made_call faults.Deep counts usable same represent crashes none h order =
      let lack : IsTrue (site_state k).honest → IsKeeperLacking (lacks k) own faults.Deep × IsUnspent (lacks k) own =
      λ honest. (lacking (lacks k) change now applied faults.Deep (h.1 honest).0 (h.1 honest).1, unspent (lacks k) change now applied order) in
      failed_call hub.Deep (λ x. cc x) counts usable same represent crashes none (usable, lack) (h.0, lack)
  not_made_call faults.Failed counts usable same represent crashes none h order =
      failed_call hub.Failed (λ x. cc x) counts usable same represent crashes none (λ honest. inr (h.cause honest usable))
      (record { site = h.site; shut = h.shut; cause = λ honest. h.cause honest usable; change = λ honest. ap (λ (m : Changes). nat_lt 0 (length m)) (is_valid change now applied (h.right honest usable)) })
  not_made_call faults.Memory counts usable same represent crashes none h order = failed_call hub.Memory (λ x. cc x) counts usable same represent crashes none usable h
