-- What a flush makes of its call.
use Rattle.std.proofs.Common.{◌≡◌, ◌⊎◌, ⊎_elim, ◌-◌, ◌≤◌, ℕ, zero, suc, Bool, true, false, List, [], ◌∷◌, ◌++◌, length, take, drop, not, refl, sym, subst, ap, ◌∙◌, inl, inr, arith, if◌then◌else◌}
use Rattle.std.specs.Prelude.{Ok, Err, IsTrue, nat_lt}
use Rattle.std.proofs.lemmas.List.{append-nil, length-append}
use Rattle.host_types.specs.AllChanges.{Changes}
use Rattle.host_types.specs.Site.{Site}
use Rattle.host_types.specs.SiteState.{SiteState, Rose}
use Rattle.host_types.specs.CrashStates.{CrashStates, AddsOnly, AddsNone, may_crash_to, adds_both, adds_none_again}
use Rattle.host_types.specs.declared.site_fault.SiteFault.{SiteFault}
use Rattle.group_world.specs.World.{World, Phase, Heard, Waits, Reply, Early, one_waiting, count_waiting}
use Rattle.group_world.specs.Step.{Group, behind, site_from, flushed, whole_group, without_form, without_forms, answered_from, post_from, taken, all_of}
use Rattle.group_world.specs.Run.{IsFaulty, IsTakenSingly}
use Rattle.group_world.specs.Calls.{IsKeeperLacking, MaySplit, IsFlushCause, CountsLeft, counted_times}
use Rattle.group_world.specs.CrashStates.{CommitOfChanges, with_changes, one_by_one, stored_singly, HoldsCommits}
use Rattle.group_world.specs.declared.event.Event.TheVariants.{Flush}
use Rattle.group_world.specs.declared.event.Outcome.{Outcome}
use Rattle.group_world.specs.declared.event.Outcome.TheVariants.{Flushed, Fault}
use Rattle.group_world.specs.declared.fault.HubFault.{HubFault}
use Rattle.group_world.specs.declared.fault.HubFault.TheVariants as hub
use Rattle.group_world.proofs.Leaving.{weaker, leaves_nothing, leaves_changes, leaves_in_flight, fault_stores, nothing, all_in_one, all_in_flight}
use Rattle.group_world.proofs.Stored.{right_make}
use Rattle.group_world.proofs.Groups.{groups_are_right}
use Rattle.host_types.specs.declared.site_fault.SiteFault.TheVariants as faults
use Rattle.group_hub.specs.Calls.{CallOverKeeper, Splits, IsSteady, may_fail_behind}
use Rattle.group_hub.specs.Counting.{IsHubReadCounted, CountsCall, CountsEvent, CountsFlush, writes_after}
use Rattle.group_hub.specs.Flushing.{LeavesSo, TakesAll, TakesUpTo, WorksSingly}
use Rattle.group_hub.specs.Together.{IsUntouched, IsTogetherFault}
use Rattle.group_hub.specs.HeldPins.{MayGiveBack}
use Rattle.request_reader.specs.Request.{Request}
use Rattle.site_replies.specs.Reply.{reply}
use Rattle.group_hub.specs.Worlds.{world_at}
use Rattle.group_hub.proofs.CallsMade.{Represents, both, acknowledged_of, starts}
use Rattle.group_hub.proofs.Steps.{answered_by, faulty_by, split_by, is_answer, same_parts}

-- ---- nobody waits

none_of : (s : Site) (p : Phase) → one_waiting p ≡ 0 → (without_form s p ≡ p) × (answered_from s p ≡ p) × (post_from s p ≡ []) × (site_from s p ≡ s)
none_of s (Heard stream) none = (refl, refl, refl, refl)
none_of s (Waits request now) none = absurd (cc none)
none_of s (Reply rest) none = (refl, refl, refl, refl)
none_of s Early none = (refl, refl, refl, refl)

abbrev as_it_is : Site → List (ℕ × Phase) → Group
as_it_is s sessions = record { site = s; sessions = sessions; changes = [] }

nobody_taken : (s : Site) (sessions : List (ℕ × Phase)) → count_waiting sessions ≡ 0 → taken s (all_of sessions) (without_forms s sessions) ≡ as_it_is s sessions
nobody_taken s [] none = refl
nobody_taken s (x ∷ sessions) none =
    let here = none_of s x.1 (omega (arith, none)) in
    let rest = nobody_taken s sessions (omega (arith, none)) in
    ap (λ (p : Phase). behind (x.0, answered_from s p) (post_from s p) (taken (site_from s p) (all_of sessions) (without_forms s sessions))) here.0
    ∙ ap (λ (t : Site). behind (x.0, answered_from s x.1) (post_from s x.1) (taken t (all_of sessions) (without_forms s sessions))) here.3
    ∙ ap (behind (x.0, answered_from s x.1) (post_from s x.1)) rest
    ∙ ap (λ (p : Phase). behind (x.0, p) (post_from s x.1) (as_it_is s sessions)) here.1
    ∙ ap (λ (l : Changes). behind x l (as_it_is s sessions)) here.2

count_singles : (changes : Changes) → length (one_by_one changes) ≡ length changes
count_singles [] = refl
count_singles (c ∷ changes) = (let rest = count_singles changes in omega (arith, rest))

sessions_without : (s : Site) (sessions : List (ℕ × Phase)) → length (without_forms s sessions) ≡ length sessions
sessions_without s [] = refl
sessions_without s (x ∷ sessions) = (let rest = sessions_without s sessions in omega (arith, rest))

singles_both : (front more : Changes) → one_by_one (front ++ more) ≡ one_by_one front ++ one_by_one more
singles_both [] more = refl
singles_both (c ∷ front) more = ap (λ (l : List CommitOfChanges). (c ∷ []) ∷ l) (singles_both front more)

dropped_front : (front more : Changes) → drop (length front) (front ++ more) ≡ more
dropped_front [] more = refl
dropped_front (c ∷ front) more = dropped_front front more

taken_one : (flying : Changes) → length flying ≡ 1 → take 1 flying ≡ flying
taken_one [] one = absurd (cc one)
taken_one (c ∷ []) one = refl
taken_one (c ∷ d ∷ more) one = absurd (omega (arith, one))

-- the commits that were made, and the one that was in flight
both_parts : (made flying all : Changes) → all ≡ made ++ flying → length flying ≡ 1 → one_by_one made ++ one_by_one (take 1 (drop (length made) all)) ≡ one_by_one (made ++ flying)
both_parts made flying all is one =
    ap (λ (l : Changes). one_by_one made ++ one_by_one (take 1 (drop (length made) l))) is ∙ ap (λ (l : Changes). one_by_one made ++ one_by_one (take 1 l)) (dropped_front made flying) ∙ ap (λ (l : Changes). one_by_one made ++ one_by_one l) (taken_one flying one) ∙ sym (singles_both made flying)

no_more : (changes : Changes) → one_by_one (changes ++ []) ≡ one_by_one changes ++ []
no_more changes = ap one_by_one (append-nil changes) ∙ sym (append-nil (one_by_one changes))

-- ---- fewer wait behind it

answered_none : (s : Site) (p : Phase) → one_waiting (answered_from s p) ≡ 0
answered_none s (Heard stream) = refl
answered_none s (Waits request now) = refl
answered_none s (Reply rest) = refl
answered_none s Early = refl

pub fewer_taken : (s : Site) (choices : List Bool) (sessions : List (ℕ × Phase)) → count_waiting (taken s choices sessions).sessions ≤ count_waiting sessions
fewer_taken s [] sessions = omega arith
fewer_taken s (takes ∷ choices) [] = omega arith
fewer_taken s (true ∷ choices) (x ∷ sessions) = omega (arith, answered_none s x.1, fewer_taken (site_from s x.1) choices sessions)
fewer_taken s (false ∷ choices) (x ∷ sessions) = omega (arith, fewer_taken s choices sessions)

form_or_none : (b : Bool) (request : Request) (now : ℕ) (bytes : List ℕ) → one_waiting (if b then Waits request now else Reply bytes) ≤ 1
form_or_none true request now bytes = omega arith
form_or_none false request now bytes = omega arith

without_none : (s : Site) (p : Phase) → one_waiting (without_form s p) ≤ one_waiting p
without_none s (Heard stream) = omega arith
without_none s (Waits request now) = form_or_none _ request now (reply s request now).bytes
without_none s (Reply rest) = omega arith
without_none s Early = omega arith

pub fewer_without : (s : Site) (sessions : List (ℕ × Phase)) → count_waiting (without_forms s sessions) ≤ count_waiting sessions
fewer_without s [] = omega arith
fewer_without s (x ∷ sessions) = omega (arith, without_none s x.1, fewer_without s sessions)

-- ---- what was taken behind calls that add no crash state

leaves_before : {L : Type 0} (stands : L → Site → Type 0) (s : Site) (first mid now : CrashStates L) (commits flying : Changes) → AddsNone first mid → LeavesSo stands s mid now commits flying → LeavesSo stands s first now commits flying
leaves_before stands s first mid now commits flying none so = record {
  adds = adds_both first mid now (may_crash_to first) (λ c. may_crash_to mid c ⊎ HoldsCommits stands s (one_by_one (commits ++ flying)) 0 c) (λ c. may_crash_to first c ⊎ HoldsCommits stands s (one_by_one (commits ++ flying)) 0 c)
      none so.adds (λ c may. inl may) (λ c. ⊎_elim (λ may. inl (none.now c may)) (λ holds. inr holds));
  behind = so.behind;
}

pub all_before : {L : Type 0} (stands : L → Site → Type 0) (s u t : Site) (first mid now : CrashStates L) (old seen new : List (ℕ × Phase)) (left : ℕ) → AddsNone first mid → u ≡ s → seen ≡ old → TakesAll stands u t mid now seen new left → TakesAll stands s t first now old new left
all_before stands s u t first mid now old seen new left none site all_sessions takes =
    let here = subst (λ (l : List (ℕ × Phase)). TakesAll stands s t mid now l new left) all_sessions (subst (λ (x : Site). TakesAll stands x t mid now seen new left) site takes) in
    record { choices = here.choices; all = here.all; so = here.so; waiting = here.waiting; leaves = leaves_before stands s first mid now (taken s here.choices old).changes [] none here.leaves }

pub some_before : {L : Type 0} (stands : L → Site → Type 0) (s u t : Site) (first mid now : CrashStates L) (old seen new : List (ℕ × Phase)) → AddsNone first mid → u ≡ s → seen ≡ old → TakesUpTo stands u t mid now seen new → TakesUpTo stands s t first now old new
some_before stands s u t first mid now old seen new none site all_sessions takes =
    let here = subst (λ (l : List (ℕ × Phase)). TakesUpTo stands s t mid now l new) all_sessions (subst (λ (x : Site). TakesUpTo stands x t mid now seen new) site takes) in
    record { choices = here.choices; flying = here.flying; one = here.one; next = here.next; so = here.so; leaves = leaves_before stands s first mid now (taken s here.choices old).changes here.flying none here.leaves }

-- ---- counts of a flush that takes them one at a time

left_since : (n : ℕ) (a m b : SiteState) → m.failed_reads ≡ a.failed_reads → CountsLeft n m b → CountsLeft n a b
left_since n a m b same counts = (counts.0, counts.1, subst (λ (x : ℕ). b.failed_reads ≡ counted_times counts.0 x) same counts.2)

flush_reads : (waiting answered left : ℕ) (a m b : SiteState) → m.honest ≡ a.honest → m.failed_reads ≡ a.failed_reads → (left ≡ 0 → b.failed_reads ≡ m.failed_reads) → (IsTrue m.honest → CountsLeft left m b) → CountsFlush waiting (Flushed answered left) a b
flush_reads waiting answered zero a m b honest same none some = none refl ∙ same
flush_reads waiting answered (suc left) a m b honest same none some = λ is. left_since (suc left) a m b same (some (subst IsTrue (sym honest) is))

pub singly_counts : (w : World) (answered left waiting : ℕ) (a m b : SiteState) → m.honest ≡ a.honest → m.failed_reads ≡ a.failed_reads → m.failed_writes ≡ a.failed_writes → WorksSingly m b waiting (Ok left) → CountsEvent w Flush (Flushed answered left) a b
singly_counts w answered left waiting a m b honest reads writes works = record { reads = flush_reads (count_waiting w.sessions) answered left a m b honest reads works.no_reads works.reads; writes = works.writes ∙ writes }

pub singly_failed_counts : (w : World) (waiting : ℕ) (fault : HubFault) (a m b : SiteState) → waiting ≤ count_waiting w.sessions → fault ≡ hub.Failed → m.honest ≡ a.honest → m.usable ≡ a.usable → m.failed_reads ≡ a.failed_reads → m.failed_writes ≡ a.failed_writes → WorksSingly m b waiting (Err fault)
    → CountsEvent w Flush (Fault hub.Failed) a b
singly_failed_counts w waiting fault a m b few is honest usable reads writes works = record {
  reads = λ on. (let c = works.reads_before_fault (subst IsTrue (sym honest) on) in left_since (count_waiting w.sessions) a m b reads (c.0, omega (arith, c.1, few), c.2));
  writes = subst (λ (x : HubFault). b.failed_writes ≡ writes_after m.usable x m.failed_writes) is works.writes ∙ ap (λ (u : Bool). writes_after u hub.Failed m.failed_writes) usable ∙ ap (writes_after a.usable hub.Failed) writes;
}

-- ---- of a call that has not failed before

module _ {S L : Type 0} (site_state : S → SiteState) (lacks : S → Changes → SiteFault → Type 0) (crash_states : S → CrashStates L) (stands : L → Site → Type 0) (k l : S) (next : ℕ) (g : Bool) (old new : List (ℕ × Phase)) where
  abbrev was : World
  was = world_at (site_state k) next g old

  abbrev is_now : World
  is_now = world_at (site_state l) next g new

  abbrev It : Outcome → Type 0
  It o = CallOverKeeper site_state lacks crash_states stands was k Flush o is_now l

  abbrev all_changes : Changes
  all_changes = (whole_group was).changes

  -- what holds of the keeper whatever came
  pub record Begins : Type 0 where
    pub usable : (site_state k).usable ≡ true
    pub honest : (site_state l).honest ≡ (site_state k).honest
    pub represent : Represents site_state crash_states stands k
    pub represent_now : Represents site_state crash_states stands l

  answered_steady : Begins → (answered left : ℕ) → (site_state l).usable ≡ true → IsSteady site_state was k Flush (Flushed answered left) is_now l
  answered_steady b answered left unchanged = record {
    closed = λ shut. absurd (both was.failed was.failed (ap not b.usable) shut refl);
    shuts = λ no shut. absurd (both is_now.failed is_now.failed (ap not unchanged) shut refl);
    failed = λ fails. absurd (cc fails);
    next = λ any fails. refl;
    sessions = λ any fails whole. absurd (cc fails);
    unknown = λ fails. absurd (cc fails);
    grouped = refl;
  }

  -- all are answered, by one commit or none
  pub whole_call : Begins → (waiting : ℕ) → waiting ≡ count_waiting old → (site_state l).usable ≡ true → (IsTrue (site_state k).honest → (site_state l).site ≡ (whole_group was).site) → (IsTrue (site_state k).honest → new ≡ (whole_group was).sessions)
      → (site_state l).failed_reads ≡ (site_state k).failed_reads → (site_state l).failed_writes ≡ (site_state k).failed_writes
      → (IsTrue (site_state k).honest → AddsOnly (crash_states k) (crash_states l) (λ c. stands c (site_state k).site ⊎ stands c (with_changes (site_state k).site all_changes))) → It (Flushed waiting 0)
  whole_call b waiting is unchanged site all_sessions reads writes crash =
      let makes : with_changes (site_state k).site all_changes ≡ (whole_group was).site = right_make (site_state k).site (whole_group was).site all_changes (groups_are_right (site_state k).site (all_of old) (without_forms (site_state k).site old)) in
      let answers = λ (honest : IsTrue (site_state k).honest). is_answer was Flush (flushed was) (Flushed waiting 0) is_now (ap not b.usable) refl (ap (λ (n : ℕ). Flushed n 0) is)
      (same_parts (site_state l).site (whole_group was).site (site_state l).usable (site_state k).usable next g new (whole_group was).sessions (site honest) (unchanged ∙ sym b.usable) (all_sessions honest)) in
      let now = λ (honest : IsTrue (site_state k).honest). subst IsTrue (sym b.honest) honest in
      record {
        step = λ honest. answered_by was.failed was Flush (Flushed waiting 0) is_now (answers honest);
        cause = tt;
        counts = record { reads = reads; writes = writes };
        honest = b.honest;
        site = refl;
        flag = refl;
        steady = answered_steady b waiting 0 unchanged;
        acknowledged = λ honest. acknowledged_of site_state crash_states stands (Flushed waiting 0) is_now l b.represent_now (now honest) refl refl;
        leaves = λ honest. (
          all_in_one all_changes,
          leaves_changes stands (Splits site_state lacks k was Flush) was is_now Flush (Flushed waiting 0) l (crash_states k) (crash_states l) (ap not b.usable) (answers honest) (crash honest)
              (site honest ∙ sym makes) (λ c may. b.represent_now c (now honest) unchanged may),
        );
      }

  -- nobody waits
  pub nobody_call : Begins → l ≡ k → new ≡ old → count_waiting old ≡ 0 → AddsNone (crash_states k) (crash_states l) → It (Flushed 0 0)
  nobody_call b same all_sessions none only =
      let nobody = nobody_taken (site_state k).site old none in
      let site : (site_state l).site ≡ (site_state k).site = ap (λ (x : S). (site_state x).site) same in
      let made : with_changes (site_state k).site all_changes ≡ (site_state k).site = ap (λ (x : Group). with_changes (site_state k).site x.changes) nobody in
      whole_call b 0 (sym none) (ap (λ (x : S). (site_state x).usable) same ∙ b.usable) (λ honest. site ∙ sym (ap (λ (x : Group). x.site) nobody)) (λ honest. all_sessions ∙ sym (ap (λ (x : Group). x.sessions) nobody))
      (ap (λ (x : S). (site_state x).failed_reads) same) (ap (λ (x : S). (site_state x).failed_writes) same)
      (λ honest. weaker (crash_states k) (crash_states l) _ (λ c. stands c (site_state k).site ⊎ stands c (with_changes (site_state k).site all_changes)) only (λ c may. inl (b.represent c honest b.usable may)))

  -- ---- faults

  -- which may come in the place of an answer, and what then stands
  abbrev pub IsKept : HubFault → Type 0
  IsKept hub.Memory = Unit {0}
  IsKept hub.Broken = IsTrue (site_state k).honest → Rose (site_state k).failed_reads (site_state l).failed_reads
  IsKept hub.Spent = IsTrue (site_state k).honest → (nat_lt 0 (length all_changes) ≡ true) × IsKeeperLacking (lacks k) all_changes faults.Spent
  IsKept fault = ⊥

  kept_faulty : (fault : HubFault) → nat_lt 0 (count_waiting old) ≡ true → IsTrue (site_state k).honest → IsKept fault → is_now ≡ was → IsFaulty was Flush (Fault fault) is_now
  kept_faulty hub.Memory some honest is same = (some, same)
  kept_faulty hub.Broken some honest is same = (some, same)
  kept_faulty hub.Spent some honest is same = ((is honest).0, same)
  kept_faulty hub.Unknown some honest is same = absurd is
  kept_faulty hub.Crowded some honest is same = absurd is
  kept_faulty hub.Deep some honest is same = absurd is
  kept_faulty (hub.Refused r) some honest is same = absurd is
  kept_faulty (hub.Full need free) some honest is same = absurd is
  kept_faulty hub.Failed some honest is same = absurd is
  kept_faulty hub.NotReady some honest is same = absurd is

  kept_cause : (fault : HubFault) → (site_state k).usable ≡ true → IsKept fault → IsFlushCause (lacks k) all_changes (site_state k) (site_state l) fault
  kept_cause hub.Memory usable is = usable
  kept_cause hub.Broken usable is = (usable, is)
  kept_cause hub.Spent usable is = (usable, λ honest. (is honest).1)
  kept_cause hub.Unknown usable is = absurd is
  kept_cause hub.Crowded usable is = absurd is
  kept_cause hub.Deep usable is = absurd is
  kept_cause (hub.Refused r) usable is = absurd is
  kept_cause (hub.Full need free) usable is = absurd is
  kept_cause hub.Failed usable is = absurd is
  kept_cause hub.NotReady usable is = absurd is

  kept_counts : (fault : HubFault) → IsKept fault → CountsCall {T = Outcome} (Err fault) (site_state k) (site_state l) → CountsEvent was Flush (Fault fault) (site_state k) (site_state l)
  kept_counts hub.Memory is counts = record { reads = counts.reads; writes = counts.writes }
  kept_counts hub.Broken is counts = record { reads = counts.reads; writes = counts.writes }
  kept_counts hub.Spent is counts = record { reads = counts.reads; writes = counts.writes }
  kept_counts hub.Unknown is counts = absurd is
  kept_counts hub.Crowded is counts = absurd is
  kept_counts hub.Deep is counts = absurd is
  kept_counts (hub.Refused r) is counts = absurd is
  kept_counts (hub.Full need free) is counts = absurd is
  kept_counts hub.Failed is counts = absurd is
  kept_counts hub.NotReady is counts = absurd is

  never_failed : (fault : HubFault) → IsKept fault → fault ≡ hub.Failed → ⊥
  never_failed fault is fails = subst IsKept fails is

  never_unknown : (fault : HubFault) → IsKept fault → fault ≡ hub.Unknown → ⊥
  never_unknown fault is fails = subst IsKept fails is

  pub kept_call : Begins → (fault : HubFault) → nat_lt 0 (count_waiting old) ≡ true → IsKept fault → CountsCall {T = Outcome} (Err fault) (site_state k) (site_state l) → (site_state l).usable ≡ true → (IsTrue (site_state k).honest → (site_state l).site ≡ (site_state k).site)
      → new ≡ old → (IsTrue (site_state k).honest → AddsNone (crash_states k) (crash_states l)) → It (Fault fault)
  kept_call b fault some is counts unchanged site all_sessions only =
      let faulty = λ (honest : IsTrue (site_state k).honest). kept_faulty fault some honest is (same_parts (site_state l).site (site_state k).site (site_state l).usable (site_state k).usable next g new old (site honest) (unchanged ∙ sym b.usable) all_sessions) in
      record {
        step = λ honest. faulty_by was.failed was Flush (Fault fault) is_now (ap not b.usable) (faulty honest);
        cause = kept_cause fault b.usable is;
        counts = kept_counts fault is counts;
        honest = b.honest;
        site = refl;
        flag = refl;
        steady = record {
          closed = λ shut. absurd (both was.failed was.failed (ap not b.usable) shut refl);
          shuts = λ no shut. absurd (both is_now.failed is_now.failed (ap not unchanged) shut refl);
          failed = λ fails. absurd (never_failed fault is (cc fails));
          next = λ any fails. refl;
          sessions = λ any fails whole. all_sessions;
          unknown = λ fails. absurd (never_unknown fault is (cc fails));
          grouped = refl;
        };
        acknowledged = λ honest. tt;
        leaves = λ honest. (
          nothing,
          leaves_nothing stands (Splits site_state lacks k was Flush) was is_now Flush (Fault fault) l (crash_states k) (crash_states l) (inr (faulty honest)) (fault_stores was Flush fault (never_failed fault is)) (only honest)
              (starts site_state crash_states stands was k b.represent honest refl refl),
        );
      }

  shut_steady : Begins → (site_state l).usable ≡ false → IsSteady site_state was k Flush (Fault hub.Failed) is_now l
  shut_steady b shut_now = record {
    closed = λ shut. absurd (both was.failed was.failed (ap not b.usable) shut refl);
    shuts = λ no shut. refl;
    failed = λ fails. ap not shut_now;
    next = λ any fails. refl;
    sessions = λ any fails whole. (let same : any ≡ hub.Failed = sym (cc fails) in let no : true ≡ false = sym (ap (may_fail_behind Flush) same) ∙ whole in absurd (cc no));
    unknown = λ fails. absurd (cc fails);
    grouped = refl;
  }

  -- the one commit failed
  pub failed_call : Begins → (site_state l).usable ≡ false → (IsTrue (site_state k).honest → (site_state l).site ≡ (site_state k).site) → new ≡ old → (IsTrue (site_state k).honest → nat_lt 0 (length all_changes) ≡ true) → (IsTrue (site_state k).honest → Rose (site_state k).failed_writes (site_state l).failed_writes)
      → (site_state l).failed_reads ≡ (site_state k).failed_reads → (site_state l).failed_writes ≡ writes_after (site_state k).usable hub.Failed (site_state k).failed_writes
      → (IsTrue (site_state k).honest → AddsOnly (crash_states k) (crash_states l) (λ c. stands c (site_state k).site ⊎ stands c (with_changes (site_state k).site all_changes))) → It (Fault hub.Failed)
  failed_call b shut site all_sessions some rose reads writes crash =
      let faulty : IsTrue (site_state k).honest → IsFaulty was Flush (Fault hub.Failed) is_now = λ honest. (some honest, same_parts (site_state l).site (site_state k).site (site_state l).usable false next g new old (site honest) shut all_sessions) in
      record {
        step = λ honest. faulty_by was.failed was Flush (Fault hub.Failed) is_now (ap not b.usable) (faulty honest);
        cause = λ honest. inr (rose honest);
        counts = record { reads = λ honest. (0, omega arith, reads); writes = writes };
        honest = b.honest;
        site = refl;
        flag = refl;
        steady = shut_steady b shut;
        acknowledged = λ honest. tt;
        leaves = λ honest. (all_in_flight all_changes, leaves_in_flight stands (Splits site_state lacks k was Flush) was is_now Flush l (crash_states k) (crash_states l) (ap not b.usable) (faulty honest) (crash honest));
      }

  -- ---- one at a time

  -- what is left, by commits of one change each
  singles_adds : {s : Site} {changes : Changes} → LeavesSo stands s (crash_states k) (crash_states l) changes [] → AddsOnly (crash_states k) (crash_states l) (λ c. may_crash_to (crash_states k) c ⊎ HoldsCommits stands s (one_by_one changes ++ []) 0 c)
  singles_adds {s = s} {changes = changes} so = subst (λ (m : List CommitOfChanges). AddsOnly (crash_states k) (crash_states l) (λ c. may_crash_to (crash_states k) c ⊎ HoldsCommits stands s m 0 c)) (no_more changes) so.adds

  singles_behind : {s : Site} {changes : Changes} → LeavesSo stands s (crash_states k) (crash_states l) changes [] → (c : L) → may_crash_to (crash_states l) c → HoldsCommits stands s (one_by_one changes ++ []) (length (one_by_one changes)) c
  singles_behind {s = s} {changes = changes} so c may = subst (λ (m : List CommitOfChanges). HoldsCommits stands s m (length (one_by_one changes)) c) (no_more changes) (subst (λ (n : ℕ). HoldsCommits stands s (one_by_one (changes ++ [])) n c) (sym (count_singles changes)) (so.behind c may))

  abbrev before_them : List (ℕ × Phase)
  before_them = without_forms (site_state k).site old

  -- all in turn
  pub split_call : Begins → (waiting left : ℕ) → waiting ≡ count_waiting old → (IsTrue (site_state k).honest → nat_lt 0 (length all_changes) ≡ true) → (IsTrue (site_state k).honest → MaySplit (lacks k) (site_state k) all_changes) → (site_state l).usable ≡ true
      → (IsTrue (site_state k).honest → TakesAll stands (site_state k).site (site_state l).site (crash_states k) (crash_states l) before_them new left) → CountsEvent was Flush (Flushed (waiting - left) left) (site_state k) (site_state l) → It (Flushed (waiting - left) left)
  split_call b waiting left is some may unchanged takes counts =
      record {
        step = λ honest. split_by was.failed was Flush (Flushed (waiting - left) left) is_now (ap not b.usable) (some honest, ((takes honest).choices, singly honest));
        cause = tt;
        counts = counts;
        honest = b.honest;
        site = refl;
        flag = refl;
        steady = answered_steady b (waiting - left) left unchanged;
        acknowledged = λ honest. acknowledged_of site_state crash_states stands (Flushed (waiting - left) left) is_now l b.represent_now (subst IsTrue (sym b.honest) honest) refl refl;
        leaves = λ honest. (
          stored_singly was (takes honest).choices (Flushed (waiting - left) left),
          record {
            stored = inr (ap not b.usable, may honest, ((takes honest).choices, singly honest, refl));
            adds = singles_adds (takes honest).leaves;
            behind = λ off c left_it. singles_behind (takes honest).leaves c left_it;
            shut = λ failed. absurd (both was.failed was.failed (ap not b.usable) failed refl);
          },
        );
      }
    where
      singly : (honest : IsTrue (site_state k).honest) → IsTakenSingly was (takes honest).choices (Flushed (waiting - left) left) is_now
      singly honest = (
        (takes honest).all ∙ sessions_without (site_state k).site old,
        (takes honest).waiting,
        omega (arith, is),
        same_parts (site_state l).site _ (site_state l).usable (site_state k).usable next g new _ (takes honest).so.site (unchanged ∙ sym b.usable) (takes honest).so.sessions,
      )

  -- up to one that failed
  pub split_failed_call : Begins → (IsTrue (site_state k).honest → nat_lt 0 (length all_changes) ≡ true) → (IsTrue (site_state k).honest → MaySplit (lacks k) (site_state k) all_changes) → (site_state l).usable ≡ false → (IsTrue (site_state k).honest → Rose (site_state k).failed_writes (site_state l).failed_writes)
      → (IsTrue (site_state k).honest → TakesUpTo stands (site_state k).site (site_state l).site (crash_states k) (crash_states l) before_them new) → CountsEvent was Flush (Fault hub.Failed) (site_state k) (site_state l) → It (Fault hub.Failed)
  split_failed_call b some may shut rose takes counts =
      record {
        step = λ honest. split_by was.failed was Flush (Fault hub.Failed) is_now (ap not b.usable) (some honest, ((takes honest).choices, singly honest));
        cause = λ honest. inr (rose honest);
        counts = counts;
        honest = b.honest;
        site = refl;
        flag = refl;
        steady = shut_steady b shut;
        acknowledged = λ honest. tt;
        leaves = λ honest. (
          stored_singly was (takes honest).choices (Fault hub.Failed),
          record {
            stored = inr (ap not b.usable, may honest, ((takes honest).choices, singly honest, refl));
            adds = flying_adds honest;
            behind = λ off c left. flying_behind honest c left;
            shut = λ failed. absurd (both was.failed was.failed (ap not b.usable) failed refl);
          },
        );
      }
    where
      singly : (honest : IsTrue (site_state k).honest) → IsTakenSingly was (takes honest).choices (Fault hub.Failed) is_now
      singly honest =
          let t = takes honest in (
            same_parts (site_state l).site _ (site_state l).usable false next g new _ t.so.site shut t.so.sessions,
            omega (arith, ap length t.next, length-append (taken (site_state k).site t.choices before_them).changes t.flying, t.one),
          )

      flown : (honest : IsTrue (site_state k).honest) → (stored_singly was (takes honest).choices (Fault hub.Failed)).commits ++ (stored_singly was (takes honest).choices (Fault hub.Failed)).flying ≡ one_by_one ((taken (site_state k).site (takes honest).choices before_them).changes ++ (takes honest).flying)
      flown honest = both_parts (taken (site_state k).site (takes honest).choices before_them).changes (takes honest).flying (taken (site_state k).site ((takes honest).choices ++ true ∷ []) before_them).changes (takes honest).next (takes honest).one

      flying_adds : (honest : IsTrue (site_state k).honest) → AddsOnly (crash_states k) (crash_states l) (λ c. may_crash_to (crash_states k) c ⊎ HoldsCommits stands (site_state k).site ((stored_singly was (takes honest).choices (Fault hub.Failed)).commits ++ (stored_singly was (takes honest).choices (Fault hub.Failed)).flying) 0 c)
      flying_adds honest = subst (λ (m : List CommitOfChanges). AddsOnly (crash_states k) (crash_states l) (λ c. may_crash_to (crash_states k) c ⊎ HoldsCommits stands (site_state k).site m 0 c)) (sym (flown honest)) (takes honest).leaves.adds

      flying_behind : (honest : IsTrue (site_state k).honest) (c : L) → may_crash_to (crash_states l) c → HoldsCommits stands (site_state k).site ((stored_singly was (takes honest).choices (Fault hub.Failed)).commits ++ (stored_singly was (takes honest).choices (Fault hub.Failed)).flying) (length (stored_singly was (takes honest).choices (Fault hub.Failed)).commits) c
      flying_behind honest c may =
          let made : Changes = (taken (site_state k).site (takes honest).choices before_them).changes in
          subst (λ (m : List CommitOfChanges). HoldsCommits stands (site_state k).site m (length (one_by_one made)) c) (sym (flown honest)) (subst (λ (n : ℕ). HoldsCommits stands (site_state k).site (one_by_one (made ++ (takes honest).flying)) n c) (sym (count_singles made)) ((takes honest).leaves.behind c may))

  -- ---- what came of the one step

  pub together_fault_call : Begins → (m : S) (fault : HubFault) → nat_lt 0 (count_waiting old) ≡ true → IsTogetherFault site_state lacks crash_states all_changes k m fault → CountsCall {T = Outcome} (Err fault) (site_state k) (site_state m)
      → (IsTrue (site_state k).honest → AddsOnly (crash_states k) (crash_states m) (λ c. stands c (site_state k).site ⊎ stands c (with_changes (site_state k).site all_changes)))
      → MayGiveBack (site_state m) (site_state l) → (IsTrue (site_state k).honest → AddsNone (crash_states m) (crash_states l)) → new ≡ old → It (Fault fault)
  together_fault_call b m fault some is counts crash gives none all_sessions = by fault is counts
    where
      site_is : (site_state l).site ≡ (site_state m).site
      site_is = ap (λ (h : SiteState). h.site) gives.same

      usable_is : (site_state l).usable ≡ (site_state m).usable
      usable_is = ap (λ (h : SiteState). h.usable) gives.same

      reads_are : (site_state l).failed_reads ≡ (site_state m).failed_reads
      reads_are = ap (λ (h : SiteState). h.failed_reads) gives.same

      writes_are : (site_state l).failed_writes ≡ (site_state m).failed_writes
      writes_are = ap (λ (h : SiteState). h.failed_writes) gives.same

      counted_at : (x : HubFault) → CountsCall {T = Outcome} (Err x) (site_state k) (site_state m) → CountsCall {T = Outcome} (Err x) (site_state k) (site_state l)
      counted_at x c = record { reads = subst (λ (n : ℕ). IsHubReadCounted (site_state k).honest x (site_state k).failed_reads n) (sym reads_are) c.reads; writes = writes_are ∙ c.writes }

      kept : (x : HubFault) → IsKept x → CountsCall {T = Outcome} (Err x) (site_state k) (site_state m) → IsUntouched site_state crash_states k m → It (Fault x)
      kept x why c u = kept_call b x some why (counted_at x c) (usable_is ∙ u.usable) (λ honest. site_is ∙ u.site honest) all_sessions (λ honest. adds_none_again (crash_states k) (crash_states m) (crash_states l) (u.no_new_crash_state honest) (none honest))

      by : (x : HubFault) → IsTogetherFault site_state lacks crash_states all_changes k m x → CountsCall {T = Outcome} (Err x) (site_state k) (site_state m) → It (Fault x)
      by hub.Memory why c = kept hub.Memory tt c why
      by hub.Broken why c = kept hub.Broken (λ honest. subst (Rose (site_state k).failed_reads) (sym reads_are) (why.1 honest)) c why.0
      by hub.Spent why c = kept hub.Spent why.1 c why.0
      by hub.Failed why c = failed_call b (usable_is ∙ why.shut) (λ honest. site_is ∙ why.site honest) all_sessions why.some (λ honest. subst (Rose (site_state k).failed_writes) (sym writes_are) (why.cause honest)) (reads_are ∙ c.reads) (writes_are ∙ c.writes)
          (λ honest. adds_both (crash_states k) (crash_states m) (crash_states l) _ (may_crash_to (crash_states m)) (λ x. stands x (site_state k).site ⊎ stands x (with_changes (site_state k).site all_changes)) (crash honest) (none honest) (λ x p. p) (λ x left. (crash honest).now x left))
      by hub.Unknown why c = absurd why
      by hub.Crowded why c = absurd why
      by hub.Deep why c = absurd why
      by (hub.Refused r) why c = absurd why
      by (hub.Full need free) why c = absurd why
      by hub.NotReady why c = absurd why
