-- Sessions that are answered one at a time, and what that leaves of their keeper.
use Rattle.std.proofs.Common.{◌≡◌, inl, ℕ, zero, suc, ◌+◌, ◌<◌, ◌≤◌, Bool, true, false, List, [], ◌∷◌, length, get_or, set, drop, refl, sym, ap, subst, ◌∙◌, arith}
use Rattle.std.specs.Prelude.{Option, None, Result, Ok, Err, IsTrue}
use Rattle.std.proofs.lemmas.List.{set-get_or, length-map, drop-set-lt}
use Rattle.common_types.specs.Counts.{counted}
use Rattle.host_types.specs.AllChanges.{Changes}
use Rattle.host_types.specs.Site.{Site, IsSite}
use Rattle.host_types.specs.SiteState.{SiteState, Rose, HasNotChanged}
use Rattle.host_types.specs.Pins.{Pinned}
use Rattle.host_types.specs.CrashStates.{CrashStates, may_crash_to, no_new_crash_state}
use Rattle.host_types.specs.declared.site_fault.SiteFault.{SiteFault}
use Rattle.group_world.specs.Calls.{counted_times, CountsLeft}
use Rattle.group_world.specs.Step.{answered_from, post_from}
use Rattle.group_world.specs.World as world
use Rattle.group_world.specs.World.{one_waiting, count_waiting}
use Rattle.group_world.specs.CrashStates.{with_changes}
use Rattle.group_world.specs.declared.fault.HubFault.{HubFault}
use Rattle.group_world.specs.declared.fault.HubFault.TheVariants as hub
use Rattle.group_world.proofs.Leaving.{weaker}
use Rattle.group_hub.specs.Counting.{IsHubReadCounted, writes_after, CountsCall}
use Rattle.group_hub.specs.Flushing.{TakesAll, TakesUpTo, WorksSingly}
use Rattle.group_hub.specs.HeldPins.{one_if, HoldsAll, MovesPins}
use Rattle.group_hub.specs.Hears.{MakesChanges}
use Rattle.group_hub.specs.Sessions.{phase_of, session_of, sessions_of, pin_of, pins_of, is_waiting, IsSound, AreSound}
use Rattle.group_hub.specs.Understood.{IsPostFault, HasFailedNow, HasWorked}
use Rattle.group_hub.specs.declared.session.Session.{Session}
use Rattle.group_hub.specs.declared.session.Phase.{Phase}
use Rattle.group_hub.specs.declared.session.Phase.TheVariants as phases
use Rattle.group_hub.proofs.SessionsMoved.{holds_same, back, parted, parted_set, others_stay, seen_set}
use Rattle.group_hub.proofs.SessionsPut.{none_waits, seen_at, same_with}
use Rattle.group_hub.proofs.TakenSingly.{TakenUpTo, none_taken, left_few, stays_answered, one_taken, one_left, one_fails, all_taken}
use Rattle.group_hub.proofs.WaitingSessions.{one_of, behind_one}

-- ---- counts

counted_later : (n count : ℕ) → counted (counted_times n count) ≡ counted_times n (counted count)
counted_later zero count = refl
counted_later (suc n) count = counted_later n (counted count)

-- one post more is left, which may have met a read that failed
counts_one : (fault : HubFault) (left : ℕ) (a b c : SiteState) → IsTrue b.honest → CountsLeft left a b → IsHubReadCounted b.honest fault b.failed_reads c.failed_reads → CountsLeft (left + 1) a c
counts_one fault left a b c honest (n, few, is) counts = by fault counts
  where
    same : c.failed_reads ≡ b.failed_reads → CountsLeft (left + 1) a c
    same none = (n, omega (arith, few), none ∙ is)

    by : (f : HubFault) → IsHubReadCounted b.honest f b.failed_reads c.failed_reads → CountsLeft (left + 1) a c
    by hub.Broken once = (suc n, omega (arith, few), once honest ∙ ap counted is ∙ counted_later n a.failed_reads)
    by hub.Unknown none = same none
    by hub.Crowded none = same none
    by hub.Spent none = same none
    by hub.Deep none = same none
    by (hub.Refused r) none = same none
    by (hub.Full need free) none = same none
    by hub.Failed none = same none
    by hub.Memory none = same none
    by hub.NotReady none = same none

no_writes : (usable : Bool) (fault : HubFault) (count : ℕ) → (fault ≡ hub.Failed → ⊥) → writes_after usable fault count ≡ count
no_writes usable hub.Failed count other = absurd (other refl)
no_writes usable hub.Unknown count other = refl
no_writes usable hub.Crowded count other = refl
no_writes usable hub.Spent count other = refl
no_writes usable hub.Deep count other = refl
no_writes usable (hub.Refused r) count other = refl
no_writes usable (hub.Full need free) count other = refl
no_writes usable hub.Broken count other = refl
no_writes usable hub.Memory count other = refl
no_writes usable hub.NotReady count other = refl

-- a post that could not be made, where no write failed, leaves the site
not_changed : (lacks : Changes → SiteFault → Type 0) (changes : Changes) (a b : SiteState) (fault : HubFault) → (fault ≡ hub.Failed → ⊥) → IsPostFault lacks changes a b fault → HasNotChanged a b
not_changed lacks changes a b hub.Failed other is = absurd (other refl)
not_changed lacks changes a b hub.Memory other is = is
not_changed lacks changes a b hub.Crowded other is = is
not_changed lacks changes a b hub.Broken other is = is.0
not_changed lacks changes a b (hub.Full need free) other is = is.0
not_changed lacks changes a b hub.Spent other is = is.0
not_changed lacks changes a b hub.Deep other is = is.0
not_changed lacks changes a b hub.Unknown other is = absurd is
not_changed lacks changes a b (hub.Refused r) other is = absurd is
not_changed lacks changes a b hub.NotReady other is = absurd is

-- ---- what is left of the keeper so far

pub record WorkedSoFar (a b : SiteState) (left : ℕ) : Type 0 where
  pub worked : HasWorked a b
  pub usable : b.usable ≡ true
  pub writes : b.failed_writes ≡ a.failed_writes
  pub reads : IsTrue a.honest → CountsLeft left a b
  pub no_reads : left ≡ 0 → b.failed_reads ≡ a.failed_reads

works_again : (a b c : SiteState) → HasWorked a b → HasWorked b c → HasWorked a c
works_again a b c one two = record { honest = two.honest ∙ one.honest; reads = omega (arith, one.reads, two.reads); writes = omega (arith, one.writes, two.writes) }

works_none : (a : SiteState) → a.usable ≡ true → WorkedSoFar a a 0
works_none a usable = record {
  worked = record { honest = refl; reads = omega arith; writes = omega arith };
  usable = usable;
  writes = refl;
  reads = λ honest. (0, omega arith, refl);
  no_reads = λ none. refl;
}

works_done : {T : Type 0} (a b c : SiteState) (left : ℕ) (x : T) → WorkedSoFar a b left → HasWorked b c → c.usable ≡ true → CountsCall (Ok x) b c → WorkedSoFar a c left
works_done a b c left x so worked usable counts = record {
  worked = works_again a b c so.worked worked;
  usable = usable;
  writes = counts.writes ∙ so.writes;
  reads = λ honest. (let before = so.reads honest in (before.0, before.1, counts.reads ∙ before.2));
  no_reads = λ none. counts.reads ∙ so.no_reads none;
}

works_left : {T : Type 0} (a b c : SiteState) (left : ℕ) (fault : HubFault) → (fault ≡ hub.Failed → ⊥) → WorkedSoFar a b left → HasWorked b c → HasNotChanged b c → CountsCall {T = T} (Err fault) b c → WorkedSoFar a c (left + 1)
works_left a b c left fault other so worked stays counts = record {
  worked = works_again a b c so.worked worked;
  usable = stays.usable ∙ so.usable;
  writes = counts.writes ∙ no_writes b.usable fault b.failed_writes other ∙ so.writes;
  reads = λ honest. counts_one fault left a b c (subst IsTrue (sym so.worked.honest) honest) (so.reads honest) counts.reads;
  no_reads = λ none. absurd (omega (arith, none));
}

works_fails : {T : Type 0} (a b c : SiteState) (left waiting : ℕ) (changes : Changes) → a.usable ≡ true → (IsTrue a.honest → left ≤ waiting) → WorkedSoFar a b left → HasWorked b c → HasFailedNow b c changes → CountsCall {T = T} (Err hub.Failed) b c → WorksSingly a c waiting (Err hub.Failed)
works_fails a b c left waiting changes usable few so worked failed counts = record {
  worked = works_again a b c so.worked worked;
  few = tt;
  still_usable = tt;
  fault = (refl, failed.shut);
  cause = λ honest. subst (λ (n : ℕ). Rose n c.failed_writes) so.writes (failed.cause (subst IsTrue (sym so.worked.honest) honest));
  writes = counts.writes ∙ ap (λ (u : Bool). writes_after u hub.Failed b.failed_writes) (so.usable ∙ sym usable) ∙ ap (writes_after a.usable hub.Failed) so.writes;
  reads = λ honest. tt;
  reads_before_fault = λ honest. (let before = so.reads honest in (before.0, omega (arith, before.1, few honest), counts.reads ∙ before.2));
  no_reads = tt;
}

works_all : (a b : SiteState) (left waiting : ℕ) → left ≤ waiting → WorkedSoFar a b left → WorksSingly a b waiting (Ok left)
works_all a b left waiting few so = record {
  worked = so.worked;
  few = few;
  still_usable = so.usable;
  fault = tt;
  cause = λ honest. tt;
  writes = so.writes;
  reads = so.reads;
  reads_before_fault = λ honest. tt;
  no_reads = so.no_reads;
}

-- ---- a session at a place moves

-- one that no longer waits
fewer_with : (xs : List (ℕ × world.Phase)) (i : ℕ) (x z : ℕ × world.Phase) → i < length xs → x ≡ get_or xs i x → one_waiting z.1 ≡ 0 → count_waiting (set xs i z) ≤ count_waiting xs
fewer_with [] i x z within read none = omega arith
fewer_with (y ∷ xs) zero x z within read none = omega (arith, none)
fewer_with (y ∷ xs) (suc i) x z within read none = omega (arith, fewer_with xs i x z (omega (arith, within)) read none)

module _ {P : Type 0} (pinned : P → Pinned) where
  record MovedAt (a b : SiteState) (items : List (Session P)) (i : ℕ) (y : Session P) : Type 0 where
    pub seen : sessions_of pinned b (set items i y) ≡ set (sessions_of pinned a items) i (session_of pinned b y)
    pub held : HoldsAll b (pins_of pinned (set items i y))
    pub sound : AreSound pinned a items → IsSound pinned b y.phase → AreSound pinned b (set items i y)

  place_moves : (a b : SiteState) (items : List (Session P)) (i : ℕ) (x y : Session P) → i < length items → x ≡ get_or items i x → pin_of pinned x.phase ≡ None → HoldsAll a (pins_of pinned items) → MovesPins a b None (pin_of pinned y.phase) → MovedAt a b items i y
  place_moves a b items i x y within read none holds moves =
      let own : MovesPins a b (pin_of pinned x.phase) (pin_of pinned y.phase) = subst (λ (o : Option Pinned). MovesPins a b o (pin_of pinned y.phase)) (sym none) moves in
      let all = seen_set pinned a b items i y within (others_stay pinned a b items i x (pin_of pinned y.phase) within read holds own) in
      record {
        seen = all.0;
        held = holds_same b _ _ (back _ _ (parted_set pinned items i y within)) (own.all _ (holds_same a _ _ (parted pinned items i x within read) holds));
        sound = all.1;
      }

  waits_seen : (a b : SiteState) (phase : Phase P) → is_waiting phase ≡ true → phase_of pinned b phase ≡ phase_of pinned a phase
  waits_seen a b (phases.Hearing s) waits = refl
  waits_seen a b (phases.Waiting w) waits = refl
  waits_seen a b (phases.Replying r) waits = refl
  waits_seen a b (phases.Drawing d) waits = absurd (cc waits)
  waits_seen a b phases.Drawn waits = refl
  waits_seen a b phases.Early waits = refl

  one_waits : (h : SiteState) (phase : Phase P) (b : Bool) → is_waiting phase ≡ b → one_waiting (phase_of pinned h phase) ≡ one_if b
  one_waits h phase b is = one_of pinned h phase ∙ ap one_if is

  -- ---- so far

  module _ {K L : Type 0} (site_state : K → SiteState) (lacks : K → Changes → SiteFault → Type 0) (crash_states : K → CrashStates L) (represents : L → Site → Type 0)
      (stands : (k : K) (c : L) → IsTrue (site_state k).honest → (site_state k).usable ≡ true → may_crash_to (crash_states k) c → represents c (site_state k).site) (first : K) (start : List (Session P)) where
    abbrev SessionsIn : K → List (Session P) → List (ℕ × world.Phase)
    SessionsIn k items = sessions_of pinned (site_state k) items

    abbrev Taken : K → List (ℕ × world.Phase) → ℕ → ℕ → Type 0
    Taken k all_sessions i left = TakenUpTo represents (site_state first).site (crash_states first) (SessionsIn first start) (site_state k).site (crash_states k) all_sessions i left

    -- The first i sessions have had their turns, and so many of them are left.
    pub record IsSinglySo (k : K) (items : List (Session P)) (i left : ℕ) : Type 0 where
      pub works : WorkedSoFar (site_state first) (site_state k) left
      pub held : HoldsAll (site_state k) (pins_of pinned items)
      pub sound : IsTrue (site_state k).honest → AreSound pinned (site_state k) items
      pub valid : IsTrue (site_state first).honest → ∥ IsSite (site_state first).site ∥₁ → ∥ IsSite (site_state k).site ∥₁
      pub so_far : IsTrue (site_state first).honest → Taken k (SessionsIn k items) i left
      pub few : left ≤ i
      pub room : left + count_waiting (SessionsIn first (drop i items)) ≤ count_waiting (SessionsIn first start)
      pub fewer : count_waiting (SessionsIn k items) ≤ count_waiting (SessionsIn first start)

    -- What stands once the commit of one has failed.
    pub record FailsSo (then : K) (changed : List (Session P)) : Type 0 where
      pub works : WorksSingly (site_state first) (site_state then) (count_waiting (SessionsIn first start)) (Err hub.Failed)
      pub held : HoldsAll (site_state then) (pins_of pinned changed)
      pub sound : IsTrue (site_state then).honest → AreSound pinned (site_state then) changed
      pub valid : IsTrue (site_state first).honest → ∥ IsSite (site_state first).site ∥₁ → ∥ IsSite (site_state then).site ∥₁
      pub fewer : count_waiting (SessionsIn then changed) ≤ count_waiting (SessionsIn first start)
      pub fails : IsTrue (site_state first).honest → TakesUpTo represents (site_state first).site (site_state then).site (crash_states first) (crash_states then) (SessionsIn first start) (SessionsIn then changed)

    pub singly_none : (site_state first).usable ≡ true → HoldsAll (site_state first) (pins_of pinned start) → (IsTrue (site_state first).honest → AreSound pinned (site_state first) start) → IsSinglySo first start 0 0
    singly_none usable holds sound = record {
      works = works_none (site_state first) usable;
      held = holds;
      sound = sound;
      valid = λ honest site. site;
      so_far = λ honest. none_taken represents (site_state first).site (crash_states first) (SessionsIn first start) (λ c left. stands first c honest usable left);
      few = omega arith;
      room = omega arith;
      fewer = omega arith;
    }

    module _ (k : K) (items : List (Session P)) (i left : ℕ) (x : Session P) (within : i < length items) (read : x ≡ get_or items i x) (so : IsSinglySo k items i left) where
      abbrev a : SiteState
      a = site_state k

      honest_now : IsTrue (site_state first).honest → IsTrue a.honest
      honest_now honest = subst IsTrue (sym so.works.worked.honest) honest

      session_within : i < length (SessionsIn k items)
      session_within = omega (arith, within, length-map items (session_of pinned a))

      session_read : session_of pinned a x ≡ get_or (SessionsIn k items) i (session_of pinned a x)
      session_read = seen_at pinned a items i x within read

      abbrev post : Changes
      post = post_from a.site (phase_of pinned a x.phase)

      -- those that wait behind it
      behind : count_waiting (SessionsIn first (drop i items)) ≡ one_if (is_waiting x.phase) + count_waiting (SessionsIn first (drop (i + 1) items))
      behind = behind_one pinned (site_state first) items i x within read

      as_behind : (y : Session P) → count_waiting (SessionsIn first (drop (i + 1) (set items i y))) ≡ count_waiting (SessionsIn first (drop (i + 1) items))
      as_behind y = ap (λ (l : List (Session P)). count_waiting (SessionsIn first l)) (drop-set-lt (i + 1) items i y (omega arith))

      abbrev AloneMakes : K → Result Unit HubFault → Type 0
      AloneMakes then result = MakesChanges site_state lacks crash_states represents post k then result

      -- one that doesn't wait
      stays_none : is_waiting x.phase ≡ false → IsSinglySo k items (i + 1) left
      stays_none stays = record {
        works = so.works;
        held = so.held;
        sound = so.sound;
        valid = so.valid;
        so_far = λ honest. (
            let none = stays_answered a.site (phase_of pinned a x.phase) (one_waits a x.phase false stays) in
            let all_stand : (c : L) → may_crash_to (crash_states k) c → represents c a.site = λ c may. stands k c (honest_now honest) so.works.usable may in
            let next = one_taken represents (site_state first).site (crash_states first) (SessionsIn first start) a.site (crash_states k) (SessionsIn k items) i left (session_of pinned a x) session_within session_read (so.so_far honest) a.site (crash_states k) (ap (with_changes a.site) (sym none.1))
            (weaker (crash_states k) (crash_states k) (may_crash_to (crash_states k)) _ (no_new_crash_state (crash_states k)) (λ c may. inl (all_stand c may))) all_stand in
            subst (λ (l : List (ℕ × world.Phase)). Taken k l (i + 1) left) (ap (λ (p : world.Phase). set (SessionsIn k items) i (x.id, p)) none.0 ∙ ap (set (SessionsIn k items) i) session_read ∙ set-get_or (SessionsIn k items) i (session_of pinned a x)) next);
        few = omega (arith, so.few);
        room = omega (arith, so.room, behind);
        fewer = so.fewer;
      }

      pub turn_none : is_waiting x.phase ≡ false → IsSinglySo k (set items i x) (i + 1) left
      turn_none stays = subst (λ (l : List (Session P)). IsSinglySo k l (i + 1) left) (sym (same_with pinned items i x read)) (stays_none stays)

      -- one that is answered
      pub turn_done : (then : K) (y : Session P) → is_waiting x.phase ≡ true → y.id ≡ x.id → is_waiting y.phase ≡ false → (IsTrue a.honest → phase_of pinned (site_state then) y.phase ≡ answered_from a.site (phase_of pinned a x.phase)) → (IsTrue a.honest → IsSound pinned (site_state then) y.phase)
          → MovesPins a (site_state then) None (pin_of pinned y.phase) → (IsTrue a.honest → ∥ IsSite a.site ∥₁ → ∥ IsSite (site_state then).site ∥₁) → AloneMakes then (Ok tt) → IsSinglySo then (set items i y) (i + 1) left
      turn_done then y waits same no_more phase own moves valid makes =
          let b = site_state then in
          let moved = place_moves a b items i x y within read (none_waits pinned x.phase waits) so.held moves in
          record {
            works = works_done (site_state first) a b left tt so.works makes.worked makes.still_usable makes.counts;
            held = moved.held;
            sound = λ honest. (let before : IsTrue a.honest = subst IsTrue makes.worked.honest honest in moved.sound (so.sound before) (own before));
            valid = λ honest site. valid (honest_now honest) (so.valid honest site);
            so_far = λ honest. (
                let before = honest_now honest in
                let next = one_taken represents (site_state first).site (crash_states first) (SessionsIn first start) a.site (crash_states k) (SessionsIn k items) i left (session_of pinned a x) session_within session_read (so.so_far honest) b.site (crash_states then) (makes.done before) (makes.at_crash before)
                (λ c may. stands then c (subst IsTrue (sym makes.worked.honest) before) makes.still_usable may) in
                subst (λ (l : List (ℕ × world.Phase)). Taken then l (i + 1) left) (ap (λ (p : world.Phase). set (SessionsIn k items) i (x.id, p)) (sym (phase before)) ∙ ap (λ (n : ℕ). set (SessionsIn k items) i (n, phase_of pinned b y.phase)) (sym same) ∙ sym moved.seen) next);
            few = omega (arith, so.few);
            room = omega (arith, so.room, behind, as_behind y);
            fewer = (let less = fewer_with (SessionsIn k items) i (session_of pinned a x) (session_of pinned b y) session_within session_read (one_waits b y.phase false no_more) in omega (arith, so.fewer, less, ap count_waiting moved.seen));
          }

      -- a session that stays as it was, behind a fault
      sessions_still : (then : K) (y : Session P) → is_waiting x.phase ≡ true → y.id ≡ x.id → y.phase ≡ x.phase → MovedAt a (site_state then) items i y → SessionsIn then (set items i y) ≡ SessionsIn k items
      sessions_still then y waits same phase moved =
          moved.seen ∙ ap (λ (n : ℕ). set (SessionsIn k items) i (n, phase_of pinned (site_state then) y.phase)) same ∙ ap (λ (p : world.Phase). set (SessionsIn k items) i (x.id, p)) (ap (phase_of pinned (site_state then)) phase ∙ waits_seen a (site_state then) x.phase waits)
          ∙ ap (set (SessionsIn k items) i) session_read ∙ set-get_or (SessionsIn k items) i (session_of pinned a x)

      -- one that is left
      pub turn_left : (then : K) (y : Session P) (fault : HubFault) → (fault ≡ hub.Failed → ⊥) → is_waiting x.phase ≡ true → y.id ≡ x.id → y.phase ≡ x.phase → (IsTrue a.honest → IsSound pinned (site_state then) y.phase)
          → MovesPins a (site_state then) None (pin_of pinned y.phase) → (IsTrue a.honest → ∥ IsSite a.site ∥₁ → ∥ IsSite (site_state then).site ∥₁) → AloneMakes then (Err fault) → IsSinglySo then (set items i y) (i + 1) (left + 1)
      turn_left then y fault other waits same phase own moves valid makes =
          let b = site_state then in
          let stays = not_changed (lacks k) post a b fault other makes.fault in
          let moved = place_moves a b items i x y within read (none_waits pinned x.phase waits) so.held moves in
          record {
            works = works_left {T = Unit} (site_state first) a b left fault other so.works makes.worked stays makes.counts;
            held = moved.held;
            sound = λ honest. (let before : IsTrue a.honest = subst IsTrue makes.worked.honest honest in moved.sound (so.sound before) (own before));
            valid = λ honest site. valid (honest_now honest) (so.valid honest site);
            so_far = λ honest. (
                let before = honest_now honest in
                let next = one_left represents (site_state first).site (crash_states first) (SessionsIn first start) a.site (crash_states k) (SessionsIn k items) i left (session_of pinned a x) session_within session_read (so.so_far honest) b.site (crash_states then) (stays.site before) (makes.unchanged before (stays.usable ∙ so.works.usable))
                (one_waits a x.phase true waits) in
                subst (λ (l : List (ℕ × world.Phase)). Taken then l (i + 1) (left + 1)) (sym (sessions_still then y waits same phase moved)) next);
            few = omega (arith, so.few);
            room = (let one : one_if (is_waiting x.phase) ≡ 1 = ap one_if waits in omega (arith, so.room, behind, as_behind y, one));
            fewer = omega (arith, so.fewer, ap count_waiting (sessions_still then y waits same phase moved));
          }

      pub turn_fails : (then : K) (y : Session P) → (site_state first).usable ≡ true → is_waiting x.phase ≡ true → y.id ≡ x.id → y.phase ≡ x.phase → (IsTrue a.honest → IsSound pinned (site_state then) y.phase)
          → MovesPins a (site_state then) None (pin_of pinned y.phase) → (IsTrue a.honest → ∥ IsSite a.site ∥₁ → ∥ IsSite (site_state then).site ∥₁) → AloneMakes then (Err hub.Failed) → FailsSo then (set items i y)
      turn_fails then y usable waits same phase own moves valid makes =
          let b = site_state then in
          let moved = place_moves a b items i x y within read (none_waits pinned x.phase waits) so.held moves in
          record {
            works = works_fails {T = Unit} (site_state first) a b left (count_waiting (SessionsIn first start)) post usable (λ honest. left_few represents (site_state first).site (crash_states first) (SessionsIn first start) a.site (crash_states k) (SessionsIn k items) i left (so.so_far honest)) so.works makes.worked makes.fault makes.counts;
            held = moved.held;
            sound = λ honest. (let before : IsTrue a.honest = subst IsTrue makes.worked.honest honest in moved.sound (so.sound before) (own before));
            valid = λ honest site. valid (honest_now honest) (so.valid honest site);
            fewer = omega (arith, so.fewer, ap count_waiting (sessions_still then y waits same phase moved));
            fails = λ honest. (
                let before = honest_now honest in
                let next = one_fails represents (site_state first).site (crash_states first) (SessionsIn first start) a.site (crash_states k) (SessionsIn k items) i left (session_of pinned a x) session_within session_read (so.so_far honest) b.site (crash_states then) (makes.fault.site before) (makes.at_crash before) (makes.fault.change before) in
                subst (λ (l : List (ℕ × world.Phase)). TakesUpTo represents (site_state first).site b.site (crash_states first) (crash_states then) (SessionsIn first start) l) (sym (sessions_still then y waits same phase moved)) next);
          }

    -- What stands once all have had their turns.
    pub record EndsSo (k : K) (items : List (Session P)) (left : ℕ) : Type 0 where
      pub works : WorksSingly (site_state first) (site_state k) (count_waiting (SessionsIn first start)) (Ok left)
      pub takes : IsTrue (site_state first).honest → TakesAll represents (site_state first).site (site_state k).site (crash_states first) (crash_states k) (SessionsIn first start) (SessionsIn k items) left

    pub singly_all : (k : K) (items : List (Session P)) (i left : ℕ) → i ≡ length items → IsSinglySo k items i left → EndsSo k items left
    singly_all k items i left done so = record {
      works = works_all (site_state first) (site_state k) left (count_waiting (SessionsIn first start)) (omega (arith, so.room)) so.works;
      takes = λ honest. all_taken represents (site_state first).site (crash_states first) (SessionsIn first start) (site_state k).site (crash_states k) (SessionsIn k items) i left (omega (arith, done, length-map items (session_of pinned (site_state k)))) (so.so_far honest);
    }
