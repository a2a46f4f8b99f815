-- What a flush makes of the sessions that wait, before its commit and behind it.
use Rattle.std.specs.Prelude.{◌≡◌, ◌⊎◌, ◌≤◌, ℕ, Bool, true, false, not, List, [], ◌∷◌, ◌++◌, length, Option, None, Some, Result, OnErr, OnOk, IfOk, IfErr, IsTrue}
use Rattle.host_types.specs.AllChanges.{Changes}
use Rattle.host_types.specs.Site.{Site, IsSite}
use Rattle.host_types.specs.SiteState.{SiteState, HasNotChanged, HasTried, Rose}
use Rattle.host_types.specs.ValidChanges.{is_typed_change}
use Rattle.host_types.specs.Pins.{Pinned}
use Rattle.host_types.specs.CrashStates.{CrashStates, AddsOnly, AddsNone, may_crash_to}
use Rattle.host_types.specs.declared.site_fault.SiteFault.{SiteFault}
use Rattle.host_types.specs.declared.site_fault.SiteFault.TheVariants as faults
use Rattle.site_replies.specs.LaterReply.{are_posts}
use Rattle.group_world.specs.World as world
use Rattle.group_world.specs.World.{count_waiting}
use Rattle.group_world.specs.Laws.{all_made}
use Rattle.group_world.specs.Step.{without_form, without_forms, answered_from, post_from, taken, all_of}
use Rattle.group_world.specs.Calls.{IsKeeperLacking, MaySplit, CountsLeft}
use Rattle.group_world.specs.CrashStates.{HoldsCommits, with_changes, one_by_one}
use Rattle.group_world.specs.declared.fault.HubFault.TheVariants as hub
use Rattle.group_world.specs.declared.fault.HubFault.{HubFault}
use Rattle.group_hub.specs.Counting.{HubCountsWrites, CountsCall}
use Rattle.group_hub.specs.HeldPins.{listed, HoldsAll, MovesPins, MayGiveBack}
use Rattle.group_hub.specs.Sessions.{phase_of, sessions_of, pin_of, pins_of, is_waiting, IsSound, AreSound}
use Rattle.group_hub.specs.Understood.{HasFailedNow, HasWorked}
use Rattle.group_hub.specs.declared.group_commit.GroupCommit.{GroupCommit}
use Rattle.group_hub.specs.declared.group_commit.GroupCommit.TheVariants.{Whole, TooLarge}
use Rattle.group_hub.specs.declared.next.Next.{Next}
use Rattle.group_hub.specs.declared.next.Next.TheVariants as nexts
use Rattle.group_hub.specs.declared.next.Putting.{Putting}
use Rattle.group_hub.specs.declared.next.Putting.TheVariants as puttings
use Rattle.group_hub.specs.declared.session.Session.{Session}
use Rattle.group_hub.specs.declared.session.Phase.{Phase}

-- ---- what sessions are to have

abbrev pub next_pin : {P : Type 0} → (P → Pinned) → Next P → Option Pinned
next_pin pinned nexts.Stays = None
next_pin pinned (nexts.Gone p) = pin_of pinned p
next_pin pinned (nexts.Replied p) = pin_of pinned p

-- the pins that are taken for them
abbrev pub next_pins : {P : Type 0} → (P → Pinned) → List (Next P) → List Pinned
next_pins pinned [] = []
next_pins pinned (n ∷ ns) = listed (next_pin pinned n) ++ next_pins pinned ns

abbrev pub IsNextSound : {P : Type 0} → (P → Pinned) → SiteState → Next P → Type 0
IsNextSound pinned h nexts.Stays = Unit {0}
IsNextSound pinned h (nexts.Gone p) = IsSound pinned h p
IsNextSound pinned h (nexts.Replied p) = IsSound pinned h p

abbrev pub AreNextSound : {P : Type 0} → (P → Pinned) → SiteState → List (Next P) → Type 0
AreNextSound pinned h [] = Unit {0}
AreNextSound pinned h (n ∷ ns) = IsNextSound pinned h n × AreNextSound pinned h ns

-- Only a session that waits is to have another phase, and it doesn't wait then.
abbrev pub IsForWaiting : {P : Type 0} → Phase P → Next P → Type 0
IsForWaiting phase nexts.Stays = Unit {0}
IsForWaiting phase (nexts.Gone p) = (is_waiting phase ≡ true) × (is_waiting p ≡ true → ⊥)
IsForWaiting phase (nexts.Replied p) = (is_waiting phase ≡ true) × (is_waiting p ≡ true → ⊥)

-- it is to have another phase, and doesn't wait in it
abbrev pub waits_no_more : {P : Type 0} → Next P → Bool
waits_no_more nexts.Stays = false
waits_no_more (nexts.Gone p) = not (is_waiting p)
waits_no_more (nexts.Replied p) = not (is_waiting p)

-- each session has its own
abbrev pub AreForWaiting : {P : Type 0} → List (Session P) → List (Next P) → Type 0
AreForWaiting [] [] = Unit {0}
AreForWaiting (s ∷ ss) (n ∷ ns) = IsForWaiting s.phase n × AreForWaiting ss ns
AreForWaiting [] (n ∷ ns) = ⊥
AreForWaiting (s ∷ ss) [] = ⊥

-- ---- sessions that are put into their next phases

-- the phase of a session then: all are put, or those whose form is gone
abbrev pub put_phase : {P : Type 0} → Putting → Phase P → Next P → Phase P
put_phase putting phase nexts.Stays = phase
put_phase putting phase (nexts.Gone p) = p
put_phase puttings.All phase (nexts.Replied p) = p
put_phase puttings.Gone phase (nexts.Replied p) = phase

-- the pin that was taken for one that is not put
abbrev pub given_back : {P : Type 0} → (P → Pinned) → Putting → Next P → Option Pinned
given_back pinned putting nexts.Stays = None
given_back pinned putting (nexts.Gone p) = None
given_back pinned puttings.All (nexts.Replied p) = None
given_back pinned puttings.Gone (nexts.Replied p) = pin_of pinned p

-- a phase behind it: of all, or of those whose form is gone
abbrev pub put_one : {P : Type 0} → Putting → (P → Pinned) → SiteState → world.Phase → Next P → world.Phase
put_one putting pinned h x nexts.Stays = x
put_one puttings.All pinned h x (nexts.Gone p) = phase_of pinned h p
put_one puttings.All pinned h x (nexts.Replied p) = phase_of pinned h p
put_one puttings.Gone pinned h x (nexts.Gone p) = phase_of pinned h p
put_one puttings.Gone pinned h x (nexts.Replied p) = x

abbrev pub put_sessions : {P : Type 0} → Putting → (P → Pinned) → SiteState → List (ℕ × world.Phase) → List (Next P) → List (ℕ × world.Phase)
put_sessions putting pinned h [] ns = []
put_sessions putting pinned h (x ∷ xs) [] = x ∷ xs
put_sessions putting pinned h (x ∷ xs) (n ∷ ns) = (x.0, put_one putting pinned h x.1 n) ∷ put_sessions putting pinned h xs ns

-- Sessions are put into their next phases, and the pins given back of those that are not put.
pub record PutsSessions {P : Type 0} (putting : Putting) (pinned : P → Pinned) (old new : SiteState) (before after : List (Session P)) (next : List (Next P)) : Type 0 where
  pub sessions : sessions_of pinned new after ≡ put_sessions putting pinned old (sessions_of pinned old before) next
  pub held : HoldsAll new (pins_of pinned after)
  pub sound : IsTrue old.honest → AreNextSound pinned old next → AreSound pinned old before → AreSound pinned new after
  pub fewer : count_waiting (sessions_of pinned new after) ≤ count_waiting (sessions_of pinned old before)
  pub keeper : MayGiveBack old new

-- ---- a group is prepared

-- What a session is to have by a site t, on which a flush of the site s has come that far, and the changes before it and behind it.
pub record IsNextReply {P : Type 0} (pinned : P → Pinned) (h : SiteState) (s t : Site) (before after : Changes) (x : world.Phase) (n : Next P) : Type 0 where
  pub put : put_one puttings.All pinned h x n ≡ answered_from t (without_form s x)
  pub gone : put_one puttings.Gone pinned h x n ≡ without_form s x
  pub changes : after ≡ before ++ post_from t (without_form s x)
  pub posts : are_posts after ≡ true

-- What a session is given to have by a site t, on which a flush has come that far.
abbrev pub GivesReplyBy : {P : Type 0} → (P → Pinned) → SiteState → SiteState → Site → Changes → Changes → world.Phase → Result (Next P) HubFault → Type 0
GivesReplyBy pinned old new t before after x result = IsTrue old.honest → IfOk result (IsNextReply pinned new old.site t before after x)

-- the same by the site on which the posts before it are made
abbrev pub GivesReplyBehind : {P : Type 0} → (P → Pinned) → SiteState → SiteState → Changes → Changes → world.Phase → Result (Next P) HubFault → Type 0
GivesReplyBehind pinned old new before after x result = (t : Site) → all_made old.site before ≡ Some t → GivesReplyBy pinned old new t before after x result

-- the same by any site, whatever posts stand before it: it makes none itself
abbrev pub GivesReplyAlways : {P : Type 0} → (P → Pinned) → SiteState → SiteState → world.Phase → Result (Next P) HubFault → Type 0
GivesReplyAlways pinned old new x result = (t : Site) (before : Changes) → are_posts before ≡ true → GivesReplyBy pinned old new t before before x result

-- The pin that is taken for what a session is to have; after a fault none is.
pub record TakesNextPin {P : Type 0} (pinned : P → Pinned) (old new : SiteState) (result : Result (Next P) HubFault) : Type 0 where
  pub sound : IsTrue old.honest → IfOk result (IsNextSound pinned new)
  pub pins : IfOk result (λ n. MovesPins old new None (next_pin pinned n))
  pub pins_after_fault : OnErr result (new.pins ≡ old.pins)

-- What the first sessions are to have by the site s, and the changes that they make; a flush takes them all.
pub record ArePrepared {P : Type 0} (pinned : P → Pinned) (h : SiteState) (s : Site) (xs : List (ℕ × world.Phase)) (ns : List (Next P)) (made : Changes) : Type 0 where
  pub put : put_sessions puttings.All pinned h xs ns ≡ (taken s (all_of xs) (without_forms s xs)).sessions
  pub gone : put_sessions puttings.Gone pinned h xs ns ≡ without_forms s xs
  pub changes : made ≡ (taken s (all_of xs) (without_forms s xs)).changes
  pub posts : are_posts made ≡ true

-- Sessions stay as they are while some pins are taken beside theirs.
pub record StandsBeside {P : Type 0} (pinned : P → Pinned) (old new : SiteState) (pins : List Pinned) (items : List (Session P)) : Type 0 where
  pub held : HoldsAll new (pins ++ pins_of pinned items)
  pub seen : sessions_of pinned new items ≡ sessions_of pinned old items
  pub sound : AreSound pinned old items → AreSound pinned new items

-- What all sessions are to have is prepared, and the changes of their posts. After a fault pins may be out for some.
pub record PreparesGroup {P : Type 0} {T : Type 0} (pinned : P → Pinned) (old new : SiteState) (sessions : List (Session P)) (next : List (Next P)) (changes : Changes) (result : Result T HubFault) : Type 0 where
  pub prepared : IsTrue old.honest → OnOk result (ArePrepared pinned new old.site (sessions_of pinned old sessions) next changes)
  pub sound : IsTrue old.honest → AreNextSound pinned new next
  pub waiting : OnOk result (AreForWaiting sessions next)
  pub stands : StandsBeside pinned old new (next_pins pinned next) sessions

-- Sessions stay as they are while these pins, which were taken beside theirs, are given back.
abbrev pub GivesBackBeside : {P : Type 0} → (P → Pinned) → SiteState → SiteState → List Pinned → Type 0
GivesBackBeside {P = P} pinned old new pins = (sessions : List (Session P)) → HoldsAll old (pins ++ pins_of pinned sessions) → StandsBeside pinned old new [] sessions

-- ---- a group is made in one step

-- Each is a value of the program: its names are valid as their types say, and its numbers and its moment fit.
abbrev pub ChangesAreTyped : Changes → Type 0
ChangesAreTyped [] = Unit {0}
ChangesAreTyped (c ∷ changes) = (IsTrue (is_typed_change c.0) × (c.1 ≤ 253402300799)) × ChangesAreTyped changes

-- When the changes are not made, but for those that are too large for one step, and what stands then.
abbrev pub IsGroupFault : (Changes → SiteFault → Type 0) → Changes → SiteState → SiteState → HubFault → Type 0
IsGroupFault lacks changes old new hub.Memory = HasNotChanged old new
IsGroupFault lacks changes old new hub.Broken = HasNotChanged old new × (IsTrue old.honest → Rose old.failed_reads new.failed_reads)
IsGroupFault lacks changes old new hub.Spent = HasNotChanged old new × (IsTrue old.honest → IsKeeperLacking lacks changes faults.Spent)
IsGroupFault lacks changes old new hub.Failed = HasFailedNow old new changes
IsGroupFault lacks changes old new fault = ⊥

-- All changes are made in one step, or none is; one that fails in its write or its sync may be found either way after a crash.
pub record MakesGroup {K L : Type 0} (site_state : K → SiteState) (lacks : K → Changes → SiteFault → Type 0) (crash_states : K → CrashStates L) (represents : L → Site → Type 0) (changes : Changes) (old new : K) (result : Result GroupCommit HubFault) : Type 0 where
  pub whole : IsTrue (site_state old).honest → IfOk result (λ c. c ≡ Whole → (site_state new).site ≡ with_changes (site_state old).site changes)
  pub still_usable : OnOk result ((site_state new).usable ≡ true)
  pub too_large : IfOk result (λ c. c ≡ TooLarge → HasNotChanged (site_state old) (site_state new) × (IsTrue (site_state old).honest → MaySplit (lacks old) (site_state old) changes))
  pub fault : IfErr result (IsGroupFault (lacks old) changes (site_state old) (site_state new))
  pub tried : HasTried (site_state old) (site_state new)
  pub counts : CountsCall result (site_state old) (site_state new)
  pub at_crash : IsTrue (site_state old).honest → AddsOnly (crash_states old) (crash_states new) (λ c. represents c (site_state old).site ⊎ represents c (with_changes (site_state old).site changes))
  pub unchanged : IsTrue (site_state old).honest → IfErr result (λ e. (site_state new).usable ≡ true → AddsNone (crash_states old) (crash_states new))
  pub too_large_adds_none : IsTrue (site_state old).honest → IfOk result (λ c. c ≡ TooLarge → AddsNone (crash_states old) (crash_states new))
  pub valid : IsTrue (site_state old).honest → ∥ IsSite (site_state old).site ∥₁ → ∥ IsSite (site_state new).site ∥₁

-- ---- posts that are taken one at a time

-- The site and the sessions after some choices.
pub record IsTakenSo (s t : Site) (old new : List (ℕ × world.Phase)) (choices : List Bool) : Type 0 where
  pub within : length choices ≤ length old
  pub site : t ≡ (taken s choices old).site
  pub sessions : new ≡ (taken s choices old).sessions

-- What a crash leaves after some choices, and with some in flight.
pub record LeavesSo {L : Type 0} (represents : L → Site → Type 0) (s : Site) (first now : CrashStates L) (commits flying : Changes) : Type 0 where
  pub adds : AddsOnly first now (λ c. may_crash_to first c ⊎ HoldsCommits represents s (one_by_one (commits ++ flying)) 0 c)
  pub behind : (c : L) → may_crash_to now c → HoldsCommits represents s (one_by_one (commits ++ flying)) (length commits) c

-- All were taken, and so many are left.
pub record TakesAll {L : Type 0} (represents : L → Site → Type 0) (s t : Site) (first now : CrashStates L) (old new : List (ℕ × world.Phase)) (left : ℕ) : Type 0 where
  pub choices : List Bool
  pub all : length choices ≡ length old
  pub so : IsTakenSo s t old new choices
  pub waiting : left ≡ count_waiting new
  pub leaves : LeavesSo represents s first now (taken s choices old).changes []

-- Those before one whose commit failed were taken.
pub record TakesUpTo {L : Type 0} (represents : L → Site → Type 0) (s t : Site) (first now : CrashStates L) (old new : List (ℕ × world.Phase)) : Type 0 where
  pub choices : List Bool
  pub flying : Changes
  pub one : length flying ≡ 1
  pub next : (taken s (choices ++ true ∷ []) old).changes ≡ (taken s choices old).changes ++ flying
  pub so : IsTakenSo s t old new choices
  pub leaves : LeavesSo represents s first now (taken s choices old).changes flying

-- the same of a keeper with sessions over its site
abbrev pub AllTaken : {K L P : Type 0} → (K → SiteState) → (K → CrashStates L) → (L → Site → Type 0) → (P → Pinned) → K → List (Session P) → K → List (Session P) → ℕ → Type 0
AllTaken site_state crash_states represents pinned k olds l news left =
    TakesAll represents (site_state k).site (site_state l).site (crash_states k) (crash_states l) (sessions_of pinned (site_state k) olds) (sessions_of pinned (site_state l) news) left

abbrev pub TakenUpToFault : {K L P : Type 0} → (K → SiteState) → (K → CrashStates L) → (L → Site → Type 0) → (P → Pinned) → K → List (Session P) → K → List (Session P) → Type 0
TakenUpToFault site_state crash_states represents pinned k olds l news =
    TakesUpTo represents (site_state k).site (site_state l).site (crash_states k) (crash_states l) (sessions_of pinned (site_state k) olds) (sessions_of pinned (site_state l) news)

-- Posts are taken one at a time: all, or those before one whose commit failed.
pub record TakesSingly {K L P : Type 0} (site_state : K → SiteState) (crash_states : K → CrashStates L) (represents : L → Site → Type 0) (pinned : P → Pinned) (k : K) (olds : List (Session P)) (l : K) (news : List (Session P)) (result : Result ℕ HubFault) : Type 0 where
  pub takes : IsTrue (site_state k).honest → IfOk result (AllTaken site_state crash_states represents pinned k olds l news)
  pub fails : IsTrue (site_state k).honest → OnErr result (TakenUpToFault site_state crash_states represents pinned k olds l news)

-- One session that waits is answered; after a fault it still waits.
pub record AnswersAlone {P : Type 0} {T : Type 0} (pinned : P → Pinned) (before after : Phase P) (old new : SiteState) (result : Result T HubFault) : Type 0 where
  pub phase : IsTrue old.honest → OnOk result (phase_of pinned new after ≡ answered_from old.site (phase_of pinned old before))
  pub answered : OnOk result (is_waiting after ≡ false)
  pub err : OnErr result (after ≡ before)
  pub sound : IsTrue old.honest → IsSound pinned new after
  pub pins : MovesPins old new None (pin_of pinned after)
  pub uncrowded : IfErr result (λ e. e ≡ hub.Crowded → ⊥)

-- What a call that takes posts one at a time leaves of a keeper, on any device.
pub record WorksSingly (old new : SiteState) (waiting : ℕ) (result : Result ℕ HubFault) : Type 0 where
  pub worked : HasWorked old new
  pub few : IfOk result (λ left. left ≤ waiting)
  pub still_usable : OnOk result (new.usable ≡ true)
  pub fault : IfErr result (λ e. (e ≡ hub.Failed) × (new.usable ≡ false))
  pub cause : IsTrue old.honest → OnErr result (Rose old.failed_writes new.failed_writes)
  pub writes : HubCountsWrites result old new
  pub reads : IsTrue old.honest → IfOk result (λ left. CountsLeft left old new)
  pub reads_before_fault : IsTrue old.honest → OnErr result (CountsLeft waiting old new)
  pub no_reads : IfOk result (λ left. left ≡ 0 → new.failed_reads ≡ old.failed_reads)
