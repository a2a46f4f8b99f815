-- Whole runs of a hub: they join and part, what a crash leaves of them, and what they count.
use Rattle.std.specs.Prelude.{◌≡◌, ◌≤◌, ◌+◌, ℕ, Bool, true, false, not, List, [], ◌∷◌, ◌++◌, length, map, IsTrue, if◌then◌else◌}
use Rattle.common_types.specs.Counts.{counted}
use Rattle.host_types.specs.AllChanges.{Changes}
use Rattle.host_types.specs.Site.{Site}
use Rattle.host_types.specs.SiteState.{SiteState}
use Rattle.host_types.specs.CrashStates.{CrashStates}
use Rattle.host_types.specs.declared.site_fault.SiteFault.{SiteFault}
use Rattle.group_world.specs.World.{World, count_waiting}
use Rattle.group_world.specs.Run.{Step, RunBy}
use Rattle.group_world.specs.Calls.{counted_times}
use Rattle.group_world.specs.CrashStates.{Link, HasCrashStates, HoldsCommits, accepted, acknowledged}
use Rattle.group_world.specs.declared.event.Event.{Event}
use Rattle.group_world.specs.declared.event.Event.TheVariants.{Flush}
use Rattle.group_world.specs.declared.event.Outcome.{Outcome}
use Rattle.group_world.specs.declared.event.Outcome.TheVariants.{Fault, Flushed}
use Rattle.group_world.specs.declared.fault.HubFault.TheVariants as hub
use Rattle.group_world.specs.declared.fault.HubFault.{HubFault}
use Rattle.group_hub.specs.Calls.{Calls, links_of, may_fail_behind}
use Rattle.group_hub.specs.Causes.{IsAsBefore}

-- ---- what runs count

-- the least number of failed reads that an outcome tells of
abbrev pub least_reads : Outcome → ℕ
least_reads (Fault hub.Broken) = 1
least_reads outcome = 0

-- The most: a flush may have met one for each post that it leaves waiting, or that waited where it failed.
abbrev pub most_reads : World → Event → Outcome → ℕ
most_reads w Flush (Flushed answered left) = left
most_reads w Flush (Fault hub.Failed) = count_waiting w.sessions
most_reads w e outcome = least_reads outcome

abbrev pub least_in : {S : Type 0} → List (Link S) → ℕ
least_in [] = 0
least_in (l ∷ links) = least_reads l.outcome + least_in links

-- from a world on
abbrev pub most_in : {S : Type 0} → World → List (Link S) → ℕ
most_in w [] = 0
most_in w (l ∷ links) = most_reads w l.event l.outcome + most_in l.world links

abbrev pub is_failed : Outcome → Bool
is_failed (Fault hub.Failed) = true
is_failed outcome = false

-- the count of failed writes and syncs after these outcomes of a hub that was usable: the first `Failed` is counted, and nothing else
abbrev pub writes_in : List Outcome → ℕ → ℕ
writes_in [] count = count
writes_in (outcome ∷ outcomes) count = if is_failed outcome then counted count else writes_in outcomes count

-- so many, between the least and the most
pub record CountsBetween (least most before now : ℕ) : Type 0 where
  pub reads : ℕ
  pub at_least : least ≤ reads
  pub at_most : reads ≤ most
  pub counted : now ≡ counted_times reads before

-- ---- laws

-- After a fault the world is as before, but for the mark of a first failure. Only a flush that fails may have answered some sessions.
abbrev pub FaultsKeepTheWorld : Type 0
FaultsKeepTheWorld = (w v : World) (e : Event) (fault : HubFault) → may_fail_behind e fault ≡ false → Step w e (Fault fault) v → IsAsBefore fault w v

module _ {S L : Type 0} (site_state : S → SiteState) (lacks : S → Changes → SiteFault → Type 0) (crash_states : S → CrashStates L) (stands : L → Site → Type 0) where
  abbrev All : World → S → List Event → List Outcome → World → S → Type 0
  All w k events outcomes v l = Calls site_state lacks crash_states stands w k events outcomes v l

  abbrev links : (w : World) (k : S) (events : List Event) (outcomes : List Outcome) (v : World) (l : S) → IsTrue (site_state k).honest → All w k events outcomes v l → List (Link S)
  links w k events outcomes v l honest calls = links_of site_state lacks crash_states stands w k events outcomes v l honest calls

  -- Two runs, one after the other, are a run, and have its links.
  abbrev pub CallsJoin : Type 0
  CallsJoin = (w m v : World) (k j l : S) (events later : List Event) (outcomes further : List Outcome) (first : All w k events outcomes m j) (second : All m j later further v l) →
      (both : All w k (events ++ later) (outcomes ++ further) v l)
      × ((honest : IsTrue (site_state k).honest) (still : IsTrue (site_state j).honest) → links w k (events ++ later) (outcomes ++ further) v l honest both ≡ links w k events outcomes m j honest first ++ links m j later further v l still second)

  -- What is found behind a front of a run: a world, its keeper, the calls up to there, and those behind it.
  pub record Parts (w v : World) (k l : S) (events later : List Event) (outcomes further : List Outcome) (all : All w k (events ++ later) (outcomes ++ further) v l) : Type 0 where
    pub world : World
    pub keeper : S
    pub front : All w k events outcomes world keeper
    pub rest : All world keeper later further v l
    pub same_links : (honest : IsTrue (site_state k).honest) (still : IsTrue (site_state keeper).honest) →
        links w k (events ++ later) (outcomes ++ further) v l honest all ≡ links w k events outcomes world keeper honest front ++ links world keeper later further v l still rest

  -- A run parts behind any of its events.
  abbrev pub CallsPart : Type 0
  CallsPart = (w v : World) (k l : S) (events later : List Event) (outcomes further : List Outcome) (all : All w k (events ++ later) (outcomes ++ further) v l) → length outcomes ≡ length events → Parts w v k l events later outcomes further all

  -- Over an honest device a run is one of the world.
  abbrev pub CallsRun : Type 0
  CallsRun = (w v : World) (k l : S) (events : List Event) (outcomes : List Outcome) (honest : IsTrue (site_state k).honest) (calls : All w k events outcomes v l) →
      RunBy w events outcomes (map (λ link. link.world) (links w k events outcomes v l honest calls))

  -- What a crash leaves of a run, by its moments. So a crash within a run, before some of its events have come, leaves what those before them allow, and nothing of later ones: it is a crash of the front.
  abbrev pub CallsCrash : Type 0
  CallsCrash = (w v : World) (k l : S) (events : List Event) (outcomes : List Outcome) (honest : IsTrue (site_state k).honest) → (site_state k).usable ≡ true → w.site ≡ (site_state k).site →
      (calls : All w k events outcomes v l) → HasCrashStates stands w.site (crash_states k) (crash_states l) (links w k events outcomes v l honest calls)

  -- What is left since the moment of the keeper behind some events represents the site after at least the commits that they acknowledged.
  abbrev pub CallsMoments : Type 0
  CallsMoments = (w m v : World) (k j l : S) (events later : List Event) (outcomes further : List Outcome) (c : L) (honest : IsTrue (site_state k).honest) (still : IsTrue (site_state j).honest) → (site_state k).usable ≡ true → w.site ≡ (site_state k).site →
      (first : All w k events outcomes m j) (second : All m j later further v l) → (crash_states l).possible_since (crash_states j).moment c →
      HoldsCommits stands w.site (accepted (links w k events outcomes m j honest first ++ links m j later further v l still second)) (length (acknowledged (links w k events outcomes m j honest first))) c

  -- The outcomes of a run tell what it has counted: reads that failed, of an honest site, as exactly as flushes tell.
  abbrev pub CallsCountReads : Type 0
  CallsCountReads = (w v : World) (k l : S) (events : List Event) (outcomes : List Outcome) (honest : IsTrue (site_state k).honest) (calls : All w k events outcomes v l) →
      (let those = links w k events outcomes v l honest calls in CountsBetween (least_in those) (most_in w those) (site_state k).failed_reads (site_state l).failed_reads)

  -- And the write or the sync that failed, where the hub was usable; one that had failed before counts none.
  abbrev pub CallsCountWrites : Type 0
  CallsCountWrites = (w v : World) (k l : S) (events : List Event) (outcomes : List Outcome) → w.failed ≡ not (site_state k).usable → All w k events outcomes v l →
      (site_state l).failed_writes ≡ (if w.failed then (site_state k).failed_writes else writes_in outcomes (site_state k).failed_writes)
