-- What whole runs count.
use Rattle.std.proofs.Common.{◌≡◌, ℕ, zero, suc, ◌+◌, Bool, true, false, not, List, [], ◌∷◌, refl, sym, ap, ◌∙◌, inl, inr, if◌then◌else◌, arith}
use Rattle.std.specs.Prelude.{IsTrue}
use Rattle.std.proofs.lemmas.Bool.{cases_Bool, not-true, not-false}
use Rattle.common_types.specs.Counts.{counted}
use Rattle.host_types.specs.AllChanges.{Changes}
use Rattle.host_types.specs.Site.{Site}
use Rattle.host_types.specs.SiteState.{SiteState}
use Rattle.host_types.specs.CrashStates.{CrashStates}
use Rattle.host_types.specs.declared.site_fault.SiteFault.{SiteFault}
use Rattle.group_world.specs.Calls.{counted_times}
use Rattle.group_world.specs.World.{World}
use Rattle.group_hub.specs.Calls.{Calls, StaysClosed, links_of}
use Rattle.group_hub.specs.Counting.{HubCountsReads, HubCountsWrites, CountsEvent, result_of}
use Rattle.group_hub.specs.Runs.{least_reads, most_reads, least_in, most_in, is_failed, writes_in, CountsBetween, CallsCountReads, CallsCountWrites}
use Rattle.group_world.specs.declared.event.Event.{Event}
use Rattle.group_world.specs.declared.event.Event.TheVariants.{Join, Bytes, End, Draw, Leave, Admin, Flush}
use Rattle.group_world.specs.declared.event.Outcome.{Outcome}
use Rattle.group_world.specs.declared.event.Outcome.TheVariants as outcomes
use Rattle.group_world.specs.declared.fault.HubFault.TheVariants as hub

-- ---- reads of one call

exactly : (n : ℕ) (a b : ℕ) → b ≡ counted_times n a → CountsBetween n n a b
exactly n a b is = record { reads = n; at_least = omega arith; at_most = omega arith; counted = is }

plain_reads : (o : Outcome) (a b : SiteState) → IsTrue a.honest → HubCountsReads (result_of o) a b → CountsBetween (least_reads o) (least_reads o) a.failed_reads b.failed_reads
plain_reads (outcomes.Joined n) a b honest is = exactly 0 _ _ is
plain_reads outcomes.More a b honest is = exactly 0 _ _ is
plain_reads outcomes.Ready a b honest is = exactly 0 _ _ is
plain_reads outcomes.Finished a b honest is = exactly 0 _ _ is
plain_reads outcomes.Waiting a b honest is = exactly 0 _ _ is
plain_reads (outcomes.Drawn bytes) a b honest is = exactly 0 _ _ is
plain_reads outcomes.Gone a b honest is = exactly 0 _ _ is
plain_reads outcomes.Done a b honest is = exactly 0 _ _ is
plain_reads (outcomes.Flushed answered left) a b honest is = exactly 0 _ _ is
plain_reads (outcomes.Fault hub.Unknown) a b honest is = exactly 0 _ _ is
plain_reads (outcomes.Fault hub.Crowded) a b honest is = exactly 0 _ _ is
plain_reads (outcomes.Fault hub.Spent) a b honest is = exactly 0 _ _ is
plain_reads (outcomes.Fault (hub.Refused r)) a b honest is = exactly 0 _ _ is
plain_reads (outcomes.Fault (hub.Full need free)) a b honest is = exactly 0 _ _ is
plain_reads (outcomes.Fault hub.Broken) a b honest is = exactly 1 _ _ (is honest)
plain_reads (outcomes.Fault hub.Failed) a b honest is = exactly 0 _ _ is
plain_reads (outcomes.Fault hub.Memory) a b honest is = exactly 0 _ _ is
plain_reads (outcomes.Fault hub.NotReady) a b honest is = exactly 0 _ _ is
plain_reads (outcomes.Fault hub.Deep) a b honest is = exactly 0 _ _ is

one_read : (w : World) (e : Event) (o : Outcome) (a b : SiteState) → IsTrue a.honest → CountsEvent w e o a b → CountsBetween (least_reads o) (most_reads w e o) a.failed_reads b.failed_reads
one_read w Join o a b honest counts = plain_reads o a b honest counts.reads
one_read w (Bytes id piece now) o a b honest counts = plain_reads o a b honest counts.reads
one_read w (End id now) o a b honest counts = plain_reads o a b honest counts.reads
one_read w (Draw id room) o a b honest counts = plain_reads o a b honest counts.reads
one_read w (Leave id) o a b honest counts = plain_reads o a b honest counts.reads
one_read w (Admin change now) o a b honest counts = plain_reads o a b honest counts.reads
one_read w Flush (outcomes.Flushed answered zero) a b honest counts = exactly 0 _ _ counts.reads
one_read w Flush (outcomes.Flushed answered (suc left)) a b honest counts = (let some = counts.reads honest in record { reads = some.0; at_least = omega arith; at_most = some.1; counted = some.2 })
one_read w Flush (outcomes.Fault hub.Failed) a b honest counts = (let some = counts.reads honest in record { reads = some.0; at_least = omega arith; at_most = some.1; counted = some.2 })
one_read w Flush (outcomes.Joined n) a b honest counts = exactly 0 _ _ counts.reads
one_read w Flush outcomes.More a b honest counts = exactly 0 _ _ counts.reads
one_read w Flush outcomes.Ready a b honest counts = exactly 0 _ _ counts.reads
one_read w Flush outcomes.Finished a b honest counts = exactly 0 _ _ counts.reads
one_read w Flush outcomes.Waiting a b honest counts = exactly 0 _ _ counts.reads
one_read w Flush (outcomes.Drawn bytes) a b honest counts = exactly 0 _ _ counts.reads
one_read w Flush outcomes.Gone a b honest counts = exactly 0 _ _ counts.reads
one_read w Flush outcomes.Done a b honest counts = exactly 0 _ _ counts.reads
one_read w Flush (outcomes.Fault hub.Unknown) a b honest counts = exactly 0 _ _ counts.reads
one_read w Flush (outcomes.Fault hub.Crowded) a b honest counts = exactly 0 _ _ counts.reads
one_read w Flush (outcomes.Fault hub.Spent) a b honest counts = exactly 0 _ _ counts.reads
one_read w Flush (outcomes.Fault (hub.Refused r)) a b honest counts = exactly 0 _ _ counts.reads
one_read w Flush (outcomes.Fault (hub.Full need free)) a b honest counts = exactly 0 _ _ counts.reads
one_read w Flush (outcomes.Fault hub.Broken) a b honest counts = exactly 1 _ _ (counts.reads honest)
one_read w Flush (outcomes.Fault hub.Memory) a b honest counts = exactly 0 _ _ counts.reads
one_read w Flush (outcomes.Fault hub.NotReady) a b honest counts = exactly 0 _ _ counts.reads
one_read w Flush (outcomes.Fault hub.Deep) a b honest counts = exactly 0 _ _ counts.reads

both_times : (m n count : ℕ) → counted_times (m + n) count ≡ counted_times n (counted_times m count)
both_times zero n count = (let same : zero + n ≡ n = omega arith in ap (λ (k : ℕ). counted_times k count) same)
both_times (suc m) n count = (let same : suc m + n ≡ suc (m + n) = omega arith in ap (λ (k : ℕ). counted_times k count) same ∙ both_times m n (counted count))

both_between : (p q m n a b c : ℕ) → CountsBetween p q a b → CountsBetween m n b c → CountsBetween (p + m) (q + n) a c
both_between p q m n a b c first second = record {
  reads = first.reads + second.reads;
  at_least = omega (arith, first.at_least, second.at_least);
  at_most = omega (arith, first.at_most, second.at_most);
  counted = second.counted ∙ ap (counted_times second.reads) first.counted ∙ sym (both_times first.reads second.reads a);
}

-- ---- writes of one call

one_write : (o : Outcome) (a b : SiteState) → HubCountsWrites (result_of o) a b → b.failed_writes ≡ (if is_failed o then (if a.usable then counted a.failed_writes else a.failed_writes) else a.failed_writes)
one_write (outcomes.Joined n) a b is = is
one_write outcomes.More a b is = is
one_write outcomes.Ready a b is = is
one_write outcomes.Finished a b is = is
one_write outcomes.Waiting a b is = is
one_write (outcomes.Drawn bytes) a b is = is
one_write outcomes.Gone a b is = is
one_write outcomes.Done a b is = is
one_write (outcomes.Flushed answered left) a b is = is
one_write (outcomes.Fault hub.Unknown) a b is = is
one_write (outcomes.Fault hub.Crowded) a b is = is
one_write (outcomes.Fault hub.Spent) a b is = is
one_write (outcomes.Fault (hub.Refused r)) a b is = is
one_write (outcomes.Fault (hub.Full need free)) a b is = is
one_write (outcomes.Fault hub.Broken) a b is = is
one_write (outcomes.Fault hub.Failed) a b is = is
one_write (outcomes.Fault hub.Memory) a b is = is
one_write (outcomes.Fault hub.NotReady) a b is = is
one_write (outcomes.Fault hub.Deep) a b is = is

fails_so : (o : Outcome) → is_failed o ≡ true → o ≡ outcomes.Fault hub.Failed
fails_so (outcomes.Joined n) is = absurd (cc is)
fails_so outcomes.More is = absurd (cc is)
fails_so outcomes.Ready is = absurd (cc is)
fails_so outcomes.Finished is = absurd (cc is)
fails_so outcomes.Waiting is = absurd (cc is)
fails_so (outcomes.Drawn bytes) is = absurd (cc is)
fails_so outcomes.Gone is = absurd (cc is)
fails_so outcomes.Done is = absurd (cc is)
fails_so (outcomes.Flushed answered left) is = absurd (cc is)
fails_so (outcomes.Fault hub.Unknown) is = absurd (cc is)
fails_so (outcomes.Fault hub.Crowded) is = absurd (cc is)
fails_so (outcomes.Fault hub.Spent) is = absurd (cc is)
fails_so (outcomes.Fault (hub.Refused r)) is = absurd (cc is)
fails_so (outcomes.Fault (hub.Full need free)) is = absurd (cc is)
fails_so (outcomes.Fault hub.Broken) is = absurd (cc is)
fails_so (outcomes.Fault hub.Failed) is = refl
fails_so (outcomes.Fault hub.Memory) is = absurd (cc is)
fails_so (outcomes.Fault hub.NotReady) is = absurd (cc is)
fails_so (outcomes.Fault hub.Deep) is = absurd (cc is)

-- one that had failed counts none
none_if_shut : (fails usable : Bool) (n : ℕ) → usable ≡ false → (if fails then (if usable then counted n else n) else n) ≡ n
none_if_shut true true n shut = absurd (cc shut)
none_if_shut true false n shut = refl
none_if_shut false usable n shut = refl

one_if_fails : (fails usable : Bool) (n m : ℕ) → fails ≡ true → usable ≡ true → (if fails then (if usable then counted n else n) else n) ≡ (if fails then counted n else m)
one_if_fails true true n m fails on = refl
one_if_fails true false n m fails on = absurd (cc on)
one_if_fails false usable n m fails on = absurd (cc fails)

none_if_not : (fails usable : Bool) (n : ℕ) → fails ≡ false → (if fails then (if usable then counted n else n) else n) ≡ n
none_if_not true usable n other = absurd (cc other)
none_if_not false usable n other = refl

later_if_not : (fails : Bool) (n m : ℕ) → fails ≡ false → m ≡ (if fails then n else m)
later_if_not true n m other = absurd (cc other)
later_if_not false n m other = refl

not_both : (fails : Bool) → fails ≡ true → fails ≡ false → ⊥
not_both fails is other = let no : true ≡ false = sym is ∙ other in cc no

-- ---- of calls one after another

module _ {S L : Type 0} (site_state : S → SiteState) (lacks : S → Changes → SiteFault → Type 0) (crash_states : S → CrashStates L) (stands : L → Site → Type 0) where
  abbrev All : World → S → List Event → List Outcome → World → S → Type 0
  All w k es os v l = Calls site_state lacks crash_states stands w k es os v l

  pub calls_count_reads : CallsCountReads site_state lacks crash_states stands
  calls_count_reads w v k l [] [] honest run = exactly 0 _ _ (ap (λ x. (site_state x).failed_reads) run.1)
  calls_count_reads w v k l (e ∷ es) (o ∷ os) honest run =
      let later = links_of site_state lacks crash_states stands run.0 run.1 es os v l (run.2.honest ∙ honest) run.3 in
      both_between (least_reads o) (most_reads w e o) (least_in later) (most_in run.0 later) (site_state k).failed_reads (site_state run.1).failed_reads (site_state l).failed_reads (one_read w e o (site_state k) (site_state run.1) honest run.2.counts)
      (calls_count_reads run.0 v run.1 l es os (run.2.honest ∙ honest) run.3)
  calls_count_reads w v k l [] (o ∷ os) honest run = absurd run
  calls_count_reads w v k l (e ∷ es) [] honest run = absurd run

  still_shut : (k j : S) (e : Event) → StaysClosed site_state k e j → (site_state j).usable ≡ (site_state k).usable
  still_shut k j Join same = ap (λ x. (site_state x).usable) same
  still_shut k j (Bytes id piece now) same = ap (λ x. (site_state x).usable) same
  still_shut k j (End id now) same = ap (λ x. (site_state x).usable) same
  still_shut k j (Draw id room) same = ap (λ x. (site_state x).usable) same
  still_shut k j (Leave id) gives = ap (λ (h : SiteState). h.usable) gives.same
  still_shut k j (Admin change now) same = ap (λ x. (site_state x).usable) same
  still_shut k j Flush same = ap (λ x. (site_state x).usable) same

  -- a hub that has failed counts no more
  shut_counts_none : (w v : World) (k l : S) (es : List Event) (os : List Outcome) → w.failed ≡ true → w.failed ≡ not (site_state k).usable → All w k es os v l → (site_state l).failed_writes ≡ (site_state k).failed_writes
  shut_counts_none w v k l [] [] shut was run = ap (λ x. (site_state x).failed_writes) run.1
  shut_counts_none w v k l (e ∷ es) (o ∷ os) shut was run =
      let call = run.2 in
      let off : (site_state k).usable ≡ false = not-true (site_state k).usable (sym was ∙ shut) in
      let none = one_write o (site_state k) (site_state run.1) call.counts.writes ∙ none_if_shut (is_failed o) (site_state k).usable (site_state k).failed_writes off in
      let still : run.0.failed ≡ true = call.flag ∙ ap not (still_shut k run.1 e (call.steady.closed shut).1 ∙ off) in
      shut_counts_none run.0 v run.1 l es os still call.flag run.3 ∙ none
  shut_counts_none w v k l [] (o ∷ os) shut was run = absurd run
  shut_counts_none w v k l (e ∷ es) [] shut was run = absurd run

  -- one that was usable counts the first that failed
  first_counted : (w v : World) (k l : S) (es : List Event) (os : List Outcome) → w.failed ≡ false → w.failed ≡ not (site_state k).usable → All w k es os v l → (site_state l).failed_writes ≡ writes_in os (site_state k).failed_writes
  first_counted w v k l [] [] off was run = ap (λ x. (site_state x).failed_writes) run.1
  first_counted w v k l (e ∷ es) (o ∷ os) off was run =
      let call = run.2 in
      let a = site_state k in
      let b = site_state run.1 in
      let one = one_write o a b call.counts.writes in
      elim (cases_Bool (is_failed o)) [
        | inl fails ↦
            shut_counts_none run.0 v run.1 l es os (call.steady.failed (fails_so o fails)) call.flag run.3
            ∙ one ∙ one_if_fails (is_failed o) a.usable a.failed_writes (writes_in os a.failed_writes) fails (not-false a.usable (sym was ∙ off))
        | inr other ↦ elim (cases_Bool run.0.failed) [
          | inl shut ↦ absurd (not_both (is_failed o) (ap is_failed (call.steady.shuts off shut)) other)
          | inr up ↦
              first_counted run.0 v run.1 l es os up call.flag run.3
              ∙ ap (λ n. writes_in os n) (one ∙ none_if_not (is_failed o) a.usable a.failed_writes other)
              ∙ later_if_not (is_failed o) (counted a.failed_writes) (writes_in os a.failed_writes) other
        ]
      ]
  first_counted w v k l [] (o ∷ os) off was run = absurd run
  first_counted w v k l (e ∷ es) [] off was run = absurd run

  pub calls_count_writes : CallsCountWrites site_state lacks crash_states stands
  calls_count_writes w v k l es os was run =
      elim (cases_Bool w.failed) [
        | inl shut ↦ rw shut (shut_counts_none w v k l es os shut was run)
        | inr off ↦ rw off (first_counted w v k l es os off was run)
      ]
