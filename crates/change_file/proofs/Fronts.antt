-- The changes of a file, made on a site one after another.
use Rattle.std.proofs.Common.{◌≡◌, ◌∙◌, ℕ, zero, suc, ◌+◌, ◌-◌, Bool, true, false, List, [], ◌∷◌, ◌++◌, length, take, Result, Ok, Err, refl, ap, sym, arith, append_assoc, ⊎_elim}
use Rattle.std.specs.Prelude.{IsTrue}
use Rattle.common_types.specs.CrashStates.{CrashStates, AddsOnly, AddsNone, may_crash_to, no_new_crash_state, adds_both, adds_none_again}
use Rattle.common_types.specs.declared.refused.Refused.{Refused as Refusal}
use Rattle.host_types.specs.AllChanges.{Changes}
use Rattle.host_types.specs.Site.{Site}
use Rattle.host_types.specs.SiteState.{SiteState, HasTried}
use Rattle.common_types.specs.Counts.{counted}
use Rattle.host_types.specs.Counting.{IsReadCounted, writes_after, CountsFault, CountsNothing}
use Rattle.host_types.specs.declared.change.Change.{Change as SiteChange}
use Rattle.host_types.specs.declared.site_fault.SiteFault.{SiteFault}
use Rattle.host_types.specs.declared.site_fault.SiteFault.TheVariants as faults
use Rattle.change_file.specs.Applied.{apply_one, and_then, apply_all, numbered, RepresentsFront, RepresentsEither, IsStop, IsStopped}
use Rattle.change_file.specs.declared.fault.FileChange.{FileChange}
use Rattle.change_file.specs.declared.fault.FileChange.TheVariants.{Change, Refused}

-- ---- definitions

and_no_more : (r : Result Site Refusal) → and_then (λ t. Ok t) r ≡ r
and_no_more (Ok s) = refl
and_no_more (Err refused) = refl

and_one_more : (r x : Result Site Refusal) (f g : Site → Result Site Refusal) (t : Site) → ((u : Site) → f u ≡ Ok t → g u ≡ x) → and_then f r ≡ Ok t → and_then g r ≡ x
and_one_more (Ok u) x f g t more is = more u is
and_one_more (Err refused) x f g t more is = absurd (cc)

-- one change more
pub apply_all_last : (s : Site) (front : List FileChange) (change : FileChange) (now : ℕ) (t : Site) → apply_all s front now ≡ Ok t → apply_all s (front ++ change ∷ []) now ≡ apply_one t change now
apply_all_last s [] change now t is =
    let same : s ≡ t = cc in
    and_no_more (apply_one s change now) ∙ ap (λ (u : Site). apply_one u change now) same
apply_all_last s (first ∷ front) change now t is = and_one_more (apply_one s first now) (apply_one t change now) (λ u. apply_all u front now) (λ u. apply_all u (front ++ change ∷ []) now) t (λ u same. apply_all_last u front change now t same) is

pub take_front : {A : Type 0} (front more : List A) (n : ℕ) → n ≡ length front → take n (front ++ more) ≡ front
take_front [] more n is = rw is
take_front (x ∷ front) more zero is = absurd (omega arith)
take_front (x ∷ front) more (suc n) is = ap (λ l. x ∷ l) (take_front front more n (omega arith))

-- ---- a front of the changes was made

pub record Between {S L : Type 0} (state : S → SiteState) (crash_states : S → CrashStates L) (represents : L → Site → Type 0) (old made : S) (front : List FileChange) (now : ℕ) : Type 0 where
  pub applied : IsTrue (state old).honest → apply_all (state old).site front now ≡ Ok (state made).site
  pub usable : (state made).usable ≡ (state old).usable
  pub tried : HasTried (state old) (state made)
  pub none_before : front ≡ [] → made ≡ old
  pub at_crash : IsTrue (state old).honest → (state old).usable ≡ true → AddsOnly (crash_states old) (crash_states made) (RepresentsFront represents (state old).site front now)
  pub closed : IsTrue (state old).honest → (state old).usable ≡ false → AddsNone (crash_states old) (crash_states made)
  pub counts : CountsNothing (state old) (state made)

-- what a front of the changes leaves, a longer front may leave
longer : {L : Type 0} (represents : L → Site → Type 0) (old : Site) (front more : List FileChange) (now : ℕ) (c : L) → RepresentsFront represents old front now c → RepresentsFront represents old (front ++ more) now c
longer represents old front more now c r = record { front = r.front; rest = r.rest ++ more; site = r.site; parts = ap (λ l. l ++ more) r.parts ∙ append_assoc r.front r.rest more; applied = r.applied; stands = r.stands }

no_last : {A : Type 0} (front : List A) (x : A) → front ++ x ∷ [] ≡ [] → ⊥
no_last [] x is = cc
no_last (y ∷ front) x is = cc

both_tried : (a b c : SiteState) → HasTried a b → HasTried b c → HasTried a c
both_tried a b c first second = record { honest = second.honest ∙ first.honest; reads = omega (arith, first.reads, second.reads); writes = omega (arith, first.writes, second.writes); pins = second.pins ∙ first.pins }

pub starts : {S L : Type 0} (state : S → SiteState) (crash_states : S → CrashStates L) (represents : L → Site → Type 0) → ((k : S) (c : L) → IsTrue (state k).honest → (state k).usable ≡ true → may_crash_to (crash_states k) c → represents c (state k).site)
    → (k : S) (now : ℕ) → Between state crash_states represents k k [] now
starts state crash_states represents law k now = record {
  applied = λ honest. refl;
  usable = refl;
  tried = record { honest = refl; reads = omega arith; writes = omega arith; pins = refl };
  none_before = λ is. refl;
  at_crash = λ honest usable.
      adds_both (crash_states k) (crash_states k) (crash_states k) (may_crash_to (crash_states k)) (may_crash_to (crash_states k)) (RepresentsFront represents (state k).site [] now) (no_new_crash_state (crash_states k)) (no_new_crash_state (crash_states k))
      (λ c left. record { front = []; rest = []; site = (state k).site; parts = refl; applied = refl; stands = law k c honest usable left })
      (λ c left. record { front = []; rest = []; site = (state k).site; parts = refl; applied = refl; stands = law k c honest usable left });
  closed = λ honest usable. no_new_crash_state (crash_states k);
  counts = record { reads = refl; writes = refl };
}

-- what one change more may leave
either : {L : Type 0} (represents : L → Site → Type 0) (old made : Site) (front : List FileChange) (change : FileChange) (rest : List FileChange) (now : ℕ) → apply_all old front now ≡ Ok made → (c : L) → RepresentsEither represents made change now c → RepresentsFront represents old (front ++ change ∷ rest) now c
either represents old made front change rest now is c left =
    ⊎_elim
    (λ stands. record { front = front; rest = change ∷ rest; site = made; parts = refl; applied = is; stands = stands })
    (λ changed. record { front = front ++ change ∷ []; rest = rest; site = changed.0; parts = sym (append_assoc front (change ∷ []) rest); applied = apply_all_last old front change now made is ∙ changed.1; stands = changed.2 })
    left

module _ {S L : Type 0} (state : S → SiteState) (lacks : S → Changes → SiteFault → Type 0) (crash_states : S → CrashStates L) (represents : L → Site → Type 0) where
  honest_still : (old made : S) → HasTried (state old) (state made) → IsTrue (state old).honest → IsTrue (state made).honest
  honest_still old made tried honest = tried.honest ∙ honest

  -- what one change more, made or not, leaves at a crash
  pub crash_more : (old made new : S) (front : List FileChange) (change : FileChange) (rest : List FileChange) (now : ℕ) → Between state crash_states represents old made front now
      → (IsTrue (state made).honest → (state made).usable ≡ true → AddsOnly (crash_states made) (crash_states new) (RepresentsEither represents (state made).site change now))
      → IsTrue (state old).honest → (state old).usable ≡ true → AddsOnly (crash_states old) (crash_states new) (RepresentsFront represents (state old).site (front ++ change ∷ rest) now)
  crash_more old made new front change rest now so_far step honest usable =
      adds_both (crash_states old) (crash_states made) (crash_states new) (RepresentsFront represents (state old).site front now) (RepresentsEither represents (state made).site change now) (RepresentsFront represents (state old).site (front ++ change ∷ rest) now)
      (so_far.at_crash honest usable)
      (step (honest_still old made so_far.tried honest) (so_far.usable ∙ usable))
      (λ c left. longer represents (state old).site front (change ∷ rest) now c left)
      (λ c left. either represents (state old).site (state made).site front change rest now (so_far.applied honest) c left)

  -- what a change that was refused leaves at a crash
  pub crash_refused : (old made new : S) (front : List FileChange) (now : ℕ) → Between state crash_states represents old made front now → (IsTrue (state made).honest → AddsNone (crash_states made) (crash_states new))
      → IsTrue (state old).honest → (state old).usable ≡ true → AddsOnly (crash_states old) (crash_states new) (RepresentsFront represents (state old).site front now)
  crash_refused old made new front now so_far step honest usable =
      let before = so_far.at_crash honest usable in
      adds_both (crash_states old) (crash_states made) (crash_states new) (RepresentsFront represents (state old).site front now) (may_crash_to (crash_states made)) (RepresentsFront represents (state old).site front now)
      before (step (honest_still old made so_far.tried honest)) (λ c left. left) (λ c left. before.now c left)

  pub closed_more : (old made new : S) (front : List FileChange) (now : ℕ) → Between state crash_states represents old made front now
      → (IsTrue (state made).honest → (state made).usable ≡ false → AddsNone (crash_states made) (crash_states new))
      → IsTrue (state old).honest → (state old).usable ≡ false → AddsNone (crash_states old) (crash_states new)
  closed_more old made new front now so_far step honest usable = adds_none_again (crash_states old) (crash_states made) (crash_states new) (so_far.closed honest usable) (step (honest_still old made so_far.tried honest) (so_far.usable ∙ usable))

  pub goes_on : (old made new : S) (front : List FileChange) (change : FileChange) (now : ℕ) → Between state crash_states represents old made front now
      → (IsTrue (state made).honest → apply_one (state made).site change now ≡ Ok (state new).site)
      → (state new).usable ≡ (state made).usable
      → HasTried (state made) (state new)
      → (IsTrue (state made).honest → (state made).usable ≡ true → AddsOnly (crash_states made) (crash_states new) (RepresentsEither represents (state made).site change now))
      → (IsTrue (state made).honest → (state made).usable ≡ false → AddsNone (crash_states made) (crash_states new))
      → CountsNothing (state made) (state new)
      → Between state crash_states represents old new (front ++ change ∷ []) now
  goes_on old made new front change now so_far done usable tried at_crash closed counts = record {
    applied = λ honest. apply_all_last (state old).site front change now (state made).site (so_far.applied honest) ∙ done (honest_still old made so_far.tried honest);
    usable = usable ∙ so_far.usable;
    tried = both_tried (state old) (state made) (state new) so_far.tried tried;
    none_before = λ is. absurd (no_last front change is);
    at_crash = crash_more old made new front change [] now so_far at_crash;
    closed = closed_more old made new front now so_far closed;
    counts = record { reads = counts.reads ∙ so_far.counts.reads; writes = counts.writes ∙ so_far.counts.writes };
  }

  -- what the change counts that was not made, behind others that were
  pub counts_stop : (old made new : S) (front : List FileChange) (now : ℕ) (fault : SiteFault) → Between state crash_states represents old made front now → CountsFault fault (state made) (state new) → CountsFault fault (state old) (state new)
  counts_stop old made new front now fault so_far counts = record {
    reads = later fault so_far.tried.honest so_far.counts.reads counts.reads;
    writes = counts.writes ∙ ap (λ (u : Bool). writes_after u fault (state made).failed_writes) so_far.usable ∙ ap (writes_after (state old).usable fault) so_far.counts.writes;
  }
    where
      later : (fault : SiteFault) → (state made).honest ≡ (state old).honest → (state made).failed_reads ≡ (state old).failed_reads → IsReadCounted (state made).honest fault (state made).failed_reads (state new).failed_reads → IsReadCounted (state old).honest fault (state old).failed_reads (state new).failed_reads
      later (faults.Refused r) honest same is = is ∙ same
      later faults.Read honest same is = λ h. is (honest ∙ h) ∙ ap counted same
      later (faults.Full need free) honest same is = is ∙ same
      later faults.Spent honest same is = is ∙ same
      later faults.Deep honest same is = is ∙ same
      later faults.Failed honest same is = is ∙ same
      later faults.Memory honest same is = is ∙ same

  keeps : (change : FileChange) (now : ℕ) (made new : S) (fault : SiteFault) → IsStop state lacks change now made new fault → IsTrue (state made).honest → (state new).site ≡ (state made).site
  keeps (Change change) now made new (faults.Refused r) stop honest = stop.0.0.site honest
  keeps (Change change) now made new faults.Read stop honest = stop.0.0.site honest
  keeps (Change change) now made new (faults.Full need free) stop honest = stop.0.0.site honest
  keeps (Change change) now made new faults.Spent stop honest = stop.0.0.site honest
  keeps (Change change) now made new faults.Deep stop honest = stop.0.0.site honest
  keeps (Change change) now made new faults.Failed stop honest = stop.0.site honest
  keeps (Change change) now made new faults.Memory stop honest = stop.0.site honest
  keeps (Refused refused) now made new fault stop honest = ap (λ (k : S). (state k).site) stop.1

  pub stopped : (old made new : S) (changes front : List FileChange) (change : FileChange) (rest : List FileChange) (now number : ℕ) (fault : SiteFault) → changes ≡ front ++ change ∷ rest → number ≡ length front + 1
      → Between state crash_states represents old made front now → IsStop state lacks change now made new fault → IsStopped state lacks old new changes now number fault
  stopped old made new changes front change rest now number fault parts is so_far stop = record {
    front = front;
    change = change;
    rest = rest;
    made = made;
    parts = parts;
    number_is = is;
    applied = so_far.applied;
    usable = so_far.usable;
    tried = so_far.tried;
    none_before = so_far.none_before;
    stop = stop;
  }

  pub earlier_stay : (old new : S) (changes : List FileChange) (now number : ℕ) (fault : SiteFault) → IsStopped state lacks old new changes now number fault → IsTrue (state old).honest → apply_all (state old).site (take (number - 1) changes) now ≡ Ok (state new).site
  earlier_stay old new changes now number fault is honest =
      let place : number - 1 ≡ length is.front = omega (arith, is.number_is) in
      let cut : take (number - 1) changes ≡ is.front = ap (take (number - 1)) is.parts ∙ take_front is.front (is.change ∷ is.rest) (number - 1) place in
      ap (λ (l : List FileChange). apply_all (state old).site l now) cut ∙ is.applied honest ∙ ap (λ (s : Site). Ok s) (sym (keeps is.change now is.made new fault is.stop (honest_still old is.made is.tried honest)))

-- a refused name counts nothing
pub refused_counts : (refused : Refusal) (k : SiteState) → CountsFault (faults.Refused refused) k k
refused_counts refused k = record { reads = refl; writes = none k.usable }
  where
    none : (usable : Bool) → k.failed_writes ≡ writes_after usable (faults.Refused refused) k.failed_writes
    none true = refl
    none false = refl

-- one more change is seen
seen_more : (before : List (ℕ × ℕ)) (n number count m : ℕ) → number ≡ n + 1 → m ≡ n + 1 → (before ++ numbered n count) ++ (number, count) ∷ [] ≡ before ++ numbered m count
seen_more before n number count zero e l = absurd (omega (arith, l))
seen_more before n number count (suc m) e l =
    let so_far : n ≡ m = omega (arith, l) in
    let last : number ≡ suc m = omega (arith, e, l) in
    append_assoc before (numbered n count) ((number, count) ∷ [])
    ∙ ap (λ (x : ℕ). before ++ (numbered x count ++ (number, count) ∷ [])) so_far
    ∙ ap (λ (x : ℕ). before ++ (numbered m count ++ (x, count) ∷ [])) last

pub seen_on : (before so_far new : List (ℕ × ℕ)) (n number count m : ℕ) → so_far ≡ before ++ numbered n count → new ≡ so_far ++ (number, count) ∷ [] → number ≡ n + 1 → m ≡ n + 1 → new ≡ before ++ numbered m count
seen_on before so_far new n number count m is more e l = more ∙ ap (λ (x : List (ℕ × ℕ)). x ++ (number, count) ∷ []) is ∙ seen_more before n number count m e l
