-- Rounds that go on, and how they end.
use Rattle.std.proofs.Common.{◌≡◌, ℕ, ◌+◌, ◌-◌, ◌^◌, ◌<◌, ◌≤◌, min, Bool, true, List, [], ◌++◌, Result, Ok, Err, length, map, sym, ap, subst, ◌∙◌, append_assoc, arith}
use Rattle.std.proofs.lemmas.List.{append-nil}
use Rattle.std.specs.Prelude.{filter}
use Rattle.std.specs.Result.{IsErrAnd}
use Rattle.group_world.specs.declared.event.Event.{Event}
use Rattle.group_world.specs.declared.event.Outcome.{Outcome}
use Rattle.turns.specs.Runs.{HasRun}
use Rattle.turns.specs.Turns.{Serves, is_served}
use Rattle.turns.specs.declared.connection.Connection.{Connection}
use Rattle.socket_wires.specs.Rounds.{IsFresh, Round, Rounds, none, more, IsServing, EndsRounds}
use Rattle.socket_wires.specs.Taking.{had, TooFewCame}
use Rattle.socket_wires.specs.declared.gate.Taken.{Taken}
use Rattle.socket_wires.specs.declared.serving.ServeFault.{ServeFault}
use Rattle.socket_wires.specs.declared.serving.ServeFault.TheVariants.{Net, Memory, Failed}
use Rattle.socket_wires.specs.declared.socket_wire.SocketWire.{SocketWire}
use Rattle.socket_wires.proofs.TakenOnes.{WasShort}

pub round_made : (together before after count : ℕ) (items old new : List (Connection SocketWire)) (taken : List Taken) (es : List Event) (os : List Outcome) → IsFresh together items → taken ≡ map had items → old ≡ items → Serves (λ (wire : SocketWire). wire.made.calls) old es os new → count ≡ length (filter (λ c. is_served c.stage) new) → after ≡ min (before + count) (2 ^ 64 - 1) → Round together before taken es os after
round_made together before after count items old new taken es os fresh took is serves counts adds = record {
  old = old;
  new = new;
  fresh = subst (IsFresh together) (sym is) fresh;
  taken_are = took ∙ ap (map had) (sym is);
  serves = serves;
  counted = adds ∙ ap (λ n. min (before + n) (2 ^ 64 - 1)) counts;
}

-- the events of a run are those by which it ran
pub run_with : {H : Type 0} (ran : H → List Event → List Outcome → H → Type 0) (old new : H) (t u : List ℕ) (P : List Event → List Outcome → Type 0) → HasRun ran old new t u P → HasRun ran old new t u (λ es os. ran old es os new × P es os)
run_with ran old new t u P r = record { events = r.events; outcomes = r.outcomes; led = r.led; moments_are = r.moments_are; holds = (r.led, r.holds) }

module _ {H : Type 0} (ran : H → List Event → List Outcome → H → Type 0) (usable : H → Bool) (together : ℕ) where
  -- So many rounds were made of these connections.
  pub record HasMadeRounds (made : ℕ) (before now : List Taken) (old : H) (es : List Event) (os : List Outcome) (new : H) (count : ℕ) : Type 0 where
    pub taken : List Taken
    pub taken_are : now ≡ before ++ taken
    pub are : Rounds ran usable together made old taken es os new count

  pub none_made : (taken : List Taken) (hub : H) → HasMadeRounds 0 taken taken hub [] [] hub 0
  none_made taken hub = record { taken = []; taken_are = sym (append-nil taken); are = none hub }

  pub one_more : (made count after : ℕ) (before now later us : List Taken) (old mid new : H) (es fs : List Event) (os ps : List Outcome) → HasMadeRounds made before now old es os mid count → later ≡ now ++ us → usable mid ≡ true → ran mid fs ps new → Round together count us fs ps after → HasMadeRounds (made + 1) before later old (es ++ fs) (os ++ ps) new after
  one_more made count after before now later us old mid new es fs os ps so_far took was ran_then is = record {
    taken = so_far.taken ++ us;
    taken_are = took ∙ ap (λ l. l ++ us) so_far.taken_are ∙ append_assoc before so_far.taken us;
    are = more made count after old mid new so_far.taken us es fs os ps so_far.are was ran_then is;
  }

  -- no more were made, behind which this was taken
  pub ended : (rounds made count : ℕ) (result : Result ℕ ServeFault) (before now later rest : List Taken) (old new : H) (es : List Event) (os : List Outcome) → made ≤ rounds → HasMadeRounds made before now old es os new count → later ≡ now ++ rest → EndsRounds result (usable new) together made rounds count rest → IsServing ran usable together rounds result before later old es os new
  ended rounds made count result before now later rest old new es os few so_far took ends = record {
    made = made;
    count = count;
    taken = so_far.taken;
    rest = rest;
    few = few;
    are = so_far.are;
    taken_are = took ∙ ap (λ l. l ++ rest) so_far.taken_are ∙ append_assoc before so_far.taken rest;
    ends = ends;
  }

  short : (made rounds count : ℕ) (fault : ServeFault) (is_usable : Bool) (rest : List Taken) → made < rounds → is_usable ≡ true → TooFewCame together fault rest → EndsRounds (Err fault) is_usable together made rounds count rest
  short made rounds count Net is_usable rest few was is = (was, few, is)
  short made rounds count Memory is_usable rest few was is = (was, few, is)
  short made rounds count Failed is_usable rest few was is = absurd is

  -- the next connections were not had
  pub not_accepted : (rounds made count : ℕ) (result : Result ℕ ServeFault) (fault : ServeFault) (before now later : List Taken) (old new : H) (es : List Event) (os : List Outcome) → IsErrAnd result (λ e. e ≡ fault) → WasShort together now later fault → made < rounds → usable new ≡ true → HasMadeRounds made before now old es os new count → IsServing ran usable together rounds result before later old es os new
  not_accepted rounds made count (Ok served) fault before now later old new es os is was_short few was so_far = absurd is
  not_accepted rounds made count (Err e) fault before now later old new es os is was_short few was so_far =
      ended rounds made count (Err e) before now later was_short.0 old new es os (omega (arith, few)) so_far was_short.1 (subst (λ f. EndsRounds (Err f) (usable new) together made rounds count was_short.0) (sym is) (short made rounds count fault (usable new) was_short.0 few was was_short.2))
