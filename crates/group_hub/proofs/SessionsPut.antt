-- Sessions that are put into their next phases, one after another.
use Rattle.std.proofs.Common.{◌≡◌, ℕ, zero, suc, ◌+◌, ◌<◌, ◌≤◌, true, List, [], ◌∷◌, ◌++◌, length, get_or, set, take, drop, remove, refl, ap, sym, ◌∙◌, arith, subst, append_assoc, length-append}
use Rattle.std.specs.Prelude.{Option, Some, None, IsTrue, IfSome}
use Rattle.std.proofs.lemmas.List.{set-get_or, append-nil, length-map, take-append-le, take_all}
use Rattle.host_types.specs.SiteState.{SiteState}
use Rattle.host_types.specs.Pins.{Pinned, is_out}
use Rattle.group_world.specs.World as world
use Rattle.group_world.specs.World.{one_waiting, count_waiting}
use Rattle.group_hub.specs.Flushing.{next_pin, next_pins, put_phase, given_back, IsNextSound, AreNextSound, IsForWaiting, AreForWaiting, put_one, put_sessions, StandsBeside}
use Rattle.group_hub.specs.HeldPins.{times, count_numbered, listed, HoldsAll, HoldsBeside, MovesPins}
use Rattle.group_hub.specs.Sessions.{phase_of, session_of, sessions_of, pin_of, pins_of, is_waiting, IsSound, AreSound}
use Rattle.group_hub.specs.declared.next.Next.{Next}
use Rattle.group_hub.specs.declared.next.Next.TheVariants as nexts
use Rattle.group_hub.specs.declared.next.Putting.{Putting}
use Rattle.group_hub.specs.declared.next.Putting.TheVariants as puttings
use Rattle.group_hub.specs.declared.session.Session.{Session}
use Rattle.group_hub.specs.declared.session.Phase.{Phase}
use Rattle.group_hub.specs.declared.session.Phase.TheVariants as phases
use Rattle.group_hub.proofs.PinsMoved.{EachIs, each_on, others_are_apart, held_is_out}
use Rattle.group_hub.proofs.SessionsMoved.{SamePins, times_both, count_both, holds_same, parted, parted_set, Same, seen_same, sound_same, front_of, all_seen}

each_both : (P Q R : Pinned → Type 0) (pins : List Pinned) → ((pin : Pinned) → P pin → Q pin → R pin) → EachIs P pins → EachIs Q pins → EachIs R pins
each_both P Q R [] both all more = tt
each_both P Q R (pin ∷ pins) both all more = (both pin all.0 more.0, each_both P Q R pins both all.1 more.1)

each_is : (P : Pinned → Type 0) (pins : List Pinned) → ((pin : Pinned) → P pin) → EachIs P pins
each_is P [] all = tt
each_is P (pin ∷ pins) all = (all pin, each_is P pins all)

-- what stands in a vector once its items are written back
pub written_back : {A : Type 0} (old new : List A) (len : ℕ) → length new ≡ len → take len (new ++ drop (length new) old) ≡ new
written_back old new len is = take-append-le len new (drop (length new) old) (omega (arith, is)) ∙ take_all len new (omega (arith, is))

module _ {P : Type 0} (pinned : P → Pinned) where
  -- ---- a phase that waits has no pin

  pub none_waits : (phase : Phase P) → is_waiting phase ≡ true → pin_of pinned phase ≡ None
  none_waits (phases.Hearing s) waits = refl
  none_waits (phases.Waiting w) waits = refl
  none_waits (phases.Replying r) waits = refl
  none_waits (phases.Drawing d) waits = absurd (cc waits)
  none_waits phases.Drawn waits = refl
  none_waits phases.Early waits = refl

  none_waiting : (h : SiteState) (phase : Phase P) → (is_waiting phase ≡ true → ⊥) → one_waiting (phase_of pinned h phase) ≡ 0
  none_waiting h (phases.Hearing s) never = refl
  none_waiting h (phases.Waiting w) never = absurd (never refl)
  none_waiting h (phases.Replying r) never = refl
  none_waiting h (phases.Drawing d) never = refl
  none_waiting h phases.Drawn never = refl
  none_waiting h phases.Early never = refl

  -- ---- a session at a place

  pub seen_with : (h : SiteState) (items : List (Session P)) (i : ℕ) (y : Session P) → sessions_of pinned h (set items i y) ≡ set (sessions_of pinned h items) i (session_of pinned h y)
  seen_with h [] i y = refl
  seen_with h (s ∷ ss) zero y = refl
  seen_with h (s ∷ ss) (suc i) y = ap (λ (rest : List (ℕ × world.Phase)). session_of pinned h s ∷ rest) (seen_with h ss i y)

  pub seen_at : (h : SiteState) (items : List (Session P)) (i : ℕ) (x : Session P) → i < length items → x ≡ get_or items i x → session_of pinned h x ≡ get_or (sessions_of pinned h items) i (session_of pinned h x)
  seen_at h [] i x within read = absurd (omega (arith, within))
  seen_at h (s ∷ ss) zero x within read = ap (session_of pinned h) read
  seen_at h (s ∷ ss) (suc i) x within read = seen_at h ss i x (omega (arith, within)) read

  pub sound_with : (h : SiteState) (items : List (Session P)) (i : ℕ) (y : Session P) → AreSound pinned h items → IsSound pinned h y.phase → AreSound pinned h (set items i y)
  sound_with h [] i y all own = tt
  sound_with h (s ∷ ss) zero y all own = (own, all.1)
  sound_with h (s ∷ ss) (suc i) y all own = (all.0, sound_with h ss i y all.1 own)

  pub same_with : (items : List (Session P)) (i : ℕ) (x : Session P) → x ≡ get_or items i x → set items i x ≡ items
  same_with items i x read = ap (λ (y : Session P). set items i y) read ∙ set-get_or items i x

  -- ---- what is to be put at a place

  waiting_at : (items : List (Session P)) (i j : ℕ) (x : Session P) (n : Next P) (ns : List (Next P)) → j ≡ i + 1 → i < length items → x ≡ get_or items i x → AreForWaiting (drop i items) (n ∷ ns) → IsForWaiting x.phase n × AreForWaiting (drop j items) ns
  waiting_at [] i j x n ns next within read all = absurd (omega (arith, within))
  waiting_at (s ∷ ss) zero zero x n ns next within read all = absurd (omega (arith, next))
  waiting_at (s ∷ ss) zero (suc j) x n ns next within read all =
      let zero_is : zero ≡ j = omega (arith, next) in
      (subst (λ (y : Session P). IsForWaiting y.phase n) (sym read) all.0, subst (λ (k : ℕ). AreForWaiting (drop k ss) ns) zero_is all.1)
  waiting_at (s ∷ ss) (suc i) zero x n ns next within read all = absurd (omega (arith, next))
  waiting_at (s ∷ ss) (suc i) (suc j) x n ns next within read all = waiting_at ss i j x n ns (omega (arith, next)) (omega (arith, within)) read all

  drop_behind : (items : List (Session P)) (i j : ℕ) (y : Session P) → i < j → drop j (set items i y) ≡ drop j items
  drop_behind items i zero y less = absurd (omega (arith, less))
  drop_behind [] i (suc j) y less = refl
  drop_behind (s ∷ ss) zero (suc j) y less = refl
  drop_behind (s ∷ ss) (suc i) (suc j) y less = drop_behind ss i j y (omega (arith, less))

  pub some_left : (items : List (Session P)) (i : ℕ) (ns : List (Next P)) → i < length items → AreForWaiting (drop i items) ns → 0 < length ns
  some_left [] i ns within all = absurd (omega (arith, within))
  some_left (s ∷ ss) zero [] within all = absurd all
  some_left (s ∷ ss) zero (n ∷ ns) within all = omega arith
  some_left (s ∷ ss) (suc i) ns within all = some_left ss i ns (omega (arith, within)) all

  pub none_left : (items : List (Session P)) (i : ℕ) (ns : List (Next P)) → i ≡ length items → AreForWaiting (drop i items) ns → ns ≡ []
  none_left [] zero [] done all = refl
  none_left [] zero (n ∷ ns) done all = absurd all
  none_left [] (suc i) [] done all = refl
  none_left [] (suc i) (n ∷ ns) done all = absurd all
  none_left (s ∷ ss) zero ns done all = absurd (omega (arith, done))
  none_left (s ∷ ss) (suc i) ns done all = none_left ss i ns (omega (arith, done)) all

  -- ---- what the world sees of it

  put_none : (putting : Putting) (h : SiteState) (xs : List (ℕ × world.Phase)) → put_sessions putting pinned h xs [] ≡ xs
  put_none putting h [] = refl
  put_none putting h (x ∷ xs) = refl

  put_more : (putting : Putting) (h : SiteState) (xs : List (ℕ × world.Phase)) (front : List (Next P)) (i : ℕ) (n : Next P) (z : ℕ × world.Phase) → i ≡ length front → i < length (put_sessions putting pinned h xs front) → z ≡ get_or (put_sessions putting pinned h xs front) i z
      → put_sessions putting pinned h xs (front ++ n ∷ []) ≡ set (put_sessions putting pinned h xs front) i (z.0, put_one putting pinned h z.1 n)
  put_more putting h [] front i n z counted within read = absurd (omega (arith, within))
  put_more putting h (x ∷ xs) [] zero n z counted within read =
      ap (λ (rest : List (ℕ × world.Phase)). (x.0, put_one putting pinned h x.1 n) ∷ rest) (put_none putting h xs) ∙ ap (λ (y : ℕ × world.Phase). (y.0, put_one putting pinned h y.1 n) ∷ xs) (sym read)
  put_more putting h (x ∷ xs) [] (suc i) n z counted within read = absurd (omega (arith, counted))
  put_more putting h (x ∷ xs) (m ∷ front) zero n z counted within read = absurd (omega (arith, counted))
  put_more putting h (x ∷ xs) (m ∷ front) (suc i) n z counted within read =
      ap (λ (rest : List (ℕ × world.Phase)). (x.0, put_one putting pinned h x.1 m) ∷ rest) (put_more putting h xs front i n z (omega (arith, counted)) (omega (arith, within)) read)

  -- ---- so far

  -- So many sessions are put, those behind them are as before, and what is held is theirs and what is left of the next phases'.
  pub record IsPutSo (putting : Putting) (old now : SiteState) (first : List (Session P)) (all rest : List (Next P)) (items : List (Session P)) (i : ℕ) : Type 0 where
    pub front : List (Next P)
    pub parts : all ≡ front ++ rest
    pub counted : i ≡ length front
    pub waiting : AreForWaiting (drop i items) rest
    pub held : HoldsAll now (next_pins pinned rest ++ pins_of pinned items)
    pub stay : EachIs (Same pinned old now) (next_pins pinned rest)
    pub sessions : sessions_of pinned now items ≡ put_sessions putting pinned old (sessions_of pinned old first) front
    pub sound : AreNextSound pinned old all → AreNextSound pinned old rest × (AreSound pinned old first → AreSound pinned now items)

  pub put_nothing : (putting : Putting) (h : SiteState) (items : List (Session P)) (ns : List (Next P)) → AreForWaiting items ns → HoldsAll h (next_pins pinned ns ++ pins_of pinned items) → IsPutSo putting h h items ns ns items 0
  put_nothing putting h items ns waiting holds = record {
    front = [];
    parts = refl;
    counted = refl;
    waiting = waiting;
    held = holds;
    stay = each_is (Same pinned h h) (next_pins pinned ns) (λ pin. refl);
    sessions = sym (put_none putting h (sessions_of pinned h items));
    sound = λ all. (all, λ sound. sound);
  }

  -- ---- one session more

  module _ (putting : Putting) (old now : SiteState) (first : List (Session P)) (all ns : List (Next P)) (n : Next P) (items : List (Session P)) (i : ℕ) (x : Session P) (within : i < length items) (read : x ≡ get_or items i x) where
    abbrev Before : Type 0
    Before = IsPutSo putting old now first all (n ∷ ns) items i

    abbrev After : SiteState → List (Session P) → Type 0
    After then changed = IsPutSo putting old then first all ns changed (i + 1)

    more_front : (so : Before) → all ≡ (so.front ++ n ∷ []) ++ ns
    more_front so = so.parts ∙ sym (append_assoc so.front (n ∷ []) ns)

    more_counted : (so : Before) → i + 1 ≡ length (so.front ++ n ∷ [])
    more_counted so = omega (arith, so.counted, length-append so.front (n ∷ []))

    seen_within : i < length (sessions_of pinned now items)
    seen_within = omega (arith, within, length-map items (session_of pinned now))

    -- what is seen then, as what is put
    more_sessions : (so : Before) → put_sessions putting pinned old (sessions_of pinned old first) (so.front ++ n ∷ []) ≡ set (sessions_of pinned now items) i (x.id, put_one putting pinned old (phase_of pinned now x.phase) n)
    more_sessions so =
        let z = session_of pinned now x in
        let here : z ≡ get_or (sessions_of pinned now items) i z = seen_at now items i x within read in
        put_more putting old (sessions_of pinned old first) so.front i n z so.counted (subst (λ (l : List (ℕ × world.Phase)). i < length l) so.sessions seen_within) (subst (λ (l : List (ℕ × world.Phase)). z ≡ get_or l i z) so.sessions here)
        ∙ ap (λ (l : List (ℕ × world.Phase)). set l i (x.id, put_one putting pinned old (phase_of pinned now x.phase) n)) (sym so.sessions)

    parts_stay : (so : Before) → EachIs (Same pinned old now) (listed (next_pin pinned n)) × EachIs (Same pinned old now) (next_pins pinned ns)
    parts_stay so = front_of pinned (Same pinned old now) (listed (next_pin pinned n)) (next_pins pinned ns) so.stay

    -- a session stays as it is, and no pin goes
    pub stays_put : next_pin pinned n ≡ None → put_one putting pinned old (phase_of pinned now x.phase) n ≡ phase_of pinned now x.phase → Before → After now items
    stays_put none same so = record {
      front = so.front ++ n ∷ [];
      parts = more_front so;
      counted = more_counted so;
      waiting = (waiting_at items i (i + 1) x n ns refl within read so.waiting).1;
      held = subst (λ (p : Option Pinned). HoldsAll now ((listed p ++ next_pins pinned ns) ++ pins_of pinned items)) none so.held;
      stay = (parts_stay so).1;
      sessions = sym (more_sessions so ∙ ap (λ (p : world.Phase). set (sessions_of pinned now items) i (x.id, p)) same ∙ sym (seen_with now items i x) ∙ ap (sessions_of pinned now) (same_with items i x read));
      sound = λ sound. (let before = so.sound sound in (before.0.1, before.1));
    }

    -- a session is in another phase, whose pin was held beside the sessions'
    pub goes_put : (y : Session P) → y.id ≡ x.id → next_pin pinned n ≡ pin_of pinned y.phase → (IsNextSound pinned old n → IsSound pinned old y.phase) → put_one putting pinned old (phase_of pinned now x.phase) n ≡ phase_of pinned old y.phase → pin_of pinned x.phase ≡ None
        → Before → After now (set items i y)
    goes_put y same own sound_by seen none so =
        let stay = parts_stay so in
        let mine : EachIs (Same pinned old now) (listed (pin_of pinned y.phase)) = subst (λ (p : Option Pinned). EachIs (Same pinned old now) (listed p)) own stay.0 in
        record {
          front = so.front ++ n ∷ [];
          parts = more_front so;
          counted = more_counted so;
          waiting = subst (λ (l : List (Session P)). AreForWaiting l ns) (sym (drop_behind items i (i + 1) y (omega arith))) (waiting_at items i (i + 1) x n ns refl within read so.waiting).1;
          held = holds_same now _ _ moved so.held;
          stay = stay.1;
          sessions = seen_with now items i y ∙ ap (λ (z : ℕ × world.Phase). set (sessions_of pinned now items) i z) (ap (λ (k : ℕ). (k, phase_of pinned now y.phase)) same ∙ ap (λ (p : world.Phase). (x.id, p)) (seen_same pinned old now y.phase mine ∙ sym seen)) ∙ sym (more_sessions so);
          sound = λ sound. (let before = so.sound sound in (before.0.1, λ sessions. sound_with now items i y (before.1 sessions) (sound_same pinned old now y.phase mine (sound_by before.0.0))));
        }
      where
        moved : SamePins ((listed (next_pin pinned n) ++ next_pins pinned ns) ++ pins_of pinned items) (next_pins pinned ns ++ pins_of pinned (set items i y))
        moved =
            let mine = listed (next_pin pinned n) in
            let rest = next_pins pinned ns in
            let gone = parted pinned items i x within read in
            let come = parted_set pinned items i y within in
            let others = pins_of pinned (remove items i) in
            let none_there : listed (pin_of pinned x.phase) ≡ [] = ap listed none in
            let same_there : listed (pin_of pinned y.phase) ≡ mine = ap listed (sym own) in
            record {
              times = λ k. (
                  let away : times k (pins_of pinned items) ≡ times k others = gone.times k ∙ ap (λ (l : List Pinned). times k (l ++ others)) none_there in
                  let here : times k (pins_of pinned (set items i y)) ≡ times k (mine ++ others) = come.times k ∙ ap (λ (l : List Pinned). times k (l ++ others)) same_there in
                  omega (arith, away, here, times_both k (mine ++ rest) (pins_of pinned items), times_both k mine rest, times_both k rest (pins_of pinned (set items i y)), times_both k mine others));
              count =
                  let away : count_numbered (pins_of pinned items) ≡ count_numbered others = gone.count ∙ ap (λ (l : List Pinned). count_numbered (l ++ others)) none_there in
                  let here : count_numbered (pins_of pinned (set items i y)) ≡ count_numbered (mine ++ others) = come.count ∙ ap (λ (l : List Pinned). count_numbered (l ++ others)) same_there in
                  omega (arith, away, here, count_both (mine ++ rest) (pins_of pinned items), count_both mine rest, count_both rest (pins_of pinned (set items i y)), count_both mine others);
            }

    -- a session stays as it is, and the pin that was taken for it is given back
    pub gives_back : (then : SiteState) → MovesPins now then (next_pin pinned n) None → put_one putting pinned old (phase_of pinned now x.phase) n ≡ phase_of pinned now x.phase → Before → After then items
    gives_back then moves same so =
        let mine = listed (next_pin pinned n) in
        let rest = next_pins pinned ns in
        let pins = pins_of pinned items in
        let holds : HoldsAll now (mine ++ (rest ++ pins)) = subst (HoldsAll now) (append_assoc mine rest pins) so.held in
        let still : EachIs (Same pinned now then) (rest ++ pins) = each_on _ (Same pinned now then) (rest ++ pins) (λ pin out. moves.stay pin out.0 out.1) (others_are_apart now (next_pin pinned n) (rest ++ pins) holds) in
        let both = front_of pinned (Same pinned now then) rest pins still in
        let seen = all_seen pinned now then items both.1 in
        record {
          front = so.front ++ n ∷ [];
          parts = more_front so;
          counted = more_counted so;
          waiting = (waiting_at items i (i + 1) x n ns refl within read so.waiting).1;
          held = moves.all (rest ++ pins) holds;
          stay = each_both (Same pinned old now) (Same pinned now then) (Same pinned old then) rest (λ pin first second. second ∙ first) (parts_stay so).1 both.0;
          sessions = seen.0 ∙ sym (more_sessions so ∙ ap (λ (p : world.Phase). set (sessions_of pinned now items) i (x.id, p)) same ∙ sym (seen_with now items i x) ∙ ap (sessions_of pinned now) (same_with items i x read));
          sound = λ sound. (let before = so.sound sound in (before.0.1, λ sessions. seen.1 (before.1 sessions)));
        }

  -- ---- one turn, by what is next

  module _ (putting : Putting) (old now : SiteState) (first : List (Session P)) (all rest ns : List (Next P)) (n : Next P) (items : List (Session P)) (i : ℕ) (x : Session P) (within : i < length items) (read : x ≡ get_or items i x) (next : rest ≡ n ∷ ns) where
    abbrev So : Type 0
    So = IsPutSo putting old now first all rest items i

    opened : (m : Next P) → n ≡ m → So → IsPutSo putting old now first all (m ∷ ns) items i
    opened m is so = subst (λ (l : List (Next P)). IsPutSo putting old now first all l items i) (next ∙ ap (λ (y : Next P). y ∷ ns) is) so

    waits_for : (m : Next P) → n ≡ m → So → IsForWaiting x.phase m
    waits_for m is so = (waiting_at items i (i + 1) x m ns refl within read (opened m is so).waiting).0

    replied_out : (p : Phase P) → n ≡ nexts.Replied p → So → IfSome (pin_of pinned p) (λ pin. IsTrue (is_out now pin))
    replied_out p is so = by (pin_of pinned p) (opened (nexts.Replied p) is so).held
      where
        by : (o : Option Pinned) → HoldsAll now ((listed o ++ next_pins pinned ns) ++ pins_of pinned items) → IfSome o (λ pin. IsTrue (is_out now pin))
        by None holds = tt
        by (Some pin) holds = held_is_out now pin (next_pins pinned ns ++ pins_of pinned items) holds

    -- what a turn asks
    pub turn_waits : So → IsForWaiting x.phase n
    turn_waits so = waits_for n refl so

    pub turn_out : So → IfSome (given_back pinned putting n) (λ pin. IsTrue (is_out now pin))
    turn_out so = by putting n refl
      where
        by : (q : Putting) (m : Next P) → n ≡ m → IfSome (given_back pinned q m) (λ pin. IsTrue (is_out now pin))
        by q nexts.Stays is = tt
        by q (nexts.Gone p) is = tt
        by puttings.All (nexts.Replied p) is = tt
        by puttings.Gone (nexts.Replied p) is = replied_out p is so

    -- and what it comes to
    pub turn : (then : SiteState) (y : Session P) → y.id ≡ x.id → y.phase ≡ put_phase putting x.phase n → MovesPins now then (given_back pinned putting n) None → (given_back pinned putting n ≡ None → then ≡ now) → So → IsPutSo putting old then first all ns (set items i y) (i + 1)
    turn then y number phase moves still so = by putting n refl refl
      where
        as_before : y.phase ≡ x.phase → IsPutSo putting old then first all ns items (i + 1) → IsPutSo putting old then first all ns (set items i y) (i + 1)
        as_before stays after = subst (λ (l : List (Session P)). IsPutSo putting old then first all ns l (i + 1)) (sym (ap (λ (k : ℕ). set items i (record { id = k; phase = y.phase })) number ∙ ap (λ (p : Phase P). set items i (record { id = x.id; phase = p })) stays ∙ same_with items i x read)) after

        at_once : then ≡ now → IsPutSo putting old now first all ns (set items i y) (i + 1) → IsPutSo putting old then first all ns (set items i y) (i + 1)
        at_once same after = subst (λ (h : SiteState). IsPutSo putting old h first all ns (set items i y) (i + 1)) (sym same) after

        put_as : (m : Next P) → n ≡ m → next_pin pinned m ≡ pin_of pinned y.phase → (IsNextSound pinned old m → IsSound pinned old y.phase) → put_one putting pinned old (phase_of pinned now x.phase) m ≡ phase_of pinned old y.phase → is_waiting x.phase ≡ true → then ≡ now → IsPutSo putting old then first all ns (set items i y) (i + 1)
        put_as m is own sound seen waits same = at_once same (goes_put putting old now first all ns m items i x within read y number own sound seen (none_waits x.phase waits) (opened m is so))

        is_put : (q : Putting) (m : Next P) → putting ≡ q → n ≡ m → y.phase ≡ put_phase q x.phase m
        is_put q m q_is is = phase ∙ ap (λ (p : Putting). put_phase p x.phase n) q_is ∙ ap (put_phase q x.phase) is

        gone : (q : Putting) (m : Next P) → putting ≡ q → n ≡ m → given_back pinned putting n ≡ given_back pinned q m
        gone q m q_is is = ap (λ (p : Putting). given_back pinned p n) q_is ∙ ap (given_back pinned q) is

        put_gone : (q : Putting) (p : Phase P) → put_one q pinned old (phase_of pinned now x.phase) (nexts.Gone p) ≡ phase_of pinned old p
        put_gone puttings.All p = refl
        put_gone puttings.Gone p = refl

        by : (q : Putting) (m : Next P) → putting ≡ q → n ≡ m → IsPutSo putting old then first all ns (set items i y) (i + 1)
        by q nexts.Stays q_is is = as_before (is_put q nexts.Stays q_is is) (subst (λ (h : SiteState). IsPutSo putting old h first all ns items (i + 1)) (sym (still (gone q nexts.Stays q_is is))) (stays_put putting old now first all ns nexts.Stays items i x within read refl refl (opened nexts.Stays is so)))
        by q (nexts.Gone p) q_is is =
            let own : y.phase ≡ p = is_put q (nexts.Gone p) q_is is in
            put_as (nexts.Gone p) is (ap (pin_of pinned) (sym own)) (λ sound. subst (IsSound pinned old) (sym own) sound) (put_gone putting p ∙ ap (phase_of pinned old) (sym own)) (waits_for (nexts.Gone p) is so).0 (still (gone q (nexts.Gone p) q_is is))
        by puttings.All (nexts.Replied p) q_is is =
            let own : y.phase ≡ p = is_put puttings.All (nexts.Replied p) q_is is in
            put_as (nexts.Replied p) is (ap (pin_of pinned) (sym own)) (λ sound. subst (IsSound pinned old) (sym own) sound) (ap (λ (q : Putting). put_one q pinned old (phase_of pinned now x.phase) (nexts.Replied p)) q_is ∙ ap (phase_of pinned old) (sym own)) (waits_for (nexts.Replied p) is so).0 (still (gone puttings.All (nexts.Replied p) q_is is))
        by puttings.Gone (nexts.Replied p) q_is is =
            as_before (is_put puttings.Gone (nexts.Replied p) q_is is)
            (gives_back putting old now first all ns (nexts.Replied p) items i x within read then (subst (λ (o : Option Pinned). MovesPins now then o None) (gone puttings.Gone (nexts.Replied p) q_is is) moves) (ap (λ (q : Putting). put_one q pinned old (phase_of pinned now x.phase) (nexts.Replied p)) q_is) (opened (nexts.Replied p) is so))

  -- ---- no more posts wait

  one_fewer : (putting : Putting) (h : SiteState) (phase : Phase P) (n : Next P) → IsForWaiting phase n → one_waiting (put_one putting pinned h (phase_of pinned h phase) n) ≤ one_waiting (phase_of pinned h phase)
  one_fewer putting h phase nexts.Stays for = omega arith
  one_fewer puttings.All h phase (nexts.Gone p) for = omega (arith, none_waiting h p for.1)
  one_fewer puttings.All h phase (nexts.Replied p) for = omega (arith, none_waiting h p for.1)
  one_fewer puttings.Gone h phase (nexts.Gone p) for = omega (arith, none_waiting h p for.1)
  one_fewer puttings.Gone h phase (nexts.Replied p) for = omega arith

  put_fewer : (putting : Putting) (h : SiteState) (items : List (Session P)) (ns : List (Next P)) → AreForWaiting items ns → count_waiting (put_sessions putting pinned h (sessions_of pinned h items) ns) ≤ count_waiting (sessions_of pinned h items)
  put_fewer putting h [] ns for = omega arith
  put_fewer putting h (s ∷ ss) [] for = omega arith
  put_fewer putting h (s ∷ ss) (n ∷ ns) for = omega (arith, one_fewer putting h s.phase n for.0, put_fewer putting h ss ns for.1)

  -- ---- all are put

  -- What was put of all.
  pub record IsAllPut (putting : Putting) (old now : SiteState) (first : List (Session P)) (all : List (Next P)) (items : List (Session P)) : Type 0 where
    pub held : HoldsAll now (pins_of pinned items)
    pub sessions : sessions_of pinned now items ≡ put_sessions putting pinned old (sessions_of pinned old first) all
    pub fewer : count_waiting (sessions_of pinned now items) ≤ count_waiting (sessions_of pinned old first)
    pub sound : AreNextSound pinned old all → AreSound pinned old first → AreSound pinned now items

  pub all_put : (putting : Putting) (old now : SiteState) (first : List (Session P)) (all rest : List (Next P)) (items : List (Session P)) (i : ℕ) → AreForWaiting first all → i ≡ length items → IsPutSo putting old now first all rest items i → IsAllPut putting old now first all items
  all_put putting old now first all rest items i for done so =
      let none : rest ≡ [] = none_left items i rest done so.waiting in
      let whole : all ≡ so.front = so.parts ∙ ap (λ (l : List (Next P)). so.front ++ l) none ∙ append-nil so.front in
      let all_sessions : sessions_of pinned now items ≡ put_sessions putting pinned old (sessions_of pinned old first) all = so.sessions ∙ ap (put_sessions putting pinned old (sessions_of pinned old first)) (sym whole) in
      record {
        held = subst (λ (l : List (Next P)). HoldsAll now (next_pins pinned l ++ pins_of pinned items)) none so.held;
        sessions = all_sessions;
        fewer = subst (λ (l : List (ℕ × world.Phase)). count_waiting l ≤ count_waiting (sessions_of pinned old first)) (sym all_sessions) (put_fewer putting old first all for);
        sound = λ next sessions. (so.sound next).1 sessions;
      }

  -- ---- none is put

  -- a pin that was taken beside those of the sessions is given back
  pub beside_back : (old now then : SiteState) (pin : Option Pinned) (pins : List Pinned) (items : List (Session P)) → StandsBeside pinned old now (listed pin ++ pins) items → MovesPins now then pin None → StandsBeside pinned old then pins items
  beside_back old now then pin pins items stands moves =
      let own = pins_of pinned items in
      let holds : HoldsAll now (listed pin ++ (pins ++ own)) = subst (HoldsAll now) (append_assoc (listed pin) pins own) stands.held in
      let still : EachIs (Same pinned now then) (pins ++ own) = each_on _ (Same pinned now then) (pins ++ own) (λ p out. moves.stay p out.0 out.1) (others_are_apart now pin (pins ++ own) holds) in
      let seen = all_seen pinned now then items (front_of pinned (Same pinned now then) pins own still).1 in
      record {
        held = moves.all (pins ++ own) holds;
        seen = seen.0 ∙ stands.seen;
        sound = λ sound. seen.1 (stands.sound sound);
      }

  -- ---- pins beside others

  pub front_held : (now : SiteState) (rest ns : List (Next P)) (n : Next P) (pin : Option Pinned) → rest ≡ n ∷ ns → next_pin pinned n ≡ pin → HoldsBeside now (next_pins pinned rest) → HoldsBeside now (listed pin ++ next_pins pinned ns)
  front_held now rest ns n pin next own held = subst (λ (o : Option Pinned). HoldsBeside now (listed o ++ next_pins pinned ns)) own (subst (λ (l : List (Next P)). HoldsBeside now (next_pins pinned l)) next held)

  pub front_out : (now : SiteState) (pin : Option Pinned) (pins : List Pinned) → HoldsBeside now (listed pin ++ pins) → IfSome pin (λ p. IsTrue (is_out now p))
  front_out now None pins held = tt
  front_out now (Some p) pins held = held_is_out now p (pins ++ held.others) held.held

  pub front_back : (now then : SiteState) (pin : Option Pinned) (pins : List Pinned) → HoldsBeside now (listed pin ++ pins) → MovesPins now then pin None → HoldsBeside then pins
  front_back now then pin pins held moves = record { others = held.others; held = moves.all (pins ++ held.others) (subst (HoldsAll now) (append_assoc (listed pin) pins held.others) held.held) }

  pub beside_front : (old now : SiteState) (rest ns : List (Next P)) (n : Next P) (pin : Option Pinned) (items : List (Session P)) → rest ≡ n ∷ ns → next_pin pinned n ≡ pin → StandsBeside pinned old now (next_pins pinned rest) items → StandsBeside pinned old now (listed pin ++ next_pins pinned ns) items
  beside_front old now rest ns n pin items next own stands = subst (λ (o : Option Pinned). StandsBeside pinned old now (listed o ++ next_pins pinned ns) items) own (subst (λ (l : List (Next P)). StandsBeside pinned old now (next_pins pinned l) items) next stands)
