-- Pins that are taken for what sessions are to have.
use Rattle.std.proofs.Common.{◌≡◌, ◌≤◌, ◌<◌, ◌+◌, ℕ, zero, suc, true, List, [], ◌∷◌, ◌++◌, length, take, get_or, refl, sym, ap, ◌∙◌, arith, append_assoc}
use Rattle.std.specs.Prelude.{Option, None}
use Rattle.std.proofs.lemmas.List.{append-nil}
use Rattle.host_types.specs.SiteState.{SiteState}
use Rattle.host_types.specs.Pins.{Pinned}
use Rattle.group_world.specs.World as world
use Rattle.group_hub.specs.HeldPins.{times, count_numbered, listed, MovesPins}
use Rattle.group_hub.specs.Flushing.{next_pin, next_pins, IsNextSound, AreNextSound, IsForWaiting, AreForWaiting, put_one, put_sessions, ArePrepared, StandsBeside}
use Rattle.group_hub.specs.Sessions.{pin_of, pins_of, is_waiting}
use Rattle.group_hub.specs.declared.next.Next.{Next}
use Rattle.group_hub.specs.declared.next.Next.TheVariants as nexts
use Rattle.group_hub.specs.declared.next.Putting.{Putting}
use Rattle.group_hub.specs.declared.next.Putting.TheVariants as puttings
use Rattle.group_hub.specs.declared.session.Session.{Session}
use Rattle.group_hub.specs.declared.session.Phase.{Phase}
use Rattle.group_hub.specs.declared.session.Phase.TheVariants as phases
use Rattle.group_hub.proofs.PinsMoved.{EachIs, each_on, others_are_apart, none_moves}
use Rattle.group_hub.proofs.SessionsMoved.{SamePins, times_both, count_both, holds_same, front_of, Same, seen_same, sound_same, all_seen}
use Rattle.group_hub.proofs.SessionsHeld.{few_listed, few_held}

module _ {P : Type 0} (pinned : P → Pinned) where
  -- ---- pins in another order

  pins_more : (ns : List (Next P)) (n : Next P) → next_pins pinned (ns ++ n ∷ []) ≡ next_pins pinned ns ++ listed (next_pin pinned n)
  pins_more [] n = append-nil (listed (next_pin pinned n))
  pins_more (m ∷ ns) n = ap (λ (pins : List Pinned). listed (next_pin pinned m) ++ pins) (pins_more ns n) ∙ sym (append_assoc (listed (next_pin pinned m)) (next_pins pinned ns) (listed (next_pin pinned n)))

  same_more : (ns : List (Next P)) (n : Next P) (pins : List Pinned) → SamePins (listed (next_pin pinned n) ++ (next_pins pinned ns ++ pins)) (next_pins pinned (ns ++ n ∷ []) ++ pins)
  same_more ns n pins =
      let one = listed (next_pin pinned n) in
      let all = next_pins pinned ns in
      let more = pins_more ns n in
      record {
        times = λ k. omega (arith, times_both k one (all ++ pins), times_both k all pins, times_both k (next_pins pinned (ns ++ n ∷ [])) pins, ap (times k) more, times_both k all one);
        count = omega (arith, count_both one (all ++ pins), count_both all pins, count_both (next_pins pinned (ns ++ n ∷ [])) pins, ap count_numbered more, count_both all one);
      }

  -- ---- what stands beside a pin that is made

  next_seen : (a b : SiteState) (n : Next P) → EachIs (Same pinned a b) (listed (next_pin pinned n)) → (putting : Putting) (x : world.Phase) → put_one putting pinned b x n ≡ put_one putting pinned a x n
  next_seen a b nexts.Stays same putting x = refl
  next_seen a b (nexts.Gone p) same puttings.All x = seen_same pinned a b p same
  next_seen a b (nexts.Gone p) same puttings.Gone x = seen_same pinned a b p same
  next_seen a b (nexts.Replied p) same puttings.All x = seen_same pinned a b p same
  next_seen a b (nexts.Replied p) same puttings.Gone x = refl

  next_sound : (a b : SiteState) (n : Next P) → EachIs (Same pinned a b) (listed (next_pin pinned n)) → IsNextSound pinned a n → IsNextSound pinned b n
  next_sound a b nexts.Stays same sound = tt
  next_sound a b (nexts.Gone p) same sound = sound_same pinned a b p same sound
  next_sound a b (nexts.Replied p) same sound = sound_same pinned a b p same sound

  all_put : (a b : SiteState) (putting : Putting) (xs : List (ℕ × world.Phase)) (ns : List (Next P)) → EachIs (Same pinned a b) (next_pins pinned ns) → put_sessions putting pinned b xs ns ≡ put_sessions putting pinned a xs ns
  all_put a b putting [] ns same = refl
  all_put a b putting (x ∷ xs) [] same = refl
  all_put a b putting (x ∷ xs) (n ∷ ns) same =
      let parts = front_of pinned (Same pinned a b) (listed (next_pin pinned n)) (next_pins pinned ns) same in
      ap (λ (p : world.Phase). (x.0, p) ∷ put_sessions putting pinned b xs ns) (next_seen a b n parts.0 putting x.1)
      ∙ ap (λ (l : List (ℕ × world.Phase)). (x.0, put_one putting pinned a x.1 n) ∷ l) (all_put a b putting xs ns parts.1)

  all_sound : (a b : SiteState) (ns : List (Next P)) → EachIs (Same pinned a b) (next_pins pinned ns) → AreNextSound pinned a ns → AreNextSound pinned b ns
  all_sound a b [] same sound = tt
  all_sound a b (n ∷ ns) same sound =
      let parts = front_of pinned (Same pinned a b) (listed (next_pin pinned n)) (next_pins pinned ns) same in
      (next_sound a b n parts.0 sound.0, all_sound a b ns parts.1 sound.1)

  pub sound_more : (h : SiteState) (ns : List (Next P)) (n : Next P) → AreNextSound pinned h ns → IsNextSound pinned h n → AreNextSound pinned h (ns ++ n ∷ [])
  sound_more h [] n all one = (one, tt)
  sound_more h (m ∷ ns) n all one = (all.0, sound_more h ns n all.1 one)

  prepared_still : (a b : SiteState) (s : _) (xs : List (ℕ × world.Phase)) (ns : List (Next P)) (changes : _) → EachIs (Same pinned a b) (next_pins pinned ns) → ArePrepared pinned a s xs ns changes → ArePrepared pinned b s xs ns changes
  prepared_still a b s xs ns changes same are = record {
    put = all_put a b puttings.All xs ns same ∙ are.put;
    gone = all_put a b puttings.Gone xs ns same ∙ are.gone;
    changes = are.changes;
    posts = are.posts;
  }

  -- A pin is made, or none: all that stood stands, with it.
  pub record OneMore (g a b : SiteState) (items : List (Session P)) (ns all : List (Next P)) : Type 0 where
    pub stands : StandsBeside pinned g b (next_pins pinned all) items
    pub sound : AreNextSound pinned a ns → AreNextSound pinned b ns
    pub prepared : (s : _) (xs : List (ℕ × world.Phase)) (changes : _) → ArePrepared pinned a s xs ns changes → ArePrepared pinned b s xs ns changes

  beside : (g a b : SiteState) (items : List (Session P)) (ns all : List (Next P)) (now : Option Pinned) → StandsBeside pinned g a (next_pins pinned ns) items → MovesPins a b None now
      → SamePins (listed now ++ (next_pins pinned ns ++ pins_of pinned items)) (next_pins pinned all ++ pins_of pinned items) → OneMore g a b items ns all
  beside g a b items ns all now stands moves order =
      let pins = next_pins pinned ns ++ pins_of pinned items in
      let stay : EachIs (Same pinned a b) pins = each_on _ (Same pinned a b) pins (λ pin out. moves.stay pin out.0 out.1) (others_are_apart a None pins stands.held) in
      let parts = front_of pinned (Same pinned a b) (next_pins pinned ns) (pins_of pinned items) stay in
      let seen = all_seen pinned a b items parts.1 in
      record {
        stands = record {
          held = holds_same b _ _ order (moves.all pins stands.held);
          seen = seen.0 ∙ stands.seen;
          sound = λ sound. seen.1 (stands.sound sound);
        };
        sound = all_sound a b ns parts.0;
        prepared = λ s xs changes are. prepared_still a b s xs ns changes parts.0 are;
      }

  pub one_beside : (g a b : SiteState) (items : List (Session P)) (ns : List (Next P)) (n : Next P) → StandsBeside pinned g a (next_pins pinned ns) items → MovesPins a b None (next_pin pinned n) → OneMore g a b items ns (ns ++ n ∷ [])
  one_beside g a b items ns n stands moves = beside g a b items ns (ns ++ n ∷ []) (next_pin pinned n) stands moves (same_more ns n (pins_of pinned items))

  -- after a fault
  pub none_beside : (g a b : SiteState) (items : List (Session P)) (ns : List (Next P)) → StandsBeside pinned g a (next_pins pinned ns) items → b.pins ≡ a.pins → OneMore g a b items ns ns
  none_beside g a b items ns stands same = beside g a b items ns ns None stands (none_moves a b None same) (record { times = λ n. refl; count = refl })

  -- ---- room for a pin

  waits_without : (phase : Phase P) → is_waiting phase ≡ true → count_numbered (listed (pin_of pinned phase)) ≡ 0
  waits_without (phases.Hearing s) waits = refl
  waits_without (phases.Waiting w) waits = refl
  waits_without (phases.Replying r) waits = refl
  waits_without (phases.Drawing d) waits = absurd (cc waits)
  waits_without phases.Drawn waits = refl
  waits_without phases.Early waits = refl

  one_both : (phase : Phase P) (n : Next P) → IsForWaiting phase n → count_numbered (listed (next_pin pinned n)) + count_numbered (listed (pin_of pinned phase)) ≤ 1
  one_both phase nexts.Stays is = omega (arith, few_listed pinned phase)
  one_both phase (nexts.Gone p) is = omega (arith, few_listed pinned p, waits_without phase is.0)
  one_both phase (nexts.Replied p) is = omega (arith, few_listed pinned p, waits_without phase is.0)

  less_room : (ss : List (Session P)) (ns : List (Next P)) (i : ℕ) (x : Session P) → AreForWaiting (take i ss) ns → i < length ss → x ≡ get_or ss i x → is_waiting x.phase ≡ true → count_numbered (next_pins pinned ns) + count_numbered (pins_of pinned ss) < length ss
  less_room [] ns i x are within read waits = absurd (omega (arith, within))
  less_room (s ∷ ss) [] zero x are within read waits =
      let same : x ≡ s = read in
      let own : is_waiting s.phase ≡ true = ap (λ (y : Session P). is_waiting y.phase) (sym same) ∙ waits in
      omega (arith, count_both (listed (pin_of pinned s.phase)) (pins_of pinned ss), waits_without s.phase own, few_held pinned ss)
  less_room (s ∷ ss) (n ∷ ns) zero x are within read waits = absurd are
  less_room (s ∷ ss) [] (suc i) x are within read waits = absurd are
  less_room (s ∷ ss) (n ∷ ns) (suc i) x are within read waits =
      let rest = less_room ss ns i x are.1 (omega (arith, within)) read waits in
      omega (arith, rest, one_both s.phase n are.0, count_both (listed (pin_of pinned s.phase)) (pins_of pinned ss), count_both (listed (next_pin pinned n)) (next_pins pinned ns))

  pub room_beside : (g h : SiteState) (ss : List (Session P)) (ns : List (Next P)) (i : ℕ) (x : Session P) → AreForWaiting (take i ss) ns → i < length ss → x ≡ get_or ss i x → is_waiting x.phase ≡ true
      → StandsBeside pinned g h (next_pins pinned ns) ss → length ss ≤ 32 → length h.pins < 32
  room_beside g h ss ns i x are within read waits stands few =
      omega (arith, less_room ss ns i x are within read waits, count_both (next_pins pinned ns) (pins_of pinned ss), stands.held.count, few)

  pub for_more : (ss : List (Session P)) (ns : List (Next P)) (x : Session P) (n : Next P) → AreForWaiting ss ns → IsForWaiting x.phase n → AreForWaiting (ss ++ x ∷ []) (ns ++ n ∷ [])
  for_more [] [] x n are is = (is, tt)
  for_more [] (m ∷ ns) x n are is = absurd are
  for_more (s ∷ ss) [] x n are is = absurd are
  for_more (s ∷ ss) (m ∷ ns) x n are is = (are.0, for_more ss ns x n are.1 is)
