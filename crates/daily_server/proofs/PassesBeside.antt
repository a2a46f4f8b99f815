-- What is done for each in order so far, beside something that they share.
use Rattle.std.proofs.Common.{◌≡◌, ℕ, zero, suc, ◌+◌, ◌<◌, ◌≤◌, List, [], ◌∷◌, ◌++◌, length, take, drop, get_or, refl, sym, ap, subst, ◌∙◌, append_assoc, arith, drop-cons, add-one}
use Rattle.std.proofs.Math.ListN.{set}
use Rattle.std.proofs.lemmas.List.{append-nil, take_more, take_more_set, take_all}
use Rattle.group_world.specs.declared.event.Event.{Event}
use Rattle.group_world.specs.declared.event.Outcome.{Outcome}
use Rattle.turns.specs.Turns.{StepOf}
use Rattle.daily_server.specs.DailyClients.{InOrderBeside}

beside_push : {X Y : Type 0} (step : StepOf (X × Y)) (xs ys : List X) (x y : X) (first between last : Y) (es fs : List Event) (os ps : List Outcome) → InOrderBeside step xs first es os ys between → step (x, between) fs ps (y, last) → InOrderBeside step (xs ++ x ∷ []) first (es ++ fs) (os ++ ps) (ys ++ y ∷ []) last
beside_push step [] [] x y first between last es fs os ps done one = record {
  between = last;
  first_events = fs;
  first_outcomes = ps;
  later_events = [];
  later_outcomes = [];
  first = subst (λ b. step (x, b) fs ps (y, last)) done.2 one;
  others = (refl, refl, refl);
  events_are = ap (λ (l : List Event). l ++ fs) done.0 ∙ sym (append-nil fs);
  outcomes_are = ap (λ (l : List Outcome). l ++ ps) done.1 ∙ sym (append-nil ps);
}
beside_push step (a ∷ as1) (b ∷ bs) x y first between last es fs os ps done one = record {
  between = done.between;
  first_events = done.first_events;
  first_outcomes = done.first_outcomes;
  later_events = done.later_events ++ fs;
  later_outcomes = done.later_outcomes ++ ps;
  first = done.first;
  others = beside_push step as1 bs x y done.between between last done.later_events fs done.later_outcomes ps done.others one;
  events_are = ap (λ (l : List Event). l ++ fs) done.events_are ∙ append_assoc done.first_events done.later_events fs;
  outcomes_are = ap (λ (l : List Outcome). l ++ ps) done.outcomes_are ∙ append_assoc done.first_outcomes done.later_outcomes ps;
}
beside_push step [] (b ∷ bs) x y first between last es fs os ps done one = absurd done
beside_push step (a ∷ as1) [] x y first between last es fs os ps done one = absurd done

-- The first i are done, and the others are as they were.
pub record IsDoneBeside {X Y : Type 0} (step : StepOf (X × Y)) (i : ℕ) (old : List X × Y) (es : List Event) (os : List Outcome) (now : List X × Y) : Type 0 where
  pub front : InOrderBeside step (take i old.0) old.1 es os (take i now.0) now.1
  pub rest : drop i now.0 ≡ drop i old.0
  pub size : length now.0 ≡ length old.0

pub beside_none : {X Y : Type 0} (step : StepOf (X × Y)) (old : List X × Y) → IsDoneBeside step 0 old [] [] old
beside_none step old = record { front = (refl, refl, refl); rest = refl; size = refl }

drop_set : {X : Type 0} (xs : List X) (i : ℕ) (y : X) → drop (suc i) (set xs i y) ≡ drop (suc i) xs
drop_set [] i y = refl
drop_set (x ∷ xs) zero y = refl
drop_set (x ∷ xs) (suc i) y = drop_set xs i y

length_set : {X : Type 0} (xs : List X) (i : ℕ) (y : X) → length (set xs i y) ≡ length xs
length_set [] i y = refl
length_set (x ∷ xs) zero y = refl
length_set (x ∷ xs) (suc i) y = ap suc (length_set xs i y)

head_of : {X : Type 0} (a b : X) (as1 bs : List X) → a ∷ as1 ≡ b ∷ bs → (a ≡ b) × (as1 ≡ bs)
head_of a b as1 bs e = (cc e, cc e)

beside_more : {X Y : Type 0} (step : StepOf (X × Y)) (i : ℕ) (old now : List X × Y) (x y : X) (last : Y) (es fs : List Event) (os ps : List Outcome) → IsDoneBeside step i old es os now → i < length now.0 → x ≡ get_or now.0 i x → step (x, now.1) fs ps (y, last) → IsDoneBeside step (i + 1) old (es ++ fs) (os ++ ps) (set now.0 i y, last)
beside_more step i old now x y last es fs os ps d within is one =
    let within2 : i < length old.0 = omega (arith, d.size) in
    let parts = head_of (get_or now.0 i x) (get_or old.0 i x) (drop (suc i) now.0) (drop (suc i) old.0) (sym (drop-cons now.0 i x within) ∙ d.rest ∙ drop-cons old.0 i x within2) in
    let was : get_or old.0 i x ≡ x = sym parts.0 ∙ sym is in
    record {
      front =
          subst (λ l. InOrderBeside step l old.1 (es ++ fs) (os ++ ps) (take (i + 1) (set now.0 i y)) last) (sym (take_more old.0 i x within2 ∙ ap (λ a. take i old.0 ++ a ∷ []) was))
          (subst (λ l. InOrderBeside step (take i old.0 ++ x ∷ []) old.1 (es ++ fs) (os ++ ps) l last) (sym (take_more_set now.0 i y within)) (beside_push step (take i old.0) (take i now.0) x y old.1 now.1 last es fs os ps d.front one));
      rest = ap (λ n. drop n (set now.0 i y)) (add-one i) ∙ drop_set now.0 i y ∙ parts.1 ∙ ap (λ n. drop n old.0) (sym (add-one i));
      size = length_set now.0 i y ∙ d.size;
    }

pub beside_all : {X Y : Type 0} (step : StepOf (X × Y)) (i : ℕ) (old now : List X × Y) (es : List Event) (os : List Outcome) → IsDoneBeside step i old es os now → length now.0 ≤ i → InOrderBeside step old.0 old.1 es os now.0 now.1
beside_all step i old now es os d all =
    subst (λ l. InOrderBeside step l old.1 es os now.0 now.1) (take_all i old.0 (omega (arith, d.size))) (subst (λ l. InOrderBeside step (take i old.0) old.1 es os l now.1) (take_all i now.0 all) d.front)

-- the next of them, as a loop has it
pub beside_next : {X Y : Type 0} (step : StepOf (X × Y)) (i : ℕ) (old now : List X × Y) (x y : X) (last : Y) (es fs : List Event) (os ps : List Outcome) → IsDoneBeside step i old es os now → i < length now.0 → x ≡ get_or now.0 i x → step (get_or now.0 i x, now.1) fs ps (y, last) → IsDoneBeside step (i + 1) old (es ++ fs) (os ++ ps) (set now.0 i y, last)
beside_next step i old now x y last es fs os ps d within is one = beside_more step i old now x y last es fs os ps d within is (subst (λ a. step (a, now.1) fs ps (y, last)) (sym is) one)
