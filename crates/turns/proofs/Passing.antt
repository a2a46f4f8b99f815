-- What is done for each in order, so far.
use Rattle.std.proofs.Common.{◌≡◌, ℕ, zero, suc, ◌+◌, ◌<◌, ◌≤◌, List, [], ◌∷◌, ◌++◌, length, take, drop, get_or, refl, sym, ap, subst, ◌∙◌, append_assoc, arith, drop-cons, add-one}
use Rattle.std.proofs.Math.ListN.{set}
use Rattle.std.proofs.lemmas.List.{append-nil, take_more, take_more_set, take_all}
use Rattle.group_world.specs.declared.event.Event.{Event}
use Rattle.group_world.specs.declared.event.Outcome.{Outcome}
use Rattle.turns.specs.Turns.{StepOf, StepsInOrder}

in_order_push : {X : Type 0} (step : StepOf X) (xs ys : List X) (x y : X) (es fs : List Event) (os ps : List Outcome) → StepsInOrder step xs es os ys → step x fs ps y → StepsInOrder step (xs ++ x ∷ []) (es ++ fs) (os ++ ps) (ys ++ y ∷ [])
in_order_push step [] [] x y es fs os ps done one = record {
  first_events = fs;
  first_outcomes = ps;
  later_events = [];
  later_outcomes = [];
  first = one;
  others = (refl, refl);
  events_are = ap (λ (l : List Event). l ++ fs) done.0 ∙ sym (append-nil fs);
  outcomes_are = ap (λ (l : List Outcome). l ++ ps) done.1 ∙ sym (append-nil ps);
}
in_order_push step (a ∷ as1) (b ∷ bs) x y es fs os ps done one = record {
  first_events = done.first_events;
  first_outcomes = done.first_outcomes;
  later_events = done.later_events ++ fs;
  later_outcomes = done.later_outcomes ++ ps;
  first = done.first;
  others = in_order_push step as1 bs x y done.later_events fs done.later_outcomes ps done.others one;
  events_are = ap (λ (l : List Event). l ++ fs) done.events_are ∙ append_assoc done.first_events done.later_events fs;
  outcomes_are = ap (λ (l : List Outcome). l ++ ps) done.outcomes_are ∙ append_assoc done.first_outcomes done.later_outcomes ps;
}
in_order_push step [] (b ∷ bs) x y es fs os ps done one = absurd done
in_order_push step (a ∷ as1) [] x y es fs os ps done one = absurd done

-- The first i are done, and the others are as they were.
pub record IsDoneTo {X : Type 0} (step : StepOf X) (i : ℕ) (old : List X) (es : List Event) (os : List Outcome) (now : List X) : Type 0 where
  pub front : StepsInOrder step (take i old) es os (take i now)
  pub rest : drop i now ≡ drop i old
  pub size : length now ≡ length old

pub done_none : {X : Type 0} (step : StepOf X) (xs : List X) → IsDoneTo step 0 xs [] [] xs
done_none step xs = record { front = (refl, refl); rest = refl; size = refl }

drop_set : {X : Type 0} (xs : List X) (i : ℕ) (y : X) → drop (suc i) (set xs i y) ≡ drop (suc i) xs
drop_set [] i y = refl
drop_set (x ∷ xs) zero y = refl
drop_set (x ∷ xs) (suc i) y = drop_set xs i y

length_set : {X : Type 0} (xs : List X) (i : ℕ) (y : X) → length (set xs i y) ≡ length xs
length_set [] i y = refl
length_set (x ∷ xs) zero y = refl
length_set (x ∷ xs) (suc i) y = ap suc (length_set xs i y)

head_of : {X : Type 0} (a b : X) (as1 bs : List X) → a ∷ as1 ≡ b ∷ bs → (a ≡ b) × (as1 ≡ bs)
head_of a b as1 bs e = (cc e, cc e)

pub done_more : {X : Type 0} (step : StepOf X) (i : ℕ) (old now : List X) (x y : X) (es fs : List Event) (os ps : List Outcome) → IsDoneTo step i old es os now → i < length now → x ≡ get_or now i x → step x fs ps y → IsDoneTo step (i + 1) old (es ++ fs) (os ++ ps) (set now i y)
done_more step i old now x y es fs os ps d within is one =
    let within2 : i < length old = omega (arith, d.size) in
    let parts = head_of (get_or now i x) (get_or old i x) (drop (suc i) now) (drop (suc i) old) (sym (drop-cons now i x within) ∙ d.rest ∙ drop-cons old i x within2) in
    let was : get_or old i x ≡ x = sym parts.0 ∙ sym is in
    record {
      front =
          subst (λ l. StepsInOrder step l (es ++ fs) (os ++ ps) (take (i + 1) (set now i y))) (sym (take_more old i x within2 ∙ ap (λ a. take i old ++ a ∷ []) was))
          (subst (λ l. StepsInOrder step (take i old ++ x ∷ []) (es ++ fs) (os ++ ps) l) (sym (take_more_set now i y within)) (in_order_push step (take i old) (take i now) x y es fs os ps d.front one));
      rest = ap (λ n. drop n (set now i y)) (add-one i) ∙ drop_set now i y ∙ parts.1 ∙ ap (λ n. drop n old) (sym (add-one i));
      size = length_set now i y ∙ d.size;
    }

pub done_all : {X : Type 0} (step : StepOf X) (i : ℕ) (old now : List X) (es : List Event) (os : List Outcome) → IsDoneTo step i old es os now → length now ≤ i → StepsInOrder step old es os now
done_all step i old now es os d all =
    subst (λ l. StepsInOrder step l es os now) (take_all i old (omega (arith, d.size))) (subst (λ l. StepsInOrder step (take i old) es os l) (take_all i now all) d.front)

-- the next of them, as a loop has it
pub done_next : {X : Type 0} (step : StepOf X) (i : ℕ) (old now : List X) (x y : X) (es fs : List Event) (os ps : List Outcome) → IsDoneTo step i old es os now → i < length now → x ≡ get_or now i x → step (get_or now i x) fs ps y → IsDoneTo step (i + 1) old (es ++ fs) (os ++ ps) (set now i y)
done_next step i old now x y es fs os ps d within is one = done_more step i old now x y es fs os ps d within is (subst (λ a. step a fs ps y) (sym is) one)
