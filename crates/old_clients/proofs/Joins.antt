-- One pass over a reply gives what is passed on of it.
use Rattle.std.proofs.Common.{◌≡◌, ℕ, Bool, true, false, List, [], ◌∷◌, ◌++◌, ap, sym, ◌∙◌, inl, inr, refl, subst, ◌==◌, if◌then◌else◌, length, drop, eqb-true, eq-eqb}
use Rattle.std.proofs.lemmas.Bool.{cases_Bool}
use Rattle.host_types.specs.Lines.{is_lf}
use Rattle.old_clients.specs.AdaptedReply.{adapted_reply, begins_with, head_line, info, informed}
use Rattle.old_clients.specs.Place.{after_byte, given_from}
use Rattle.old_clients.specs.Streams.{will_give, fresh_reply}
use Rattle.old_clients.specs.declared.place.Place.TheVariants.{Head, LineStart, Period, PeriodCr, Inside, Behind}

-- ---- lines

pub behind_all : (bs : List ℕ) → given_from Behind bs ≡ bs
behind_all [] = refl
behind_all (b ∷ bs) = ap (λ l. b ∷ l) (behind_all bs)

-- what each place gives
pub record Joins (bs : List ℕ) : Type 0 where
  pub start : given_from LineStart bs ≡ informed true bs
  pub inside : given_from Inside bs ≡ informed false bs
  pub period : given_from Period bs ≡ informed true (46 ∷ bs)
  pub period_cr : given_from PeriodCr bs ≡ informed true (46 ∷ 13 ∷ bs)

behind_byte : (b : ℕ) (bs : List ℕ) → Joins bs → given_from (after_byte b) bs ≡ informed (is_lf b) bs
behind_byte b bs j = elim (cases_Bool (b == 10)) [ inl e ↦ rw e j.start | inr n ↦ rw n j.inside ]

start_on : (b : ℕ) (bs : List ℕ) → Joins bs → given_from LineStart (b ∷ bs) ≡ informed true (b ∷ bs)
start_on b bs j = elim (cases_Bool (b == 46)) [
  | inl e ↦ subst (λ b. given_from LineStart (b ∷ bs) ≡ informed true (b ∷ bs)) (sym (eqb-true b 46 e)) j.period
  | inr n ↦ rw n (ap (λ l. info ++ b ∷ l) (behind_byte b bs j))
]

period_on : (b : ℕ) (bs : List ℕ) → Joins bs → given_from Period (b ∷ bs) ≡ informed true (46 ∷ b ∷ bs)
period_on b bs j = elim (cases_Bool (b == 13)) [
  | inl e ↦ subst (λ b. given_from Period (b ∷ bs) ≡ informed true (46 ∷ b ∷ bs)) (sym (eqb-true b 13 e)) j.period_cr
  | inr n ↦ rw n (ap (λ l. info ++ 46 ∷ b ∷ l) (behind_byte b bs j))
]

period_cr_on : (b : ℕ) (bs : List ℕ) → Joins bs → given_from PeriodCr (b ∷ bs) ≡ informed true (46 ∷ 13 ∷ b ∷ bs)
period_cr_on b bs j = elim (cases_Bool (b == 10)) [
  | inl e ↦ subst (λ b. given_from PeriodCr (b ∷ bs) ≡ informed true (46 ∷ 13 ∷ b ∷ bs)) (sym (eqb-true b 10 e)) (ap (λ l. 46 ∷ 13 ∷ 10 ∷ l) (behind_all bs))
  | inr n ↦ rw n (ap (λ l. info ++ 46 ∷ 13 ∷ b ∷ l) j.inside)
]

pub joins : (bs : List ℕ) → Joins bs
joins [] = record { start = refl; inside = refl; period = refl; period_cr = refl }
joins (b ∷ bs) =
    let j = joins bs in
    record { start = start_on b bs j; inside = ap (λ l. b ∷ l) (behind_byte b bs j); period = period_on b bs j; period_cr = period_cr_on b bs j }

-- ---- the head line

-- a reply of which this much of the head line is to come
abbrev headed : List ℕ → List ℕ → List ℕ
headed left reply = if begins_with left reply then left ++ informed true (drop (length left) reply) else reply

one_more : (f : ℕ) (left bs : List ℕ) → f ∷ headed left bs ≡ headed (f ∷ left) (f ∷ bs)
one_more f left bs =
    let same : (f == f) ≡ true = eq-eqb f f refl in
    elim (cases_Bool (begins_with left bs)) [ inl e ↦ rw (same, e) refl | inr n ↦ rw (same, n) refl ]

-- a byte of the head line is that byte, and any other ends it
by_byte : (n f : ℕ) (left : List ℕ) → (given_from (Head n) [] ≡ []) → ((bs : List ℕ) → given_from (Head n) (f ∷ bs) ≡ f ∷ headed left bs) → ((b : ℕ) (bs : List ℕ) → (b == f) ≡ false → given_from (Head n) (b ∷ bs) ≡ b ∷ bs) →
    (reply : List ℕ) → given_from (Head n) reply ≡ headed (f ∷ left) reply
by_byte n f left none fits other [] = none
by_byte n f left none fits other (b ∷ bs) = elim (cases_Bool (b == f)) [
  | inl e ↦ subst (λ b. given_from (Head n) (b ∷ bs) ≡ headed (f ∷ left) (b ∷ bs)) (sym (eqb-true b f e)) (fits bs ∙ one_more f left bs)
  | inr off ↦ other b bs off ∙ rw off refl
]

last_byte : (reply : List ℕ) → given_from (Head 4) reply ≡ headed (10 ∷ []) reply
last_byte = by_byte 4 10 [] refl (λ bs. ap (λ l. 10 ∷ l) ((joins bs).start)) (λ b bs off. rw off (ap (λ l. b ∷ l) (behind_all bs)))

fourth_byte : (reply : List ℕ) → given_from (Head 3) reply ≡ headed (13 ∷ 10 ∷ []) reply
fourth_byte = by_byte 3 13 (10 ∷ []) refl (λ bs. ap (λ l. 13 ∷ l) (last_byte bs)) (λ b bs off. rw off (ap (λ l. b ∷ l) (behind_all bs)))

third_byte : (reply : List ℕ) → given_from (Head 2) reply ≡ headed (49 ∷ 13 ∷ 10 ∷ []) reply
third_byte = by_byte 2 49 (13 ∷ 10 ∷ []) refl (λ bs. ap (λ l. 49 ∷ l) (fourth_byte bs)) (λ b bs off. rw off (ap (λ l. b ∷ l) (behind_all bs)))

second_byte : (reply : List ℕ) → given_from (Head 1) reply ≡ headed (45 ∷ 49 ∷ 13 ∷ 10 ∷ []) reply
second_byte = by_byte 1 45 (49 ∷ 13 ∷ 10 ∷ []) refl (λ bs. ap (λ l. 45 ∷ l) (third_byte bs)) (λ b bs off. rw off (ap (λ l. b ∷ l) (behind_all bs)))

first_byte : (reply : List ℕ) → given_from (Head 0) reply ≡ headed head_line reply
first_byte = by_byte 0 43 (45 ∷ 49 ∷ 13 ∷ 10 ∷ []) refl (λ bs. ap (λ l. 43 ∷ l) (second_byte bs)) (λ b bs off. rw off (ap (λ l. b ∷ l) (behind_all bs)))

pub given_reply : (rewritten : Bool) (reply : List ℕ) → will_give (fresh_reply rewritten) reply ≡ adapted_reply rewritten reply
unfolding adapted_reply
given_reply true reply = first_byte reply
given_reply false reply = behind_all reply
