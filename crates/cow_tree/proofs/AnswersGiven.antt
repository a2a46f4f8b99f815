-- Answers from the pages of a tree.
use Rattle.std.proofs.Common.{◌≡◌, Result, Ok, Err, sym, ◌∙◌, subst, ap}
use Rattle.cow_tree.specs.Ways.{AnswersBy}
use Rattle.cow_tree.specs.declared.page_fault.PageFault.{PageFault}
use Rattle.cow_tree.specs.declared.page_fault.PageFault.TheVariants.{Device, Damaged}

pub answer_is : {T A : Type 0} (r : Result T PageFault) (shown : T → A) (a b : A) → a ≡ b → AnswersBy r (λ x. shown x ≡ a) → AnswersBy r (λ x. shown x ≡ b)
answer_is (Ok x) shown a b e h = h ∙ e
answer_is (Err Device) shown a b e h = tt
answer_is (Err (Damaged page)) shown a b e h = h

-- what follows from an answer
pub answer_then : {T : Type 0} (r : Result T PageFault) (P Q : T → Type 0) → ((x : T) → P x → Q x) → AnswersBy r P → AnswersBy r Q
answer_then (Ok x) P Q f h = f x h
answer_then (Err Device) P Q f h = tt
answer_then (Err (Damaged page)) P Q f h = h

-- a fault of a part is that of the whole
pub answer_err : {T U : Type 0} (r : Result U PageFault) (e f : PageFault) (P : T → Type 0) (Q : U → Type 0) → r ≡ Err f → f ≡ e → AnswersBy {T = T} (Err e) P → AnswersBy r Q
answer_err {T = T} {U = U} r e f P Q is same h = subst (λ (x : Result U PageFault). AnswersBy x Q) (sym (is ∙ ap (λ (x : PageFault). err x) same)) (go e h)
  where
    err : PageFault → Result U PageFault
    err x = Err x

    go : (x : PageFault) → AnswersBy {T = T} (Err x) P → AnswersBy (err x) Q
    go Device h = tt
    go (Damaged page) h = absurd h
