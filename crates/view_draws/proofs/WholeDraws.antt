-- What was given of the head and then of the view.
use Rattle.std.proofs.Common.{◌≡◌, ◌≤◌, ◌++◌, ◌⊎◌, inl, inr, ℕ, List, [], ap, sym, ◌∙◌, refl, take, drop, length, append-nil, length-append, length-drop, arith}
use Rattle.std.specs.Prelude.{Result, Ok, Err, OnErr}
use Rattle.std.proofs.lemmas.List.{take_all, drop_all, length-take, take-append-le}
use Rattle.view_draws.specs.Progress.{body_left, left_of}
use Rattle.view_draws.specs.declared.progress.DrawProgress.{DrawProgress}
use Rattle.view_draws.proofs.Parts.{front_given, rest_given}

-- once the head was given, what is left is left of the view
head_given : (head : List ℕ) (p : DrawProgress) (body : List ℕ) → p.head_drawn ≡ length head → left_of head p body ≡ body_left p body
head_given head p body all = ap (λ l. l ++ body_left p body) (drop_all p.head_drawn head (omega (arith, all)))

full_length : (n : ℕ) (out : List ℕ) → n ≤ length out → length (take n out) ≡ n
full_length n out within = omega (arith, length-take n out, within)

-- What was given of the head is `mid`, and `new` is what stands in the buffer then. The head was given whole, or there was no room for the view.
pub whole_given : (head body mid new : List ℕ) (p q r : DrawProgress) (half end : ℕ) → half ≤ length mid → end ≤ length new → length new ≡ length mid → half ≤ end → r.head_drawn ≡ q.head_drawn → (q.head_drawn ≡ length head) ⊎ (half ≡ length mid) →
    take half mid ++ left_of head q body ≡ left_of head p body → take end new ++ body_left r body ≡ take half mid ++ body_left q body → take end new ++ left_of head r body ≡ left_of head p body
whole_given head body mid new p q r half end half_in end_in size onward same (inl all) first second =
    ap (λ l. take end new ++ l) (head_given head r body (same ∙ all))
    ∙ second
    ∙ ap (λ l. take half mid ++ l) (sym (head_given head q body all))
    ∙ first
whole_given head body mid new p q r half end half_in end_in size onward same (inr full) first second =
    let so_many : end ≡ half = omega (arith, full, onward, end_in, size) in
    let new_is : length (take end new) ≡ end = full_length end new end_in in
    let mid_is : length (take half mid) ≡ half = full_length half mid half_in in
    let front : take end new ≡ take half mid =
    front_given end (take end new) (body_left r body) (take half mid ++ body_left q body) (sym new_is) second
    ∙ take-append-le end (take half mid) (body_left q body) (omega (arith, so_many, mid_is))
    ∙ take_all end (take half mid) (omega (arith, so_many, mid_is)) in
    let left : body_left r body ≡ body_left q body =
    rest_given end (take end new) (body_left r body) (take half mid ++ body_left q body) (sym new_is) second
    ∙ sym (rest_given end (take half mid) (body_left q body) (take half mid ++ body_left q body) (so_many ∙ sym mid_is) refl) in
    ap (λ l. l ++ left_of head r body) front
    ∙ ap (λ n. take half mid ++ (drop n head ++ body_left r body)) same
    ∙ ap (λ l. take half mid ++ (drop q.head_drawn head ++ l)) left
    ∙ first

-- nothing is left, or there is no more room
pub none_or_full : (head body mid new : List ℕ) (q r : DrawProgress) (half end : ℕ) → end ≤ length new → length new ≡ length mid → half ≤ end → r.head_drawn ≡ q.head_drawn → (q.head_drawn ≡ length head) ⊎ (half ≡ length mid) →
    (body_left r body ≡ []) ⊎ (end ≡ length new) → (left_of head r body ≡ []) ⊎ (end ≡ length new)
none_or_full head body mid new q r half end end_in size onward same (inl all) (inl none) = inl (head_given head r body (same ∙ all) ∙ none)
none_or_full head body mid new q r half end end_in size onward same (inl all) (inr full) = inr full
none_or_full head body mid new q r half end end_in size onward same (inr full) last = inr (omega (arith, full, onward, end_in, size))

-- all that was left was given, or as much as there was room for
pub given_to_end : (n end : ℕ) (given left whole : List ℕ) → length given ≡ end → end ≤ n → given ++ left ≡ whole → (left ≡ []) ⊎ (end ≡ n) → given ≡ take n whole
given_to_end n end given left whole is within joined (inl none) =
    let all : given ≡ whole = sym (append-nil given) ∙ ap (λ l. given ++ l) (sym none) ∙ joined in
    all ∙ sym (take_all n whole (omega (arith, ap length all, is, within)))
given_to_end n end given left whole is within joined (inr full) = front_given n given left whole (omega (arith, is, full)) joined

pub left_at_end : (n end : ℕ) (given left whole : List ℕ) → length given ≡ end → end ≤ n → given ++ left ≡ whole → (left ≡ []) ⊎ (end ≡ n) → left ≡ drop n whole
left_at_end n end given left whole is within joined (inl none) =
    let all : given ≡ whole = sym (append-nil given) ∙ ap (λ l. given ++ l) (sym none) ∙ joined in
    none ∙ sym (drop_all n whole (omega (arith, ap length all, is, within)))
left_at_end n end given left whole is within joined (inr full) = rest_given n given left whole (omega (arith, is, full)) joined

-- What a fault leaves at the front of the buffer is the next of the reply.
pub front_begun : (head body mid new : List ℕ) (p q : DrawProgress) (half end : ℕ) → half ≤ length mid → end ≤ length new → length new ≡ length mid → half ≤ end → (q.head_drawn ≡ length head) ⊎ (half ≡ length mid) →
    take half mid ++ left_of head q body ≡ left_of head p body → take end new ≡ take end (take half mid ++ body_left q body) → take end new ≡ take end (left_of head p body)
front_begun head body mid new p q half end half_in end_in size onward (inl all) first second =
    second ∙ ap (λ l. take end (take half mid ++ l)) (sym (head_given head q body all)) ∙ ap (take end) first
front_begun head body mid new p q half end half_in end_in size onward (inr full) first second =
    let within : end ≤ length (take half mid) = omega (arith, full, onward, end_in, size, full_length half mid half_in) in
    second
    ∙ take-append-le end (take half mid) (body_left q body) within
    ∙ sym (take-append-le end (take half mid) (left_of head q body) within)
    ∙ ap (take end) first

pub after_fault : {A E : Type 0} {P : Type 0} (result : Result A E) → P → OnErr result P
after_fault (Ok value) holds = tt
after_fault (Err fault) holds = holds

-- while bytes of the head are left, the reply isn't drawn
pub head_left : (head : List ℕ) (p : DrawProgress) (body : List ℕ) → p.head_drawn ≤ length head → left_of head p body ≡ [] → p.head_drawn ≡ length head
head_left head p body within none =
    omega (arith, within, ap length none, length-append (drop p.head_drawn head) (body_left p body), length-drop p.head_drawn head)
