-- Bytes that were put into a buffer from a place on.
use Rattle.std.proofs.Common.{◌≡◌, ◌+◌, ◌-◌, ◌≤◌, ℕ, List, [], ◌++◌, ap, sym, ◌∙◌, take, drop, length, append_assoc, append-nil, length-drop, arith}
use Rattle.std.proofs.Math.Seq.{take-append-add, drop-append-add}
use Rattle.std.proofs.lemmas.List.{take_all, drop_all, drop-drop, take-append-le, drop-append-le, length-take}
use borrow.Rule.Slice.PartMut.{put_mid, mid_of}

-- the part from a place to the end
pub rest_is : (at : ℕ) (out : List ℕ) → mid_of at (length out - at) out ≡ drop at out
rest_is at out = take_all (length out - at) (drop at out) (omega (arith, length-drop at out))

front_length : (at : ℕ) (out : List ℕ) → at ≤ length out → length (take at out) ≡ at
front_length at out le = omega (arith, length-take at out)

-- the bytes up to a place within the part
pub front_written : (at m : ℕ) (out part : List ℕ) → at ≤ length out → m ≤ length part → take (at + m) (put_mid at (length out - at) out part) ≡ take at out ++ take m part
front_written at m out part le within =
    let post = drop (length out - at) (drop at out) in
    ap (λ n. take (n + m) (take at out ++ (part ++ post))) (sym (front_length at out le))
    ∙ take-append-add (take at out) (part ++ post) m
    ∙ ap (λ l. take at out ++ l) (take-append-le m part post within)

-- what stands behind them stays
pub behind_written : (at m : ℕ) (out part : List ℕ) → at ≤ length out → m ≤ length part → drop m part ≡ drop m (mid_of at (length out - at) out) → drop (at + m) (put_mid at (length out - at) out part) ≡ drop (at + m) out
behind_written at m out part le within same =
    let post = drop (length out - at) (drop at out) in
    let none : post ≡ [] = drop_all (length out - at) (drop at out) (omega (arith, length-drop at out)) in
    ap (λ n. drop (n + m) (take at out ++ (part ++ post))) (sym (front_length at out le))
    ∙ drop-append-add (take at out) (part ++ post) m
    ∙ ap (λ l. drop m (part ++ l)) none
    ∙ ap (drop m) (append-nil part)
    ∙ same
    ∙ ap (drop m) (rest_is at out)
    ∙ drop-drop m at out

-- what bytes were given, and what is left then, are what was there and what was left
pub given_from_place : (at m : ℕ) (out part left before : List ℕ) → at ≤ length out → m ≤ length part → take m part ++ left ≡ before → take (at + m) (put_mid at (length out - at) out part) ++ left ≡ take at out ++ before
given_from_place at m out part left before le within is =
    ap (λ l. l ++ left) (front_written at m out part le within)
    ∙ append_assoc (take at out) (take m part) left
    ∙ ap (λ l. take at out ++ l) is

-- a front of what is left was given
pub front_given : (n : ℕ) (given left whole : List ℕ) → n ≡ length given → given ++ left ≡ whole → given ≡ take n whole
front_given n given left whole is joined =
    sym (take_all n given (omega (arith, is)))
    ∙ sym (take-append-le n given left (omega (arith, is)))
    ∙ ap (take n) joined

pub rest_given : (n : ℕ) (given left whole : List ℕ) → n ≡ length given → given ++ left ≡ whole → left ≡ drop n whole
rest_given n given left whole is joined =
    ap (λ l. l ++ left) (sym (drop_all n given (omega (arith, is))))
    ∙ sym (drop-append-le n given left (omega (arith, is)))
    ∙ ap (drop n) joined
