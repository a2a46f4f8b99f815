-- Adapters of replies: what calls give.
use Rattle.std.proofs.Common.{◌≡◌, ℕ, ◌+◌, ◌-◌, ◌<◌, ◌≤◌, suc, List, [], ◌∷◌, ◌++◌, ap, sym, ◌∙◌, take, drop, length, get_or, drop-cons, add-one, append_assoc, arith}
use Rattle.std.proofs.lemmas.List.{take-append-drop, drop-drop, drop-append-le}
use Rattle.old_clients.proofs.Runs.{run_given}
use Rattle.old_clients.specs.Place.{closing, given_from, run_length}
use Rattle.old_clients.specs.Streams.{Informing, will_give, Passes}
use Rattle.old_clients.specs.declared.place.Place.{Place}
use Rattle.old_clients.specs.declared.place.Place.TheVariants.{Head, LineStart, Period, PeriodCr, Inside, Behind}

-- the end of a reply gives at most nine bytes
pub few_at_end : (p : Place) → length (closing p) ≤ 10
few_at_end (Head n) = omega arith
few_at_end LineStart = omega arith
few_at_end Period = omega arith
few_at_end PeriodCr = omega arith
few_at_end Inside = omega arith
few_at_end Behind = omega arith

-- bytes that are ready were given, and the place stayed
pub given_on : (part given : List ℕ) (old new : Informing) → given ++ new.ready ≡ part ++ old.ready → new.place ≡ old.place → (rest : List ℕ) → given ++ will_give new rest ≡ part ++ will_give old rest
given_on part given old new moved stayed rest =
    sym (append_assoc given new.ready (given_from new.place rest))
    ∙ ap (λ l. l ++ given_from new.place rest) moved
    ∙ ap (λ place. (part ++ old.ready) ++ given_from place rest) stayed
    ∙ append_assoc part old.ready (given_from old.place rest)

-- one byte more of the chunk
pub byte_passed : (chunk part given : List ℕ) (taken byte : ℕ) (old now mid new : Informing) → taken < length chunk → byte ≡ get_or chunk taken 0 → Passes will_give old chunk taken part now →
    ((rest : List ℕ) → will_give mid rest ≡ will_give now (byte ∷ rest)) → given ++ new.ready ≡ part ++ mid.ready → new.place ≡ mid.place → Passes will_give old chunk (taken + 1) given new
byte_passed chunk part given taken byte old now mid new below is passes whole moved stayed more =
    let next : byte ∷ drop (taken + 1) chunk ≡ drop taken chunk = ap (λ n. byte ∷ drop n chunk) (add-one taken) ∙ ap (λ b. b ∷ drop (suc taken) chunk) is ∙ sym (drop-cons chunk taken 0 below) in
    given_on part given mid new moved stayed (drop (taken + 1) chunk ++ more)
    ∙ ap (λ l. part ++ l) (whole (drop (taken + 1) chunk ++ more))
    ∙ ap (λ l. part ++ will_give now (l ++ more)) next
    ∙ passes more

-- what stands behind a place stands behind each later one
pub unchanged_on : (n m : ℕ) (xs ys : List ℕ) → n ≤ m → drop n xs ≡ drop n ys → drop m xs ≡ drop m ys
unchanged_on n m xs ys onward same =
    let split : m ≡ n + (m - n) = omega (arith, onward) in
    ap (λ k. drop k xs) split ∙ sym (drop-drop (m - n) n xs) ∙ ap (drop (m - n)) same ∙ drop-drop (m - n) n ys ∙ sym (ap (λ k. drop k ys) split)

-- a run at the front of a chunk, and what is given behind it
run_on : (place : Place) (chunk front more : List ℕ) (k run : ℕ) → front ≡ take k chunk → run ≡ run_length place front → run ≤ length front → given_from place (chunk ++ more) ≡ take run front ++ given_from place (drop run chunk ++ more)
run_on place chunk front more k run is so_many within =
    let halves : chunk ≡ front ++ drop k chunk = sym (take-append-drop k chunk) ∙ ap (λ l. l ++ drop k chunk) (sym is) in
    let later : drop run chunk ++ more ≡ drop run front ++ (drop k chunk ++ more) =
    ap (λ l. drop run l ++ more) halves ∙ ap (λ l. l ++ more) (drop-append-le run front (drop k chunk) within) ∙ append_assoc (drop run front) (drop k chunk) more in
    ap (λ l. given_from place (l ++ more)) halves
    ∙ ap (given_from place) (append_assoc front (drop k chunk) more)
    ∙ run_given place front (drop k chunk ++ more)
    ∙ ap (λ n. take n front ++ given_from place (drop n front ++ (drop k chunk ++ more))) (sym so_many)
    ∙ ap (λ l. take run front ++ given_from place l) (sym later)

-- a run at the front of a chunk was given
pub run_passed : (adapter : Informing) (chunk front old new : List ℕ) (at k run : ℕ) → adapter.ready ≡ [] → front ≡ take k chunk → run ≡ run_length adapter.place front → run ≤ length front →
    take (at + run) new ≡ take at old ++ take run front → (more : List ℕ) → take (at + run) new ++ will_give adapter (drop run chunk ++ more) ≡ take at old ++ will_give adapter (chunk ++ more)
run_passed adapter chunk front old new at k run none is so_many within given more =
    let gives : (rest : List ℕ) → will_give adapter rest ≡ given_from adapter.place rest = λ rest. ap (λ l. l ++ given_from adapter.place rest) none in
    ap (λ l. l ++ will_give adapter (drop run chunk ++ more)) given
    ∙ append_assoc (take at old) (take run front) (will_give adapter (drop run chunk ++ more))
    ∙ ap (λ l. take at old ++ (take run front ++ l)) (gives (drop run chunk ++ more))
    ∙ ap (λ l. take at old ++ l) (sym (run_on adapter.place chunk front more k run is so_many within))
    ∙ ap (λ l. take at old ++ l) (sym (gives (chunk ++ more)))

-- a run more of the chunk
pub run_taken : (chunk part given rest : List ℕ) (taken run : ℕ) (old now : Informing) → Passes will_give old chunk taken part now → rest ≡ drop taken chunk →
    ((more : List ℕ) → given ++ will_give now (drop run rest ++ more) ≡ part ++ will_give now (rest ++ more)) → Passes will_give old chunk (taken + run) given now
run_taken chunk part given rest taken run old now passes is run_given more =
    ap (λ l. given ++ will_give now (l ++ more)) (sym (drop-drop run taken chunk) ∙ ap (drop run) (sym is))
    ∙ run_given more
    ∙ ap (λ l. part ++ will_give now (l ++ more)) is
    ∙ passes more
