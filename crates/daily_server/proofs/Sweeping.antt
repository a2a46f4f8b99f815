-- One after another goes out who has gone.
use Rattle.std.proofs.Common.{◌≡◌, ℕ, ◌<◌, ◌≤◌, Bool, false, List, [], ◌∷◌, ◌++◌, length, take, drop, filter, if◌then◌else◌, slice_index_or, zero, suc, arith, sym, ap, ◌∙◌}
use Rattle.std.specs.List.{remove}

-- the last of them who was not looked at yet
out_at : {X : Type 0} (stays : X → Bool) (old : List X) (at : ℕ) (x : X) → at < length old → x ≡ slice_index_or (take (suc at) old ++ filter stays (drop (suc at) old)) at x → stays x ≡ false → remove (take (suc at) old ++ filter stays (drop (suc at) old)) at ≡ take at old ++ filter stays (drop at old)
out_at stays [] at x within here gone = absurd (omega (arith, within))
out_at stays (y ∷ old) zero x within here gone = sym (ap (λ b. if b then y ∷ filter stays old else filter stays old) (sym (ap stays here) ∙ gone))
out_at stays (y ∷ old) (suc at) x within here gone = ap (λ l. y ∷ l) (out_at stays old at x (omega (arith, within)) here gone)

pub one_out : {X : Type 0} (stays : X → Bool) (old now new : List X) (end at : ℕ) (x : X) → suc at ≡ end → end ≤ length old → now ≡ take end old ++ filter stays (drop end old) → x ≡ slice_index_or now at x → stays x ≡ false → new ≡ remove now at → new ≡ take at old ++ filter stays (drop at old)
one_out stays old now new end at x next within is here gone out =
    let so = is ∙ ap (λ n. take n old ++ filter stays (drop n old)) (sym next) in
    out ∙ ap (λ l. remove l at) so ∙ out_at stays old at x (omega (arith, next, within)) (here ∙ ap (λ l. slice_index_or l at x) so) gone
