-- One more waiting page is released.
use Rattle.std.proofs.Common.{◌≡◌, ◌<◌, ◌≤◌, ◌+◌, ℕ, Bool, false, List, cond, sym, ap, ◌∙◌, arith, inl, inr, ⊎_elim}
use Rattle.std.specs.Prelude.{◌⊎◌, Option}
use Rattle.std.proofs.lemmas.Bool.{cases_eq, eq-eqb, ne_eqb}
use Rattle.page_alloc.specs.declared.life.Life.{Life}
use Rattle.page_alloc.specs.Kept.{is_pinned, swept, SweptSoFar}
use Rattle.page_alloc.specs.Runs.{Use, Root, Waiting, Retired, Held, Taken, Free, OneChanges}

not_waiting : (pins : List (Option ℕ)) (life : Life) (old : Use) → is_pinned pins life ≡ false → swept pins life old ≡ Waiting → ⊥
not_waiting pins life Root loose h = cc h
not_waiting pins life Waiting loose h = cc (ap (λ (b : Bool). cond b Waiting Free) (sym loose) ∙ h)
not_waiting pins life Retired loose h = cc h
not_waiting pins life Held loose h = cc h
not_waiting pins life Taken loose h = cc h
not_waiting pins life Free loose h = cc h

module _ (pins : List (Option ℕ)) (life : ℕ → Life) (n j retired q : ℕ) (place after : ℕ → ℕ) (old now new : ℕ → Use) where
  pub swept_more : ((p : ℕ) → p < n → SweptSoFar pins (life p) (j + 1) (place p) (old p) (now p))
      → j ≤ retired
      → ((p : ℕ) → p < n → place p ≡ j → p ≡ q)
      → now q ≡ Waiting
      → is_pinned pins (life q) ≡ false
      → OneChanges n q Free now new
      → ((p : ℕ) → p < n → after p < retired → (after p ≡ place p) ⊎ (place p ≡ retired))
      → ((p : ℕ) → p < n → new p ≡ Waiting → after p < retired)
      → (p : ℕ) → p < n → SweptSoFar pins (life p) j (after p) (old p) (new p)
  swept_more inv le only waits loose one moved below p lt =
      elim (cases_eq p q) [
        | inl same ↦
            let freed : new p ≡ Free = one p lt ∙ ap (λ (b : Bool). cond b Free (now p)) (eq-eqb p q same) in
            let loose_p : is_pinned pins (life p) ≡ false = ap (λ (k : ℕ). is_pinned pins (life k)) same ∙ loose in
            ⊎_elim
            (λ done. absurd (not_waiting pins (life p) (old p) loose_p (sym done ∙ ap now same ∙ waits)))
            (λ still. inl (freed ∙ sym (ap (λ (b : Bool). cond b Waiting Free) loose_p) ∙ sym (ap (swept pins (life p)) still.1)))
            (inv p lt)
        | inr other ↦
            let kept : new p ≡ now p = one p lt ∙ ap (λ (b : Bool). cond b Free (now p)) (ne_eqb p q other) in
            ⊎_elim
            (λ done. inl (kept ∙ done))
            (λ still.
            let elsewhere : place p ≡ j → ⊥ = λ there. other (only p lt there) in
            let before : place p < j = omega (arith, still.2, elsewhere) in
            inr (kept ∙ still.0, still.1, ⊎_elim (λ same. omega (arith, same, before)) (λ last. absurd (omega (arith, last, before, le))) (moved p lt (below p lt (kept ∙ still.0)))))
            (inv p lt)
      ]
