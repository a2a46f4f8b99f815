-- The lives of the pages after a switch.
use Rattle.std.proofs.Common.{◌≡◌, ◌<◌, ◌≤◌, ◌+◌, ℕ, zero, suc, Bool, List, [], ◌∷◌, length, get_or, set, cond, leb, ltb, refl, sym, ap, ◌∙◌, arith, inl, inr}
use Rattle.std.specs.Prelude.{◌&&◌}
use Rattle.std.proofs.lemmas.Bool.{cases_eq}
use Rattle.std.proofs.lemmas.Bool.Decides.{nat_tests}
use Rattle.std.proofs.lemmas.List.{get_or-set_same, get_or-set_other, length-set}
use Rattle.page_alloc.specs.declared.life.Life.{Life}
use Rattle.page_alloc.specs.declared.life.Life.TheVariants.{Never}
use Rattle.page_alloc.specs.declared.runs.Starts.{Starts}
use Rattle.page_alloc.specs.Calls.{life_from, lives_from}
use Rattle.page_alloc.specs.Kept.{mark_at, marks_of, begun, ended_if_retired}
use Rattle.page_alloc.specs.Runs.{Use, Root, Waiting, Retired, Held, Taken, Free, use_at, at, IsInverse}

-- one more of the pages in a run is changed
pub changed_more : (pages places : List ℕ) (lives old : List Life) (f : Life → Life) (from i page : ℕ) (value : Life) → IsInverse pages places → length lives ≡ length pages → i < length pages → from ≤ i → page ≡ at pages i
    → ((p : ℕ) → p < length lives → get_or lives p Never ≡ cond (leb from (at places p) && ltb (at places p) i) (f (get_or old p Never)) (get_or old p Never))
    → value ≡ f (get_or lives page Never)
    → (p : ℕ) → p < length (set lives page value) → get_or (set lives page value) p Never ≡ cond (leb from (at places p) && ltb (at places p) (i + 1)) (f (get_or old p Never)) (get_or old p Never)
changed_more pages places lives old f from i page value inverse size lt le is inv v p below =
    let within : p < length lives = omega (arith, below, length-set lives page value) in
    let page_within : page < length lives = omega (arith, is, inverse.page_in i lt, size) in
    elim (cases_eq p page) [
      | inl same ↦
          let place : at places p ≡ i = ap (at places) (same ∙ is) ∙ inverse.place_back i lt in
          let before = inv p within in
          ap (λ (k : ℕ). get_or (set lives page value) k Never) same ∙ get_or-set_same lives page value Never page_within ∙ v ∙ ap (λ (k : ℕ). f (get_or lives k Never)) (sym same) ∙ ap f (before ∙ passed_over (at places p) place) ∙ sym (chosen (at places p) place)
      | inr other ↦
          let place : at places p ≡ i → ⊥ = λ there. other (sym (inverse.page_back p (omega (arith, within, size))) ∙ ap (at pages) there ∙ sym is) in
          get_or-set_other lives page p value Never other ∙ inv p within ∙ ap (λ (b : Bool). cond b (f (get_or old p Never)) (get_or old p Never)) (kept (at places p) place)
    ]
  where
    passed_over : (x : ℕ) → x ≡ i → cond (leb from x && ltb x i) (f (get_or old p Never)) (get_or old p Never) ≡ get_or old p Never
    passed_over x e = grind (arith, nat_tests, e)

    chosen : (x : ℕ) → x ≡ i → cond (leb from x && ltb x (i + 1)) (f (get_or old p Never)) (get_or old p Never) ≡ f (get_or old p Never)
    chosen x e = grind (arith, nat_tests, e, le)

    kept : (x : ℕ) → (x ≡ i → ⊥) → (leb from x && ltb x i) ≡ (leb from x && ltb x (i + 1))
    kept x ne = grind (arith, nat_tests, ne)

pub begun_and_ended : (generation : ℕ) (life : Life) (use_now : Use) → ended_if_retired generation (begun generation life use_now) use_now ≡ life_from generation life (mark_at use_now)
begun_and_ended g life Root = refl
begun_and_ended g life Waiting = refl
begun_and_ended g life Retired = refl
begun_and_ended g life Held = refl
begun_and_ended g life Taken = refl
begun_and_ended g life Free = refl

pub lives_from_is : (generation : ℕ) (starts : Starts) (new old : List Life) (places : List ℕ) → length new ≡ length old → length places ≡ length old
    → ((p : ℕ) → p < length old → get_or new p Never ≡ life_from generation (get_or old p Never) (mark_at (use_at starts (at places p))))
    → new ≡ lives_from generation old (marks_of starts places)
lives_from_is g starts [] [] [] e h each = refl
lives_from_is g starts [] [] (place ∷ places) e h each = absurd (omega (arith, h))
lives_from_is g starts (x ∷ new) [] places e h each = absurd (omega (arith, e))
lives_from_is g starts [] (y ∷ old) places e h each = absurd (omega (arith, e))
lives_from_is g starts (x ∷ new) (y ∷ old) [] e h each = absurd (omega (arith, h))
lives_from_is g starts (x ∷ new) (y ∷ old) (place ∷ places) e h each =
    let rest = lives_from_is g starts new old places (omega (arith, e)) (omega (arith, h)) (λ p lt. each (suc p) (omega (arith, lt))) in
    ap (λ (z : Life). z ∷ new) (each zero (omega arith)) ∙ ap (λ (zs : List Life). life_from g y (mark_at (use_at starts place)) ∷ zs) rest
