-- Reading fields of one sort in a loop.
use Rattle.std.proofs.Common.{◌≡◌, ℕ, zero, suc, Bool, true, false, cond, eqb, List, [], ◌∷◌, ◌++◌, length, Option, Some, None, is_some, Result, Ok, Err, refl, sym, ap, subst, ◌∙◌, append_assoc}
use Rattle.std.proofs.lemmas.List.{append-nil}
use Rattle.std.specs.Prelude.{IsTrue, IfErr}
use Rattle.site_records.specs.declared.record.RecordFault.{RecordFault}
use Rattle.site_records.specs.declared.record.RecordFault.TheVariants.{BadRecord, Memory}
use Rattle.site_records.specs.Reading.{Gives, ReadingFails, MemoryOnlyFor}
use Rattle.site_records.specs.Field.{Read, ◌>>=◌, times, until_end, with_front, with_all}

pub with_front-nil : {A R : Type 0} (r : Option (List A × R)) → with_front [] r ≡ r
with_front-nil None = refl
with_front-nil (Some x) = refl

pub with_all-nil : {A : Type 0} (r : Option (List A)) → with_all [] r ≡ r
with_all-nil None = refl
with_all-nil (Some x) = refl

module _ {A : Type 0} (read : Read A) where
  front_moves : (front : List A) (x : A) (r : Option (List A × List ℕ)) → with_front (front ++ x ∷ []) r ≡ with_front front (r >>= λ others. Some (x ∷ others.0, others.1))
  front_moves front x None = refl
  front_moves front x (Some others) = ap (λ (l : List A). Some (l, others.1)) (append_assoc front (x ∷ []) others.0)

  all_moves : (front : List A) (x : A) (r : Option (List A)) → with_all (front ++ x ∷ []) r ≡ with_all front (r >>= λ others. Some (x ∷ others))
  all_moves front x None = refl
  all_moves front x (Some others) = ap (λ (l : List A). Some l) (append_assoc front (x ∷ []) others)

  pub times_more : (front : List A) (m n : ℕ) (x : A) (rest after : List ℕ) (all : Option (List A × List ℕ)) → m ≡ suc n → read rest ≡ Some (x, after) → with_front front (times read m rest) ≡ all → with_front (front ++ x ∷ []) (times read n after) ≡ all
  times_more front m n x rest after all is found whole =
      front_moves front x (times read n after)
      ∙ ap (λ (r : Option (A × List ℕ)). with_front front (r >>= λ y. times read n y.1 >>= λ ys. Some (y.0 ∷ ys.0, ys.1))) (sym found)
      ∙ ap (λ (k : ℕ). with_front front (times read k rest)) (sym is) ∙ whole

  pub times_stop : (front : List A) (m n : ℕ) (rest : List ℕ) (all : Option (List A × List ℕ)) → m ≡ suc n → read rest ≡ None → with_front front (times read m rest) ≡ all → all ≡ None
  times_stop front m n rest all is found whole =
      sym whole ∙ ap (λ (k : ℕ). with_front front (times read k rest)) is
      ∙ ap (λ (r : Option (A × List ℕ)). with_front front (r >>= λ y. times read n y.1 >>= λ ys. Some (y.0 ∷ ys.0, ys.1))) found

  pub times_done : (front : List A) (m : ℕ) (rest : List ℕ) (all : Option (List A × List ℕ)) → m ≡ 0 → with_front front (times read m rest) ≡ all → all ≡ Some (front, rest)
  times_done front m rest all is whole = sym whole ∙ ap (λ (k : ℕ). with_front front (times read k rest)) is ∙ ap (λ (l : List A). Some (l, rest)) (append-nil front)

  abbrev last_step : Option (List A)
  last_step = Some []

  pub until_more : (front : List A) (m n : ℕ) (x : A) (rest after : List ℕ) (all : Option (List A)) → m ≡ suc n → eqb (length rest) 0 ≡ false → read rest ≡ Some (x, after) → with_all front (until_end read m rest) ≡ all → with_all (front ++ x ∷ []) (until_end read n after) ≡ all
  until_more front m n x rest after all is more found whole =
      all_moves front x (until_end read n after)
      ∙ ap (λ (r : Option (A × List ℕ)). with_all front (r >>= λ y. until_end read n y.1 >>= λ ys. Some (y.0 ∷ ys))) (sym found)
      ∙ ap (λ (b : Bool). with_all front (cond b last_step (read rest >>= λ y. until_end read n y.1 >>= λ ys. Some (y.0 ∷ ys)))) (sym more)
      ∙ ap (λ (k : ℕ). with_all front (until_end read k rest)) (sym is) ∙ whole

  pub until_stop : (front : List A) (m n : ℕ) (rest : List ℕ) (all : Option (List A)) → m ≡ suc n → eqb (length rest) 0 ≡ false → read rest ≡ None → with_all front (until_end read m rest) ≡ all → all ≡ None
  until_stop front m n rest all is more found whole =
      sym whole ∙ ap (λ (k : ℕ). with_all front (until_end read k rest)) is
      ∙ ap (λ (b : Bool). with_all front (cond b last_step (read rest >>= λ y. until_end read n y.1 >>= λ ys. Some (y.0 ∷ ys)))) more
      ∙ ap (λ (r : Option (A × List ℕ)). with_all front (r >>= λ y. until_end read n y.1 >>= λ ys. Some (y.0 ∷ ys))) found

  at_end : (m : ℕ) (rest : List ℕ) → eqb (length rest) 0 ≡ true → until_end read m rest ≡ Some []
  at_end zero rest e = ap (λ (b : Bool). cond b last_step None) e
  at_end (suc m) rest e = ap (λ (b : Bool). cond b last_step (read rest >>= λ y. until_end read m y.1 >>= λ ys. Some (y.0 ∷ ys))) e

  pub until_done : (front : List A) (m : ℕ) (rest : List ℕ) (all : Option (List A)) → eqb (length rest) 0 ≡ true → with_all front (until_end read m rest) ≡ all → all ≡ Some front
  until_done front m rest all e whole = sym whole ∙ ap (with_all front) (at_end m rest e) ∙ ap (λ (l : List A). Some l) (append-nil front)

  pub until_over : (front : List A) (m : ℕ) (rest : List ℕ) (all : Option (List A)) → m ≡ 0 → eqb (length rest) 0 ≡ false → with_all front (until_end read m rest) ≡ all → all ≡ None
  until_over front m rest all is more whole =
      sym whole ∙ ap (λ (k : ℕ). with_all front (until_end read k rest)) is ∙ ap (λ (b : Bool). with_all front (cond b last_step None)) more

  -- what fails behind what was read fails in all
  fails_behind : (front : List A) (r : Option (List A)) (e : RecordFault) → ReadingFails e r → ReadingFails e (with_all front r)
  fails_behind front None Memory fails = absurd (cc fails)
  fails_behind front None BadRecord fails = refl
  fails_behind front (Some xs) Memory fails = refl
  fails_behind front (Some xs) BadRecord fails = absurd (cc fails)

  pub until_fails : (front : List A) (m n : ℕ) (x : A) (rest after : List ℕ) (all : Option (List A)) (e : RecordFault) → m ≡ suc n → eqb (length rest) 0 ≡ false → read rest ≡ Some (x, after) → with_all front (until_end read m rest) ≡ all → ReadingFails e (until_end read n after) → ReadingFails e all
  until_fails front m n x rest after all e is more found whole fails =
      subst (ReadingFails e) (until_more front m n x rest after all is more found whole) (fails_behind (front ++ x ∷ []) (until_end read n after) e fails)

  -- reading goes on, and whether it ends well is what it was
  pub goes_on : (m n : ℕ) (x : A) (rest after : List ℕ) (all : Bool) → m ≡ suc n → eqb (length rest) 0 ≡ false → read rest ≡ Some (x, after) → is_some (until_end read m rest) ≡ all → is_some (until_end read n after) ≡ all
  goes_on m n x rest after all is more found whole =
      let step = ap (λ (r : Option (List A)). is_some r) (until_more [] m n x rest after (until_end read m rest) is more found (with_all-nil (until_end read m rest))) in
      is_some_all (x ∷ []) (until_end read n after) ∙ step ∙ whole
    where
      is_some_all : (front : List A) (r : Option (List A)) → is_some r ≡ is_some (with_all front r)
      is_some_all front None = refl
      is_some_all front (Some xs) = refl

-- Memory is lacking only for what is read, so for what is written so, where all that is read is.
pub lacks_for : {X : Type 0} (test : X → Bool) (write : X → List ℕ) (bytes : List ℕ) (read : Option X) → ((x : X) → read ≡ Some x → IsTrue (test x) × (bytes ≡ write x)) → (r : Result X RecordFault) → Gives (λ x. x) r read → IfErr r (MemoryOnlyFor test write bytes)
lacks_for test write bytes read found (Ok x) given = tt
lacks_for test write bytes read found (Err BadRecord) given = tt
lacks_for test write bytes None found (Err Memory) given = absurd cc
lacks_for test write bytes (Some x) found (Err Memory) given = let it = found x refl in (x, it.0, it.1)
