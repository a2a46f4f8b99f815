-- What a test of a name's bytes says.
use Rattle.std.proofs.Common.{◌≡◌, ℕ, Bool, true, false, cond, List, length, Some, None, Result, Ok, Err, refl}
use Rattle.std.specs.Prelude.{nat_le, nat_lt, ◌&&◌}
use Rattle.std.proofs.lemmas.Bool.{ltb-false, ltb-true, le-leb, lt-leb}
use Rattle.host_types.specs.Names.{name_of}
use Rattle.common_types.specs.declared.refused.Refused.{Refused}
use Rattle.common_types.specs.declared.refused.Refused.TheVariants.{BadName, TooLong}
use Rattle.site_records.specs.Field.{Read, passing}

abbrev passes : (List ℕ → Bool) → ℕ → List ℕ → Bool
passes test most text = nat_le (length text) most && test text

abbrev out : Bool → Bool → List ℕ → Result (List ℕ) Refused
out long good text = cond long (Err TooLong) (cond good (Ok text) (Err BadName))

by_cases : (long good short : Bool) (text name : List ℕ) → (long ≡ false → short ≡ true) → Ok name ≡ out long good text → ((short && good) ≡ true) × (text ≡ name)
by_cases true good short text name h e = absurd cc
by_cases false true short text name h e = (rw (h refl) refl, cc)
by_cases false false short text name h e = absurd cc

by_cases_not : (long good short : Bool) (text : List ℕ) (r : Refused) → (long ≡ true → short ≡ false) → Err r ≡ out long good text → (short && good) ≡ false
by_cases_not true good short text r h e = rw (h refl) refl
by_cases_not false true short text r h e = absurd cc
by_cases_not false false true text r h e = refl
by_cases_not false false false text r h e = refl

pub field_found : (test : List ℕ → Bool) (most : ℕ) (read : Read (List ℕ)) (bytes text rest name : List ℕ) → read bytes ≡ Some (text, rest) → Ok name ≡ name_of test most text → passing (passes test most) read bytes ≡ Some (name, rest)
unfolding passing
field_found test most read bytes text rest name e is =
    let found = by_cases (nat_lt most (length text)) (test text) (nat_le (length text) most) text name (λ h. le-leb (length text) most (ltb-false most (length text) h)) is in
    rw (e, found.0, ← found.1) refl

pub field_refused : (test : List ℕ → Bool) (most : ℕ) (read : Read (List ℕ)) (bytes text rest : List ℕ) (r : Refused) → read bytes ≡ Some (text, rest) → Err r ≡ name_of test most text → passing (passes test most) read bytes ≡ None
unfolding passing
field_refused test most read bytes text rest r e is =
    let no = by_cases_not (nat_lt most (length text)) (test text) (nat_le (length text) most) text r (λ h. lt-leb (length text) most (ltb-true most (length text) h)) is in
    rw (e, no) refl
