-- What the getters of the matches say of the rows.
use Rattle.std.proofs.Common.{◌≡◌, ◌∙◌, ◌<◌, ◌^◌, ap, refl, sym, subst, codes, ℕ, Bool, true, false, List, Option, Some, None, map, option_map}
use Rattle.std.specs.Prelude.{Result, Ok, Err}
use Rattle.std.specs.Result.{result_ok}
use Rattle.std.specs.Net.Grammar.{IsSocketText, Parses}
use Rattle.std.specs.declared.net.SocketAddr.{SocketAddr}
use Rattle.std.specs.Borrow.{Bor}
use Rattle.std.specs.Str.Parse.{ExplainsUnsignedError, HasUnsignedDigitsIfOk, ParsesUnsigned}
use Rattle.std.specs.declared.num.ParseIntError.{ParseIntError}
use Rattle.clap.specs.Words.{ReadsOne, Text, all_of, first_of, first_value, matched_of, one_text, raw_values, rows_of}
use Rattle.clap.specs.declared.parser.matches.Found.{Found}
use Rattle.clap.proofs.WalkLemmas.{first_value-rows, one_text-rows, raw_values-rows}
use Rattle.command_words.specs.Tasks.{GivesOne, HasAddress, HasFlag, HasNumber, HasNumberIfAny, HasText, HasTexts}

-- nothing is given where nothing is as it should be
pub gives_none : {A : Type 0} (Is : A → Type 0) (r : Option A) → r ≡ None → ((a : A) → Is a → ⊥) → GivesOne Is r
gives_none Is r e never = subst (GivesOne Is) (sym e) never

pub found_text : (f : Found) (id : Text) (r : Option (Bor Text)) (s : Bor Text) → option_map (λ x. x.now) r ≡ first_value f id → r ≡ Some s → HasText (rows_of f) id s
found_text f id r s e is = sym (first_value-rows f id) ∙ (sym e ∙ ap (option_map (λ x. x.now)) is)

pub no_text : (f : Found) (id : Text) (r : Option (Bor Text)) → option_map (λ x. x.now) r ≡ first_value f id → r ≡ None → first_of id (rows_of f) ≡ None
no_text f id r e is = sym (first_value-rows f id) ∙ (sym e ∙ ap (option_map (λ x. x.now)) is)

-- there is no text of an id that has none
pub not_both : {A : Type 0} (o : Option A) (a : A) → o ≡ None → o ≡ Some a → ⊥
not_both o a none some =
    let bad : None ≡ Some a = sym none ∙ some in
    cc

-- all texts of an id, and none
pub found_texts : (f : Found) (id : Text) (r : Option (Bor (List (Bor Text)))) (s : Bor (List (Bor Text))) → option_map (λ (s : Bor (List (Bor Text))). map (λ (v : Bor Text). v.now) s.now) r ≡ option_map raw_values (matched_of f id) → r ≡ Some s → HasTexts (rows_of f) id (map (λ (v : Bor Text). v.now) s.now)
found_texts f id r s e is = sym (raw_values-rows f id) ∙ (sym e ∙ ap (option_map (λ (s : Bor (List (Bor Text))). map (λ (v : Bor Text). v.now) s.now)) is)

pub no_texts : (f : Found) (id : Text) (r : Option (Bor (List (Bor Text)))) → option_map (λ (s : Bor (List (Bor Text))). map (λ (v : Bor Text). v.now) s.now) r ≡ option_map raw_values (matched_of f id) → r ≡ None → all_of id (rows_of f) ≡ None
no_texts f id r e is = sym (raw_values-rows f id) ∙ (sym e ∙ ap (option_map (λ (s : Bor (List (Bor Text))). map (λ (v : Bor Text). v.now) s.now)) is)

-- what `parse` says at an unsigned type of so many bits
abbrev IsParsed : ℕ → Text → Result ℕ ParseIntError → Type 0
IsParsed bits = λ t r. ParsesUnsigned bits 10 t r × ExplainsUnsignedError 10 t r × HasUnsignedDigitsIfOk t r

module _ (bits : ℕ) (f : Found) (id : Text) (r : Option ℕ) where
  pub found_number : (n : ℕ) → (one_text f id ≡ None → r ≡ None) → ((t : Text) → one_text f id ≡ Some t → ReadsOne (IsParsed bits) t r) → r ≡ Some n → HasNumber (rows_of f) id bits n
  found_number n none value is = go (one_text f id) refl
    where
      go : (o : Option Text) → one_text f id ≡ o → HasNumber (rows_of f) id bits n
      go None e = absurd (not_both r n (none e) is)
      go (Some t) e =
          let read : IsParsed bits t (Ok n) = subst (ReadsOne (IsParsed bits) t) is (value t e) in
          let p = read.0 in
          (t, sym (one_text-rows f id) ∙ e, p.0.0, sym p.1, subst (λ k. k < 2 ^ bits) (sym p.1) p.0.1)

  pub no_number : ((t : Text) → one_text f id ≡ Some t → ReadsOne (IsParsed bits) t r) → r ≡ None → (n : ℕ) → HasNumber (rows_of f) id bits n → ⊥
  no_number value is n h =
      let t = h.0 in
      let read : ReadsOne (IsParsed bits) t None = subst (ReadsOne (IsParsed bits) t) is (value t (one_text-rows f id ∙ h.1)) in
      let p = read.1.0 in
      p (h.2, subst (λ k. k < 2 ^ bits) (sym h.3) h.4)

  -- the number that is found, and none where none is
  pub number_or_none : (one_text f id ≡ None → r ≡ None) → ((t : Text) → one_text f id ≡ Some t → ReadsOne (IsParsed bits) t r) → GivesOne (HasNumber (rows_of f) id bits) r
  number_or_none none value = go r refl
    where
      go : (o : Option ℕ) → r ≡ o → GivesOne (HasNumber (rows_of f) id bits) o
      go None is = no_number value is
      go (Some n) is = found_number n none value is

-- there is something that is no number, so that neither a number is found nor that there is nothing
pub no_number_at_all : (bits : ℕ) (f : Found) (id : Text) (r : Option (Bor Text)) (s : Bor Text) → option_map (λ x. x.now) r ≡ first_value f id → r ≡ Some s → ((n : ℕ) → HasNumber (rows_of f) id bits n → ⊥)
    → (n : Option ℕ) → HasNumberIfAny (rows_of f) id bits n → ⊥
no_number_at_all bits f id r s e is none (Some n) h = none n h
no_number_at_all bits f id r s e is none None h = not_both _ s.now h (found_text f id r s e is)

-- the address that a text is, and none where it is no address
pub found_address : {E : Type 0} (f : Found) (id : Text) (r : Option (Bor Text)) (s : Bor Text) (p : Result SocketAddr E) (o listen : Option SocketAddr) (a : SocketAddr) → option_map (λ x. x.now) r ≡ first_value f id → r ≡ Some s
    → Parses IsSocketText s.now p → o ≡ result_ok p → o ≡ Some a → listen ≡ Some a → HasAddress (rows_of f) id listen
found_address f id r s (Ok b) o listen a e is parsed ok some l =
    let same : Some a ≡ Some b = sym some ∙ ok in
    let b_is : a ≡ b = cc in
    subst (HasAddress (rows_of f) id) (sym l) (s.now, found_text f id r s e is, subst (IsSocketText s.now) (sym b_is) parsed)
found_address f id r s (Err x) o listen a e is parsed ok some l = absurd (not_both o a ok some)

pub no_address : {E : Type 0} (f : Found) (id : Text) (r : Option (Bor Text)) (s : Bor Text) (p : Result SocketAddr E) (o listen : Option SocketAddr) → option_map (λ x. x.now) r ≡ first_value f id → r ≡ Some s
    → Parses IsSocketText s.now p → o ≡ result_ok p → o ≡ None → HasAddress (rows_of f) id listen → ⊥
no_address f id r s (Ok b) o listen e is parsed ok none h = not_both o b none ok
no_address f id r s (Err x) o None e is parsed ok none h = not_both _ s.now h (found_text f id r s e is)
no_address f id r s (Err x) o (Some a) e is parsed ok none h =
    let same : Some h.0 ≡ Some s.now = sym h.1 ∙ found_text f id r s e is in
    let text : h.0 ≡ s.now = cc in
    parsed a (subst (λ t. IsSocketText t a) text h.2)

-- nothing is found where no text is
pub without_address : (f : Found) (id : Text) (r : Option (Bor Text)) (listen : Option SocketAddr) → option_map (λ x. x.now) r ≡ first_value f id → r ≡ None → listen ≡ None → HasAddress (rows_of f) id listen
without_address f id r listen e is l = subst (HasAddress (rows_of f) id) (sym l) (no_text f id r e is)

-- a flag as clap reads it
pub found_flag : (f : Found) (id : Text) (flag : Bool) → (one_text f id ≡ None → flag ≡ false) → (one_text f id ≡ Some (codes "true") → flag ≡ true)
    → (one_text f id ≡ Some (codes "false") → flag ≡ false) → HasFlag (rows_of f) id flag
found_flag f id flag none set other = (λ e. none (one_text-rows f id ∙ e), λ e. set (one_text-rows f id ∙ e), λ e. other (one_text-rows f id ∙ e))
