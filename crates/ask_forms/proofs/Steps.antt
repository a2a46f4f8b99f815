-- Questions and answers one by one.
use Rattle.std.proofs.Common.{◌≡◌, ℕ, ◌<◌, Bool, true, List, [], ◌∷◌, ◌++◌, length, take, get_or, ap, sym, inl, inr, refl, append_assoc, arith, zero, suc, Bor}
use Rattle.std.specs.Prelude.{Option, Some, None, filter}
use Rattle.host_types.specs.declared.form.Question.{Question}
use Rattle.ask_forms.specs.declared.answer.Answer.{Answer}
use Rattle.ask_forms.specs.Reading.{onto_answers}
use Rattle.std.proofs.lemmas.Bool.{cases_Bool}
use Rattle.host_types.specs.Items.{prompt_of}
use Rattle.ask_forms.specs.Post.{is_shown, answer_text, first_line, first_answered}

-- answers in front of those that are left
abbrev pub onto_all : List Answer → Option (List Answer) → Option (List Answer)
onto_all front None = None
onto_all front (Some others) = Some (front ++ others)

pub onto_one : (front : List Answer) (a : Answer) (others : Option (List Answer)) → onto_all front (onto_answers a others) ≡ onto_all (front ++ a ∷ []) others
onto_one front a None = refl
onto_one front a (Some others) = ap Some (sym (append_assoc front (a ∷ []) others))

pub none_onto : (others : Option (List Answer)) → onto_all [] others ≡ others
none_onto None = refl
none_onto (Some others) = refl

-- a question with its answer
abbrev pub pair_of : Bor Question × Bor Answer → Question × Answer
pair_of p = (p.0.now, p.1.now)

abbrev pub shows : Question × Answer → Bool
shows p = is_shown p.0

abbrev pub pair_text : Question × Answer → List ℕ
pair_text p = answer_text (prompt_of p.0) p.1

-- what stands first among those that are shown
pub first_of : (ps : List (Question × Answer)) (k : ℕ) (d : Question × Answer) → k < length ps → filter shows (take k ps) ≡ [] → shows (get_or ps k d) ≡ true → first_answered (filter shows ps) ≡ first_line (get_or ps k d).1
first_of [] k d less none is = absurd (omega arith)
first_of (p ∷ ps) zero d less none is = rw is refl
first_of (p ∷ ps) (suc k) d less none is =
    elim (cases_Bool (shows p)) [
      | inl e ↦ absurd (let h = rw e at none in cc h)
      | inr e ↦ rw e (first_of ps k d (omega arith) (rw e at none) is)
    ]
