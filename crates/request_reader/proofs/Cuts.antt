-- A reader of the pieces says what the stream says.
use Rattle.std.proofs.Common.{◌≡◌, ℕ, Bool, true, false, List, [], ◌∷◌, ◌++◌, ap, sym, ◌∙◌, inl, inr, refl, append_assoc}
use Rattle.std.specs.Prelude.{fold}
use Rattle.std.proofs.lemmas.List.{append-nil}
use Rattle.std.proofs.lemmas.Bool.{cases_Bool}
use Rattle.request_reader.specs.Verdict.{verdict, is_open}
use Rattle.request_reader.specs.ReceivedInput.{ReceivedInput, verdict_by, silence, fed, finished}
use Rattle.request_reader.specs.Laws.{joined, fed_all, SaysTheWhole, SaysTheEnd}
use Rattle.request_reader.proofs.GrowingStreams.{closed_verdict_stays_lem}

-- before the end of input, what was said is said with what follows
stays_said : (h : ReceivedInput) → h.input.ended ≡ false → is_open (verdict_by h.input) ≡ false → (rest : List ℕ) (ended : Bool) → verdict (h.input.bytes ++ rest) ended ≡ verdict h.input.bytes false
stays_said h going closed rest ended = closed_verdict_stays_lem h.input.bytes rest ended (ap (λ e. is_open (verdict h.input.bytes e)) (sym going) ∙ closed)

-- one piece more, and what follows
goes_on : (h : ReceivedInput) → h.input.ended ≡ false → (piece rest : List ℕ) (ended : Bool) → verdict ((fed h piece).input.bytes ++ rest) ended ≡ verdict (h.input.bytes ++ (piece ++ rest)) ended
goes_on h going piece rest ended =
    elim (cases_Bool (is_open (verdict_by h.input))) [
      | inl more ↦ rw (more, append_assoc) refl
      | inr closed ↦ rw closed (stays_said h going closed rest ended ∙ sym (stays_said h going closed (piece ++ rest) ended))
    ]

still_going : (h : ReceivedInput) (piece : List ℕ) → (fed h piece).input.ended ≡ h.input.ended
still_going h piece = elim (cases_Bool (is_open (verdict_by h.input))) [ inl more ↦ rw more refl | inr closed ↦ rw closed refl ]

all_going : (pieces : List (List ℕ)) (h : ReceivedInput) → h.input.ended ≡ false → (fold fed h pieces).input.ended ≡ false
all_going [] h going = going
all_going (p ∷ ps) h going = all_going ps (fed h p) (still_going h p ∙ going)

all_go_on : (pieces : List (List ℕ)) (h : ReceivedInput) → h.input.ended ≡ false → (ended : Bool) → verdict (fold fed h pieces).input.bytes ended ≡ verdict (h.input.bytes ++ joined pieces) ended
all_go_on [] h going ended = ap (λ l. verdict l ended) (sym (append-nil h.input.bytes))
all_go_on (p ∷ ps) h going ended = all_go_on ps (fed h p) (still_going h p ∙ going) ended ∙ goes_on h going p (joined ps) ended

pub says_the_whole : SaysTheWhole
says_the_whole pieces = ap (verdict (fed_all pieces).input.bytes) (all_going pieces silence refl) ∙ all_go_on pieces silence refl false

end_said : (h : ReceivedInput) → h.input.ended ≡ false → verdict_by (finished h).input ≡ verdict h.input.bytes true
end_said h going =
    elim (cases_Bool (is_open (verdict_by h.input))) [
      | inl more ↦ rw more refl
      | inr closed ↦ rw closed (ap (verdict h.input.bytes) going ∙ sym (stays_said h going closed [] true) ∙ ap (λ l. verdict l true) (append-nil h.input.bytes))
    ]

pub says_the_end : SaysTheEnd
says_the_end pieces = end_said (fed_all pieces) (all_going pieces silence refl) ∙ all_go_on pieces silence refl true
