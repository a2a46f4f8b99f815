-- What a client reads of a text is its lines.
use Rattle.std.proofs.Common.{◌≡◌, ℕ, Bool, true, false, List, [], ◌∷◌, ◌++◌, ◌==◌, ◌&&◌, if◌then◌else◌, refl, sym, ap, ◌∙◌, inl, inr, flat_map, arith, append_assoc}
use Rattle.std.proofs.lemmas.Bool.{cases_Bool}
use Rattle.std.specs.List.{list_all}
use Rattle.host_types.specs.Lines.{begins, lines, onto_first_line}
use Rattle.text_writer.specs.Text.{text, client, sent_line, line_end, text_end, read_lines}

-- no LF stands in the line
abbrev pub has_no_lf : List ℕ → Bool
has_no_lf [] = true
has_no_lf (b ∷ bs) = if b == 10 then false else has_no_lf bs

first_is_not : (b : ℕ) (bs : List ℕ) → has_no_lf (b ∷ bs) ≡ true → (b == 10) ≡ false
first_is_not b bs h = elim (cases_Bool (b == 10)) [ inl e ↦ (let k = rw e at h in absurd (cc k)) | inr n ↦ n ]

rest_has_none : (b : ℕ) (bs : List ℕ) → has_no_lf (b ∷ bs) ≡ true → has_no_lf bs ≡ true
rest_has_none b bs h = let n = first_is_not b bs h in sym (rw n refl) ∙ h

no_lf_follows : (bs rest : List ℕ) → has_no_lf bs ≡ true → begins 10 (bs ++ 13 ∷ rest) ≡ false
no_lf_follows [] rest h = refl
no_lf_follows (b ∷ bs) rest h = first_is_not b bs h

-- one line and its end
pub line_read : (l rest : List ℕ) → has_no_lf l ≡ true → lines (l ++ 13 ∷ 10 ∷ rest) ≡ l ∷ lines rest
line_read [] rest h = refl
line_read (b ∷ bs) rest h =
    let ih = line_read bs rest (rest_has_none b bs h) in
    let n = first_is_not b bs h in
    let f = no_lf_follows bs (10 ∷ rest) (rest_has_none b bs h) in
    elim (cases_Bool (b == 13)) [
      | inl e ↦ rw (n, e, f) (ap (onto_first_line b) ih)
      | inr o ↦ rw (n, o) (ap (onto_first_line b) ih)
    ]

-- a line that begins with a period has one more
abbrev stuffed : List ℕ → List ℕ
stuffed line = if begins 46 line then 46 ∷ line else line

stuffed_clean : (l : List ℕ) → has_no_lf l ≡ true → has_no_lf (stuffed l) ≡ true
stuffed_clean l h = elim (cases_Bool (begins 46 l)) [ inl e ↦ rw e h | inr n ↦ rw n h ]

sent_read : (l rest : List ℕ) → has_no_lf l ≡ true → lines (sent_line l ++ rest) ≡ stuffed l ∷ lines rest
sent_read l rest h = ap lines (append_assoc (stuffed l) line_end rest) ∙ line_read (stuffed l) rest (stuffed_clean l h)

stuffed_read : (l : List ℕ) (more : List (List ℕ)) → read_lines (stuffed l ∷ more) ≡ l ∷ read_lines more
stuffed_read [] more = refl
stuffed_read (b ∷ bs) more = elim (cases_Bool (b == 46)) [ inl e ↦ rw e refl | inr n ↦ rw n (rw n refl) ]

all_read : (ls : List (List ℕ)) → list_all has_no_lf ls ≡ true → read_lines (lines (flat_map sent_line ls ++ text_end)) ≡ ls
all_read [] h = refl
all_read (l ∷ ls) h =
    let clean : has_no_lf l ≡ true = grind arith in
    let others : list_all has_no_lf ls ≡ true = grind arith in
    ap (λ bs. read_lines (lines bs)) (append_assoc (sent_line l) (flat_map sent_line ls) text_end)
    ∙ ap read_lines (sent_read l (flat_map sent_line ls ++ text_end) clean)
    ∙ stuffed_read l (lines (flat_map sent_line ls ++ text_end))
    ∙ ap (λ others. l ∷ others) (all_read ls others)

onto_clean : (b : ℕ) (ls : List (List ℕ)) → (b == 10) ≡ false → list_all has_no_lf ls ≡ true → list_all has_no_lf (onto_first_line b ls) ≡ true
onto_clean b [] n h = rw n refl
onto_clean b (l ∷ ls) n h = rw n h

-- the lines of a body
lines_clean : (body : List ℕ) → list_all has_no_lf (lines body) ≡ true
lines_clean [] = refl
lines_clean (b ∷ bs) =
    let ih = lines_clean bs in
    elim (cases_Bool (b == 10)) [
      | inl e ↦ rw e ih
      | inr n ↦ elim (cases_Bool (b == 13 && begins 10 bs)) [ inl e ↦ rw (n, e) ih | inr m ↦ rw (n, m) (onto_clean b (lines bs) n ih) ]
    ]

pub client_reads : (body : List ℕ) → client (text body) ≡ lines body
unfolding text
client_reads body = all_read (lines body) (lines_clean body)
