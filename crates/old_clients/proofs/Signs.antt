-- The place of the `$` that is rewritten.
use Rattle.std.proofs.Common.{◌≡◌, ℕ, ◌+◌, ◌-◌, ◌<◌, true, false, List, [], ◌∷◌, ◌++◌, ◌==◌, ap, sym, ◌∙◌, inl, inr, refl, take, drop, length, arith, Bool, append_assoc, length-append, length-drop, length-take, eqb-true, drop_of_length-le}
use Rattle.std.specs.Prelude.{codes}
use Rattle.std.specs.Str.{bytes_eq}
use Rattle.std.specs.List.{position_or_len, before_first, after_first, slice_set}
use Rattle.std.proofs.lemmas.Bool.{and_parts, cases_Bool}
use Rattle.std.proofs.lemmas.List.{set_at, set-append_left, take_rest}
use Rattle.std.proofs.lemmas.List.Sums.{split_at_first, passes_at_first}
use Rattle.std.proofs.lemmas.Slice.Eq.{bytes_eq-Decides}
use Rattle.host_types.specs.Lines.{without_cr}
use Rattle.request_reader.specs.RequestLine.{is_tab}
use Rattle.old_clients.specs.AdaptedRequest.{adapted_fields, has_data, has_words, is_old, is_search, is_words}
use Rattle.old_clients.specs.Signs.{IsSign, HasNoSign}

-- a line is what stands before its CR, and the CR
pub cr_stays : (line : List ℕ) → without_cr line ++ drop (length (without_cr line)) line ≡ line
cr_stays [] = refl
cr_stays (b ∷ []) = elim (cases_Bool (b == 13)) [ inl e ↦ rw e refl | inr n ↦ rw n refl ]
cr_stays (b ∷ c ∷ bs) = ap (λ l. b ∷ l) (cr_stays (c ∷ bs))

-- a line that has a TAB is its first field and what follows
pub cut_at_tab : (xs : List ℕ) → position_or_len is_tab xs < length xs → xs ≡ before_first is_tab xs ++ 9 ∷ after_first is_tab xs
cut_at_tab xs less = split_at_first is_tab xs 0 less ∙ ap (λ b. before_first is_tab xs ++ b ∷ after_first is_tab xs) (eqb-true _ 9 (passes_at_first is_tab xs 0 less))

-- the sign stands between what is before it and what is behind
sign_at : (line front back : List ℕ) (at : ℕ) → without_cr line ≡ front ++ 36 ∷ back → length front ≡ at → adapted_fields (without_cr line) ≡ front ++ 43 ∷ back → is_old (without_cr line) ≡ true → IsSign line at
sign_at line front back at is place adapted old =
    let tail = drop (length (without_cr line)) line in
    let below : at < length (without_cr line) = omega (arith, ap length is, length-append front (36 ∷ back)) in
    let whole : length (without_cr line) + length tail ≡ length line = sym (length-append (without_cr line) tail) ∙ ap length (cr_stays line) in
    record {
      within = omega (arith, below, whole);
      old = old;
      adapted = ap (λ l. slice_set l at 43) (sym (cr_stays line))
          ∙ set-append_left (without_cr line) tail at 43 below
          ∙ ap (λ l. slice_set l at 43 ++ tail) is
          ∙ ap (λ l. l ++ tail) (set_at front 36 back 43 at place)
          ∙ ap (λ l. l ++ tail) (sym adapted);
    }

-- `$` before a data flag
pub data_sign : (line : List ℕ) → position_or_len is_tab (without_cr line) < length (without_cr line) → has_data (without_cr line) ≡ true → IsSign line (position_or_len is_tab (without_cr line) + 1)
data_sign line less flag =
    let content = without_cr line in
    let first = before_first is_tab content in
    let part : after_first is_tab content ≡ codes "$\t1" = (bytes_eq-Decides (after_first is_tab content) (codes "$\t1")).0 flag in
    let size : length first ≡ position_or_len is_tab content = omega (arith, length-take (position_or_len is_tab content) content, less) in
    sign_at line (first ++ 9 ∷ []) (9 ∷ 49 ∷ []) _
    (cut_at_tab content less ∙ ap (λ l. first ++ 9 ∷ l) part ∙ sym (append_assoc first (9 ∷ []) (codes "$\t1")))
    (length-append first (9 ∷ []) ∙ ap (λ n. n + 1) size)
    (rw flag (sym (append_assoc first (9 ∷ []) (codes "+\t1"))))
    (rw flag refl)

-- `$` behind search words
pub words_sign : (line : List ℕ) → position_or_len is_tab (without_cr line) < length (without_cr line) → has_data (without_cr line) ≡ false → has_words (without_cr line) ≡ true → IsSign line (length (without_cr line) - 1)
words_sign line less other has =
    let content = without_cr line in
    let first = before_first is_tab content in
    let part = after_first is_tab content in
    let words = before_first is_tab part in
    let sign : after_first is_tab part ≡ codes "$" = (bytes_eq-Decides (after_first is_tab part) (codes "$")).0 (and_parts (is_words words) _ has).1 in
    let more : position_or_len is_tab part < length part = omega (arith, ap length sign, length-drop (position_or_len is_tab part + 1) part) in
    let before = first ++ codes "\t" ++ words in
    let front = before ++ 9 ∷ [] in
    let behind : (sign : ℕ) → before ++ 9 ∷ sign ∷ [] ≡ front ++ sign ∷ [] = λ sign. sym (append_assoc before (9 ∷ []) (sign ∷ [])) in
    let is : content ≡ front ++ 36 ∷ [] =
    cut_at_tab content less
    ∙ ap (λ l. first ++ 9 ∷ l) (cut_at_tab part more ∙ ap (λ l. words ++ 9 ∷ l) sign)
    ∙ sym (append_assoc first (codes "\t") (words ++ codes "\t$"))
    ∙ sym (append_assoc (first ++ codes "\t") words (codes "\t$"))
    ∙ behind 36 in
    sign_at line front [] _ is
    (omega (arith, ap length is, length-append front (36 ∷ [])))
    (rw (other, has) (behind 43))
    (rw (other, has) refl)

-- a line whose fields stay is passed on as it came
pub no_sign : (line : List ℕ) → has_data (without_cr line) ≡ false → has_words (without_cr line) ≡ false → HasNoSign line
no_sign line flag words = record { other = rw (flag, words) refl; same = rw (flag, words) (cr_stays line) }

-- a line without TAB
pub no_tab : (line : List ℕ) → position_or_len is_tab (without_cr line) ≡ length (without_cr line) → HasNoSign line
no_tab line none =
    let content = without_cr line in
    let part : after_first is_tab content ≡ [] = drop_of_length-le content (omega (arith, none)) in
    no_sign line (rw part refl) (rw part refl)

-- the bytes of a slice behind its first TAB
behind_tab : (line content : List ℕ) (tab : ℕ) → content ≡ without_cr line → tab ≡ position_or_len is_tab content → take (length content - (tab + 1)) (drop (tab + 1) content) ≡ after_first is_tab (without_cr line)
behind_tab line content tab is place =
    take_rest content (tab + 1) ∙ ap (λ n. drop (n + 1) content) place ∙ ap (after_first is_tab) is

-- what was answered of these bytes
pub flag_read : (line content flag : List ℕ) (tab : ℕ) (answer : Bool) → content ≡ without_cr line → tab ≡ position_or_len is_tab content → flag ≡ codes "$\t1" →
    answer ≡ bytes_eq (take (length content - (tab + 1)) (drop (tab + 1) content)) flag → has_data (without_cr line) ≡ answer
flag_read line content flag tab answer is place said answered =
    ap (λ part. bytes_eq part (codes "$\t1")) (sym (behind_tab line content tab is place)) ∙ ap (bytes_eq (take (length content - (tab + 1)) (drop (tab + 1) content))) (sym said) ∙ sym answered

pub words_read : (line content : List ℕ) (tab : ℕ) (answer : Bool) → content ≡ without_cr line → tab ≡ position_or_len is_tab content →
    answer ≡ is_search (take (length content - (tab + 1)) (drop (tab + 1) content)) → has_words (without_cr line) ≡ answer
words_read line content tab answer is place answered = ap is_search (sym (behind_tab line content tab is place)) ∙ sym answered
