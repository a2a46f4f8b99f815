-- Comments are passed over by who reads a file of changes.
use Rattle.std.proofs.Common.{◌≡◌, ℕ, zero, suc, ◌<◌, ◌≤◌, Bool, true, false, cond, ◌==◌, List, [], ◌∷◌, ◌++◌, length, get_or, codes, Option, Some, None, option_map, option_and_then, inl, inr, refl, sym, ap, subst, ◌∙◌, arith, append_assoc, append-nil, length-append}
use Rattle.std.specs.Prelude.{filter, encode_utf8, encode_utf8_all}
use Rattle.std.specs.Str.{chars}
use Rattle.std.proofs.lemmas.Bool.{cases_lt}
use Rattle.std.proofs.lemmas.Bool.Decides.{nat_tests}
use Rattle.std.proofs.lemmas.Option.{none-some}
use Rattle.std.proofs.lemmas.Str.{encode_ascii, inside_one}
use Rattle.toml_parser.specs.Lexical.{first, is_non_eol, skip_turn, skip_from, skip_blank}
use Rattle.toml.specs.Data.{string, integer, float, boolean, datetime, array, table, Items, no_items, item, Members, no_members, member}
use Rattle.toml.specs.Tables.{Document, Expression, key_value, no_nodes, close, define}
use Rattle.toml.specs.Parse.{line, lines, skip_bom, parse_document}
use Rattle.toml.specs.Text.{IsDocumentText, IsLinesText, header_open, header_close, are_tables, elements}
use Rattle.toml_writer.specs.Text.{dotted_text, key_text}
use Rattle.change_writer.specs.Comments.{fits, comment, comments}

-- ---- the characters of a comment

encoded_last : (xs : List ℕ) (x : ℕ) → encode_utf8_all (xs ++ x ∷ []) ≡ encode_utf8_all xs ++ encode_utf8 x
encoded_last [] x = append-nil (encode_utf8 x)
encoded_last (y ∷ ys) x = ap (λ l. encode_utf8 y ++ l) (encoded_last ys x) ∙ sym (append_assoc (encode_utf8 y) (encode_utf8_all ys) (encode_utf8 x))

filter_last : (xs : List ℕ) (x : ℕ) → filter fits (xs ++ x ∷ []) ≡ filter fits xs ++ cond (fits x) (x ∷ []) []
filter_last [] x = refl
filter_last (y ∷ ys) x =
    elim (fits y) as (λ b. cond b (y ∷ filter fits (ys ++ x ∷ [])) (filter fits (ys ++ x ∷ [])) ≡ cond b (y ∷ filter fits ys) (filter fits ys) ++ cond (fits x) (x ∷ []) []) [
      | true ↦ ap (λ l. y ∷ l) (filter_last ys x)
      | false ↦ filter_last ys x
    ]

-- a character that fits is written
pub one_more : (front mark text new : List ℕ) (xs : List ℕ) (x : ℕ) → fits x ≡ true → text ≡ front ++ (mark ++ encode_utf8_all (filter fits xs)) → new ≡ text ++ encode_utf8 x → new ≡ front ++ (mark ++ encode_utf8_all (filter fits (xs ++ x ∷ [])))
one_more front mark text new xs x ok so_far is =
    is ∙ ap (λ t. t ++ encode_utf8 x) so_far ∙ append_assoc front (mark ++ encode_utf8_all (filter fits xs)) (encode_utf8 x)
    ∙ ap (λ t. front ++ t) (append_assoc mark (encode_utf8_all (filter fits xs)) (encode_utf8 x)
    ∙ ap (λ t. mark ++ t) (sym (ap encode_utf8_all (filter_last xs x ∙ ap (λ b. filter fits xs ++ cond b (x ∷ []) []) ok) ∙ encoded_last (filter fits xs) x)))

-- and one that doesn't is left out
pub one_less : (front mark text : List ℕ) (xs : List ℕ) (x : ℕ) → fits x ≡ false → text ≡ front ++ (mark ++ encode_utf8_all (filter fits xs)) → text ≡ front ++ (mark ++ encode_utf8_all (filter fits (xs ++ x ∷ [])))
one_less front mark text xs x ok so_far =
    so_far ∙ ap (λ l. front ++ (mark ++ encode_utf8_all l)) (sym (filter_last xs x ∙ ap (λ b. filter fits xs ++ cond b (x ∷ []) []) ok ∙ append-nil (filter fits xs)))

pub ends_here : (front mark text new : List ℕ) (xs cs : List ℕ) → xs ≡ cs → text ≡ front ++ (mark ++ encode_utf8_all (filter fits xs)) → new ≡ text ++ codes "\n" → new ≡ front ++ (mark ++ (encode_utf8_all (filter fits cs) ++ codes "\n"))
ends_here front mark text new xs cs all so_far is =
    is ∙ ap (λ t. t ++ codes "\n") (so_far ∙ ap (λ l. front ++ (mark ++ encode_utf8_all (filter fits l))) all)
    ∙ append_assoc front (mark ++ encode_utf8_all (filter fits cs)) (codes "\n") ∙ ap (λ t. front ++ t) (append_assoc mark (encode_utf8_all (filter fits cs)) (codes "\n"))

-- ---- they are passed over

-- bytes that a comment may have
abbrev Passed : List ℕ → Type 0
Passed [] = Unit {0}
Passed (b ∷ bs) = (is_non_eol b ≡ true) × Passed bs

passed_both : (xs ys : List ℕ) → Passed xs → Passed ys → Passed (xs ++ ys)
passed_both [] ys front behind = behind
passed_both (x ∷ xs) ys front behind = (front.0, passed_both xs ys front.1 behind)

passed_high : (xs : List ℕ) → ((k : ℕ) → k < length xs → 128 ≤ get_or xs k 0) → Passed xs
passed_high [] high = tt
passed_high (x ∷ xs) high =
    let first : 128 ≤ x = high 0 (omega arith) in
    (grind (arith, nat_tests), passed_high xs (λ k below. high (suc k) (omega arith)))

passed_char : (c : ℕ) → fits c ≡ true → Passed (encode_utf8 c)
passed_char c ok = elim (cases_lt c 128) [
  | inl small ↦ subst Passed (sym (encode_ascii c small)) (grind (arith, nat_tests), tt)
  | inr big ↦ passed_high (encode_utf8 c) (λ k below. elim (cases_lt (get_or (encode_utf8 c) k 0) 128) [
    | inl low ↦ absurd (omega (arith, inside_one c [] (encode_utf8 c) k (sym (append-nil _)) below low))
    | inr high ↦ high
  ])
]

passed_chars : (cs : List ℕ) → Passed (encode_utf8_all (filter fits cs))
passed_chars [] = tt
passed_chars (c ∷ cs) =
    elim (fits c) as (λ b. fits c ≡ b → Passed (encode_utf8_all (cond b (c ∷ filter fits cs) (filter fits cs)))) [
      | true ↦ λ ok. passed_both (encode_utf8 c) (encode_utf8_all (filter fits cs)) (passed_char c ok) (passed_chars cs)
      | false ↦ λ no. passed_chars cs
    ] refl

skip_inside : (xs rest : List ℕ) → Passed xs → skip_from true true (xs ++ 10 ∷ rest) ≡ skip_blank rest
unfolding skip_from
skip_inside [] rest ok = refl
skip_inside (x ∷ xs) rest ok =
    let turn : skip_turn true true x (first (xs ++ 10 ∷ rest)) ≡ Some true = grind (arith, nat_tests, ok.0) in
    rw turn (skip_inside xs rest ok.1)

skip_comment : (text rest : List ℕ) → skip_blank (comment text ++ rest) ≡ skip_blank rest
unfolding skip_from
skip_comment text rest =
    let kept = encode_utf8_all (filter fits (chars text)) in
    ap (skip_from true true) (append_assoc kept (10 ∷ []) rest) ∙ skip_inside kept rest (passed_chars (chars text))

skip_comments : (texts : List (List ℕ)) (rest : List ℕ) → skip_blank (comments texts ++ rest) ≡ skip_blank rest
skip_comments [] rest = refl
skip_comments (text ∷ texts) rest = ap skip_blank (append_assoc (comment text) (comments texts) rest) ∙ skip_comment text (comments texts ++ rest) ∙ skip_comments texts rest

-- ---- a text behind comments is the same document

more_defined : (n m : ℕ) (got : Document) (after : List ℕ) (d : Option Document) → ((next : Document) → lines n next after ≡ Some got → lines m next after ≡ Some got) → option_and_then (λ next. lines n next after) d ≡ Some got → option_and_then (λ next. lines m next after) d ≡ Some got
more_defined n m got after None more is = is
more_defined n m got after (Some next) more is = more next is

more_read : (n m : ℕ) (doc got : Document) (o : Option (Expression × List ℕ)) → ((next : Document) (after : List ℕ) → lines n next after ≡ Some got → lines m next after ≡ Some got)
    → option_and_then (λ e. option_and_then (λ next. lines n next e.1) (define doc e.0)) o ≡ Some got → option_and_then (λ e. option_and_then (λ next. lines m next e.1) (define doc e.0)) o ≡ Some got
more_read n m doc got None more is = is
more_read n m doc got (Some e) more is = more_defined n m got e.1 (define doc e.0) (λ next. more next e.1) is

more_here : (b : Bool) (n m : ℕ) (doc got : Document) (o : Option (Expression × List ℕ)) → ((next : Document) (after : List ℕ) → lines n next after ≡ Some got → lines m next after ≡ Some got)
    → cond b (Some doc) (option_and_then (λ e. option_and_then (λ next. lines n next e.1) (define doc e.0)) o) ≡ Some got → cond b (Some doc) (option_and_then (λ e. option_and_then (λ next. lines m next e.1) (define doc e.0)) o) ≡ Some got
more_here true n m doc got o more is = is
more_here false n m doc got o more is = more_read n m doc got o more is

-- the lines that are read with so many turns are read with more
more_turns : (n m : ℕ) (doc got : Document) (text : List ℕ) → n ≤ m → lines n doc text ≡ Some got → lines m doc text ≡ Some got
unfolding lines
more_turns zero m doc got text less is = absurd (none-some got is)
more_turns (suc n) zero doc got text less is = absurd (omega (arith, less))
more_turns (suc n) (suc m) doc got text less is =
    more_here (length (skip_blank text) == 0) n m doc got (line (skip_blank text)) (λ next after. more_turns n m next got after (omega (arith, less))) is

same_blank : (n : ℕ) (doc : Document) (x y : List ℕ) → skip_blank x ≡ skip_blank y → lines (suc n) doc x ≡ lines (suc n) doc y
unfolding lines
same_blank n doc x y same = rw same refl

no_mark : (text : List ℕ) → (first text == 239) ≡ false → skip_bom text ≡ text
unfolding skip_bom
no_mark text h = rw h

closes : (o more : Option Document) (ms : Members) → ((got : Document) → o ≡ Some got → more ≡ Some got) → option_map (λ doc. close doc.0) o ≡ Some ms → option_map (λ doc. close doc.0) more ≡ Some ms
closes None more ms onward is = absurd (none-some ms is)
closes (Some got) more ms onward is = rw (onward got refl) is

same_document : (front text : List ℕ) (ms : Members) → skip_blank (front ++ text) ≡ skip_blank text → (first (front ++ text) == 239) ≡ false → (first text == 239) ≡ false → parse_document text ≡ Some ms → parse_document (front ++ text) ≡ Some ms
unfolding parse_document
same_document front text ms skipped plain_front plain_text is =
    let here : option_map (λ doc. close doc.0) (lines (suc (length text)) (no_nodes, []) text) ≡ Some ms = rw (no_mark text plain_text) at is in
    let room : suc (length text) ≤ suc (length (front ++ text)) = omega (arith, length-append front text) in
    rw (no_mark (front ++ text) plain_front) (closes (lines (suc (length text)) (no_nodes, []) text) (lines (suc (length (front ++ text))) (no_nodes, []) (front ++ text)) ms
    (λ got read. same_blank (length (front ++ text)) (no_nodes, []) (front ++ text) text skipped ∙ more_turns (suc (length text)) (suc (length (front ++ text))) (no_nodes, []) got text room read) here)

-- ---- a file of changes has no mark of a byte order

abbrev pair_of : Items → Expression
pair_of ds = (([], codes "change"), key_value (array ds))

abbrev file_of : Items → Members
file_of ds = member (codes "change") (array ds) no_members

pair_first : (text rest value : List ℕ) → text ≡ dotted_text ([], codes "change") ++ (codes " = " ++ (value ++ 10 ∷ [])) → (first (text ++ rest) == 239) ≡ false
unfolding key_text
pair_first text rest value is = rw is refl

header_first : (text rest : List ℕ) → text ≡ header_open true ++ (dotted_text ([], codes "change") ++ header_close true) → (first (text ++ rest) == 239) ≡ false
unfolding key_text
header_first text rest is = rw is refl

unmarked : (ds : Items) (text : List ℕ) → IsDocumentText true (file_of ds) text → (first text == 239) ≡ false
unmarked no_items text h = rw h.2 (pair_first h.0 h.1 h.3.0 h.3.1)
unmarked (item (string x) ds) text h = rw h.2 (pair_first h.0 h.1 h.3.0 h.3.1)
unmarked (item (integer x) ds) text h = rw h.2 (pair_first h.0 h.1 h.3.0 h.3.1)
unmarked (item (float x) ds) text h = rw h.2 (pair_first h.0 h.1 h.3.0 h.3.1)
unmarked (item (boolean x) ds) text h = rw h.2 (pair_first h.0 h.1 h.3.0 h.3.1)
unmarked (item (datetime x) ds) text h = rw h.2 (pair_first h.0 h.1 h.3.0 h.3.1)
unmarked (item (array x) ds) text h = rw h.2 (pair_first h.0 h.1 h.3.0 h.3.1)
unmarked (item (table ms) ds) text h =
    elim (are_tables ds) as (λ b. IsLinesText true false (cond b [] (pair_of (item (table ms) ds) ∷ []) ++ (cond b (elements ([], codes "change") (item (table ms) ds)) [] ++ [])) text → (first text == 239) ≡ false) [
      | true ↦ λ h. rw h.2 (header_first h.0 h.1 h.3)
      | false ↦ λ h. rw h.2 (pair_first h.0 h.1 h.3.0 h.3.1)
    ] h

-- ---- the whole of it

comments_plain : (texts : List (List ℕ)) (text : List ℕ) → (first text == 239) ≡ false → (first (comments texts ++ text) == 239) ≡ false
comments_plain [] text plain = plain
comments_plain (one ∷ texts) text plain = refl

pub behind_comments : (texts : List (List ℕ)) (ds : Items) (text : List ℕ) → IsDocumentText true (file_of ds) text → parse_document text ≡ Some (file_of ds) → parse_document (comments texts ++ text) ≡ Some (file_of ds)
behind_comments texts ds text shape is =
    let plain = unmarked ds text shape in
    same_document (comments texts) text (file_of ds) (skip_comments texts text) (comments_plain texts text plain) plain is
