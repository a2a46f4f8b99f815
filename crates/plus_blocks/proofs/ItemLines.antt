-- The blocks of a valid item at a valid address are whole lines.
use Rattle.std.proofs.Common.{◌≡◌, ℕ, ◌+◌, ◌/◌, ◌<◌, ◌≤◌, ◌^◌, Bool, true, false, List, [], ◌∷◌, ◌++◌, ◌==◌, length, arith, refl, if◌then◌else◌}
use Rattle.std.specs.Prelude.{◌||◌, ◌&&◌, not, codes, decimal, flat_map, map, nat_le, nat_lt, Some}
use Rattle.std.specs.List.{AllByRecursion, list_any, list_all}
use Rattle.std.proofs.lemmas.Bool.Decides.{nat_tests}
use Rattle.std.proofs.lemmas.List.Sums.{sum_by-cons}
use Rattle.host_types.specs.Names.{is_field, is_visible, is_word}
use Rattle.host_types.specs.Lines.{is_lf, lines}
use Rattle.host_types.specs.Items.{has_moments, kind_letter, has_bad_name, is_bad_word, is_bad_question, is_bad_body, is_long_item, is_long_body, is_long_view, is_admin, is_host, is_selector, is_title, is_typed_body, is_typed_item, is_valid_item, prompt_of, view_bytes, most_view_bytes}
use Rattle.host_types.specs.Card.{card_of, card_body, card_view}
use Rattle.host_types.specs.Address.{Address, address}
use Rattle.host_types.specs.Site.{Site, IsSite, item_at}
use Rattle.host_types.specs.declared.card.Card.{Card}
use Rattle.host_types.specs.declared.card.CardBody.{CardBody}
use Rattle.host_types.specs.declared.card.CardBody.TheVariants as cards
use Rattle.host_types.specs.declared.form.Question.{Question}
use Rattle.host_types.specs.declared.form.Question.TheVariants as questions
use Rattle.host_types.specs.declared.item.Item.{Item}
use Rattle.host_types.specs.declared.item.Body.{Body}
use Rattle.host_types.specs.declared.item.Body.TheVariants as bodies
use Rattle.host_types.specs.declared.view.View.{View}
use Rattle.host_types.specs.declared.view.Kind.{Kind}
use Rattle.host_types.specs.declared.view.Kind.TheVariants as kinds
use Rattle.text_writer.specs.Menu.{IsMenuLine, item_line, plus_sign, type_letter}
use Rattle.plus_blocks.specs.Blocks.{AreLines, abstract_block, admin, asks_of, block, info, is_asked, is_empty, item_blocks, kilobytes, question_line, view_line, view_name, views, views_of}
use Rattle.plus_blocks.specs.Date.{mod_date}
use Rattle.plus_blocks.proofs.Clean.{IsClean, nil, two, cons, field, number, visible, word, first_of, second_of, lines_clean}
use Rattle.plus_blocks.proofs.CleanDate.{clean_date}
use Rattle.plus_blocks.proofs.WholeLines.{asked, both, no_lines, of_block, of_info}

or_first : (a b : Bool) → a || b ≡ false → a ≡ false
or_first true b h = absurd (cc h)
or_first false b h = refl

or_second : (a b : Bool) → a || b ≡ false → b ≡ false
or_second true b h = absurd (cc h)
or_second false b h = h

unnot : (b : Bool) → not b ≡ true → b ≡ false
unnot true h = absurd (cc h)
unnot false h = refl

is_not : (b : Bool) → not b ≡ false → b ≡ true
is_not true h = refl
is_not false h = absurd (cc h)

-- ---- the item's own line

kind_is : (kind : Kind) → (is_lf (kind_letter kind) ≡ false) × (kind_letter kind == 46 ≡ false)
kind_is kinds.Text = (refl, refl)
kind_is kinds.BinHex = (refl, refl)
kind_is kinds.DosArchive = (refl, refl)
kind_is kinds.Uuencoded = (refl, refl)
kind_is kinds.Binary = (refl, refl)
kind_is kinds.Gif = (refl, refl)
kind_is kinds.Image = (refl, refl)
kind_is kinds.Html = (refl, refl)

letter_is : (body : CardBody) → (is_lf (type_letter body) ≡ false) × (type_letter body == 46 ≡ false)
letter_is (cards.Views kind views) = kind_is kind
letter_is (cards.Menu entries) = (refl, refl)
letter_is (cards.Board cap next) = (refl, refl)
letter_is (cards.Form board list) = (refl, refl)
letter_is (cards.Search scope) = (refl, refl)
letter_is (cards.Moved target) = (refl, refl)

sign_is : (body : CardBody) → IsClean (plus_sign body)
sign_is (cards.Views kind views) = record { none = refl }
sign_is (cards.Menu entries) = record { none = refl }
sign_is (cards.Board cap next) = record { none = refl }
sign_is (cards.Form board list) = record { none = refl }
sign_is (cards.Search scope) = record { none = refl }
sign_is (cards.Moved target) = record { none = refl }

title_clean : (bytes : List ℕ) → is_title bytes ≡ true → IsClean bytes
title_clean bytes h = field bytes (second_of (nat_le (length bytes) 69) (is_field bytes) h)

tab : (xs ys : List ℕ) → IsClean xs → IsClean ys → IsClean (xs ++ 9 ∷ ys)
tab xs ys x y = two xs (9 ∷ ys) x (cons 9 ys refl y)

own_line : (a : Address) (selector : List ℕ) (card : Card) → IsClean a.host → a.port < 2 ^ 16 → IsClean selector → IsClean card.title → IsMenuLine (item_line a selector card)
own_line a selector card host port name title =
    let letter = letter_is card.body in
    let sign = plus_sign card.body in
    let rest = card.title ++ 9 ∷ (selector ++ 9 ∷ (a.host ++ 9 ∷ (decimal a.port ++ 9 ∷ sign))) in
    let clean : IsClean rest = tab card.title (selector ++ 9 ∷ (a.host ++ 9 ∷ (decimal a.port ++ 9 ∷ sign))) title
    (tab selector (a.host ++ 9 ∷ (decimal a.port ++ 9 ∷ sign)) name (tab a.host (decimal a.port ++ 9 ∷ sign) host (tab (decimal a.port) sign (number a.port (omega (arith, port))) (sign_is card.body)))) in
    record { content = type_letter card.body ∷ rest; ended = refl; one = (cons (type_letter card.body) rest letter.0 clean).none; no_period = letter.1 }

-- ---- blocks

admin_lines : (keeper : List ℕ) (stamp : ℕ) → IsClean keeper → AreLines (admin keeper stamp)
admin_lines keeper stamp clean =
    of_block (codes "+ADMIN") ((codes "Admin: " ++ keeper) ∷ (codes "Mod-Date: " ++ mod_date stamp) ∷ []) (record { none = refl }) refl
    (two (codes "Admin: ") keeper (record { none = refl }) clean, (two (codes "Mod-Date: ") (mod_date stamp) (record { none = refl }) (clean_date stamp), tt))

language_clean : (bytes : List ℕ) (b : Bool) → IsClean bytes → IsClean (if b then [] else codes " " ++ bytes)
language_clean bytes true clean = nil
language_clean bytes false clean = two (codes " ") bytes (record { none = refl }) clean

size_clean : (n : ℕ) → n ≤ 262144 → IsClean (decimal (kilobytes n))
unfolding kilobytes
size_clean n small = number ((n + 1023) / 1024) (omega (arith, small))

view_clean : (v : View) → has_bad_name v ≡ false → length v.bytes ≤ 262144 → IsClean (view_line (card_view v))
view_clean v good small =
    let name : IsClean v.name = word v.name (is_not (is_word v.name) (or_first (not (is_word v.name)) (not (list_all is_visible v.language)) good)) in
    let language : IsClean v.language = visible v.language (is_not (list_all is_visible v.language) (or_second (not (is_word v.name)) (not (list_all is_visible v.language)) good)) in
    let words = view_name (card_view v) in
    let size = decimal (kilobytes (length v.bytes)) in
    let named : IsClean words = two v.name (if is_empty v.language then [] else codes " " ++ v.language) name (language_clean v.language (is_empty v.language) language) in
    two ((words ++ codes ": <") ++ size) (codes "k>") (two (words ++ codes ": <") size (two words (codes ": <") named (record { none = refl })) (size_clean (length v.bytes) small)) (record { none = refl })

views_clean : (vs : List View) → list_any has_bad_name vs ≡ false → view_bytes vs ≤ 262144 → AllByRecursion IsClean (map view_line (map card_view vs))
views_clean [] good small = tt
views_clean (v ∷ vs) good small =
    let sum = sum_by-cons (λ (w : View). length w.bytes) v vs in
    (view_clean v (or_first (has_bad_name v) (list_any has_bad_name vs) good) (omega (arith, small, sum)), views_clean vs (or_second (has_bad_name v) (list_any has_bad_name vs) good) (omega (arith, small, sum)))

word_clean : (bytes : List ℕ) → is_bad_word bytes ≡ false → IsClean bytes
word_clean bytes good = field bytes (is_not (is_field bytes) (or_second (length bytes == 0) (not (is_field bytes)) good))

choices_clean : (choices : List (List ℕ)) → list_any is_bad_word choices ≡ false → IsClean (flat_map (λ choice. 9 ∷ choice) choices)
choices_clean [] good = nil
choices_clean (choice ∷ choices) good =
    two (9 ∷ choice) (flat_map (λ choice. 9 ∷ choice) choices) (cons 9 choice refl (word_clean choice (or_first (is_bad_word choice) (list_any is_bad_word choices) good)))
    (choices_clean choices (or_second (is_bad_word choice) (list_any is_bad_word choices) good))

question_clean : (q : Question) → is_bad_question q ≡ false → is_title (prompt_of q) ≡ true → IsClean (question_line q)
question_clean (questions.Ask prompt) good title = two (codes "Ask: ") prompt (record { none = refl }) (title_clean prompt title)
question_clean (questions.AskL prompt) good title = two (codes "AskL: ") prompt (record { none = refl }) (title_clean prompt title)
question_clean (questions.AskP prompt secret) good title = two (codes "AskP: ") prompt (record { none = refl }) (title_clean prompt title)
question_clean (questions.Choose prompt choices) good title =
    let some = or_second (length prompt == 0) ((length choices == 0) || list_any is_bad_word choices) good in
    two (codes "Choose: " ++ prompt) (flat_map (λ choice. 9 ∷ choice) choices) (two (codes "Choose: ") prompt (record { none = refl }) (title_clean prompt title))
    (choices_clean choices (or_second (length choices == 0) (list_any is_bad_word choices) some))

questions_clean : (qs : List Question) → list_any is_bad_question qs ≡ false → list_all (λ q. is_title (prompt_of q)) qs ≡ true → AllByRecursion IsClean (map question_line qs)
questions_clean [] good titles = tt
questions_clean (q ∷ qs) good titles = (
  question_clean q (or_first (is_bad_question q) (list_any is_bad_question qs) good) (first_of (is_title (prompt_of q)) (list_all (λ q. is_title (prompt_of q)) qs) titles),
  questions_clean qs (or_second (is_bad_question q) (list_any is_bad_question qs) good) (second_of (is_title (prompt_of q)) (list_all (λ q. is_title (prompt_of q)) qs) titles),
)

abstract_lines : (summary : List ℕ) → AreLines (abstract_block summary)
abstract_lines summary = elim (is_empty summary) as (λ b. AreLines (if b then [] else block (codes "+ABSTRACT") (lines summary))) [
  | true ↦ no_lines
  | false ↦ of_block (codes "+ABSTRACT") (lines summary) (record { none = refl }) refl (lines_clean summary)
]

small_views : (selector : List ℕ) (kind : Kind) (vs : List View) → is_long_body selector (bodies.Views kind vs) ≡ false → view_bytes vs ≤ 262144
unfolding most_view_bytes
small_views selector kind vs good =
    let sizes = or_first (nat_lt 262144 (view_bytes vs)) (list_any is_long_view vs) (or_second (nat_lt 8 (length vs)) (nat_lt 262144 (view_bytes vs) || list_any is_long_view vs) good) in
    grind (arith, nat_tests, sizes)

views_lines : (selector : List ℕ) (body : Body) → is_bad_body body ≡ false → is_long_body selector body ≡ false → AreLines (views_of (card_body body))
views_lines selector (bodies.Views kind vs) good short =
    let names = or_first (list_any has_bad_name vs) _ (or_second (length vs == 0) _ good) in
    of_block (codes "+VIEWS") (map view_line (map card_view vs)) (record { none = refl }) refl (views_clean vs names (small_views selector kind vs short))
views_lines selector (bodies.Menu entries) good short = no_lines
views_lines selector (bodies.Board cap next) good short = no_lines
views_lines selector (bodies.Form board list) good short = no_lines
views_lines selector (bodies.Search scope) good short = no_lines
views_lines selector (bodies.Moved target) good short = no_lines

asks_lines : (body : Body) → is_bad_body body ≡ false → is_typed_body body ≡ true → AreLines (asks_of (card_body body))
asks_lines (bodies.Views kind vs) good typed = no_lines
asks_lines (bodies.Menu entries) good typed = no_lines
asks_lines (bodies.Board cap next) good typed = no_lines
asks_lines (bodies.Form board list) good typed =
    of_block (codes "+ASK") (map question_line list) (record { none = refl }) refl
    (questions_clean list (or_second (length list == 0) (list_any is_bad_question list) good) (second_of (is_selector board) (list_all (λ q. is_title (prompt_of q)) list) typed))
asks_lines (bodies.Search scope) good typed = no_lines
asks_lines (bodies.Moved target) good typed = no_lines

-- ---- all blocks

pub blocks_are_lines : (a : Address) (names : List (List ℕ)) (selector : List ℕ) (item : Item) → is_host a.host ≡ true → a.port < 2 ^ 16 → is_admin a.admin ≡ true → is_selector selector ≡ true → is_valid_item selector item ≡ true → AreLines (item_blocks a names selector (card_of item))
unfolding item_blocks
blocks_are_lines a names selector item host port keeper name valid =
    let typed = first_of (is_typed_item item) (not (is_bad_body item.body) && not (is_long_item selector item)) valid in
    let limits = second_of (is_typed_item item) (not (is_bad_body item.body) && not (is_long_item selector item)) valid in
    let good : is_bad_body item.body ≡ false = unnot (is_bad_body item.body) (first_of (not (is_bad_body item.body)) (not (is_long_item selector item)) limits) in
    let short : is_long_body selector item.body ≡ false = or_second (nat_lt 400 (length item.summary)) (is_long_body selector item.body) (unnot (is_long_item selector item) (second_of (not (is_bad_body item.body)) (not (is_long_item selector item)) limits)) in
    let title : is_title item.title ≡ true = first_of (is_title item.title) (has_moments item && is_typed_body item.body) typed in
    let body : is_typed_body item.body ≡ true = second_of (has_moments item) (is_typed_body item.body) (second_of (is_title item.title) (has_moments item && is_typed_body item.body) typed) in
    let card = card_of item in
    let host_clean : IsClean a.host = word a.host (second_of (nat_le (length a.host) 100) (is_word a.host) host) in
    let keeper_clean : IsClean a.admin = field a.admin (second_of (nat_le (length a.admin) 100) (is_field a.admin) keeper) in
    let name_clean : IsClean selector = field selector (second_of (nat_le (length selector) 255) (is_field selector) name) in
    let line = info (item_line a selector card) in
    let one : AreLines line = of_info (item_line a selector card) (own_line a selector card host_clean port name_clean (title_clean item.title title)) in
    let second = asked (is_asked names (codes "+ADMIN")) (admin a.admin card.stamp) (admin_lines a.admin card.stamp keeper_clean) in
    let third = asked (is_asked names (codes "+VIEWS")) (views_of card.body) (views_lines selector item.body good short) in
    let fourth = asked (is_asked names (codes "+ABSTRACT")) (abstract_block card.summary) (abstract_lines card.summary) in
    let fifth = asked (is_asked names (codes "+ASK")) (asks_of card.body) (asks_lines item.body good body) in
    both _ _ (both _ _ (both _ _ (both line _ one second) third) fourth) fifth

pub of_site : (s : Site) (names : List (List ℕ)) (selector : List ℕ) (item : Item) → IsSite s → item_at s selector ≡ Some item → AreLines (item_blocks (address s) names selector (card_of item))
of_site s names selector item site stands =
    let may = site.each selector item stands in
    blocks_are_lines (address s) names selector item site.host (omega (arith, site.port_fits)) site.admin may.name may.valid
