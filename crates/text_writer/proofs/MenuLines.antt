-- A menu has one line for each entry, and ends once.
use Rattle.std.proofs.Common.{◌≡◌, ℕ, ◌+◌, ◌<◌, ◌≤◌, ◌^◌, ◌%◌, Bool, true, false, List, [], ◌∷◌, ◌++◌, ◌==◌, Some, length, arith, ap, subst, ◌∙◌, inl, inr, refl}
use Rattle.std.specs.Prelude.{◌||◌, ◌&&◌, not, None, Option, IsTrue, codes, decimal, flat_map}
use Rattle.std.specs.List.{AllByRecursion, list_any, list_all}
use Rattle.std.proofs.lemmas.Bool.{cases_Bool}
use Rattle.std.proofs.lemmas.Bool.Decides.{nat_tests}
use Rattle.std.proofs.lemmas.Fmt.{decimal_by_steps}
use Rattle.std.proofs.lemmas.List.{append_assoc}
use Rattle.std.proofs.lemmas.List.Folds.{list_any-append}
use Rattle.std.specs.Prelude.{nat_le, nat_lt}
use Rattle.std.specs.Option.{option_map}
use Rattle.host_types.specs.Names.{is_forbidden, is_field, is_visible, is_word, is_url, has_scheme}
use Rattle.host_types.specs.Items.{has_moments, kind_letter, link_letter, is_typed_entry, is_typed_body, is_typed_item, is_bad_body, is_long_item, is_selector, is_title, is_host, is_link}
use Rattle.host_types.specs.Site.{Site, IsSite, item_at}
use Rattle.host_types.specs.Card.{card_of, card_body}
use Rattle.host_types.specs.declared.item.Item.{Item}
use Rattle.host_types.specs.declared.view.Kind.{Kind}
use Rattle.host_types.specs.declared.view.Kind.TheVariants as kinds
use Rattle.host_types.specs.declared.menu.LinkKind.{LinkKind}
use Rattle.host_types.specs.declared.menu.LinkKind.TheVariants as links
use Rattle.host_types.specs.Lines.{is_lf, begins, lines}
use Rattle.host_types.specs.Address.{address}
use Rattle.host_types.specs.declared.menu.Entry.{Entry}
use Rattle.host_types.specs.declared.menu.Entry.TheVariants as entries
use Rattle.host_types.specs.declared.card.CardBody.{CardBody}
use Rattle.host_types.specs.declared.card.CardBody.TheVariants as cards
use Rattle.text_writer.specs.Text.{is_ended_once, line_end, text_end}
use Rattle.text_writer.specs.Menu.{IsMenuLine, item_line, found_line, entry_line, fields_line, type_letter, plus_sign, is_moved}
use Rattle.text_writer.proofs.ClientReads.{has_no_lf, line_read}

-- ---- bytes without LF

has_none : (bs : List ℕ) → list_any is_lf bs ≡ false → has_no_lf bs ≡ true
has_none [] none = refl
has_none (b ∷ bs) none =
    elim (cases_Bool (b == 10)) [
      | inl lf ↦ (let k = rw lf at none in absurd (cc k))
      | inr other ↦ (let k = rw other at none in rw other (has_none bs k))
    ]

none_of_two : (xs ys : List ℕ) → list_any is_lf xs ≡ false → list_any is_lf ys ≡ false → list_any is_lf (xs ++ ys) ≡ false
none_of_two xs ys first second = list_any-append is_lf xs ys ∙ rw (first, second) refl

unnot : (b : Bool) → not b ≡ true → b ≡ false
unnot true h = absurd cc
unnot false h = refl

lf_is_forbidden : (bs : List ℕ) → list_any is_forbidden bs ≡ false → list_any is_lf bs ≡ false
lf_is_forbidden [] none = refl
lf_is_forbidden (b ∷ bs) none =
    elim (cases_Bool (b == 10)) [
      | inl lf ↦ (let k : is_forbidden b || list_any is_forbidden bs ≡ false = none in grind (arith, nat_tests, k, lf))
      | inr other ↦ rw other (lf_is_forbidden bs (grind (arith, nat_tests, none)))
    ]

pub field_has_none : (bs : List ℕ) → is_field bs ≡ true → list_any is_lf bs ≡ false
field_has_none bs field = lf_is_forbidden bs (unnot (list_any is_forbidden bs) field)

visible_has_none : (bs : List ℕ) → list_all is_visible bs ≡ true → list_any is_lf bs ≡ false
visible_has_none [] all = refl
visible_has_none (b ∷ bs) all = rw (visible_has_none bs (grind (arith, nat_tests, all))) (grind (arith, nat_tests, all))

no_lf_digit : (d : ℕ) → 48 ≤ d → is_lf d ≡ false
no_lf_digit d h = grind (arith, nat_tests)

pub number_has_none : (n : ℕ) → n < 2 ^ 64 → list_any is_lf (decimal n) ≡ false
number_has_none = decimal_by_steps (λ n ds. list_any is_lf ds ≡ false)
    (λ n lt. ap (λ b. b || false) (no_lf_digit (48 + n) (omega arith)))
    (λ n ds ge h. list_any-append is_lf ds ((48 + n % 10) ∷ []) ∙ rw (h, no_lf_digit (48 + n % 10) (omega arith)) refl)

-- ---- a menu ends once

ended_more : (line : List ℕ) (others : List (List ℕ)) → begins 46 line ≡ false → is_ended_once others ≡ true → is_ended_once (line ∷ others) ≡ true
ended_more line [] no_period ended = absurd (cc ended)
ended_more line (other ∷ others) no_period ended = rw (no_period, ended) refl

pub ended_once : (ls : List (List ℕ)) → AllByRecursion IsMenuLine ls → is_ended_once (lines (flat_map (λ line. line) ls ++ text_end)) ≡ true
ended_once [] all = refl
ended_once (l ∷ ls) all =
    let rest = flat_map (λ line. line) ls ++ text_end in
    let begun : (l ++ flat_map (λ line. line) ls) ++ text_end ≡ all.0.content ++ 13 ∷ 10 ∷ rest =
    append_assoc l (flat_map (λ line. line) ls) text_end ∙ ap (λ first. first ++ rest) all.0.ended ∙ append_assoc all.0.content line_end rest in
    let read : lines ((l ++ flat_map (λ line. line) ls) ++ text_end) ≡ all.0.content ∷ lines rest = ap lines begun ∙ line_read all.0.content rest (has_none all.0.content all.0.one) in
    ap is_ended_once read ∙ ended_more all.0.content (lines rest) all.0.no_period (ended_once ls all.1)

-- ---- each line of a menu is one

tabbed : (xs ys : List ℕ) → list_any is_lf xs ≡ false → list_any is_lf ys ≡ false → list_any is_lf (xs ++ 9 ∷ ys) ≡ false
tabbed xs ys first second = none_of_two xs (9 ∷ ys) first second

first_of : (a b : Bool) → a && b ≡ true → a ≡ true
first_of true b h = refl
first_of false b h = h

second_of : (a b : Bool) → a && b ≡ true → b ≡ true
second_of true b h = h
second_of false b h = absurd (cc h)

letter_line : (letter : ℕ) (rest : List ℕ) → letter == 10 ≡ false → letter == 46 ≡ false → list_any is_lf rest ≡ false → IsMenuLine ((letter ∷ rest) ++ line_end)
letter_line letter rest no_lf no_period none = record { content = letter ∷ rest; ended = refl; one = rw (no_lf, none) refl; no_period = no_period }

four_line : (letter : ℕ) (title selector host : List ℕ) (port : ℕ) → letter == 10 ≡ false → letter == 46 ≡ false →
    list_any is_lf title ≡ false → list_any is_lf selector ≡ false → list_any is_lf host ≡ false → port < 2 ^ 64 →
    IsMenuLine (fields_line ((letter ∷ title) ∷ selector ∷ host ∷ decimal port ∷ []))
four_line letter title selector host port no_lf no_period t s h p =
    letter_line letter (title ++ 9 ∷ (selector ++ 9 ∷ (host ++ 9 ∷ decimal port))) no_lf no_period
    (tabbed title (selector ++ 9 ∷ (host ++ 9 ∷ decimal port)) t (tabbed selector (host ++ 9 ∷ decimal port) s (tabbed host (decimal port) h (number_has_none port p))))

five_line : (letter : ℕ) (title selector host sign : List ℕ) (port : ℕ) → letter == 10 ≡ false → letter == 46 ≡ false →
    list_any is_lf title ≡ false → list_any is_lf selector ≡ false → list_any is_lf host ≡ false → list_any is_lf sign ≡ false → port < 2 ^ 64 →
    IsMenuLine (fields_line ((letter ∷ title) ∷ selector ∷ host ∷ decimal port ∷ sign ∷ []))
five_line letter title selector host sign port no_lf no_period t s h g p =
    letter_line letter (title ++ 9 ∷ (selector ++ 9 ∷ (host ++ 9 ∷ (decimal port ++ 9 ∷ sign)))) no_lf no_period
    (tabbed title (selector ++ 9 ∷ (host ++ 9 ∷ (decimal port ++ 9 ∷ sign))) t
    (tabbed selector (host ++ 9 ∷ (decimal port ++ 9 ∷ sign)) s (tabbed host (decimal port ++ 9 ∷ sign) h (tabbed (decimal port) sign (number_has_none port p) g))))

kind_is_no_lf : (kind : Kind) → (kind_letter kind == 10 ≡ false) × (kind_letter kind == 46 ≡ false)
kind_is_no_lf kinds.Text = (refl, refl)
kind_is_no_lf kinds.BinHex = (refl, refl)
kind_is_no_lf kinds.DosArchive = (refl, refl)
kind_is_no_lf kinds.Uuencoded = (refl, refl)
kind_is_no_lf kinds.Binary = (refl, refl)
kind_is_no_lf kinds.Gif = (refl, refl)
kind_is_no_lf kinds.Image = (refl, refl)
kind_is_no_lf kinds.Html = (refl, refl)

link_is_no_lf : (kind : LinkKind) → (link_letter kind == 10 ≡ false) × (link_letter kind == 46 ≡ false)
link_is_no_lf links.Text = (refl, refl)
link_is_no_lf links.Menu = (refl, refl)
link_is_no_lf links.PhoneBook = (refl, refl)
link_is_no_lf links.BinHex = (refl, refl)
link_is_no_lf links.DosArchive = (refl, refl)
link_is_no_lf links.Uuencoded = (refl, refl)
link_is_no_lf links.Search = (refl, refl)
link_is_no_lf links.Telnet = (refl, refl)
link_is_no_lf links.Binary = (refl, refl)
link_is_no_lf links.Mirror = (refl, refl)
link_is_no_lf links.Tn3270 = (refl, refl)
link_is_no_lf links.Gif = (refl, refl)
link_is_no_lf links.Image = (refl, refl)
link_is_no_lf links.Html = (refl, refl)

type_is_no_lf : (body : CardBody) → (type_letter body == 10 ≡ false) × (type_letter body == 46 ≡ false)
type_is_no_lf (cards.Views kind views) = kind_is_no_lf kind
type_is_no_lf (cards.Menu entries) = (refl, refl)
type_is_no_lf (cards.Board cap next) = (refl, refl)
type_is_no_lf (cards.Form board questions) = (refl, refl)
type_is_no_lf (cards.Search scope) = (refl, refl)
type_is_no_lf (cards.Moved target) = (refl, refl)

sign_has_none : (body : CardBody) → list_any is_lf (plus_sign body) ≡ false
sign_has_none (cards.Views kind views) = refl
sign_has_none (cards.Menu entries) = refl
sign_has_none (cards.Board cap next) = refl
sign_has_none (cards.Form board questions) = refl
sign_has_none (cards.Search scope) = refl
sign_has_none (cards.Moved target) = refl

title_has_none : (bytes : List ℕ) → IsTrue (is_title bytes) → list_any is_lf bytes ≡ false
title_has_none bytes h = field_has_none bytes (second_of (nat_le (length bytes) 69) (is_field bytes) h)

selector_has_none : (bytes : List ℕ) → IsTrue (is_selector bytes) → list_any is_lf bytes ≡ false
selector_has_none bytes h = field_has_none bytes (second_of (nat_le (length bytes) 255) (is_field bytes) h)

word_has_none : (bytes : List ℕ) → is_word bytes ≡ true → list_any is_lf bytes ≡ false
word_has_none bytes h = visible_has_none bytes (second_of (nat_lt 0 (length bytes)) (list_all is_visible bytes) h)

pub host_has_none : (bytes : List ℕ) → IsTrue (is_host bytes) → list_any is_lf bytes ≡ false
host_has_none bytes h = word_has_none bytes (second_of (nat_le (length bytes) 100) (is_word bytes) h)

link_has_none : (bytes : List ℕ) → IsTrue (is_link bytes) → list_any is_lf bytes ≡ false
link_has_none bytes h = word_has_none bytes (first_of (is_word bytes) (has_scheme bytes) (second_of (nat_le (length bytes) 251) (is_url bytes) h))

-- the line of an item of a site
pub of_item : (s : Site) (selector : List ℕ) (item : Item) → IsSite s → item_at s selector ≡ Some item → IsMenuLine (item_line (address s) selector (card_of item))
of_item s selector item site stands =
    let may = site.each selector item stands in
    let typed : IsTrue (is_typed_item item) = first_of (is_typed_item item) (not (is_bad_body item.body) && not (is_long_item selector item)) may.valid in
    let title : IsTrue (is_title item.title) = first_of (is_title item.title) (has_moments item && is_typed_body item.body) typed in
    let body = card_body item.body in
    five_line (type_letter body) item.title selector s.host (plus_sign body) s.port (type_is_no_lf body).0 (type_is_no_lf body).1
    (title_has_none item.title title) (selector_has_none selector may.name) (host_has_none s.host site.host) (sign_has_none body) (omega (arith, site.port_fits))

found : (s : Site) (selector line : List ℕ) (o : Option Item) → IsSite s → item_at s selector ≡ o → found_line (address s) selector (option_map card_of o) ≡ Some line → IsMenuLine line
found s selector line None site stands is = absurd (cc is)
found s selector line (Some item) site stands is =
    elim (cases_Bool (is_moved (card_body item.body))) [
      | inl moved ↦ (let k = rw moved at is in absurd (cc k))
      | inr here ↦ (let k = rw here at is in subst IsMenuLine (cc k) (of_item s selector item site stands))
    ]

-- the line of an entry
pub of_entry : (s : Site) (entry : Entry) (line : List ℕ) → IsSite s → IsTrue (is_typed_entry entry) → entry_line s entry ≡ Some line → IsMenuLine line
of_entry s (entries.Local selector) line site typed is = found s selector line (item_at s selector) site refl is
of_entry s (entries.Info title) line site typed is =
    subst IsMenuLine (cc is) (four_line 105 title [] s.host s.port refl refl (title_has_none title typed) refl (host_has_none s.host site.host) (omega (arith, site.port_fits)))
of_entry s (entries.Url title url) line site typed is =
    subst IsMenuLine (cc is) (four_line 104 title (codes "URL:" ++ url) s.host s.port refl refl
    (title_has_none title (first_of (is_title title) (is_link url) typed)) (link_has_none url (second_of (is_title title) (is_link url) typed))
    (host_has_none s.host site.host) (omega (arith, site.port_fits)))
of_entry s (entries.Remote kind title selector host port) line site typed is =
    let others = second_of (is_title title) (is_selector selector && (is_host host && nat_lt port (2 ^ 16))) typed in
    let ends = second_of (is_selector selector) (is_host host && nat_lt port (2 ^ 16)) others in
    let fits : port < 2 ^ 16 = grind (arith, nat_tests, second_of (is_host host) (nat_lt port (2 ^ 16)) ends) in
    subst IsMenuLine (cc is) (four_line (link_letter kind) title selector host port (link_is_no_lf kind).0 (link_is_no_lf kind).1
    (title_has_none title (first_of (is_title title) (is_selector selector && (is_host host && nat_lt port (2 ^ 16))) typed))
    (selector_has_none selector (first_of (is_selector selector) (is_host host && nat_lt port (2 ^ 16)) others))
    (host_has_none host (first_of (is_host host) (nat_lt port (2 ^ 16)) ends)) (omega (arith, fits)))
