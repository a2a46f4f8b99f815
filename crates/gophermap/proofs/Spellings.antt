-- What is written as a line is read back.
use Rattle.std.proofs.Common.{◌≡◌, ℕ, ◌+◌, ◌-◌, ◌*◌, ◌%◌, ◌<◌, ◌≤◌, ◌^◌, Bool, true, false, ◌&&◌, List, [], ◌∷◌, ◌++◌, ◌==◌, length, arith, ap, ◌∙◌, inl, inr, refl, subst, eqb-true}
use Rattle.std.specs.Prelude.{nat_lt, nat_le, not, ◌||◌, codes, decimal, Option, Some, None, Ok}
use Rattle.std.specs.Char.{is_ascii_digit}
use Rattle.std.specs.List.{list_any, list_all, slice_split, join_with_byte}
use Rattle.std.proofs.lemmas.Bool.{cases_Bool}
use Rattle.std.proofs.lemmas.Bool.Decides.{nat_tests}
use Rattle.std.proofs.lemmas.Fmt.{decimal_by_steps, length-decimal-le, decimal_nonempty}
use Rattle.std.proofs.lemmas.List.Folds.{list_any-append, list_all-append}
use Rattle.std.proofs.lemmas.List.Sums.{fold_push}
use Rattle.common_types.specs.Names.{name_of, is_forbidden, is_field, is_word, is_url, is_visible, is_url_name}
use Rattle.common_types.specs.Digits.{is_number, number_of}
use Rattle.common_types.specs.declared.refused.Refused.{Refused}
use Rattle.host_types.specs.Items.{is_title, is_selector, is_link, link_letter}
use Rattle.host_types.specs.Lines.{without_cr}
use Rattle.host_types.specs.declared.menu.LinkKind.{LinkKind}
use Rattle.host_types.specs.declared.menu.LinkKind.TheVariants as links
use Rattle.gophermap.specs.declared.fault.LineFault.{LineFault}
use Rattle.gophermap.specs.declared.fault.LineFault.TheVariants as faults
use Rattle.gophermap.specs.Line.{MapPlace, Line, Info, Title, Link, Entry, Comment, Listing, End, named, host_of, port_of, kind_of, entry, typed, is_tab, of_fields, line_of}
use Rattle.gophermap.specs.Laws.{fits, host_fits, port_fits, place_fits}
use Rattle.gophermap.specs.Spelling.{spelled, host_field, port_field, has_spelling}

is_cr : ℕ → Bool
is_cr b = b == 13

left_true : (a b : Bool) → (a && b) ≡ true → a ≡ true
left_true true b h = refl
left_true false b h = absurd (cc h)

right_true : (a b : Bool) → (a && b) ≡ true → b ≡ true
right_true true b h = h
right_true false b h = absurd (cc h)

left_false : (a b : Bool) → (a || b) ≡ false → a ≡ false
left_false false b h = refl
left_false true b h = absurd (cc h)

right_false : (a b : Bool) → (a || b) ≡ false → b ≡ false
right_false false b h = h
right_false true b h = absurd (cc h)

unnot : (b : Bool) → not b ≡ true → b ≡ false
unnot true h = absurd (cc h)
unnot false h = refl

-- ---- bytes that part nothing

-- no TAB, and no CR
record IsPlain (bytes : List ℕ) : Type 0 where
  pub tab : list_any is_tab bytes ≡ false
  pub cr : list_any (λ b. b == 13) bytes ≡ false

other_byte : (test : ℕ → Bool) (c b : ℕ) → test c ≡ false → test b ≡ true → (b == c) ≡ false
other_byte test c b fails passes =
    elim (cases_Bool (b == c)) [
      | inl same ↦ absurd (let k : test c ≡ true = subst (λ x. test x ≡ true) (eqb-true b c same) passes in cc (k, fails))
      | inr other ↦ other
    ]

plain_by : (test : ℕ → Bool) → test 9 ≡ false → test 13 ≡ false → (bytes : List ℕ) → list_all test bytes ≡ true → IsPlain bytes
plain_by test tab cr [] h = record { tab = refl; cr = refl }
plain_by test tab cr (b ∷ bs) h =
    let first = left_true (test b) (list_all test bs) h in
    let others = plain_by test tab cr bs (right_true (test b) (list_all test bs) h) in
    record {
      tab = rw (other_byte test 9 b tab first) others.tab;
      cr = rw (other_byte test 13 b cr first) others.cr;
    }

not_any : (bytes : List ℕ) → list_any is_forbidden bytes ≡ false → list_all (λ b. not (is_forbidden b)) bytes ≡ true
not_any [] h = refl
not_any (b ∷ bs) h = rw (left_false (is_forbidden b) (list_any is_forbidden bs) h) (not_any bs (right_false (is_forbidden b) (list_any is_forbidden bs) h))

plain_field : (bytes : List ℕ) → is_field bytes ≡ true → IsPlain bytes
plain_field bytes h = plain_by (λ b. not (is_forbidden b)) refl refl bytes (not_any bytes (unnot (list_any is_forbidden bytes) h))

plain_word : (bytes : List ℕ) → is_word bytes ≡ true → IsPlain bytes
plain_word bytes h = plain_by is_visible refl refl bytes (right_true (nat_lt 0 (length bytes)) (list_all is_visible bytes) h)

-- the digits of a number
record IsDecimal (n : ℕ) (digits : List ℕ) : Type 0 where
  pub value : number_of digits ≡ n
  pub digits_alone : list_all is_ascii_digit digits ≡ true

digit : (d : ℕ) → d < 10 → is_ascii_digit (48 + d) ≡ true
digit d less = grind (arith, nat_tests)

decimals : (n : ℕ) → n < 2 ^ 64 → IsDecimal n (decimal n)
decimals = decimal_by_steps IsDecimal
    (λ n less. record { value = omega arith; digits_alone = rw (digit n less) refl })
    (λ n ds more h. record {
      value = fold_push (λ m b. 10 * m + (b - 48)) 0 ds (48 + n % 10) ∙ (let v = h.value in rw v (omega arith));
      digits_alone = list_all-append is_ascii_digit ds ((48 + n % 10) ∷ []) ∙ rw (h.digits_alone, digit (n % 10) (omega arith)) refl;
    })

plain_decimal : (n : ℕ) → n < 2 ^ 64 → IsPlain (decimal n)
plain_decimal n less = plain_by is_ascii_digit refl refl (decimal n) (decimals n less).digits_alone

-- ---- fields that are joined

field_ends : (f rest : List ℕ) → list_any is_tab f ≡ false → slice_split is_tab (f ++ 9 ∷ rest) ≡ f ∷ slice_split is_tab rest
field_ends [] rest none = refl
field_ends (b ∷ bs) rest none = rw (left_false (b == 9) (list_any is_tab bs) none, field_ends bs rest (right_false (b == 9) (list_any is_tab bs) none)) refl

last_field : (f : List ℕ) → list_any is_tab f ≡ false → slice_split is_tab f ≡ f ∷ []
last_field [] none = refl
last_field (b ∷ bs) none = rw (left_false (b == 9) (list_any is_tab bs) none, last_field bs (right_false (b == 9) (list_any is_tab bs) none)) refl

-- a line without CR stays
stays : (bytes : List ℕ) → list_any (λ b. b == 13) bytes ≡ false → without_cr bytes ≡ bytes
stays [] none = refl
stays (b ∷ []) none = rw (left_false (b == 13) false none) refl
stays (b ∷ c ∷ bs) none = ap (λ l. b ∷ l) (stays (c ∷ bs) (right_false (b == 13) (list_any (λ b. b == 13) (c ∷ bs)) none))

-- CRs of two fields
joined_cr : (f rest : List ℕ) → list_any (λ b. b == 13) f ≡ false → list_any (λ b. b == 13) rest ≡ false → list_any (λ b. b == 13) (f ++ 9 ∷ rest) ≡ false
joined_cr f rest front behind = list_any-append (λ b. b == 13) f (9 ∷ rest) ∙ rw (front, behind) refl

-- ---- names that are taken

not_above : (most n : ℕ) → nat_le n most ≡ true → nat_lt most n ≡ false
not_above most n within = grind (arith, nat_tests)

taken : (fault : Refused → LineFault) (test : List ℕ → Bool) (most : ℕ) (bytes : List ℕ) → (nat_le (length bytes) most && test bytes) ≡ true → named fault (name_of test most bytes) ≡ Ok bytes
taken fault test most bytes h =
    rw (not_above most (length bytes) (left_true (nat_le (length bytes) most) (test bytes) h), right_true (nat_le (length bytes) most) (test bytes) h) refl

-- the place of an item
host_back : (host : Option (List ℕ)) → host_fits host ≡ true → host_of (host_field host) ≡ Ok host
host_back None h = refl
host_back (Some []) h = absurd (cc h)
host_back (Some (b ∷ bs)) h = rw (taken (λ r. faults.Host r) is_word 100 (b ∷ bs) h) refl

some_digits : (port : ℕ) (digits : List ℕ) → 0 < length digits → is_number 5 digits ≡ true → number_of digits ≡ port → nat_lt 0 port ≡ true → nat_lt port 65536 ≡ true → port_of digits ≡ Ok (Some port)
some_digits port [] some number value low high = absurd (omega arith)
some_digits port (d ∷ ds) some number value low high = rw (number, value, low, high) refl

below_16 : (port : ℕ) → nat_lt port 65536 ≡ true → port < 65536
below_16 port h = grind (arith, nat_tests)

number_5 : (digits : List ℕ) → 0 < length digits → length digits ≤ 5 → list_all is_ascii_digit digits ≡ true → is_number 5 digits ≡ true
number_5 digits some few alone =
    let more : nat_lt 0 (length digits) ≡ true = grind (arith, nat_tests) in
    let at_most : nat_le (length digits) 5 ≡ true = grind (arith, nat_tests) in
    rw (more, at_most, alone) refl

port_back : (port : Option ℕ) → port_fits port ≡ true → port_of (port_field port) ≡ Ok port
port_back None h = refl
port_back (Some port) h =
    let low = left_true (nat_lt 0 port) (nat_lt port 65536) h in
    let high = right_true (nat_lt 0 port) (nat_lt port 65536) h in
    let below = below_16 port high in
    let written = decimals port (omega arith) in
    let few : length (decimal port) ≤ 5 = length-decimal-le 5 port (omega arith) (omega arith) (omega arith) in
    some_digits port (decimal port) (decimal_nonempty port (omega arith)) (number_5 (decimal port) (decimal_nonempty port (omega arith)) few written.digits_alone) written.value low high

plain_host : (host : Option (List ℕ)) → host_fits host ≡ true → IsPlain (host_field host)
plain_host None h = record { tab = refl; cr = refl }
plain_host (Some host) h = plain_word host (right_true (nat_le (length host) 100) (is_word host) h)

plain_port : (port : Option ℕ) → port_fits port ≡ true → IsPlain (port_field port)
plain_port None h = record { tab = refl; cr = refl }
plain_port (Some port) h = let below = below_16 port (right_true (nat_lt 0 port) (nat_lt port 65536) h) in plain_decimal port (omega arith)

-- ---- lines

-- a line of four fields whose type is no mark
four : (letter : ℕ) (title selector host port : List ℕ) → (letter == 35) ≡ false → (letter == 33) ≡ false → (letter == 9) ≡ false → (letter == 13) ≡ false
    → IsPlain title → IsPlain selector → IsPlain host → IsPlain port
    → line_of (join_with_byte 9 ((letter ∷ title) ∷ selector ∷ host ∷ port ∷ [])) ≡ typed letter title selector host port
four letter title selector host port comment mark tab cr t s h p =
    let front : list_any is_tab (letter ∷ title) ≡ false = rw (tab, t.tab) refl in
    let start : list_any (λ b. b == 13) (letter ∷ title) ≡ false = rw (cr, t.cr) refl in
    let whole = joined_cr (letter ∷ title) _ start (joined_cr selector _ s.cr (joined_cr host port h.cr p.cr)) in
    let parts : slice_split is_tab (join_with_byte 9 ((letter ∷ title) ∷ selector ∷ host ∷ port ∷ [])) ≡ (letter ∷ title) ∷ selector ∷ host ∷ port ∷ [] =
    field_ends (letter ∷ title) (selector ++ 9 ∷ (host ++ 9 ∷ port)) front ∙ ap (λ l. (letter ∷ title) ∷ l) (field_ends selector (host ++ 9 ∷ port) s.tab ∙ ap (λ l. selector ∷ l) (field_ends host port h.tab ∙ ap (λ l. host ∷ l) (last_field port p.tab))) in
    rw (stays _ whole, comment, mark) (ap of_fields parts)

-- and one of two fields
two : (letter : ℕ) (title selector : List ℕ) → (letter == 35) ≡ false → (letter == 33) ≡ false → (letter == 9) ≡ false → (letter == 13) ≡ false → IsPlain title → IsPlain selector
    → line_of (join_with_byte 9 ((letter ∷ title) ∷ selector ∷ [])) ≡ typed letter title selector [] []
two letter title selector comment mark tab cr t s =
    let front : list_any is_tab (letter ∷ title) ≡ false = rw (tab, t.tab) refl in
    let start : list_any (λ b. b == 13) (letter ∷ title) ≡ false = rw (cr, t.cr) refl in
    let whole = joined_cr (letter ∷ title) selector start s.cr in
    let parts : slice_split is_tab (join_with_byte 9 ((letter ∷ title) ∷ selector ∷ [])) ≡ (letter ∷ title) ∷ selector ∷ [] =
    field_ends (letter ∷ title) selector front ∙ ap (λ l. (letter ∷ title) ∷ l) (last_field selector s.tab) in
    rw (stays _ whole, comment, mark) (ap of_fields parts)

-- an item
entry_back : (kind : LinkKind) (title selector : List ℕ) (place : MapPlace) → is_title title ≡ true → is_selector selector ≡ true → place_fits place ≡ true → nat_lt 0 (length selector) ≡ true → entry kind title selector (host_field place.host) (port_field place.port) ≡ Ok (Entry kind title selector place)
entry_back kind title [] place t s p some = absurd (cc some)
entry_back kind title (b ∷ bs) place t s p some =
    let host = left_true (host_fits place.host) (port_fits place.port) p in
    let port = right_true (host_fits place.host) (port_fits place.port) p in
    rw (taken (λ r. faults.Title r) is_field 69 title t, taken (λ r. faults.Selector r) is_field 255 (b ∷ bs) s, host_back place.host host, port_back place.port port) refl

-- what a letter needs, so that an item is read by it
record IsLetter (kind : LinkKind) : Type 0 where
  pub comment : (link_letter kind == 35) ≡ false
  pub mark : (link_letter kind == 33) ≡ false
  pub tab : (link_letter kind == 9) ≡ false
  pub cr : (link_letter kind == 13) ≡ false
  pub info : (link_letter kind == 105) ≡ false
  pub kind_back : kind_of (link_letter kind) ≡ Ok kind

letters : (kind : LinkKind) → IsLetter kind
letters links.Text = record { comment = refl; mark = refl; tab = refl; cr = refl; info = refl; kind_back = refl }
letters links.Menu = record { comment = refl; mark = refl; tab = refl; cr = refl; info = refl; kind_back = refl }
letters links.PhoneBook = record { comment = refl; mark = refl; tab = refl; cr = refl; info = refl; kind_back = refl }
letters links.BinHex = record { comment = refl; mark = refl; tab = refl; cr = refl; info = refl; kind_back = refl }
letters links.DosArchive = record { comment = refl; mark = refl; tab = refl; cr = refl; info = refl; kind_back = refl }
letters links.Uuencoded = record { comment = refl; mark = refl; tab = refl; cr = refl; info = refl; kind_back = refl }
letters links.Search = record { comment = refl; mark = refl; tab = refl; cr = refl; info = refl; kind_back = refl }
letters links.Telnet = record { comment = refl; mark = refl; tab = refl; cr = refl; info = refl; kind_back = refl }
letters links.Binary = record { comment = refl; mark = refl; tab = refl; cr = refl; info = refl; kind_back = refl }
letters links.Mirror = record { comment = refl; mark = refl; tab = refl; cr = refl; info = refl; kind_back = refl }
letters links.Tn3270 = record { comment = refl; mark = refl; tab = refl; cr = refl; info = refl; kind_back = refl }
letters links.Gif = record { comment = refl; mark = refl; tab = refl; cr = refl; info = refl; kind_back = refl }
letters links.Image = record { comment = refl; mark = refl; tab = refl; cr = refl; info = refl; kind_back = refl }
letters links.Html = record { comment = refl; mark = refl; tab = refl; cr = refl; info = refl; kind_back = refl }

typed_back : (kind : LinkKind) (title selector host port : List ℕ) → (link_letter kind == 104 && is_url_name selector) ≡ false → typed (link_letter kind) title selector host port ≡ entry kind title selector host port
typed_back kind title selector host port no_link = let l = letters kind in rw (l.info, no_link, l.kind_back) refl

plain_title : (title : List ℕ) → is_title title ≡ true → IsPlain title
plain_title title h = plain_field title (right_true (nat_le (length title) 69) (is_field title) h)

plain_selector : (selector : List ℕ) → is_selector selector ≡ true → IsPlain selector
plain_selector selector h = plain_field selector (right_true (nat_le (length selector) 255) (is_field selector) h)

item_back : (kind : LinkKind) (title selector : List ℕ) (place : MapPlace) → is_title title ≡ true → is_selector selector ≡ true → place_fits place ≡ true → nat_lt 0 (length selector) ≡ true → (link_letter kind == 104 && is_url_name selector) ≡ false
    → line_of (spelled (Entry kind title selector place)) ≡ Ok (Entry kind title selector place)
item_back kind title selector place t s p some no_link =
    let l = letters kind in
    let host = left_true (host_fits place.host) (port_fits place.port) p in
    let port = right_true (host_fits place.host) (port_fits place.port) p in
    four (link_letter kind) title selector (host_field place.host) (port_field place.port) l.comment l.mark l.tab l.cr (plain_title title t) (plain_selector selector s) (plain_host place.host host) (plain_port place.port port)
    ∙ typed_back kind title selector (host_field place.host) (port_field place.port) no_link
    ∙ entry_back kind title selector place t s p some

info_back : (title : List ℕ) → is_title title ≡ true → line_of (spelled (Info title)) ≡ Ok (Info title)
info_back title t =
    two 105 title [] refl refl refl refl (plain_title title t) (record { tab = refl; cr = refl })
    ∙ (rw (taken (λ r. faults.Title r) is_field 69 title t) refl)

title_back : (title : List ℕ) → is_title title ≡ true → line_of (spelled (Title title)) ≡ Ok (Title title)
title_back title t =
    let plain = plain_title title t in
    rw (stays (33 ∷ title) plain.cr, taken (λ r. faults.Title r) is_field 69 title t) refl

link_back : (title url : List ℕ) → is_title title ≡ true → is_link url ≡ true → line_of (spelled (Link title url)) ≡ Ok (Link title url)
link_back title url t u =
    let word = left_true (is_word url) _ (right_true (nat_le (length url) 251) (is_url url) u) in
    let plain = plain_word url word in
    let selector : IsPlain (codes "URL:" ++ url) = record { tab = plain.tab; cr = plain.cr } in
    two 104 title (codes "URL:" ++ url) refl refl refl refl (plain_title title t) selector
    ∙ (rw (taken (λ r. faults.Title r) is_field 69 title t, taken (λ r. faults.Link r) is_url 251 url u) refl)

pub spellings_read : (line : Line) → fits line ≡ true → has_spelling line ≡ true → line_of (spelled line) ≡ Ok line
spellings_read (Info title) t has = info_back title t
spellings_read (Title title) t has = title_back title t
spellings_read (Link title url) h has = link_back title url (left_true (is_title title) (is_link url) h) (right_true (is_title title) (is_link url) h)
spellings_read (Entry kind title selector place) h has =
    let others = right_true (is_title title) (is_selector selector && place_fits place) h in
    item_back kind title selector place (left_true (is_title title) (is_selector selector && place_fits place) h)
    (left_true (is_selector selector) (place_fits place) others) (right_true (is_selector selector) (place_fits place) others)
    (left_true (nat_lt 0 (length selector)) _ has) (unnot (link_letter kind == 104 && is_url_name selector) (right_true (nat_lt 0 (length selector)) _ has))
spellings_read Comment h has = refl
spellings_read Listing h has = refl
spellings_read End h has = refl
