-- What is read has names within their limits.
use Rattle.std.proofs.Common.{◌≡◌, ℕ, Bool, true, false, ◌&&◌, List, [], ◌∷◌, ◌==◌, length, drop, arith, inl, inr, refl, subst}
use Rattle.std.specs.Prelude.{nat_lt, nat_le, Some, Result, Ok, Err, IfOk, codes}
use Rattle.std.specs.List.{slice_split}
use Rattle.std.specs.Str.{bytes_eq}
use Rattle.std.proofs.lemmas.Bool.{cases_Bool}
use Rattle.std.proofs.lemmas.Bool.Decides.{nat_tests}
use Rattle.common_types.specs.Names.{name_of, is_field, is_word, is_url, is_url_name}
use Rattle.common_types.specs.Digits.{is_number}
use Rattle.common_types.specs.declared.refused.Refused.{Refused}
use Rattle.host_types.specs.Items.{is_title, is_selector, is_host, is_link}
use Rattle.host_types.specs.Lines.{without_cr}
use Rattle.host_types.specs.declared.menu.LinkKind.{LinkKind}
use Rattle.gophermap.specs.declared.fault.LineFault.{LineFault}
use Rattle.gophermap.specs.declared.fault.LineFault.TheVariants as faults
use Rattle.gophermap.specs.Line.{Line, ReadLine, Info, Title, Link, Entry, ◌>>=◌, named, title_of, selector_of, url_of, given_host, host_of, is_port, port_of, place_of, kind_of, selector_or, info, titled, link, entry, typed, item, is_tab, is_order, alone, of_fields, of_text, line_of}
use Rattle.gophermap.specs.Laws.{fits, host_fits, port_fits, place_fits}

-- what holds of each step holds of both
bind : {A B : Type 0} (P : A → Type 0) (Q : B → Type 0) (r : Result A LineFault) (next : A → Result B LineFault) → IfOk r P → ((a : A) → P a → IfOk (next a) Q) → IfOk (r >>= next) Q
bind P Q (Ok a) next holds goes = goes a holds
bind P Q (Err fault) next holds goes = tt

at_most : (most n : ℕ) → nat_lt most n ≡ false → nat_le n most ≡ true
at_most most n not_above = grind (arith, nat_tests)

-- a name that is taken has at most so many bytes, and passes the test
name_fits : (fault : Refused → LineFault) (test : List ℕ → Bool) (most : ℕ) (bytes : List ℕ) → IfOk (named fault (name_of test most bytes)) (λ name. (nat_le (length name) most && test name) ≡ true)
name_fits fault test most bytes =
    elim (cases_Bool (nat_lt most (length bytes))) [
      | inl long ↦ rw long tt
      | inr short ↦ elim (cases_Bool (test bytes)) [
        | inl good ↦ rw (short, good) (rw (at_most most (length bytes) short, good) refl)
        | inr bad ↦ rw (short, bad) tt
      ]
    ]

abbrev Fits : ReadLine → Type 0
Fits read = IfOk read (λ line. fits line ≡ true)

title_fits : (bytes : List ℕ) → IfOk (title_of bytes) (λ title. is_title title ≡ true)
title_fits bytes = name_fits (λ r. faults.Title r) is_field 69 bytes

info_fits : (title : List ℕ) → Fits (info title)
info_fits title = bind (λ t. is_title t ≡ true) (λ line. fits line ≡ true) (title_of title) (λ t. Ok (Info t)) (title_fits title) (λ t h. h)

titled_fits : (title : List ℕ) → Fits (titled title)
titled_fits title = bind (λ t. is_title t ≡ true) (λ line. fits line ≡ true) (title_of title) (λ t. Ok (Title t)) (title_fits title) (λ t h. h)

link_fits : (title url : List ℕ) → Fits (link title url)
link_fits title url =
    bind (λ t. is_title t ≡ true) (λ line. fits line ≡ true) (title_of title) _ (title_fits title) (λ t h.
    bind (λ u. is_link u ≡ true) (λ line. fits line ≡ true) (url_of url) (λ u. Ok (Link t u)) (name_fits (λ r. faults.Link r) is_url 251 url) (λ u k. rw (h, k) refl))

given_fits : (field : List ℕ) → IfOk (host_of field) (λ host. host_fits host ≡ true)
given_fits [] = refl
given_fits (b ∷ bs) = bind (λ host. is_host host ≡ true) (λ host. host_fits host ≡ true) (given_host (b ∷ bs)) (λ host. Ok (Some host)) (name_fits (λ r. faults.Host r) is_word 100 (b ∷ bs)) (λ host h. h)

right_true : (a b : Bool) → (a && b) ≡ true → b ≡ true
right_true true b h = h
right_true false b h = absurd (cc h)

ports_fit : (field : List ℕ) → IfOk (port_of field) (λ port. port_fits port ≡ true)
ports_fit [] = refl
ports_fit (b ∷ bs) =
    elim (cases_Bool (is_port (b ∷ bs))) [
      | inl good ↦ rw good (right_true (is_number 5 (b ∷ bs)) _ good)
      | inr bad ↦ rw bad tt
    ]

places_fit : (host port : List ℕ) → IfOk (place_of host port) (λ place. place_fits place ≡ true)
places_fit host port =
    bind (λ h. host_fits h ≡ true) (λ place. place_fits place ≡ true) (host_of host) _ (given_fits host) (λ h is.
    bind (λ p. port_fits p ≡ true) (λ place. place_fits place ≡ true) (port_of port) (λ p. Ok (record { host = h; port = p })) (ports_fit port) (λ p k. rw (is, k) refl))

entry_fits : (kind : LinkKind) (title selector host port : List ℕ) → Fits (entry kind title selector host port)
entry_fits kind title selector host port =
    bind (λ t. is_title t ≡ true) (λ line. fits line ≡ true) (title_of title) _ (title_fits title) (λ t h.
    bind (λ s. is_selector s ≡ true) (λ line. fits line ≡ true) (selector_of (selector_or title selector)) _ (name_fits (λ r. faults.Selector r) is_field 255 (selector_or title selector)) (λ s k.
    bind (λ p. place_fits p ≡ true) (λ line. fits line ≡ true) (place_of host port) (λ p. Ok (Entry kind t s p)) (places_fit host port) (λ p m. rw (h, k, m) refl)))

any_kind : (r : Result LinkKind LineFault) (title selector host port : List ℕ) → Fits (r >>= (λ kind. entry kind title selector host port))
any_kind (Ok kind) title selector host port = entry_fits kind title selector host port
any_kind (Err fault) title selector host port = tt

typed_fits : (letter : ℕ) (title selector host port : List ℕ) → Fits (typed letter title selector host port)
typed_fits letter title selector host port =
    elim (cases_Bool (letter == 105)) [
      | inl i ↦ rw i (info_fits title)
      | inr other ↦ elim (cases_Bool (letter == 104 && is_url_name selector)) [
        | inl out ↦ rw (other, out) (link_fits title (drop 4 selector))
        | inr within ↦ rw (other, within) (any_kind (kind_of letter) title selector host port)
      ]
    ]

item_fits : (front selector host port : List ℕ) → Fits (item front selector host port)
item_fits [] selector host port = tt
item_fits (letter ∷ title) selector host port = typed_fits letter title selector host port

alone_fits : (text : List ℕ) → Fits (alone text)
alone_fits text =
    elim (cases_Bool (bytes_eq text (codes "*"))) [
      | inl star ↦ rw star refl
      | inr no_star ↦ elim (cases_Bool (bytes_eq text (codes "."))) [
        | inl dot ↦ rw (no_star, dot) refl
        | inr no_dot ↦ elim (cases_Bool (is_order text)) [
          | inl order ↦ rw (no_star, no_dot, order) tt
          | inr shown ↦ rw (no_star, no_dot, shown) (info_fits text)
        ]
      ]
    ]

fields_fit : (fields : List (List ℕ)) → Fits (of_fields fields)
fields_fit [] = tt
fields_fit (text ∷ []) = alone_fits text
fields_fit (front ∷ selector ∷ []) = item_fits front selector [] []
fields_fit (front ∷ selector ∷ host ∷ []) = item_fits front selector host []
fields_fit (front ∷ selector ∷ host ∷ port ∷ []) = item_fits front selector host port
fields_fit (front ∷ selector ∷ host ∷ port ∷ further ∷ others) = tt

text_fits : (text : List ℕ) → Fits (of_text text)
text_fits [] = refl
text_fits (first ∷ rest) =
    elim (cases_Bool (first == 35)) [
      | inl comment ↦ rw comment refl
      | inr other ↦ elim (cases_Bool (first == 33)) [
        | inl title ↦ rw (other, title) (titled_fits rest)
        | inr plain ↦ rw (other, plain) (fields_fit (slice_split is_tab (first ∷ rest)))
      ]
    ]

pub lines_fit : (bytes : List ℕ) (line : Line) → line_of bytes ≡ Ok line → fits line ≡ true
lines_fit bytes line is = subst Fits is (text_fits (without_cr bytes))
