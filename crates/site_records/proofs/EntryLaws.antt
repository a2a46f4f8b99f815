-- The entries of a menu read what they write, and nothing else.
use Rattle.std.proofs.Common.{◌≡◌, ℕ, zero, suc, ◌^◌, ◌<◌, true, eqb, List, [], ◌∷◌, ◌++◌, length, Some, Result, Ok, Err, refl, sym, ap, subst, ◌∙◌, arith, inl, inr}
use Rattle.std.specs.Prelude.{IsTrue, nat_le, nat_lt, nat_eq, ◌&&◌, not, IfOk}
use Rattle.std.specs.List.{list_all}
use Rattle.std.specs.Int.{w16, to_be_bytes}
use Rattle.std.proofs.lemmas.Bool.{eqb-true, ne_eqb, leb-true, le-leb, ltb-true, lt-ltb}
use Rattle.host_types.specs.Items.{link_letter, is_selector, is_title, is_host, is_link}
use Rattle.host_types.specs.Names.{is_field, is_word, is_url}
use Rattle.host_types.specs.declared.menu.Entry.{Entry}
use Rattle.host_types.specs.declared.menu.Entry.TheVariants.{Local, Info, Url, Remote}
use Rattle.host_types.specs.declared.menu.LinkKind.{LinkKind}
use Rattle.host_types.specs.declared.menu.LinkKind.TheVariants as links
use Rattle.site_records.specs.Records.{short, entry_bytes, entries_bytes}
use Rattle.site_records.specs.Limits.{is_entry, are_entries}
use Rattle.site_records.specs.Field.{◌>>=◌, number, byte, counted, both, known, IsBytes, Takes, IsFormat}
use Rattle.site_records.specs.Reading.{selector_at, title_at, host_at, link_at, is_port, port_at, all_links, link_of, remote_fields, local_entry, info_entry, url_entry, remote_entry, entry_behind, entry_at, entries_at, Gives}
use Rattle.site_records.specs.declared.record.RecordFault.{RecordFault}
use Rattle.site_records.proofs.Formats.{and_first, and_second, and_both, bind_some, find_passes, Takes-then, wide16, number_format, byte_format, counted_format, passing_format, passing_too_format, both_format, known_format, mapped_again, until_takes, until_again, Behind, behind_takes, chosen, last_chosen}

-- ---- fields

pub short_format : IsFormat (λ text. length text < 256) short (counted byte)
short_format = counted_format 256 (λ n. n ∷ []) byte byte_format

pub title_format : IsFormat (λ text. IsTrue (is_title text)) short title_at
title_format = passing_format (λ text. length text < 256) short (counted byte) short_format is_title (λ text h. omega (arith, leb-true (length text) 69 (and_first _ (is_field text) h)))

pub selector_format : IsFormat (λ text. IsTrue (is_selector text)) short selector_at
selector_format = passing_format (λ text. length text < 256) short (counted byte) short_format is_selector (λ text h. omega (arith, leb-true (length text) 255 (and_first _ (is_field text) h)))

host_format : IsFormat (λ text. IsTrue (is_host text)) short host_at
host_format = passing_format (λ text. length text < 256) short (counted byte) short_format is_host (λ text h. omega (arith, leb-true (length text) 100 (and_first _ (is_word text) h)))

link_format : IsFormat (λ text. IsTrue (is_link text)) short link_at
link_format = passing_format (λ text. length text < 256) short (counted byte) short_format is_link (λ text h. omega (arith, leb-true (length text) 251 (and_first _ (is_url text) h)))

abbrev PortFits : ℕ → Type 0
PortFits n = (n < 2 ^ 16) × IsTrue (is_port n)

port_format : IsFormat PortFits (to_be_bytes w16) port_at
port_format = passing_too_format (λ n. n < 2 ^ 16) (to_be_bytes w16) (number w16) (number_format w16 (2 ^ 16) wide16) is_port

link_tells : (b : ℕ) (k : LinkKind) → link_of b ≡ Some k → b ≡ link_letter k
link_tells b k e = eqb-true b (link_letter k) (find_passes (λ l. nat_eq b (link_letter l)) all_links k e)

link_again : (k : LinkKind) → link_of (link_letter k) ≡ Some k
link_again links.Text = refl
link_again links.Menu = refl
link_again links.PhoneBook = refl
link_again links.BinHex = refl
link_again links.DosArchive = refl
link_again links.Uuencoded = refl
link_again links.Search = refl
link_again links.Telnet = refl
link_again links.Binary = refl
link_again links.Mirror = refl
link_again links.Tn3270 = refl
link_again links.Gif = refl
link_again links.Image = refl
link_again links.Html = refl

link_small : (k : LinkKind) → link_letter k < 256
link_small k = lt_256 (link_letter k) (small k)
  where
    lt_256 : (n : ℕ) → nat_lt n 256 ≡ true → n < 256
    lt_256 n h = ltb-true n 256 h

    small : (k : LinkKind) → nat_lt (link_letter k) 256 ≡ true
    small links.Text = refl
    small links.Menu = refl
    small links.PhoneBook = refl
    small links.BinHex = refl
    small links.DosArchive = refl
    small links.Uuencoded = refl
    small links.Search = refl
    small links.Telnet = refl
    small links.Binary = refl
    small links.Mirror = refl
    small links.Tn3270 = refl
    small links.Gif = refl
    small links.Image = refl
    small links.Html = refl

-- ---- entries by their tags

abbrev entry_tag : Entry → ℕ
entry_tag (Local selector) = 76
entry_tag (Info title) = 105
entry_tag (Url title url) = 104
entry_tag (Remote kind title selector host port) = 82

abbrev entry_tail : Entry → List ℕ
entry_tail (Local selector) = short selector
entry_tail (Info title) = short title
entry_tail (Url title url) = short title ++ short url
entry_tail (Remote kind title selector host port) = link_letter kind ∷ short title ++ short selector ++ short host ++ to_be_bytes w16 port

entry_split : (e : Entry) → entry_bytes e ≡ entry_tag e ∷ entry_tail e
entry_split (Local selector) = refl
entry_split (Info title) = refl
entry_split (Url title url) = refl
entry_split (Remote kind title selector host port) = refl

abbrev EntryBehind : ℕ → List ℕ → Entry → List ℕ → Type 0
EntryBehind = Behind entry_tail is_entry entry_tag

local_behind : (tag : ℕ) → tag ≡ 76 → (bytes : List ℕ) (e : Entry) (rest : List ℕ) → IsBytes bytes → local_entry bytes ≡ Some (e, rest) → EntryBehind tag bytes e rest
local_behind tag is = behind_takes entry_tail is_entry entry_tag (λ s. Local s) (λ s. IsTrue (is_selector s)) short selector_at selector_format (λ s. refl) (λ s h. and_both (is_selector s) true h refl) tag (λ s. is)

info_behind : (tag : ℕ) → tag ≡ 105 → (bytes : List ℕ) (e : Entry) (rest : List ℕ) → IsBytes bytes → info_entry bytes ≡ Some (e, rest) → EntryBehind tag bytes e rest
info_behind tag is = behind_takes entry_tail is_entry entry_tag (λ t. Info t) (λ t. IsTrue (is_title t)) short title_at title_format (λ t. refl) (λ t h. and_both (is_title t) true h refl) tag (λ s. is)

abbrev UrlFits : List ℕ × List ℕ → Type 0
UrlFits u = IsTrue (is_title u.0) × IsTrue (is_link u.1)

url_format : IsFormat UrlFits (λ u. short u.0 ++ short u.1) (both title_at link_at)
url_format = both_format (λ t. IsTrue (is_title t)) (λ u. IsTrue (is_link u)) short short title_at link_at title_format link_format

url_good : (u : List ℕ × List ℕ) → UrlFits u → IsTrue (is_entry (Url u.0 u.1))
url_good u h = and_both (is_title u.0 && is_link u.1) true (and_both (is_title u.0) (is_link u.1) h.0 h.1) refl

url_behind : (tag : ℕ) → tag ≡ 104 → (bytes : List ℕ) (e : Entry) (rest : List ℕ) → IsBytes bytes → url_entry bytes ≡ Some (e, rest) → EntryBehind tag bytes e rest
url_behind tag is = behind_takes entry_tail is_entry entry_tag (λ (u : List ℕ × List ℕ). Url u.0 u.1) UrlFits (λ u. short u.0 ++ short u.1) (both title_at link_at) url_format (λ u. refl) url_good tag (λ s. is)

abbrev Fields : Type 0
Fields = LinkKind × (((List ℕ × List ℕ) × List ℕ) × ℕ)

abbrev RemoteFits : Fields → Type 0
RemoteFits f = Unit {0} × (((IsTrue (is_title f.1.0.0.0) × IsTrue (is_selector f.1.0.0.1)) × IsTrue (is_host f.1.0.1)) × PortFits f.1.1)

abbrev remote_text : Fields → List ℕ
remote_text f = (link_letter f.0 ∷ []) ++ (short f.1.0.0.0 ++ short f.1.0.0.1 ++ short f.1.0.1 ++ to_be_bytes w16 f.1.1)

remote_format : IsFormat RemoteFits remote_text remote_fields
remote_format =
    let two = both_format (λ t. IsTrue (is_title t)) (λ s. IsTrue (is_selector s)) short short title_at selector_at title_format selector_format in
    let three = both_format (λ (x : List ℕ × List ℕ). IsTrue (is_title x.0) × IsTrue (is_selector x.1)) (λ h. IsTrue (is_host h)) (λ x. short x.0 ++ short x.1) short (both title_at selector_at) host_at two host_format in
    let four = both_format (λ (x : (List ℕ × List ℕ) × List ℕ). (IsTrue (is_title x.0.0) × IsTrue (is_selector x.0.1)) × IsTrue (is_host x.1)) PortFits (λ x. short x.0.0 ++ short x.0.1 ++ short x.1) (to_be_bytes w16) (both (both title_at selector_at) host_at) port_at three port_format in
    both_format (λ k. Unit {0}) (λ (x : ((List ℕ × List ℕ) × List ℕ) × ℕ). ((IsTrue (is_title x.0.0.0) × IsTrue (is_selector x.0.0.1)) × IsTrue (is_host x.0.1)) × PortFits x.1) (λ k. link_letter k ∷ [])
    (λ x. short x.0.0.0 ++ short x.0.0.1 ++ short x.0.1 ++ to_be_bytes w16 x.1) (known link_of) (both (both (both title_at selector_at) host_at) port_at) (known_format link_letter link_of link_tells link_again link_small) four

abbrev remote_of : Fields → Entry
remote_of f = Remote f.0 f.1.0.0.0 f.1.0.0.1 f.1.0.1 f.1.1

remote_good : (f : Fields) → RemoteFits f → IsTrue (is_entry (remote_of f))
remote_good f h =
    let port = h.1.1 in
    let given : not (eqb f.1.1 0) ≡ true = ap not (ne_eqb f.1.1 0 (λ e. omega (arith, e, ltb-true 0 f.1.1 port.1))) in
    and_both _ _ (and_both (is_title f.1.0.0.0) _ h.1.0.0.0 (and_both (is_selector f.1.0.0.1) _ h.1.0.0.1 (and_both (is_host f.1.0.1) _ h.1.0.1 (lt-ltb f.1.1 (2 ^ 16) port.0)))) given

remote_behind : (tag : ℕ) → tag ≡ 82 → (bytes : List ℕ) (e : Entry) (rest : List ℕ) → IsBytes bytes → remote_entry bytes ≡ Some (e, rest) → EntryBehind tag bytes e rest
remote_behind tag is = behind_takes entry_tail is_entry entry_tag remote_of RemoteFits remote_text remote_fields remote_format (λ f. refl) remote_good tag (λ s. is)

entry_behind_takes : (tag : ℕ) (bytes : List ℕ) (e : Entry) (rest : List ℕ) → IsBytes bytes → entry_behind tag bytes ≡ Some (e, rest) → EntryBehind tag bytes e rest
unfolding entry_behind
entry_behind_takes tag bytes e rest fits found =
    elim (chosen (eqb tag 76) _ _ (e, rest) found) [
      | inl h ↦ local_behind tag (eqb-true tag 76 h.0) bytes e rest fits h.1
      | inr g ↦ elim (chosen (eqb tag 105) _ _ (e, rest) g.1) [
        | inl h ↦ info_behind tag (eqb-true tag 105 h.0) bytes e rest fits h.1
        | inr g ↦ elim (chosen (eqb tag 104) _ _ (e, rest) g.1) [
          | inl h ↦ url_behind tag (eqb-true tag 104 h.0) bytes e rest fits h.1
          | inr g ↦ let h = last_chosen (eqb tag 82) _ (e, rest) g.1 in remote_behind tag (eqb-true tag 82 h.0) bytes e rest fits h.1
        ]
      ]
    ]

entry_behind_again : (e : Entry) (rest : List ℕ) → IsTrue (is_entry e) → entry_behind (entry_tag e) (entry_tail e ++ rest) ≡ Some (e, rest)
unfolding entry_behind
entry_behind_again (Local selector) rest h = mapped_again (λ s. Local s) selector_at (short selector ++ rest) selector rest (selector_format.again selector rest (and_first (is_selector selector) _ h))
entry_behind_again (Info title) rest h = mapped_again (λ t. Info t) title_at (short title ++ rest) title rest (title_format.again title rest (and_first (is_title title) _ h))
entry_behind_again (Url title url) rest h =
    let typed = and_first (is_title title && is_link url) _ h in
    mapped_again (λ (u : List ℕ × List ℕ). Url u.0 u.1) (both title_at link_at) ((short title ++ short url) ++ rest) (title, url) rest (url_format.again (title, url) rest (and_first (is_title title) _ typed, and_second (is_title title) _ typed))
entry_behind_again (Remote kind title selector host port) rest h =
    let typed = and_first (is_title title && (is_selector selector && (is_host host && nat_lt port (2 ^ 16)))) _ h in
    let given : not (eqb port 0) ≡ true = and_second (is_title title && (is_selector selector && (is_host host && nat_lt port (2 ^ 16)))) _ h in
    let more = and_second (is_title title) _ typed in
    let most = and_second (is_selector selector) _ more in
    let fields : Fields = (kind, (((title, selector), host), port)) in
    mapped_again remote_of remote_fields (remote_text fields ++ rest) fields rest
    (remote_format.again fields rest (tt, (((and_first (is_title title) _ typed, and_first (is_selector selector) _ more), and_first (is_host host) _ most), (ltb-true port (2 ^ 16) (and_second (is_host host) _ most), above_zero port given))))
  where
    above_zero : (n : ℕ) → not (eqb n 0) ≡ true → nat_lt 0 n ≡ true
    above_zero zero h = absurd cc
    above_zero (suc n) h = lt-ltb 0 (suc n) (omega arith)

entry_takes : (bytes : List ℕ) (e : Entry) (rest : List ℕ) → IsBytes bytes → entry_at bytes ≡ Some (e, rest) → Takes bytes (entry_bytes e) rest × IsTrue (is_entry e)
unfolding entry_at
entry_takes bytes e rest fits found =
    let a = bind_some (byte bytes) (λ tag. entry_behind tag.0 tag.1) (e, rest) found in
    let t = byte_format.takes bytes a.0.0 a.0.1 fits a.1 in
    let b = entry_behind_takes a.0.0 a.0.1 e rest t.0.rest_fits a.2 in
    let all = Takes-then bytes (a.0.0 ∷ []) a.0.1 (entry_tail e) rest t.0 b.0 in
    (subst (λ (l : List ℕ). Takes bytes l rest) (ap (λ (n : ℕ). n ∷ entry_tail e) b.1.1 ∙ sym (entry_split e)) all, b.1.0)

entry_again : (e : Entry) (rest : List ℕ) → IsTrue (is_entry e) → entry_at (entry_bytes e ++ rest) ≡ Some (e, rest)
unfolding entry_at
entry_again e rest h =
    ap (λ (l : List ℕ). byte (l ++ rest) >>= λ tag. entry_behind tag.0 tag.1) (entry_split e)
    ∙ rw (byte_format.again (entry_tag e) (entry_tail e ++ rest) (small e)) (entry_behind_again e rest h)
  where
    small : (e : Entry) → entry_tag e < 256
    small (Local selector) = omega arith
    small (Info title) = omega arith
    small (Url title url) = omega arith
    small (Remote kind title selector host port) = omega arith

entry_format : IsFormat (λ e. IsTrue (is_entry e)) entry_bytes entry_at
entry_format = record { takes = entry_takes; again = entry_again }

-- ---- all entries

pub entries_take : (bytes : List ℕ) (es : List Entry) → IsBytes bytes → entries_at bytes ≡ Some es → IsTrue (are_entries es) × (bytes ≡ entries_bytes es)
unfolding entries_at
entries_take bytes es fits found =
    let t = until_takes is_entry entry_bytes entry_at entry_format 100 bytes es fits found in
    (and_both (nat_le (length es) 100) (list_all is_entry es) (le-leb (length es) 100 t.1.1) t.1.0, t.0)

pub entries_again : (es : List Entry) → IsTrue (are_entries es) → entries_at (entries_bytes es) ≡ Some es
unfolding entries_at
entries_again es h = until_again is_entry entry_bytes entry_at entry_format some 100 es (and_second (nat_le (length es) 100) _ h) (leb-true (length es) 100 (and_first (nat_le (length es) 100) _ h))
  where
    some : (e : Entry) → 0 < length (entry_bytes e)
    some e = rw (entry_split e) (omega arith)

pub entries_found : (bytes : List ℕ) (r : Result (List Entry) RecordFault) → IsBytes bytes → Gives (λ x. x) r (entries_at bytes) → IfOk r (λ es. IsTrue (are_entries es) × (bytes ≡ entries_bytes es))
entries_found bytes (Ok es) fits given = entries_take bytes es fits given
entries_found bytes (Err e) fits given = tt
