-- The request line: selector, search words, Gopher+ part and data flag, parted by TABs. RFC 1436, section 2, RFC 1738, section 3.4, and the Gopher+ paper, section 2. What is refused, and which empty fields are left out, is this project's profile.
use Rattle.std.specs.Prelude.{ℕ, Bool, true, false, List, [], ◌∷◌, ◌==◌, ◌&&◌, ◌||◌, if◌then◌else◌, length, filter, nat_lt, Option, Some, None, Result, Ok, Err}
use Rattle.std.specs.List.{list_any, slice_split, before_first, after_first}
use Rattle.std.specs.Str.{bytes_eq}
use Rattle.request_reader.specs.Request.{RequestedView, Plus, Fetch, Attributes, EntryAttributes}
use Rattle.request_reader.specs.declared.cause.Cause.{Cause}
use Rattle.request_reader.specs.declared.cause.Cause.TheVariants.{TooLong, NotUnderstood}

abbrev pub is_tab : ℕ → Bool
is_tab b = b == 9

abbrev pub is_space : ℕ → Bool
is_space b = b == 32

-- NUL, or a CR that does not end the line
abbrev pub is_forbidden : ℕ → Bool
is_forbidden b = b == 0 || b == 13

-- the fields of what is left of a line, where something is left
abbrev pub fields : Option (List ℕ) → List (List ℕ)
fields None = []
fields (Some bytes) = slice_split is_tab bytes

-- an empty field that nothing follows is left out
abbrev pub before_fields : List ℕ → List (List ℕ) → List (List ℕ)
before_fields [] [] = []
before_fields [] (f ∷ others) = [] ∷ f ∷ others
before_fields (b ∷ bs) others = (b ∷ bs) ∷ others

-- the fields without the empty ones at the end
abbrev pub without_empty_end : List (List ℕ) → List (List ℕ)
without_empty_end [] = []
without_empty_end (f ∷ others) = before_fields f (without_empty_end others)

-- the fields without one empty field at the front
abbrev pub without_empty_front : List (List ℕ) → List (List ℕ)
without_empty_front [] = []
without_empty_front ([] ∷ others) = others
without_empty_front ((b ∷ bs) ∷ others) = (b ∷ bs) ∷ others

-- what stands behind the selector
abbrev pub fields_after : List ℕ → List (List ℕ)
fields_after line = without_empty_front (without_empty_end (slice_split is_tab (after_first is_tab line)))

-- ---- the Gopher+ part

-- a field that begins with `+`, `!` or `$`
abbrev pub is_plus_field : List ℕ → Bool
is_plus_field [] = false
is_plus_field (b ∷ bs) = b == 43 || b == 33 || b == 36

abbrev pub not_empty : List ℕ → Bool
not_empty [] = false
not_empty (b ∷ bs) = true

-- names with spaces between them; empty ones are left out
abbrev pub names_of : List ℕ → List (List ℕ)
names_of bytes = filter not_empty (slice_split is_space bytes)

-- an empty language is none
abbrev pub language_of : List ℕ → Option (List ℕ)
language_of [] = None
language_of (b ∷ bs) = Some (b ∷ bs)

-- A view's name and behind the first space its language; no bytes name none.
abbrev pub requested_of : List ℕ → Result (Option RequestedView) Cause
requested_of [] = Ok None
requested_of (b ∷ bs) =
    if is_space b then Err NotUnderstood
    else Ok (Some (record { name = before_first is_space (b ∷ bs); language = language_of (after_first is_space (b ∷ bs)) }))

abbrev pub fetch_of : Result (Option RequestedView) Cause → Result Plus Cause
fetch_of (Ok requested) = Ok (Fetch requested)
fetch_of (Err cause) = Err cause

abbrev pub plus_of : List ℕ → Result Plus Cause
plus_of [] = Err NotUnderstood
plus_of (b ∷ bs) =
    if b == 43 then fetch_of (requested_of bs)
    else if b == 33 then Ok (Attributes (names_of bs))
    else Ok (EntryAttributes (names_of bs))

abbrev pub is_fetch : List ℕ → Bool
is_fetch [] = false
is_fetch (b ∷ bs) = b == 43

-- Whether data follow, by the fields behind the Gopher+ part: `0` or `1`, and only a fetch has data.
abbrev pub data_flag : List ℕ → List (List ℕ) → Result Bool Cause
data_flag plus [] = Ok false
data_flag plus (flag ∷ field ∷ others) = Err NotUnderstood
data_flag plus (flag ∷ []) =
    if bytes_eq flag (48 ∷ []) then Ok false
    else if bytes_eq flag (49 ∷ []) && is_fetch plus then Ok true
    else Err NotUnderstood

-- ---- the line

-- What a request line says.
pub record ParsedRequest : Type 0 where
  pub selector : List ℕ
  pub search : Option (List ℕ)
  pub plus : Option Plus
  pub has_data : Bool

abbrev pub with_flag : List ℕ → Option (List ℕ) → Result Plus Cause → Bool → Result ParsedRequest Cause
with_flag selector search (Ok plus) flag = Ok (record { selector = selector; search = search; plus = Some plus; has_data = flag })
with_flag selector search (Err cause) flag = Err cause

-- the data flag is examined before the Gopher+ part itself
abbrev pub with_plus : List ℕ → Option (List ℕ) → List ℕ → Result Bool Cause → Result ParsedRequest Cause
with_plus selector search plus (Ok flag) = with_flag selector search (plus_of plus) flag
with_plus selector search plus (Err cause) = Err cause

-- only a Gopher+ part may follow the search words
abbrev pub behind_words : List ℕ → List ℕ → List (List ℕ) → Result ParsedRequest Cause
behind_words selector words [] = Ok (record { selector = selector; search = Some words; plus = None; has_data = false })
behind_words selector words (f ∷ others) =
    if is_plus_field f then with_plus selector (Some words) f (data_flag f others) else Err NotUnderstood

-- a Gopher+ part or search words may follow the selector
abbrev pub behind_selector : List ℕ → List (List ℕ) → Result ParsedRequest Cause
behind_selector selector [] = Ok (record { selector = selector; search = None; plus = None; has_data = false })
behind_selector selector (f ∷ others) =
    if is_plus_field f then with_plus selector None f (data_flag f others) else behind_words selector f others

unfoldable pub parsed_line : List ℕ → Result ParsedRequest Cause
parsed_line line =
    if list_any is_forbidden line then Err NotUnderstood
    else if nat_lt 255 (length (before_first is_tab line)) then Err TooLong
    else behind_selector (before_first is_tab line) (fields_after line)
