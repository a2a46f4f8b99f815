-- What those who feed a reader rest on.
use Rattle.std.specs.Prelude.{◌≡◌, ℕ, Bool, true, false, List, [], ◌∷◌, ◌++◌, Option, Some, None, unwrap_or, IsTrue, fold}
use Rattle.std.specs.List.{flat_map, list_any}
use Rattle.std.specs.Option.{option_to_list}
use Rattle.host_types.specs.Items.{is_selector}
use Rattle.host_types.specs.Names.{is_forbidden}
use Rattle.request_reader.specs.Request.{Request, RequestedView, Plus, Fetch, Attributes, EntryAttributes}
use Rattle.request_reader.specs.Lines.{is_lf}
use Rattle.request_reader.specs.Verdict.{Whole, verdict, is_open}
use Rattle.request_reader.specs.ReceivedInput.{ReceivedInput, verdict_by, silence, fed, finished}

-- What is said before the end is said whatever follows, and whether or not the input ends there.
abbrev pub VerdictsStay : Type 0
VerdictsStay = (front rest : List ℕ) (ended : Bool) → is_open (verdict front false) ≡ false → verdict (front ++ rest) ended ≡ verdict front false

-- At the end of input nothing is open.
abbrev pub IsDecided : Type 0
IsDecided = (stream : List ℕ) → is_open (verdict stream true) ≡ false

-- The selector of a whole request may name an item.
abbrev pub IsValid : Type 0
IsValid = (stream : List ℕ) (ended : Bool) (request : Request) → verdict stream ended ≡ Whole request → IsTrue (is_selector request.selector)

-- The lines of data of a whole request are lines: none holds an LF.
abbrev pub HasLines : Type 0
HasLines = (stream : List ℕ) (ended : Bool) (request : Request) → verdict stream ended ≡ Whole request → list_any (list_any is_lf) (unwrap_or request.lines []) ≡ false

-- what a fetch names
abbrev pub names_requested : Option RequestedView → List (List ℕ)
names_requested None = []
names_requested (Some requested) = requested.name ∷ option_to_list requested.language

-- what a Gopher+ part names
abbrev pub named_by : Plus → List (List ℕ)
named_by (Fetch requested) = names_requested requested
named_by (Attributes names) = names
named_by (EntryAttributes names) = names

abbrev pub names_asked : Option Plus → List (List ℕ)
names_asked None = []
names_asked (Some plus) = named_by plus

-- The views, languages and blocks that a whole request names can stand in a field: none holds TAB, CR, LF or NUL.
abbrev pub HasNames : Type 0
HasNames = (stream : List ℕ) (ended : Bool) (request : Request) → verdict stream ended ≡ Whole request → list_any (list_any is_forbidden) (names_asked request.plus) ≡ false

-- the bytes of the pieces, one behind the other
abbrev pub joined : List (List ℕ) → List ℕ
joined pieces = flat_map (λ piece. piece) pieces

-- a reader that was fed these pieces
abbrev pub fed_all : List (List ℕ) → ReceivedInput
fed_all pieces = fold fed silence pieces

-- However a stream is cut, a reader of the pieces says what the stream says.
abbrev pub SaysTheWhole : Type 0
SaysTheWhole = (pieces : List (List ℕ)) → verdict_by (fed_all pieces).input ≡ verdict (joined pieces) false

-- The same behind the end of input.
abbrev pub SaysTheEnd : Type 0
SaysTheEnd = (pieces : List (List ℕ)) → verdict_by (finished (fed_all pieces)).input ≡ verdict (joined pieces) true
