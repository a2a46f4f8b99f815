-- What a line shows that is lent.
use Rattle.std.specs.Prelude.{◌≡◌, ℕ, List, [], ◌∷◌, Option, Some, None, Result}
use Rattle.std.specs.List.{slice_split}
use Rattle.std.specs.Option.{option_copied}
use Rattle.std.specs.Result.{result_map_both}
use Rattle.std.specs.Borrow.{Bor}
use Rattle.gophermap.specs.declared.fault.LineFault.{LineFault}
use Rattle.gophermap.specs.declared.line.ItemPlace.{ItemPlace as LentPlace}
use Rattle.gophermap.specs.declared.line.Line.{Line as LentLine}
use Rattle.gophermap.specs.declared.line.Line.TheVariants as lent
use Rattle.gophermap.specs.Line.{MapPlace, Line, ReadLine, Info, Title, Link, Entry, Comment, Listing, End, is_tab}

abbrev pub place_seen : LentPlace → MapPlace
place_seen p = record { host = option_copied p.host; port = p.port }

abbrev pub line_seen : LentLine → Line
line_seen (lent.Info title) = Info title.now
line_seen (lent.Title title) = Title title.now
line_seen (lent.Link title url) = Link title.now url.now
line_seen (lent.Entry kind title selector place) = Entry kind title.now selector.now (place_seen place)
line_seen lent.Comment = Comment
line_seen lent.Listing = Listing
line_seen lent.End = End

-- a line that was read, or its fault
abbrev pub seen : Result LentLine LineFault → ReadLine
seen read = result_map_both line_seen (λ f. f) read

abbrev pub place_result : Result LentPlace LineFault → Result MapPlace LineFault
place_result read = result_map_both place_seen (λ f. f) read

-- a name that was read
abbrev pub name_seen : Result (Bor (List ℕ)) LineFault → Result (List ℕ) LineFault
name_seen read = result_map_both (λ name. name.now) (λ f. f) read

abbrev pub host_seen : Result (Option (Bor (List ℕ))) LineFault → Result (Option (List ℕ)) LineFault
host_seen read = result_map_both (λ host. option_copied host) (λ f. f) read

-- the fields of what is left of a line, where something is left
abbrev pub fields : Option (List ℕ) → List (List ℕ)
fields None = []
fields (Some bytes) = slice_split is_tab bytes

-- The first of some lines is given, and the others are left; or there was none.
abbrev pub GivesFirstLine : List ReadLine → Option (Result LentLine LineFault) → List ReadLine → Type 0
GivesFirstLine old None new = (old ≡ []) × (new ≡ [])
GivesFirstLine old (Some line) new = old ≡ seen line ∷ new
