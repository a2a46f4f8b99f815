-- Lines of a script of sessions: fields with one space between each two.
use Rattle.std.specs.Prelude.{ℕ, ◌-◌, Bool, ◌==◌, List, [], ◌∷◌, length, slice_index, Option, Some, None, nat_le, if◌then◌else◌, chars, codes, option_and_then}
use Rattle.std.specs.List.{slice_split}
use Rattle.std.specs.Option.{option_map}
use Rattle.std.specs.Result.{result_ok}
use Rattle.std.specs.Str.{bytes_eq}
use Rattle.bstr.specs.Escape.{unescaped}
use Rattle.host_types.specs.Names.{stamp_of}
use Rattle.host_script.specs.Number.{number_of}
use Rattle.host_script.specs.declared.script.Command.{Command}
use Rattle.host_script.specs.declared.script.Command.TheVariants.{Now, Text, Join, Bytes, End, Draw, Leave, Flush}

abbrev pub fields : List ℕ → List (List ℕ)
fields line = slice_split (λ b. b == 32) line

-- the bytes that the escapes of a field represent
abbrev pub field_bytes : List ℕ → List ℕ
field_bytes field = unescaped (chars field)

unfoldable pub now_of : List ℕ → Option Command
now_of seconds = option_and_then (λ s. option_map (λ stamp. Now stamp) (result_ok (stamp_of s))) (number_of seconds)

abbrev pub text_of : List ℕ → List ℕ → List ℕ → Command
text_of selector title body = Text (field_bytes selector) (field_bytes title) (field_bytes body)

abbrev pub bytes_of : List ℕ → List ℕ → Option Command
bytes_of id text = option_map (λ n. Bytes n (field_bytes text)) (number_of id)

abbrev pub end_of : List ℕ → Option Command
end_of id = option_map (λ n. End n) (number_of id)

-- how much room a draw may have, at most
abbrev pub most_room : ℕ
most_room = 65536

-- at most 65,536 bytes are drawn at once
unfoldable pub draw_of : List ℕ → List ℕ → Option Command
draw_of id room = option_and_then (λ n. option_and_then (λ most. if nat_le most most_room then Some (Draw n most) else None) (number_of room)) (number_of id)

abbrev pub leave_of : List ℕ → Option Command
leave_of id = option_map (λ n. Leave n) (number_of id)

abbrev pub is : List ℕ → List ℕ → Bool
is word name = bytes_eq word name

abbrev pub alone_of : List ℕ → Option Command
alone_of word =
    if is word (codes "join") then Some Join
    else if is word (codes "flush") then Some Flush
    else None

abbrev pub one_field_of : List ℕ → List ℕ → Option Command
one_field_of word field =
    if is word (codes "now") then now_of field
    else if is word (codes "end") then end_of field
    else if is word (codes "leave") then leave_of field
    else None

abbrev pub two_fields_of : List ℕ → List ℕ → List ℕ → Option Command
two_fields_of word id field =
    if is word (codes "bytes") then bytes_of id field
    else if is word (codes "draw") then draw_of id field
    else None

abbrev pub three_fields_of : List ℕ → List ℕ → List ℕ → List ℕ → Option Command
three_fields_of word selector title body = if is word (codes "text") then Some (text_of selector title body) else None

-- what the fields of a line say, where they have a form
abbrev pub command_of : List (List ℕ) → Option Command
command_of [] = None
command_of (word ∷ []) = alone_of word
command_of (word ∷ field ∷ []) = one_field_of word field
command_of (word ∷ id ∷ field ∷ []) = two_fields_of word id field
command_of (word ∷ selector ∷ title ∷ body ∷ []) = three_fields_of word selector title body
command_of (word ∷ selector ∷ title ∷ body ∷ further ∷ others) = None

abbrev pub ends_with_cr : List ℕ → Bool
ends_with_cr line = slice_index line (length line - 1) == 13

-- what a line without its LF says; one that ends with CR has no form
abbrev pub line_command : List ℕ → Option Command
line_command line = if ends_with_cr line then None else command_of (fields line)
