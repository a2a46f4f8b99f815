-- The head of a request on the administrator's socket: a line that says how many bytes of a file of changes follow.
use Rattle.std.specs.Prelude.{ℕ, ◌+◌, Bool, not, ◌==◌, ◌&&◌, ◌||◌, if◌then◌else◌, nat_eq, nat_lt, nat_le, Option, Some, None, Result, Ok, Err, List, [], ◌∷◌, ◌++◌, codes, decimal, drop, length, position, take}
use Rattle.std.specs.List.{starts_with}
use Rattle.std.specs.Result.{result_map_both}
use Rattle.common_types.specs.Digits.{is_number, number_of}
use Rattle.admin_lines.specs.declared.head.RequestHead.{RequestHead}
use Rattle.admin_lines.specs.declared.fault.RequestFault.{RequestFault}
use Rattle.admin_lines.specs.declared.fault.RequestFault.TheVariants.{LongLine, NoRequest, NoLength, TooMuch}

-- the most bytes that a file of changes has here: 64 MiB
abbrev pub most_bytes : ℕ
most_bytes = 67_108_864

-- the longest head: the word, a space, 19 digits and an LF
abbrev pub longest_head : ℕ
longest_head = 26

abbrev pub apply_word : List ℕ
apply_word = codes "apply "

-- the head for so many bytes
abbrev pub apply_head : ℕ → List ℕ
apply_head count = apply_word ++ decimal count ++ 10 ∷ []

abbrev pub is_lf : ℕ → Bool
is_lf b = b == 10

-- up to 19 decimal digits, with no 0 in front of others
abbrev pub is_length : List ℕ → Bool
is_length digits = is_number 19 digits && (length digits == 1 || not (starts_with nat_eq digits (codes "0")))

-- how many bytes these digits say
abbrev pub length_in : List ℕ → Result ℕ RequestFault
length_in digits = if is_length digits then (if nat_le (number_of digits) most_bytes then Ok (number_of digits) else Err TooMuch) else Err NoLength

-- how many bytes follow a line, which is given without its LF
abbrev pub line_asks : List ℕ → Result ℕ RequestFault
line_asks line = if starts_with nat_eq line apply_word then length_in (drop 6 line) else Err NoRequest

-- the file begins behind the LF at this place
abbrev pub head_at : ℕ → ℕ → RequestHead
head_at at count = record { start = at + 1; count = count }

abbrev pub head_by : Option ℕ → List ℕ → Result (Option RequestHead) RequestFault
head_by (Some at) bytes = result_map_both (λ count. Some (head_at at count)) (λ fault. fault) (line_asks (take at bytes))
head_by None bytes = if nat_lt (length bytes) longest_head then Ok None else Err LongLine

-- What a connection says that began with these bytes: its head is not whole yet; or where the file of changes begins and how many bytes it has; or why it is no request. It is so by any cuts: law `what_is_read_stays`.
abbrev pub head_in : List ℕ → Result (Option RequestHead) RequestFault
head_in bytes = head_by (position is_lf (take longest_head bytes)) bytes
