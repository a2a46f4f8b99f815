-- The views of a document, as a file of changes writes them.
use Rattle.std.specs.Prelude.{ℕ, ◌==◌, List, [], ◌∷◌, Option, Some, None, codes, find, if◌then◌else◌}
use Rattle.std.specs.Result.{result_ok}
use Rattle.hex.specs.Hex.{decode_of}
use Rattle.host_types.specs.Items.{kind_letter}
use Rattle.host_types.specs.declared.view.View.{View}
use Rattle.host_types.specs.declared.view.Kind.{Kind}
use Rattle.host_types.specs.declared.view.Kind.TheVariants as kinds
use Rattle.toml.specs.Data.{Data, Members, as_table}
use Rattle.change_file.specs.Tables.{◌>>=◌, has_only, text_at, optional_text_at}

abbrev pub all_kinds : List Kind
all_kinds = kinds.Text ∷ kinds.BinHex ∷ kinds.DosArchive ∷ kinds.Uuencoded ∷ kinds.Binary ∷ kinds.Gif ∷ kinds.Image ∷ kinds.Html ∷ []

-- the kind that is written by one letter
abbrev pub kind_of : List ℕ → Option Kind
kind_of (letter ∷ []) = find (λ k. letter == kind_letter k) all_kinds
kind_of letters = None

abbrev pub kind_at : List ℕ → Members → Option Kind
kind_at key table = do
  text ← text_at key table
  kind_of text

-- each two hexadecimal digits, in either case, are a byte
abbrev pub hex_at : List ℕ → Members → Option (List ℕ)
hex_at key table = do
  digits ← text_at key table
  result_ok (decode_of digits)

abbrev pub view_with : Members → List ℕ → Option View
view_with table bytes = do
  name ← text_at (codes "name") table
  language ← optional_text_at (codes "language") table
  Some (record { name = name; language = language; bytes = bytes })

abbrev pub text_view : Members → Option View
text_view table = do
  text ← text_at (codes "text") table
  view_with table text

abbrev pub hex_view : Members → Option View
hex_view table = do
  bytes ← hex_at (codes "hex") table
  view_with table bytes

-- a view by its bytes or by its text, and by one of them alone
abbrev pub view_in : Members → Option View
view_in table =
    if has_only (codes "name" ∷ codes "language" ∷ codes "text" ∷ []) table then text_view table
    else if has_only (codes "name" ∷ codes "language" ∷ codes "hex" ∷ []) table then hex_view table
    else None

abbrev pub view_of : Data → Option View
view_of value = do
  table ← as_table value
  view_in table
