-- What sort of document a file is: by what stands behind the last period of its name, or else by its bytes.
use Rattle.std.specs.Prelude.{◌≡◌, ◌⊎◌, ℕ, ◌&&◌, ◌==◌, Bool, false, not, List, [], ◌∷◌, codes, if◌then◌else◌, Option, Some, None, IsUtf8}
use Rattle.std.specs.Str.{str_eq_ignore_ascii_case}
use Rattle.std.specs.List.{list_any}
use Rattle.host_types.specs.declared.item.Item.{Item}
use Rattle.host_types.specs.declared.item.Body.TheVariants.{Views}
use Rattle.host_types.specs.declared.view.Kind.{Kind}
use Rattle.host_types.specs.declared.view.Kind.TheVariants as kinds
use Rattle.folder_import.specs.declared.documents.Sort.{Sort}
use Rattle.folder_import.specs.declared.documents.Sort.TheVariants as sorts

abbrev pub has_period : List ℕ → Bool
has_period = list_any (λ b. b == 46)

-- what stands behind the last period, or nothing where there is none
abbrev pub ending : List ℕ → List ℕ
ending [] = []
ending (b ∷ bs) = if b == 46 && not (has_period bs) then bs else ending bs

-- the endings, in small letters
abbrev pub endings : List (List ℕ × Sort)
endings =
    (codes "txt", sorts.Text) ∷ (codes "gif", sorts.Gif) ∷ (codes "png", sorts.Png) ∷ (codes "jpg", sorts.Jpeg) ∷ (codes "jpeg", sorts.Jpeg)
    ∷ (codes "htm", sorts.Html) ∷ (codes "html", sorts.Html) ∷ (codes "hqx", sorts.BinHex) ∷ (codes "zip", sorts.Zip) ∷ (codes "uu", sorts.Uuencoded) ∷ []

-- in either case
abbrev pub known_in : List (List ℕ × Sort) → List ℕ → Option Sort
known_in [] word = None
known_in (one ∷ others) word = if str_eq_ignore_ascii_case word one.0 then Some one.1 else known_in others word

-- UTF-8 without a NUL is a text
abbrev pub IsText : List ℕ → Type 0
IsText bytes = IsUtf8 bytes × (list_any (λ b. b == 0) bytes ≡ false)

abbrev pub SortsByBytes : List ℕ → Sort → Type 0
SortsByBytes bytes sort = ((sort ≡ sorts.Text) × IsText bytes) ⊎ ((sort ≡ sorts.Binary) × ¬ (IsText bytes))

abbrev pub SortsBy : Option Sort → List ℕ → Sort → Type 0
SortsBy (Some known) bytes sort = sort ≡ known
SortsBy None bytes sort = SortsByBytes bytes sort

-- by the end of its name, where that is known, and else by its bytes
abbrev pub Sorts : List ℕ → List ℕ → Sort → Type 0
Sorts name bytes sort = SortsBy (known_in endings (ending name)) bytes sort

-- ---- a document

abbrev pub kind_of : Sort → Kind
kind_of sorts.Text = kinds.Text
kind_of sorts.Gif = kinds.Gif
kind_of sorts.Png = kinds.Image
kind_of sorts.Jpeg = kinds.Image
kind_of sorts.Html = kinds.Html
kind_of sorts.BinHex = kinds.BinHex
kind_of sorts.Zip = kinds.DosArchive
kind_of sorts.Uuencoded = kinds.Uuencoded
kind_of sorts.Binary = kinds.Binary

-- its content type (RFC 2046, 1740 and common use)
abbrev pub content_type : Sort → List ℕ
content_type sorts.Text = codes "Text/plain"
content_type sorts.Gif = codes "Image/gif"
content_type sorts.Png = codes "Image/png"
content_type sorts.Jpeg = codes "Image/jpeg"
content_type sorts.Html = codes "Text/html"
content_type sorts.BinHex = codes "Application/mac-binhex40"
content_type sorts.Zip = codes "Application/zip"
content_type sorts.Uuencoded = codes "Text/x-uuencode"
content_type sorts.Binary = codes "Application/octet-stream"

-- the file as one view, byte by byte
abbrev pub document : List ℕ → Sort → List ℕ → Item
document title sort bytes = record { title = title; stamp = 0; until = None; summary = []; body = Views (kind_of sort) (record { name = content_type sort; language = []; bytes = bytes } ∷ []) }
