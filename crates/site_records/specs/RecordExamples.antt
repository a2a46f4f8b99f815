-- Worked examples: the layout of a sample site, byte for byte.
use Rattle.std.specs.Prelude.{◌≡◌, ℕ, List, [], ◌∷◌, ◌++◌, codes, Some, None}
use Rattle.host_types.specs.Site.{Site, text_item}
use Rattle.host_types.specs.declared.item.Item.{Item}
use Rattle.host_types.specs.declared.item.Body.TheVariants.{Menu}
use Rattle.host_types.specs.declared.menu.Entry.TheVariants.{Local, Info, Remote}
use Rattle.host_types.specs.declared.menu.LinkKind.TheVariants.{Telnet}
use Rattle.host_types.specs.declared.form.Question.TheVariants.{Ask, AskP, Choose}
use Rattle.site_records.specs.Records.{recorded, entries_bytes, questions_bytes, item_bytes, item_bytes_v1}
use Rattle.site_records.specs.Reading.{entries_at, questions_at, record_at, record_at_v1}
use Rattle.site_records.specs.Layout.{Pairs, layout}

-- a stamp of 743878921 seconds in eight bytes
abbrev pub moment : List ℕ
moment = 0 ∷ 0 ∷ 0 ∷ 0 ∷ 0x2c ∷ 0x56 ∷ 0xb1 ∷ 0x09 ∷ []

-- no expiry
abbrev pub never : List ℕ
never = 0xff ∷ 0xff ∷ 0xff ∷ 0xff ∷ 0xff ∷ 0xff ∷ 0xff ∷ 0xff ∷ []

abbrev pub top : Item
top = record { title = codes "Top"; stamp = 743878921; until = None; summary = []; body = Menu (Local (codes "/about") ∷ Info (codes "Welcome") ∷ []) }

abbrev pub about : Item
about = text_item (codes "About us") 743878921 (codes "Hello\n.dot\nlast")

abbrev pub sample : Site
sample = record {
  items = ([], top) ∷ (codes "/about", about) ∷ [];
  host = codes "localhost";
  port = 7070;
  admin = codes "Ada <ada@localhost>";
}

abbrev pub top_record : List ℕ
top_record = 0x4d ∷ moment ++ never ++ 0x03 ∷ codes "Top" ++ 0 ∷ 0 ∷ 0 ∷ 0 ∷ 0 ∷ 0x11 ∷ []

abbrev pub about_record : List ℕ
about_record = 0x56 ∷ moment ++ never ++ 0x08 ∷ codes "About us" ++ 0 ∷ 0 ∷ 0x30 ∷ 0x01 ∷ 0x0a ∷ codes "Text/plain" ++ 0 ∷ 0 ∷ 0 ∷ 0 ∷ 0x0f ∷ []

abbrev pub top_record_v1 : List ℕ
top_record_v1 = 0x4d ∷ moment ++ 0x03 ∷ codes "Top" ++ 0 ∷ 0 ∷ 0 ∷ 0 ∷ 0 ∷ 0x11 ∷ []

-- an item that expires a second later
abbrev pub passing_record : List ℕ
passing_record = 0x4d ∷ moment ++ (0 ∷ 0 ∷ 0 ∷ 0 ∷ 0x2c ∷ 0x56 ∷ 0xb1 ∷ 0x0a ∷ []) ++ 0x03 ∷ codes "Top" ++ 0 ∷ 0 ∷ 0 ∷ 0 ∷ 0 ∷ 0x11 ∷ []

-- ten pairs, in byte order
abbrev pub sample_pairs : Pairs
sample_pairs =
    (codes "C" ++ 0 ∷ 0 ∷ 0 ∷ 0 ∷ [], 0x4c ∷ 0x06 ∷ codes "/about" ++ 0x69 ∷ 0x07 ∷ codes "Welcome")
    ∷ (codes "C" ++ 6 ∷ codes "/about" ++ 0 ∷ 0 ∷ 0 ∷ [], codes "Hello\n.dot\nlast")
    ∷ (codes "I", top_record)
    ∷ (codes "I/about", about_record)
    ∷ (codes "W" ++ 2 ∷ codes "us/about", [])
    ∷ (codes "W" ++ 3 ∷ codes "dot/about", [])
    ∷ (codes "W" ++ 3 ∷ codes "top", [])
    ∷ (codes "W" ++ 4 ∷ codes "last/about", [])
    ∷ (codes "W" ++ 5 ∷ codes "about/about", [])
    ∷ (codes "W" ++ 5 ∷ codes "hello/about", [])
    ∷ []

pub record RecordExamples : Type 0 where
  pub top_menu : item_bytes top ≡ top_record
  pub document : item_bytes about ≡ about_record
  pub pairs : layout sample ≡ sample_pairs
  pub link : entries_bytes (Remote Telnet (codes "T") (codes "s") (codes "h") 258 ∷ []) ≡ codes "R8" ++ 1 ∷ codes "T" ++ 1 ∷ codes "s" ++ 1 ∷ codes "h" ++ 1 ∷ 2 ∷ []
  pub form : questions_bytes (Ask (codes "Who") ∷ AskP (codes "Key") (codes "sesame") ∷ Choose (codes "Way") (codes "in" ∷ codes "out" ∷ []) ∷ []) ≡
      codes "A" ++ 3 ∷ codes "Who" ++ codes "P" ++ 3 ∷ codes "Key" ++ 6 ∷ codes "sesame" ++ codes "C" ++ 3 ∷ codes "Way" ++ 2 ∷ 2 ∷ codes "in" ++ 3 ∷ codes "out"
  pub top_is_read : record_at top_record ≡ Some (recorded top)
  pub document_is_read : record_at about_record ≡ Some (recorded about)
  pub bytes_behind_it : record_at (top_record ++ 0 ∷ []) ≡ None
  pub too_short : record_at (0x4d ∷ moment) ≡ None
  pub expires : record_at passing_record ≡ Some (record (recorded top) { until = Some 743878922 })
  pub too_late : record_at (0x4d ∷ moment ++ (0 ∷ 0 ∷ 0 ∷ 0x3b ∷ 0 ∷ 0 ∷ 0 ∷ 0 ∷ []) ++ 0x03 ∷ codes "Top" ++ 0 ∷ 0 ∷ 0 ∷ 0 ∷ 0 ∷ 0x11 ∷ []) ≡ None
  pub first_version : item_bytes_v1 top ≡ top_record_v1
  pub first_is_read : record_at_v1 top_record_v1 ≡ Some (recorded top)
  pub other_version : record_at top_record_v1 ≡ None
  pub entries_are_read : entries_at (0x4c ∷ 0x06 ∷ codes "/about" ++ 0x69 ∷ 0x07 ∷ codes "Welcome") ≡ Some (Local (codes "/about") ∷ Info (codes "Welcome") ∷ [])
  pub no_questions : questions_at [] ≡ None
