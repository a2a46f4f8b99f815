-- Small tables are read as what they were made of.
use Rattle.std.proofs.lemmas.List.{nil_from_length}
use Rattle.std.proofs.lemmas.Slice.Eq.{bytes_eq-Decides}
use Rattle.host_types.specs.Site.{text_item}
use Rattle.host_types.specs.declared.item.Body.TheVariants as bodies
use Rattle.std.proofs.Common.{bytes_eq, length, ◌≡◌, ◌∙◌, ◌≤◌, ◌==◌, ℕ, Bool, true, false, List, [], ◌∷◌, ◌++◌, Option, Some, None, Ok, pos, codes, nat_lt, inl, inr, refl, ap, sym, arith}
use Rattle.common_types.specs.declared.refused.Refused.{Refused}
use Rattle.host_types.specs.Items.{link_letter, kind_letter}
use Rattle.host_types.specs.declared.menu.Entry.TheVariants as entries
use Rattle.host_types.specs.declared.menu.LinkKind.{LinkKind}
use Rattle.host_types.specs.declared.menu.LinkKind.TheVariants as links
use Rattle.host_types.specs.declared.form.Question.TheVariants as questions
use Rattle.host_types.specs.declared.view.View.{View}
use Rattle.host_types.specs.declared.view.Kind.{Kind}
use Rattle.host_types.specs.declared.view.Kind.TheVariants as kinds
use Rattle.hex.specs.Hex.{decode_of}
use Rattle.toml.specs.Data.{Data, string, integer, array, table, Items, Members, no_members, member, as_str, depth}
use Rattle.change_file.specs.Tables.{values_of, each}
use Rattle.change_file.specs.Named.{selector_named, title_named, prompt_named, host_named}
use Rattle.change_file.specs.Views.{view_of, kind_of}
use Rattle.change_file.specs.Entries.{entry_of, link_of}
use Rattle.change_file.specs.Questions.{question_of}
use Rattle.change_writer.specs.Members.{with_member, HasBytes, names}

-- ---- letters

pub link_read : (kind : LinkKind) → link_of (link_letter kind ∷ []) ≡ Some kind
link_read links.Text = refl
link_read links.Menu = refl
link_read links.PhoneBook = refl
link_read links.BinHex = refl
link_read links.DosArchive = refl
link_read links.Uuencoded = refl
link_read links.Search = refl
link_read links.Telnet = refl
link_read links.Binary = refl
link_read links.Mirror = refl
link_read links.Tn3270 = refl
link_read links.Gif = refl
link_read links.Image = refl
link_read links.Html = refl

pub kind_read : (kind : Kind) → kind_of (kind_letter kind ∷ []) ≡ Some kind
kind_read kinds.Text = refl
kind_read kinds.BinHex = refl
kind_read kinds.DosArchive = refl
kind_read kinds.Uuencoded = refl
kind_read kinds.Binary = refl
kind_read kinds.Gif = refl
kind_read kinds.Image = refl
kind_read kinds.Html = refl

-- ---- entries

abbrev pub remote_table : List ℕ → List ℕ → List ℕ → List ℕ → ℕ → Members
remote_table letter title selector host port =
    with_member (codes "port") (integer (pos port)) (with_member (codes "host") (string host) (with_member (codes "selector") (string selector)
    (with_member (codes "title") (string title) (with_member (codes "kind") (string letter) no_members))))

pub remote_reads : (kind : LinkKind) (title selector host : List ℕ) (port : ℕ) → title_named title ≡ Ok title → selector_named selector ≡ Ok selector → host_named host ≡ Ok host → nat_lt port 65536 ≡ true → (port == 0) ≡ false
    → entry_of (table (remote_table (link_letter kind ∷ []) title selector host port)) ≡ Some (Ok (entries.Remote kind title selector host port))
remote_reads kind title selector host port t s h small some = rw (link_read kind, t, s, h, small, some)

-- ---- questions

pub ask_reads : (prompt : List ℕ) → prompt_named prompt ≡ Ok prompt → question_of (table (member (codes "ask") (string prompt) no_members)) ≡ Some (Ok (questions.Ask prompt))
ask_reads prompt named = rw named

pub askl_reads : (prompt : List ℕ) → prompt_named prompt ≡ Ok prompt → question_of (table (member (codes "askl") (string prompt) no_members)) ≡ Some (Ok (questions.AskL prompt))
askl_reads prompt named = rw named

pub askp_reads : (prompt word : List ℕ) → prompt_named prompt ≡ Ok prompt
    → question_of (table (with_member (codes "word") (string word) (with_member (codes "askp") (string prompt) no_members))) ≡ Some (Ok (questions.AskP prompt word))
askp_reads prompt word named = rw named

pub choose_reads : (prompt : List ℕ) (items : Items) (choices : List (List ℕ)) → prompt_named prompt ≡ Ok prompt → each as_str (values_of items) ≡ Some choices
    → question_of (table (with_member (codes "choices") (array items) (with_member (codes "choose") (string prompt) no_members))) ≡ Some (Ok (questions.Choose prompt choices))
choose_reads prompt items choices named read = rw (named, read)

-- ---- views

named_text : (name language bytes : List ℕ) → view_of (table (with_member (codes "text") (string bytes) (names name language))) ≡ Some (record { name = name; language = language; bytes = bytes })
named_text name [] bytes = refl
named_text name (b ∷ bs) bytes = refl

named_hex : (name language bytes digits : List ℕ) → decode_of digits ≡ Ok bytes → view_of (table (with_member (codes "hex") (string digits) (names name language))) ≡ Some (record { name = name; language = language; bytes = bytes })
named_hex name [] bytes digits are = rw are
named_hex name (b ∷ bs) bytes digits are = rw are

pub view_reads : (name language bytes : List ℕ) (new : Members) → HasBytes bytes (names name language) new → view_of (table new) ≡ Some (record { name = name; language = language; bytes = bytes })
view_reads name language bytes new (inl same) = rw same (named_text name language bytes)
view_reads name language bytes new (inr digits) = rw digits.2 (named_hex name language bytes digits.0 digits.1)

names_depth : (language : List ℕ) (name bytes : List ℕ) → (depth (table (with_member (codes "text") (string bytes) (names name language))) ≤ 1) × (depth (table (with_member (codes "hex") (string bytes) (names name language))) ≤ 1)
names_depth [] name bytes = (omega arith, omega arith)
names_depth (b ∷ bs) name bytes = (omega arith, omega arith)

pub view_depth : (name language bytes : List ℕ) (new : Members) → HasBytes bytes (names name language) new → depth (table new) ≤ 1
view_depth name language bytes new (inl same) = rw same (names_depth language name bytes).0
view_depth name language bytes new (inr digits) = rw digits.2 (names_depth language name digits.0).1

-- a document that has one view of plain text, without a language
plain_parts : (name language bytes : List ℕ) → name ≡ codes "Text/plain" → language ≡ [] → bodies.Views kinds.Text (record { name = name; language = language; bytes = bytes } ∷ []) ≡ (text_item [] 0 bytes).body
plain_parts name language bytes named none = rw (named, none)

pub plain_view : (view : View) (bytes : List ℕ) → bytes ≡ view.bytes → bytes_eq view.name (codes "Text/plain") ≡ true → length view.language ≡ 0 → bodies.Views kinds.Text (view ∷ []) ≡ (text_item [] 0 bytes).body
plain_view view bytes same named none = rw same (plain_parts view.name view.language view.bytes ((bytes_eq-Decides view.name (codes "Text/plain")).0 named) (nil_from_length view.language none))
