-- Worked examples of files of changes.
use Rattle.std.specs.Prelude.{◌≡◌, ℕ, pos, negsuc, List, [], ◌∷◌, Some, None, Ok, Err, codes}
use Rattle.host_types.specs.Site.{text_item}
use Rattle.host_types.specs.declared.item.Item.{Item}
use Rattle.host_types.specs.declared.item.Body.TheVariants.{Views, Menu, Board}
use Rattle.host_types.specs.declared.view.Kind.TheVariants.{Binary}
use Rattle.host_types.specs.declared.menu.Entry.TheVariants.{Local, Info}
use Rattle.host_types.specs.declared.change.Change.TheVariants.{Put, Remove, SetHost}
use Rattle.common_types.specs.declared.refused.Refused.TheVariants as refusals
use Rattle.toml.specs.Data.{Data, string, integer, array, table, Items, no_items, item, Members, no_members, member}
use Rattle.change_file.specs.Changes.{changes_of, read}
use Rattle.change_file.specs.declared.fault.FileChange.TheVariants.{Change, Refused}

-- a document of these tables
abbrev pub file : Items → Members
file tables = member (codes "change") (array tables) no_members

abbrev pub one : Members → Members
one change = file (item (table change) no_items)

abbrev pub removal : List ℕ → Members
removal selector = member (codes "do") (string (codes "remove")) (member (codes "selector") (string selector) no_members)

-- what puts an item titled `A` at `/a` by these keys
abbrev pub putting : List ℕ → Data → Members
putting key value = member (codes "do") (string (codes "put")) (member key value (member (codes "selector") (string (codes "/a")) (member (codes "title") (string (codes "A")) no_members)))

-- what puts a text at `/a` that has this at `until`
abbrev pub expiring : Data → Members
expiring until = member (codes "do") (string (codes "put")) (member (codes "selector") (string (codes "/a")) (member (codes "text") (string (codes "Hello")) (member (codes "title") (string (codes "A")) (member (codes "until") until no_members))))

-- that text, which is found until then
abbrev pub text_until : ℕ → Item
text_until until = record (text_item (codes "A") 0 (codes "Hello")) { until = Some until }

abbrev pub entry : List ℕ → List ℕ → Data
entry key text = table (member key (string text) no_members)

abbrev pub hosting : ℕ → Members
hosting port = member (codes "do") (string (codes "host")) (member (codes "host") (string (codes "example.org")) (member (codes "port") (integer (pos port)) no_members))

-- a document of one view, by these digits
abbrev pub digits_of : List ℕ → Members
digits_of digits =
    member (codes "do") (string (codes "put")) (member (codes "kind") (string (codes "9")) (member (codes "selector") (string (codes "/a")) (member (codes "title") (string (codes "A"))
    (member (codes "views") (array (item (table (member (codes "hex") (string digits) (member (codes "name") (string (codes "V")) no_members))) no_items)) no_members))))

abbrev pub document : List ℕ → Item
document bytes = record { title = codes "A"; stamp = 0; until = None; summary = []; body = Views Binary (record { name = codes "V"; language = []; bytes = bytes } ∷ []) }

pub record ChangeFileExamples : Type 0 where
  pub nothing : changes_of (file no_items) ≡ Ok []
  pub no_key : changes_of no_members ≡ Err 0
  pub further_key : changes_of (member (codes "change") (array no_items) (member (codes "more") (integer (pos 1)) no_members)) ≡ Err 0
  pub no_table : changes_of (file (item (table no_members) (item (integer (pos 1)) no_items))) ≡ Err 0
  pub removed : changes_of (one (removal (codes "/a"))) ≡ Ok (Change (Remove (codes "/a")) ∷ [])
  pub wrong_name : changes_of (one (removal (9 ∷ []))) ≡ Ok (Refused refusals.BadName ∷ [])
  pub first_wrong : changes_of (file (item (table (removal (codes "/a"))) (item (table no_members) (item (table no_members) no_items)))) ≡ Err 2
  pub text : changes_of (one (putting (codes "text") (string (codes "Hello")))) ≡ Ok (Change (Put (codes "/a") (text_item (codes "A") 0 (codes "Hello"))) ∷ [])
  pub until : changes_of (one (expiring (integer (pos 743878922)))) ≡ Ok (Change (Put (codes "/a") (text_until 743878922)) ∷ [])
  pub first_moment : changes_of (one (expiring (integer (pos 0)))) ≡ Ok (Change (Put (codes "/a") (text_until 0)) ∷ [])
  pub greatest_moment : changes_of (one (expiring (integer (pos 253402300799)))) ≡ Ok (Change (Put (codes "/a") (text_until 253402300799)) ∷ [])
  pub great_moment : changes_of (one (expiring (integer (pos 253402300800)))) ≡ Err 1
  pub moment_before_all : changes_of (one (expiring (integer (negsuc 0)))) ≡ Err 1
  pub moment_of_letters : changes_of (one (expiring (string (codes "743878922")))) ≡ Err 1
  pub removal_with_moment : changes_of (one (member (codes "do") (string (codes "remove")) (member (codes "selector") (string (codes "/a")) (member (codes "until") (integer (pos 5)) no_members)))) ≡ Err 1
  pub menu : changes_of (one (putting (codes "menu") (array (item (entry (codes "local") (codes "/b")) (item (entry (codes "info") (codes "Hi")) no_items))))) ≡
      Ok (Change (Put (codes "/a") (record { title = codes "A"; stamp = 0; until = None; summary = []; body = Menu (Local (codes "/b") ∷ Info (codes "Hi") ∷ []) })) ∷ [])
  pub wrong_entry : changes_of (one (putting (codes "menu") (array (item (entry (codes "title") (codes "A")) no_items)))) ≡ Err 1
  pub board : changes_of (one (putting (codes "board") (integer (pos 5)))) ≡ Ok (Change (Put (codes "/a") (record { title = codes "A"; stamp = 0; until = None; summary = []; body = Board 5 1 })) ∷ [])
  pub great_number : changes_of (one (putting (codes "board") (integer (pos 65536)))) ≡ Err 1
  pub bytes : changes_of (one (digits_of (codes "0aFf"))) ≡ Ok (Change (Put (codes "/a") (document (10 ∷ 255 ∷ []))) ∷ [])
  pub odd_digits : changes_of (one (digits_of (codes "0aF"))) ≡ Err 1
  pub host : changes_of (one (hosting 70)) ≡ Ok (Change (SetHost (codes "example.org") 70) ∷ [])
  pub no_port : changes_of (one (hosting 0)) ≡ Ok (Refused refusals.BadName ∷ [])
  pub sentence : read (codes "change = [{do = \"remove\", selector = \"/a\"}]") ≡ Some (Ok (Change (Remove (codes "/a")) ∷ []))
  pub no_sentence : read (codes "change = [") ≡ None
