-- Worked examples of changes.
use Rattle.std.specs.Prelude.{◌≡◌, ℕ, List, [], ◌∷◌, Ok, Err, codes, replicate, None, Some}
use Rattle.host_types.specs.Site.{Site, empty_menu, text_item}
use Rattle.host_types.specs.Change.{apply}
use Rattle.host_types.specs.declared.change.Change.TheVariants.{Put, Remove, Move, SetHost, SetAdmin, Post}
use Rattle.host_types.specs.declared.item.Item.{Item}
use Rattle.host_types.specs.declared.item.Body.TheVariants.{Views, Board, Moved}
use Rattle.host_types.specs.declared.view.Kind.TheVariants.{Text}
use Rattle.common_types.specs.declared.refused.Refused.TheVariants as refusals

-- a host with these items beside its top menu
abbrev pub small_site : List (List ℕ × Item) → Site
small_site items = record { items = ([], empty_menu (codes "Top") 0) ∷ items; host = codes "localhost"; port = 7070; admin = codes "Ada" }

abbrev pub about : ℕ → Item
about stamp = text_item (codes "About us") stamp (codes "Hello")

-- a document without views
abbrev pub bare : Item
bare = record { title = codes "About us"; stamp = 0; until = None; summary = []; body = Views Text [] }

abbrev pub with_summary : ℕ → Item → Item
with_summary bytes item = record item { summary = replicate bytes 97 }

-- a board of one post
abbrev pub board : ℕ → ℕ → Item
board next stamp = record { title = codes "Guests"; stamp = stamp; until = None; summary = []; body = Board 1 next }

abbrev pub note : ℕ → Item
note stamp = text_item (codes "Ann") stamp (codes "Hi")

pub record SiteExamples : Type 0 where
  pub put : apply (small_site []) (Put (codes "/about") (about 3)) 7 ≡ Ok (small_site ((codes "/about", about 7) ∷ []))
  pub put_over : apply (small_site ((codes "/about", bare) ∷ [])) (Put (codes "/about") (about 3)) 7 ≡ Ok (small_site ((codes "/about", about 7) ∷ []))
  pub put_in_order : apply (small_site ((codes "/about", about 3) ∷ [])) (Put (codes "/a") (about 3)) 7 ≡ Ok (small_site ((codes "/a", about 7) ∷ (codes "/about", about 3) ∷ []))
  pub root : apply (small_site []) (Put [] (about 3)) 7 ≡ Err refusals.Root
  pub no_lasting_root : apply (small_site []) (Put [] (record (empty_menu (codes "Top") 0) { until = Some 9 })) 7 ≡ Err refusals.Root
  pub link : apply (small_site []) (Put (codes "URL:gopher://example.org/") bare) 7 ≡ Err refusals.Reserved
  pub post_name : apply (small_site []) (Put (codes "post/1") (about 3)) 7 ≡ Err refusals.Reserved
  pub bare_document : apply (small_site []) (Put (codes "/about") (with_summary 401 bare)) 7 ≡ Err refusals.BadName
  pub long_summary : apply (small_site []) (Put (codes "/about") (with_summary 401 (about 3))) 7 ≡ Err refusals.TooLong
  pub removed : apply (small_site ((codes "/about", about 3) ∷ [])) (Remove (codes "/about")) 7 ≡ Ok (small_site [])
  pub root_stays : apply (small_site []) (Remove []) 7 ≡ Err refusals.Root
  pub missing : apply (small_site []) (Remove (codes "/about")) 7 ≡ Err refusals.Missing
  pub moved : apply (small_site ((codes "/about", about 3) ∷ [])) (Move (codes "/about") (codes "/us")) 7 ≡
      Ok (small_site ((codes "/about", record { title = codes "About us"; stamp = 7; until = None; summary = []; body = Moved (codes "/us") }) ∷ (codes "/us", about 3) ∷ []))
  pub host : apply (small_site []) (SetHost (codes "example.org") 70) 7 ≡ Ok (record (small_site []) { host = codes "example.org"; port = 70 })
  pub no_port : apply (small_site []) (SetHost (codes "example.org") 0) 7 ≡ Err refusals.BadName
  pub admin : apply (small_site []) (SetAdmin (codes "Eve")) 7 ≡ Ok (record (small_site []) { admin = codes "Eve" })
  pub first_post : apply (small_site ((codes "/book", board 1 3) ∷ [])) (Post (codes "/book") (codes "Ann") (codes "Hi")) 7 ≡
      Ok (small_site ((codes "/book", board 2 7) ∷ (codes "post//book/1", note 7) ∷ []))
  pub second_post : apply (small_site ((codes "/book", board 2 3) ∷ (codes "post//book/1", note 3) ∷ [])) (Post (codes "/book") (codes "Ann") (codes "Hi")) 7 ≡
      Ok (small_site ((codes "/book", board 3 7) ∷ (codes "post//book/2", note 7) ∷ []))
  pub no_board : apply (small_site ((codes "/about", about 3) ∷ [])) (Post (codes "/about") (codes "Ann") (codes "Hi")) 7 ≡ Err refusals.NotABoard
  pub board_with_a_post : apply (small_site ((codes "/book", board 2 3) ∷ (codes "post//book/1", note 3) ∷ [])) (Remove (codes "/book")) 7 ≡ Err refusals.NotEmpty
