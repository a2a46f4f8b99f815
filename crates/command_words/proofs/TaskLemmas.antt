-- What a command and the values behind it ask for, where one of them is missing.
use Rattle.std.proofs.Common.{◌≡◌, ◌∙◌, refl, sym, subst, codes, ℕ, Bool, true, false, List, Option, Some, None, map, option_map}
use Rattle.std.specs.Borrow.{Bor}
use Rattle.std.specs.Str.{bytes_eq}
use Rattle.std.proofs.lemmas.Slice.Eq.{bytes_eq-Decides}
use Rattle.std.specs.declared.net.SocketAddr.{SocketAddr}
use Rattle.clap.specs.Words.{Row, Text, first_of, first_value, rows_of}
use Rattle.clap.specs.declared.parser.matches.Found.{Found}
use Rattle.command_words.specs.Tasks.{AsksFor, AsksToServe, GivesOne, HasAddress, HasFlag, HasNumber, HasNumberIfAny, HasTextIfAny, HasTexts, IsSiteIn}
use Rattle.command_words.specs.declared.words.NewSite.{NewSite}
use Rattle.command_words.specs.declared.words.Task.{Task}
use Rattle.command_words.specs.declared.words.Task.TheVariants as task
use Rattle.command_words.proofs.FoundLemmas.{found_text, no_text, not_both}

-- one name is not two words
pub two_words : (name a b : Text) → bytes_eq a b ≡ false → name ≡ a → name ≡ b → ⊥
two_words name a b differ is_a is_b =
    let same : bytes_eq a b ≡ true = (bytes_eq-Decides a b).1 (sym is_a ∙ is_b) in
    let bad : false ≡ true = sym differ ∙ same in
    cc

-- what a word asks for, the name asks for that is the word
pub named : (name word : Text) (rows : List Row) (r : Option Task) → name ≡ word → GivesOne (AsksFor word rows) r → GivesOne (AsksFor name rows) r
named name word rows r is asks = subst (λ w. GivesOne (AsksFor w rows) r) (sym is) asks

-- without an image only a script is run, or a folder imported
pub no_image : (name : Text) (rows : List Row) → first_of (codes "IMAGE") rows ≡ None → (name ≡ codes "replay" → ⊥) → (name ≡ codes "import" → ⊥) → (t : Task) → AsksFor name rows t → ⊥
no_image name rows none other imports (task.Format image site pages now) h = not_both _ _ none h.1
no_image name rows none other imports (task.Apply image file now socket) h = not_both _ _ none h.1
no_image name rows none other imports (task.Init image site pages now) h = not_both _ _ none h.1
no_image name rows none other imports (task.Remove image selectors socket) h = not_both _ _ none h.1
no_image name rows none other imports (task.Get image selector view) h = not_both _ _ none h.1
no_image name rows none other imports (task.Posts image board) h = not_both _ _ none h.1
no_image name rows none other imports (task.Show image long) h = not_both _ _ none h.1
no_image name rows none other imports (task.Export image) h = not_both _ _ none h.1
no_image name rows none other imports (task.Import folder under) h = imports h.0
no_image name rows none other imports (task.Check image) h = not_both _ _ none h.1
no_image name rows none other imports (task.Compact image) h = not_both _ _ none h.1
no_image name rows none other imports (task.Upgrade image) h = not_both _ _ none h.1
no_image name rows none other imports (task.Copy image new pages) h = not_both _ _ none h.1
no_image name rows none other imports (task.Replay (Some image) group) h = other h.0
no_image name rows none other imports (task.Replay None group) h = other h.0
no_image name rows none other imports (task.ServeRounds image together rounds) h = not_both _ _ none h.1.1
no_image name rows none other imports (task.ServeClients image listen quiet per_address posts old_clients common_log place) h = not_both _ _ none h.1.1

-- what makes an image wants beside it
pub record FormatNeeds (rows : List Row) : Type 0 where
  pub site : NewSite
  pub is_site : IsSiteIn rows site
  pub pages : ℕ
  pub has_pages : HasNumber rows (codes "pages") 32 pages
  pub now : Option ℕ
  pub has_now : HasNumberIfAny rows (codes "now") 64 now

-- what `format` wants
pub format_needs : (name : Text) (rows : List Row) → name ≡ codes "format" → (t : Task) → AsksFor name rows t → FormatNeeds rows
format_needs name rows is (task.Format image site pages now) h =
    record { site = site; is_site = h.2; pages = pages; has_pages = h.3; now = now; has_now = h.4 }
format_needs name rows is (task.Apply image file now socket) h = absurd (two_words name _ _ refl is h.0)
format_needs name rows is (task.Init image site pages now) h = absurd (two_words name _ _ refl is h.0)
format_needs name rows is (task.Remove image selectors socket) h = absurd (two_words name _ _ refl is h.0)
format_needs name rows is (task.Get image selector view) h = absurd (two_words name _ _ refl is h.0)
format_needs name rows is (task.Posts image board) h = absurd (two_words name _ _ refl is h.0)
format_needs name rows is (task.Show image long) h = absurd (two_words name _ _ refl is h.0)
format_needs name rows is (task.Export image) h = absurd (two_words name _ _ refl is h.0)
format_needs name rows is (task.Import folder under) h = absurd (two_words name _ _ refl is h.0)
format_needs name rows is (task.Check image) h = absurd (two_words name _ _ refl is h.0)
format_needs name rows is (task.Compact image) h = absurd (two_words name _ _ refl is h.0)
format_needs name rows is (task.Upgrade image) h = absurd (two_words name _ _ refl is h.0)
format_needs name rows is (task.Copy image new pages) h = absurd (two_words name _ _ refl is h.0)
format_needs name rows is (task.Replay (Some image) group) h = absurd (two_words name _ _ refl is h.0)
format_needs name rows is (task.Replay None group) h = absurd (two_words name _ _ refl is h.0)
format_needs name rows is (task.ServeRounds image together rounds) h = absurd (two_words name _ _ refl is h.0)
format_needs name rows is (task.ServeClients image listen quiet per_address posts old_clients common_log place) h = absurd (two_words name _ _ refl is h.0)

-- what `init` wants beside an image
pub init_needs : (name : Text) (rows : List Row) → name ≡ codes "init" → (t : Task) → AsksFor name rows t → FormatNeeds rows
init_needs name rows is (task.Format image site pages now) h = absurd (two_words name _ _ refl is h.0)
init_needs name rows is (task.Apply image file now socket) h = absurd (two_words name _ _ refl is h.0)
init_needs name rows is (task.Init image site pages now) h = record { site = site; is_site = h.2; pages = pages; has_pages = h.3; now = now; has_now = h.4 }
init_needs name rows is (task.Remove image selectors socket) h = absurd (two_words name _ _ refl is h.0)
init_needs name rows is (task.Get image selector view) h = absurd (two_words name _ _ refl is h.0)
init_needs name rows is (task.Posts image board) h = absurd (two_words name _ _ refl is h.0)
init_needs name rows is (task.Show image long) h = absurd (two_words name _ _ refl is h.0)
init_needs name rows is (task.Export image) h = absurd (two_words name _ _ refl is h.0)
init_needs name rows is (task.Import folder under) h = absurd (two_words name _ _ refl is h.0)
init_needs name rows is (task.Check image) h = absurd (two_words name _ _ refl is h.0)
init_needs name rows is (task.Compact image) h = absurd (two_words name _ _ refl is h.0)
init_needs name rows is (task.Upgrade image) h = absurd (two_words name _ _ refl is h.0)
init_needs name rows is (task.Copy image new pages) h = absurd (two_words name _ _ refl is h.0)
init_needs name rows is (task.Replay (Some image) group) h = absurd (two_words name _ _ refl is h.0)
init_needs name rows is (task.Replay None group) h = absurd (two_words name _ _ refl is h.0)
init_needs name rows is (task.ServeRounds image together rounds) h = absurd (two_words name _ _ refl is h.0)
init_needs name rows is (task.ServeClients image listen quiet per_address posts old_clients common_log place) h = absurd (two_words name _ _ refl is h.0)

-- what `apply` wants beside an image
pub record ApplyNeeds (rows : List Row) : Type 0 where
  pub file : Text
  pub has_file : first_of (codes "FILE") rows ≡ Some file
  pub now : Option ℕ
  pub has_now : HasNumberIfAny rows (codes "now") 64 now

pub apply_needs : (name : Text) (rows : List Row) → name ≡ codes "apply" → (t : Task) → AsksFor name rows t → ApplyNeeds rows
apply_needs name rows is (task.Format image site pages now) h = absurd (two_words name _ _ refl is h.0)
apply_needs name rows is (task.Apply image file now socket) h = record { file = file.now; has_file = h.2; now = now; has_now = h.3 }
apply_needs name rows is (task.Init image site pages now) h = absurd (two_words name _ _ refl is h.0)
apply_needs name rows is (task.Remove image selectors socket) h = absurd (two_words name _ _ refl is h.0)
apply_needs name rows is (task.Get image selector view) h = absurd (two_words name _ _ refl is h.0)
apply_needs name rows is (task.Posts image board) h = absurd (two_words name _ _ refl is h.0)
apply_needs name rows is (task.Show image long) h = absurd (two_words name _ _ refl is h.0)
apply_needs name rows is (task.Export image) h = absurd (two_words name _ _ refl is h.0)
apply_needs name rows is (task.Import folder under) h = absurd (two_words name _ _ refl is h.0)
apply_needs name rows is (task.Check image) h = absurd (two_words name _ _ refl is h.0)
apply_needs name rows is (task.Compact image) h = absurd (two_words name _ _ refl is h.0)
apply_needs name rows is (task.Upgrade image) h = absurd (two_words name _ _ refl is h.0)
apply_needs name rows is (task.Copy image new pages) h = absurd (two_words name _ _ refl is h.0)
apply_needs name rows is (task.Replay (Some image) group) h = absurd (two_words name _ _ refl is h.0)
apply_needs name rows is (task.Replay None group) h = absurd (two_words name _ _ refl is h.0)
apply_needs name rows is (task.ServeRounds image together rounds) h = absurd (two_words name _ _ refl is h.0)
apply_needs name rows is (task.ServeClients image listen quiet per_address posts old_clients common_log place) h = absurd (two_words name _ _ refl is h.0)

-- what `copy` wants beside an image
pub copy_needs : (name : Text) (rows : List Row) → name ≡ codes "copy" → (t : Task) → AsksFor name rows t → (new : Text) × (first_of (codes "NEW") rows ≡ Some new)
copy_needs name rows is (task.Format image site pages now) h = absurd (two_words name _ _ refl is h.0)
copy_needs name rows is (task.Apply image file now socket) h = absurd (two_words name _ _ refl is h.0)
copy_needs name rows is (task.Init image site pages now) h = absurd (two_words name _ _ refl is h.0)
copy_needs name rows is (task.Remove image selectors socket) h = absurd (two_words name _ _ refl is h.0)
copy_needs name rows is (task.Get image selector view) h = absurd (two_words name _ _ refl is h.0)
copy_needs name rows is (task.Posts image board) h = absurd (two_words name _ _ refl is h.0)
copy_needs name rows is (task.Show image long) h = absurd (two_words name _ _ refl is h.0)
copy_needs name rows is (task.Export image) h = absurd (two_words name _ _ refl is h.0)
copy_needs name rows is (task.Import folder under) h = absurd (two_words name _ _ refl is h.0)
copy_needs name rows is (task.Check image) h = absurd (two_words name _ _ refl is h.0)
copy_needs name rows is (task.Compact image) h = absurd (two_words name _ _ refl is h.0)
copy_needs name rows is (task.Upgrade image) h = absurd (two_words name _ _ refl is h.0)
copy_needs name rows is (task.Copy image new pages) h = (new.now, h.2)
copy_needs name rows is (task.Replay (Some image) group) h = absurd (two_words name _ _ refl is h.0)
copy_needs name rows is (task.Replay None group) h = absurd (two_words name _ _ refl is h.0)
copy_needs name rows is (task.ServeRounds image together rounds) h = absurd (two_words name _ _ refl is h.0)
copy_needs name rows is (task.ServeClients image listen quiet per_address posts old_clients common_log place) h = absurd (two_words name _ _ refl is h.0)

-- what `drop` wants beside an image
pub drop_needs : (name : Text) (rows : List Row) → name ≡ codes "drop" → (t : Task) → AsksFor name rows t → (texts : List Text) × HasTexts rows (codes "SELECTOR") texts
drop_needs name rows is (task.Format image site pages now) h = absurd (two_words name _ _ refl is h.0)
drop_needs name rows is (task.Apply image file now socket) h = absurd (two_words name _ _ refl is h.0)
drop_needs name rows is (task.Init image site pages now) h = absurd (two_words name _ _ refl is h.0)
drop_needs name rows is (task.Remove image selectors socket) h = (map (λ selector. selector.now) selectors.items, h.2)
drop_needs name rows is (task.Get image selector view) h = absurd (two_words name _ _ refl is h.0)
drop_needs name rows is (task.Posts image board) h = absurd (two_words name _ _ refl is h.0)
drop_needs name rows is (task.Show image long) h = absurd (two_words name _ _ refl is h.0)
drop_needs name rows is (task.Export image) h = absurd (two_words name _ _ refl is h.0)
drop_needs name rows is (task.Import folder under) h = absurd (two_words name _ _ refl is h.0)
drop_needs name rows is (task.Check image) h = absurd (two_words name _ _ refl is h.0)
drop_needs name rows is (task.Compact image) h = absurd (two_words name _ _ refl is h.0)
drop_needs name rows is (task.Upgrade image) h = absurd (two_words name _ _ refl is h.0)
drop_needs name rows is (task.Copy image new pages) h = absurd (two_words name _ _ refl is h.0)
drop_needs name rows is (task.Replay (Some image) group) h = absurd (two_words name _ _ refl is h.0)
drop_needs name rows is (task.Replay None group) h = absurd (two_words name _ _ refl is h.0)
drop_needs name rows is (task.ServeRounds image together rounds) h = absurd (two_words name _ _ refl is h.0)
drop_needs name rows is (task.ServeClients image listen quiet per_address posts old_clients common_log place) h = absurd (two_words name _ _ refl is h.0)

-- what `get` wants beside an image
pub get_needs : (name : Text) (rows : List Row) → name ≡ codes "get" → (t : Task) → AsksFor name rows t → (selector : Text) × (first_of (codes "SELECTOR") rows ≡ Some selector)
get_needs name rows is (task.Format image site pages now) h = absurd (two_words name _ _ refl is h.0)
get_needs name rows is (task.Apply image file now socket) h = absurd (two_words name _ _ refl is h.0)
get_needs name rows is (task.Init image site pages now) h = absurd (two_words name _ _ refl is h.0)
get_needs name rows is (task.Remove image selectors socket) h = absurd (two_words name _ _ refl is h.0)
get_needs name rows is (task.Get image selector view) h = (selector.now, h.2)
get_needs name rows is (task.Posts image board) h = absurd (two_words name _ _ refl is h.0)
get_needs name rows is (task.Show image long) h = absurd (two_words name _ _ refl is h.0)
get_needs name rows is (task.Export image) h = absurd (two_words name _ _ refl is h.0)
get_needs name rows is (task.Import folder under) h = absurd (two_words name _ _ refl is h.0)
get_needs name rows is (task.Check image) h = absurd (two_words name _ _ refl is h.0)
get_needs name rows is (task.Compact image) h = absurd (two_words name _ _ refl is h.0)
get_needs name rows is (task.Upgrade image) h = absurd (two_words name _ _ refl is h.0)
get_needs name rows is (task.Copy image new pages) h = absurd (two_words name _ _ refl is h.0)
get_needs name rows is (task.Replay (Some image) group) h = absurd (two_words name _ _ refl is h.0)
get_needs name rows is (task.Replay None group) h = absurd (two_words name _ _ refl is h.0)
get_needs name rows is (task.ServeRounds image together rounds) h = absurd (two_words name _ _ refl is h.0)
get_needs name rows is (task.ServeClients image listen quiet per_address posts old_clients common_log place) h = absurd (two_words name _ _ refl is h.0)

-- what `posts` wants beside an image
pub posts_needs : (name : Text) (rows : List Row) → name ≡ codes "posts" → (t : Task) → AsksFor name rows t → (board : Text) × (first_of (codes "BOARD") rows ≡ Some board)
posts_needs name rows is (task.Format image site pages now) h = absurd (two_words name _ _ refl is h.0)
posts_needs name rows is (task.Apply image file now socket) h = absurd (two_words name _ _ refl is h.0)
posts_needs name rows is (task.Init image site pages now) h = absurd (two_words name _ _ refl is h.0)
posts_needs name rows is (task.Remove image selectors socket) h = absurd (two_words name _ _ refl is h.0)
posts_needs name rows is (task.Get image selector view) h = absurd (two_words name _ _ refl is h.0)
posts_needs name rows is (task.Posts image board) h = (board.now, h.2)
posts_needs name rows is (task.Show image long) h = absurd (two_words name _ _ refl is h.0)
posts_needs name rows is (task.Export image) h = absurd (two_words name _ _ refl is h.0)
posts_needs name rows is (task.Import folder under) h = absurd (two_words name _ _ refl is h.0)
posts_needs name rows is (task.Check image) h = absurd (two_words name _ _ refl is h.0)
posts_needs name rows is (task.Compact image) h = absurd (two_words name _ _ refl is h.0)
posts_needs name rows is (task.Upgrade image) h = absurd (two_words name _ _ refl is h.0)
posts_needs name rows is (task.Copy image new pages) h = absurd (two_words name _ _ refl is h.0)
posts_needs name rows is (task.Replay (Some image) group) h = absurd (two_words name _ _ refl is h.0)
posts_needs name rows is (task.Replay None group) h = absurd (two_words name _ _ refl is h.0)
posts_needs name rows is (task.ServeRounds image together rounds) h = absurd (two_words name _ _ refl is h.0)
posts_needs name rows is (task.ServeClients image listen quiet per_address posts old_clients common_log place) h = absurd (two_words name _ _ refl is h.0)

-- what `serve` wants
pub serve_needs : (name : Text) (rows : List Row) → name ≡ codes "serve" → (t : Task) → AsksFor name rows t
    → (image : Text) × (first_of (codes "IMAGE") rows ≡ Some image) × AsksToServe image rows t
serve_needs name rows is (task.Format image site pages now) h = absurd (two_words name _ _ refl is h.0)
serve_needs name rows is (task.Apply image file now socket) h = absurd (two_words name _ _ refl is h.0)
serve_needs name rows is (task.Init image site pages now) h = absurd (two_words name _ _ refl is h.0)
serve_needs name rows is (task.Remove image selectors socket) h = absurd (two_words name _ _ refl is h.0)
serve_needs name rows is (task.Get image selector view) h = absurd (two_words name _ _ refl is h.0)
serve_needs name rows is (task.Posts image board) h = absurd (two_words name _ _ refl is h.0)
serve_needs name rows is (task.Show image long) h = absurd (two_words name _ _ refl is h.0)
serve_needs name rows is (task.Export image) h = absurd (two_words name _ _ refl is h.0)
serve_needs name rows is (task.Import folder under) h = absurd (two_words name _ _ refl is h.0)
serve_needs name rows is (task.Check image) h = absurd (two_words name _ _ refl is h.0)
serve_needs name rows is (task.Compact image) h = absurd (two_words name _ _ refl is h.0)
serve_needs name rows is (task.Upgrade image) h = absurd (two_words name _ _ refl is h.0)
serve_needs name rows is (task.Copy image new pages) h = absurd (two_words name _ _ refl is h.0)
serve_needs name rows is (task.Replay (Some image) group) h = absurd (two_words name _ _ refl is h.0)
serve_needs name rows is (task.Replay None group) h = absurd (two_words name _ _ refl is h.0)
serve_needs name rows is (task.ServeRounds image together rounds) h = h.1
serve_needs name rows is (task.ServeClients image listen quiet per_address posts old_clients common_log place) h = h.1

-- rounds are served where there is their number, and then there is how many connections a round takes
pub rounds_need : (image : Text) (rows : List Row) (n : ℕ) → HasNumber rows (codes "rounds") 32 n → (t : Task) → AsksToServe image rows t → (k : ℕ) × HasNumber rows (codes "together") 32 k
rounds_need image rows n has (task.Format i site pages now) h = absurd h
rounds_need image rows n has (task.Apply i file now socket) h = absurd h
rounds_need image rows n has (task.Init i site pages now) h = absurd h
rounds_need image rows n has (task.Remove i selectors socket) h = absurd h
rounds_need image rows n has (task.Get i selector view) h = absurd h
rounds_need image rows n has (task.Posts i board) h = absurd h
rounds_need image rows n has (task.Show i long) h = absurd h
rounds_need image rows n has (task.Export i) h = absurd h
rounds_need image rows n has (task.Import folder under) h = absurd h
rounds_need image rows n has (task.Check i) h = absurd h
rounds_need image rows n has (task.Compact i) h = absurd h
rounds_need image rows n has (task.Upgrade i) h = absurd h
rounds_need image rows n has (task.Copy i new pages) h = absurd h
rounds_need image rows n has (task.Replay i group) h = absurd h
rounds_need image rows n has (task.ServeRounds i together rounds) h = (together, h.1)
rounds_need image rows n has (task.ServeClients i listen quiet per_address posts old_clients common_log place) h = absurd (h.1 n has)

-- and else clients, at an address if there is one
pub clients_need : (image : Text) (rows : List Row) → ((n : ℕ) → HasNumber rows (codes "rounds") 32 n → ⊥) → (t : Task) → AsksToServe image rows t → (listen : Option SocketAddr) × HasAddress rows (codes "listen") listen
clients_need image rows none (task.Format i site pages now) h = absurd h
clients_need image rows none (task.Apply i file now socket) h = absurd h
clients_need image rows none (task.Init i site pages now) h = absurd h
clients_need image rows none (task.Remove i selectors socket) h = absurd h
clients_need image rows none (task.Get i selector view) h = absurd h
clients_need image rows none (task.Posts i board) h = absurd h
clients_need image rows none (task.Show i long) h = absurd h
clients_need image rows none (task.Export i) h = absurd h
clients_need image rows none (task.Import folder under) h = absurd h
clients_need image rows none (task.Check i) h = absurd h
clients_need image rows none (task.Compact i) h = absurd h
clients_need image rows none (task.Upgrade i) h = absurd h
clients_need image rows none (task.Copy i new pages) h = absurd h
clients_need image rows none (task.Replay i group) h = absurd h
clients_need image rows none (task.ServeRounds i together rounds) h = absurd (none rounds h.2)
clients_need image rows none (task.ServeClients i listen quiet per_address posts old_clients common_log place) h = (listen, h.2)

-- what `import` wants
pub import_needs : (name : Text) (rows : List Row) → name ≡ codes "import" → (t : Task) → AsksFor name rows t → (folder : Text) × (first_of (codes "FOLDER") rows ≡ Some folder)
import_needs name rows is (task.Format image site pages now) h = absurd (two_words name _ _ refl is h.0)
import_needs name rows is (task.Apply image file now socket) h = absurd (two_words name _ _ refl is h.0)
import_needs name rows is (task.Init image site pages now) h = absurd (two_words name _ _ refl is h.0)
import_needs name rows is (task.Remove image selectors socket) h = absurd (two_words name _ _ refl is h.0)
import_needs name rows is (task.Get image selector view) h = absurd (two_words name _ _ refl is h.0)
import_needs name rows is (task.Posts image board) h = absurd (two_words name _ _ refl is h.0)
import_needs name rows is (task.Show image long) h = absurd (two_words name _ _ refl is h.0)
import_needs name rows is (task.Export image) h = absurd (two_words name _ _ refl is h.0)
import_needs name rows is (task.Import folder under) h = (folder.now, h.1)
import_needs name rows is (task.Check image) h = absurd (two_words name _ _ refl is h.0)
import_needs name rows is (task.Compact image) h = absurd (two_words name _ _ refl is h.0)
import_needs name rows is (task.Upgrade image) h = absurd (two_words name _ _ refl is h.0)
import_needs name rows is (task.Copy image new pages) h = absurd (two_words name _ _ refl is h.0)
import_needs name rows is (task.Replay (Some image) group) h = absurd (two_words name _ _ refl is h.0)
import_needs name rows is (task.Replay None group) h = absurd (two_words name _ _ refl is h.0)
import_needs name rows is (task.ServeRounds image together rounds) h = absurd (two_words name _ _ refl is h.0)
import_needs name rows is (task.ServeClients image listen quiet per_address posts old_clients common_log place) h = absurd (two_words name _ _ refl is h.0)

-- a view that is named, or none
pub named_view : (f : Found) (id : Text) (r : Option (Bor Text)) → option_map (λ x. x.now) r ≡ first_value f id → HasTextIfAny (rows_of f) id r
named_view f id None e = no_text f id None e refl
named_view f id (Some text) e = found_text f id (Some text) text e refl

-- a script over the site of an image, or over one in memory
pub replayed : (name : Text) (f : Found) (r : Option (Bor Text)) (group : Bool) → name ≡ codes "replay" → option_map (λ x. x.now) r ≡ first_value f (codes "IMAGE") → HasFlag (rows_of f) (codes "group") group → AsksFor name (rows_of f) (task.Replay r group)
replayed name f None group is e flag = (is, no_text f (codes "IMAGE") None e refl, flag)
replayed name f (Some image) group is e flag = (is, found_text f (codes "IMAGE") (Some image) image e refl, flag)

-- the command serves what `serving` answers
pub served : (name : Text) (rows : List Row) (image : Text) (r : Option Task) → name ≡ codes "serve" → first_of (codes "IMAGE") rows ≡ Some image → GivesOne (AsksToServe image rows) r → GivesOne (AsksFor name rows) r
served name rows image (Some t) is found asks = serves t asks
  where
    serves : (t : Task) → AsksToServe image rows t → AsksFor name rows t
    serves (task.Format i site pages now) h = absurd h
    serves (task.Apply i file now socket) h = absurd h
    serves (task.Init i site pages now) h = absurd h
    serves (task.Remove i selectors socket) h = absurd h
    serves (task.Get i selector view) h = absurd h
    serves (task.Posts i board) h = absurd h
    serves (task.Show i long) h = absurd h
    serves (task.Export i) h = absurd h
    serves (task.Import folder under) h = absurd h
    serves (task.Check i) h = absurd h
    serves (task.Compact i) h = absurd h
    serves (task.Upgrade i) h = absurd h
    serves (task.Copy i new pages) h = absurd h
    serves (task.Replay i group) h = absurd h
    serves (task.ServeRounds i together rounds) h = (is, (image, found, h))
    serves (task.ServeClients i listen quiet per_address posts old_clients common_log place) h = (is, (image, found, h))
served name rows image None is found never = λ t asks.
    let needs = serve_needs name rows is t asks in
    let same : Some needs.0 ≡ Some image = sym needs.1 ∙ found in
    let one : needs.0 ≡ image = cc in
    never t (subst (λ x. AsksToServe x rows t) one needs.2)
