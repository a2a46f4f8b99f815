-- What the values found behind a command ask for.
use Rattle.std.specs.Prelude.{◌≡◌, ◌⊎◌, ◌<◌, ◌^◌, ℕ, Bool, true, false, List, Option, Some, None, codes, map}
use Rattle.std.specs.Borrow.{Bor}
use Rattle.std.specs.Net.Grammar.{IsSocketText}
use Rattle.std.specs.Str.Parse.{IsNumeral, digits_value, without_leading_plus}
use Rattle.std.specs.declared.net.SocketAddr.{SocketAddr}
use Rattle.clap.specs.Words.{Row, Text, all_of, first_of, one_of}
use Rattle.command_words.specs.declared.words.NewSite.{NewSite}
use Rattle.command_words.specs.declared.words.SocketPlace.{SocketPlace}
use Rattle.command_words.specs.declared.words.SocketPlace.TheVariants.{Beside, Named, Nowhere}
use Rattle.command_words.specs.declared.words.Task.{Task}
use Rattle.command_words.specs.declared.words.Task.TheVariants as task

-- one value that is as it should be, or none where no value is
abbrev pub GivesOne : {A : Type 0} → (A → Type 0) → Option A → Type 0
GivesOne Is (Some a) = Is a
GivesOne Is None = (a : _) → ¬ (Is a)

-- the text found for an id
abbrev pub HasText : List Row → Text → Bor Text → Type 0
HasText rows id text = first_of id rows ≡ Some text.now

-- the text found for an id, or that there is nothing
abbrev pub HasTextIfAny : List Row → Text → Option (Bor Text) → Type 0
HasTextIfAny rows id (Some text) = HasText rows id text
HasTextIfAny rows id None = first_of id rows ≡ None

-- all texts found for an id
abbrev pub HasTexts : List Row → Text → List Text → Type 0
HasTexts rows id texts = all_of id rows ≡ Some texts

-- the number found for an id, which its type of so many bits holds
abbrev pub HasNumber : List Row → Text → ℕ → ℕ → Type 0
HasNumber rows id bits n =
    (text : Text) × (one_of id rows ≡ Some text) × IsNumeral 10 (without_leading_plus text)
    × (digits_value 10 (without_leading_plus text) ≡ n) × (n < 2 ^ bits)

-- the number found for an id, or that there is none
abbrev pub HasNumberOrNone : List Row → Text → ℕ → Option ℕ → Type 0
HasNumberOrNone rows id bits = GivesOne (HasNumber rows id bits)

-- the number found for an id, or that there is nothing
abbrev pub HasNumberIfAny : List Row → Text → ℕ → Option ℕ → Type 0
HasNumberIfAny rows id bits (Some n) = HasNumber rows id bits n
HasNumberIfAny rows id bits None = first_of id rows ≡ None

-- the number found for an id, or this one where there is none
abbrev pub HasNumberOr : ℕ → List Row → Text → ℕ → ℕ → Type 0
HasNumberOr given rows id bits n =
    HasNumber rows id bits n ⊎ (((m : ℕ) → ¬ (HasNumber rows id bits m)) × (n ≡ given))

-- the address found for an id, or that there is nothing
abbrev pub HasAddress : List Row → Text → Option SocketAddr → Type 0
HasAddress rows id (Some address) =
    (text : Text) × (first_of id rows ≡ Some text) × IsSocketText text address
HasAddress rows id None = first_of id rows ≡ None

-- whether a flag was found; of a value that is neither `true` nor `false` nothing is said
abbrev pub HasFlag : List Row → Text → Bool → Type 0
HasFlag rows id flag =
    (one_of id rows ≡ None → flag ≡ false) × (one_of id rows ≡ Some (codes "true") → flag ≡ true)
    × (one_of id rows ≡ Some (codes "false") → flag ≡ false)

-- by the flag: nowhere; else at the name that is found, or beside the image where there is none
abbrev pub HasPlaceBy : Bool → List Row → SocketPlace → Type 0
HasPlaceBy true rows place = place ≡ Nowhere
HasPlaceBy false rows (Named name) = HasText rows (codes "admin") name
HasPlaceBy false rows Beside = first_of (codes "admin") rows ≡ None
HasPlaceBy false rows Nowhere = ⊥

-- where administrators come
abbrev pub HasPlace : List Row → SocketPlace → Type 0
HasPlace rows place = (flag : Bool) × HasFlag rows (codes "no-admin") flag × HasPlaceBy flag rows place

-- what a new site is given
pub record IsSiteIn (rows : List Row) (site : NewSite) : Type 0 where
  pub host : HasText rows (codes "host") site.host
  pub port : HasNumber rows (codes "port") 16 site.port
  pub admin : HasText rows (codes "admin") site.admin
  pub title : HasText rows (codes "title") site.title

-- rounds where there is their number, and else clients
abbrev pub AsksToServe : Text → List Row → Task → Type 0
AsksToServe image rows (task.ServeRounds i together rounds) =
    (i.now ≡ image) × HasNumber rows (codes "together") 32 together
    × HasNumber rows (codes "rounds") 32 rounds
AsksToServe image rows (task.ServeClients i listen quiet per_address posts old_clients common_log place) =
    (i.now ≡ image) × ((n : ℕ) → ¬ (HasNumber rows (codes "rounds") 32 n))
    × HasAddress rows (codes "listen") listen × HasFlag rows (codes "quiet") quiet
    × HasNumberOr 8 rows (codes "per-address") 32 per_address × HasNumberOrNone rows (codes "posts-per-minute") 32 posts
    × HasFlag rows (codes "old-clients") old_clients
    × HasFlag rows (codes "common-log") common_log × HasPlace rows place
AsksToServe image rows _ = ⊥

-- the command of this name, with what was found behind it, asks for the task
abbrev pub AsksFor : Text → List Row → Task → Type 0
AsksFor name rows (task.Format image site pages now) =
    (name ≡ codes "format") × HasText rows (codes "IMAGE") image × IsSiteIn rows site
    × HasNumber rows (codes "pages") 32 pages × HasNumberIfAny rows (codes "now") 64 now
AsksFor name rows (task.Apply image file now socket) =
    (name ≡ codes "apply") × HasText rows (codes "IMAGE") image
    × HasText rows (codes "FILE") file × HasNumberIfAny rows (codes "now") 64 now × HasTextIfAny rows (codes "admin") socket
AsksFor name rows (task.Init image site pages now) =
    (name ≡ codes "init") × HasText rows (codes "IMAGE") image × IsSiteIn rows site
    × HasNumber rows (codes "pages") 32 pages × HasNumberIfAny rows (codes "now") 64 now
AsksFor name rows (task.Remove image selectors socket) =
    (name ≡ codes "drop") × HasText rows (codes "IMAGE") image
    × HasTexts rows (codes "SELECTOR") (map (λ selector. selector.now) selectors.items) × HasTextIfAny rows (codes "admin") socket
AsksFor name rows (task.Get image selector view) =
    (name ≡ codes "get") × HasText rows (codes "IMAGE") image
    × HasText rows (codes "SELECTOR") selector × HasTextIfAny rows (codes "view") view
AsksFor name rows (task.Posts image board) =
    (name ≡ codes "posts") × HasText rows (codes "IMAGE") image × HasText rows (codes "BOARD") board
AsksFor name rows (task.Show image long) =
    (name ≡ codes "show") × HasText rows (codes "IMAGE") image × HasFlag rows (codes "long") long
AsksFor name rows (task.Export image) = (name ≡ codes "export") × HasText rows (codes "IMAGE") image
AsksFor name rows (task.Import folder under) =
    (name ≡ codes "import") × HasText rows (codes "FOLDER") folder × HasTextIfAny rows (codes "under") under
AsksFor name rows (task.Check image) = (name ≡ codes "check") × HasText rows (codes "IMAGE") image
AsksFor name rows (task.Compact image) =
    (name ≡ codes "compact") × HasText rows (codes "IMAGE") image
AsksFor name rows (task.Upgrade image) =
    (name ≡ codes "upgrade") × HasText rows (codes "IMAGE") image
AsksFor name rows (task.Copy image new pages) =
    (name ≡ codes "copy") × HasText rows (codes "IMAGE") image × HasText rows (codes "NEW") new
    × HasNumberOrNone rows (codes "pages") 32 pages
AsksFor name rows (task.Replay (Some image) group) =
    (name ≡ codes "replay") × HasText rows (codes "IMAGE") image × HasFlag rows (codes "group") group
AsksFor name rows (task.Replay None group) =
    (name ≡ codes "replay") × (first_of (codes "IMAGE") rows ≡ None) × HasFlag rows (codes "group") group
AsksFor name rows serving =
    (name ≡ codes "serve")
    × ((image : Text) × (first_of (codes "IMAGE") rows ≡ Some image) × AsksToServe image rows serving)
