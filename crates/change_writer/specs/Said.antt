-- Which changes a file of changes can say, and how they are read back.
use Rattle.std.specs.Prelude.{ℕ, ◌<◌, List, length, All, IsUtf8}
use Rattle.host_types.specs.declared.item.Item.{Item}
use Rattle.host_types.specs.declared.item.Body.{Body}
use Rattle.host_types.specs.declared.item.Body.TheVariants.{Views, Menu, Board, Form, Search, Moved}
use Rattle.host_types.specs.declared.menu.Entry.{Entry}
use Rattle.host_types.specs.declared.menu.Entry.TheVariants.{Local, Info, Url, Remote}
use Rattle.host_types.specs.declared.form.Question.{Question}
use Rattle.host_types.specs.declared.form.Question.TheVariants.{Ask, AskL, AskP, Choose}
use Rattle.host_types.specs.declared.view.View.{View}
use Rattle.host_types.specs.declared.change.Change.{Change}
use Rattle.host_types.specs.declared.change.Change.TheVariants.{Put, Remove, Move, SetHost, SetAdmin, Post}

abbrev pub IsSaidEntry : Entry → Type 0
IsSaidEntry (Local selector) = IsUtf8 selector
IsSaidEntry (Info title) = IsUtf8 title
IsSaidEntry (Url title url) = IsUtf8 title × IsUtf8 url
IsSaidEntry (Remote kind title selector host port) = (IsUtf8 title × IsUtf8 selector) × (IsUtf8 host × (0 < port))

-- a prompt has a byte at least
abbrev pub IsSaidPrompt : List ℕ → Type 0
IsSaidPrompt prompt = (0 < length prompt) × IsUtf8 prompt

abbrev pub IsSaidQuestion : Question → Type 0
IsSaidQuestion (Ask prompt) = IsSaidPrompt prompt
IsSaidQuestion (AskL prompt) = IsSaidPrompt prompt
IsSaidQuestion (AskP prompt word) = IsSaidPrompt prompt × IsUtf8 word
IsSaidQuestion (Choose prompt choices) = IsSaidPrompt prompt × All IsUtf8 choices

-- whatever its bytes are
abbrev pub IsSaidView : View → Type 0
IsSaidView view = IsUtf8 view.name × IsUtf8 view.language

-- A note of where an item went is left by a move alone.
abbrev pub IsSaidBody : Body → Type 0
IsSaidBody (Views kind views) = All IsSaidView views
IsSaidBody (Menu entries) = All IsSaidEntry entries
IsSaidBody (Board cap next) = Unit {0}
IsSaidBody (Form board questions) = IsUtf8 board × All IsSaidQuestion questions
IsSaidBody (Search scope) = IsUtf8 scope
IsSaidBody (Moved target) = ⊥

abbrev pub IsSaidItem : Item → Type 0
IsSaidItem item = (IsUtf8 item.title × IsUtf8 item.summary) × IsSaidBody item.body

-- Its texts are UTF-8, its ports are not 0, and it is no post.
abbrev pub IsSaid : Change → Type 0
IsSaid (Put selector item) = IsUtf8 selector × IsSaidItem item
IsSaid (Remove selector) = IsUtf8 selector
IsSaid (Move from to) = IsUtf8 from × IsUtf8 to
IsSaid (SetHost host port) = IsUtf8 host × (0 < port)
IsSaid (SetAdmin admin) = IsUtf8 admin
IsSaid (Post board title text) = ⊥

-- ---- read back

-- a board is read as a fresh one
abbrev pub body_read : Body → Body
body_read (Board cap next) = Board cap 1
body_read (Views kind views) = Views kind views
body_read (Menu entries) = Menu entries
body_read (Form board questions) = Form board questions
body_read (Search scope) = Search scope
body_read (Moved target) = Moved target

-- the stamp is that of the change that puts it
abbrev pub item_read : Item → Item
item_read item = record { title = item.title; stamp = 0; until = item.until; summary = item.summary; body = body_read item.body }

abbrev pub read_back : Change → Change
read_back (Put selector item) = Put selector (item_read item)
read_back (Remove selector) = Remove selector
read_back (Move from to) = Move from to
read_back (SetHost host port) = SetHost host port
read_back (SetAdmin admin) = SetAdmin admin
read_back (Post board title text) = Post board title text
