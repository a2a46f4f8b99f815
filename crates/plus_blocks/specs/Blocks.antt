-- Heads of Gopher+ replies, and attribute blocks. The Gopher+ paper, sections 2.3 to 2.8; the forms of the blocks' lines are this project's profile.
use Rattle.std.specs.Prelude.{◌≡◌, ℕ, ◌+◌, ◌/◌, Bool, List, [], ◌∷◌, ◌++◌, ◌||◌, ◌==◌, Option, Some, None, if◌then◌else◌, length, map, flat_map, bytes_eq, codes, decimal}
use Rattle.std.specs.List.{AllByRecursion, list_any}
use Rattle.host_types.specs.Lines.{lines}
use Rattle.host_types.specs.Address.{Address}
use Rattle.host_types.specs.declared.card.Card.{Card}
use Rattle.host_types.specs.declared.card.CardView.{CardView}
use Rattle.host_types.specs.declared.card.CardBody.{CardBody}
use Rattle.host_types.specs.declared.card.CardBody.TheVariants as cards
use Rattle.host_types.specs.declared.form.Question.{Question}
use Rattle.host_types.specs.declared.form.Question.TheVariants as questions
use Rattle.text_writer.specs.Text.{line_end, text_end}
use Rattle.text_writer.specs.Menu.{item_line, IsMenuLine}
use Rattle.plus_blocks.specs.Date.{mod_date}

-- ---- heads

-- what follows ends at a line that is one period
abbrev pub text_head : List ℕ
text_head = codes "+-1\r\n"

-- what follows has so many bytes
abbrev pub length_head : ℕ → List ℕ
length_head n = codes "+" ++ decimal n ++ line_end

abbrev pub head : Option ℕ → List ℕ
head None = text_head
head (Some n) = length_head n

-- ---- blocks

-- a line of a block, with a space before it
abbrev pub block_line : List ℕ → List ℕ
block_line line = codes " " ++ line ++ line_end

-- a block's name, and its lines
unfoldable pub block : List ℕ → List (List ℕ) → List ℕ
block name body = name ++ codes ":\r\n" ++ flat_map block_line body

-- the block that has a menu line on its own
abbrev pub info : List ℕ → List ℕ
info line = codes "+INFO: " ++ line

abbrev pub admin : List ℕ → ℕ → List ℕ
admin keeper stamp = block (codes "+ADMIN") ((codes "Admin: " ++ keeper) ∷ (codes "Mod-Date: " ++ mod_date stamp) ∷ [])

abbrev pub is_empty : List ℕ → Bool
is_empty bytes = length bytes == 0

-- the name of a view, with its language where it has one
abbrev pub view_name : CardView → List ℕ
view_name view = view.name ++ (if is_empty view.language then [] else codes " " ++ view.language)

-- how many times 1,024 bytes, rounded up
unfoldable pub kilobytes : ℕ → ℕ
kilobytes n = (n + 1023) / 1024

abbrev pub view_line : CardView → List ℕ
view_line view = view_name view ++ codes ": <" ++ decimal (kilobytes view.length) ++ codes "k>"

abbrev pub views : List CardView → List ℕ
views list = block (codes "+VIEWS") (map view_line list)

-- A summary of no bytes has no block.
abbrev pub abstract_block : List ℕ → List ℕ
abstract_block summary = if is_empty summary then [] else block (codes "+ABSTRACT") (lines summary)

abbrev pub question_line : Question → List ℕ
question_line (questions.Ask prompt) = codes "Ask: " ++ prompt
question_line (questions.AskL prompt) = codes "AskL: " ++ prompt
question_line (questions.AskP prompt word) = codes "AskP: " ++ prompt
question_line (questions.Choose prompt choices) = codes "Choose: " ++ prompt ++ flat_map (λ choice. 9 ∷ choice) choices

abbrev pub ask_block : List Question → List ℕ
ask_block list = block (codes "+ASK") (map question_line list)

-- ---- the blocks of an item

-- only documents have views
abbrev pub views_of : CardBody → List ℕ
views_of (cards.Views kind list) = views list
views_of (cards.Menu entries) = []
views_of (cards.Board cap next) = []
views_of (cards.Form board list) = []
views_of (cards.Search scope) = []
views_of (cards.Moved target) = []

-- only forms ask
abbrev pub asks_of : CardBody → List ℕ
asks_of (cards.Views kind list) = []
asks_of (cards.Menu entries) = []
asks_of (cards.Board cap next) = []
asks_of (cards.Form board list) = ask_block list
asks_of (cards.Search scope) = []
asks_of (cards.Moved target) = []

-- No names ask for all blocks.
abbrev pub is_asked : List (List ℕ) → List ℕ → Bool
is_asked names name = length names == 0 || list_any (bytes_eq name) names

abbrev pub asked_for : List (List ℕ) → List ℕ → List ℕ → List ℕ
asked_for names name bytes = if is_asked names name then bytes else []

-- `+INFO` always, and of the others those that are asked for and that the item has
unfoldable pub item_blocks : Address → List (List ℕ) → List ℕ → Card → List ℕ
item_blocks a names selector card =
    info (item_line a selector card)
    ++ asked_for names (codes "+ADMIN") (admin a.admin card.stamp)
    ++ asked_for names (codes "+VIEWS") (views_of card.body)
    ++ asked_for names (codes "+ABSTRACT") (abstract_block card.summary)
    ++ asked_for names (codes "+ASK") (asks_of card.body)

-- ---- replies

-- the reply to `!`
abbrev pub attributes : Address → List (List ℕ) → List ℕ → Card → List ℕ
attributes a names selector card = text_head ++ item_blocks a names selector card ++ text_end

-- the reply to `$`, from the blocks of each entry that gives a line
unfoldable pub entry_attributes : List (List ℕ) → List ℕ
entry_attributes blocks = text_head ++ flat_map (λ of_entry. of_entry) blocks ++ text_end

-- Whole lines with their ends, of which none begins with a period.
pub record AreLines (bytes : List ℕ) : Type 0 where
  pub each : List (List ℕ)
  pub joined : bytes ≡ flat_map (λ line. line) each
  pub all : AllByRecursion IsMenuLine each
