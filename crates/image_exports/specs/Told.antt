-- How items are told by a file of changes.
use Rattle.std.specs.Prelude.{◌≡◌, ◌⊎◌, ℕ, false, List, [], ◌∷◌, ◌++◌, codes, if◌then◌else◌}
use Rattle.common_types.specs.Names.{is_reserved}
use Rattle.host_types.specs.Card.{card_body}
use Rattle.host_types.specs.declared.card.CardBody.{CardBody}
use Rattle.host_types.specs.declared.change.Change.TheVariants.{Put}
use Rattle.site_store.specs.Walking.{Entry}
use Rattle.text_writer.specs.Menu.{is_moved}
use Rattle.common_types.specs.Shown.{shown}
use Rattle.change_file.specs.declared.fault.FileChange.{FileChange}
use Rattle.change_file.specs.declared.fault.FileChange.TheVariants.{Change}
use Rattle.change_writer.specs.Said.{IsSaid, read_back}

-- why no change puts an item
abbrev pub reason : List ℕ → CardBody → List ℕ
reason selector body = if is_reserved selector then codes "a post" else if is_moved body then codes "moved" else codes "not UTF-8"

-- the text that names an item which no change puts
abbrev pub named_as : List ℕ → List ℕ → List ℕ
named_as why selector = codes "left out, " ++ why ++ codes ": " ++ shown selector

abbrev pub named : List ℕ → CardBody → List ℕ
named selector body = named_as (reason selector body) selector

-- A change can put an item: its selector is none of posts or links, and a file of changes can say it.
abbrev pub IsPut : Entry → Type 0
IsPut e = (is_reserved e.0 ≡ false) × IsSaid (Put e.0 e.1)

-- An item is told by the change that puts it, or else named by a text.
abbrev pub IsToldIn : Entry → List FileChange → List (List ℕ) → Type 0
IsToldIn e changes texts =
    (IsPut e × (changes ≡ Change (read_back (Put e.0 e.1)) ∷ []) × (texts ≡ []))
    ⊎ ((¬ (IsPut e)) × (changes ≡ []) × (texts ≡ named e.0 (card_body e.1.body) ∷ []))

-- Items are told one after another, each once.
abbrev pub AreTold : List Entry → List FileChange → List (List ℕ) → Type 0
AreTold [] changes texts = (changes ≡ []) × (texts ≡ [])
AreTold (e ∷ es) changes texts =
    (here : List FileChange) × (more : List FileChange) × (one : List (List ℕ)) × (others : List (List ℕ))
    × (changes ≡ here ++ more) × (texts ≡ one ++ others) × IsToldIn e here one × AreTold es more others
