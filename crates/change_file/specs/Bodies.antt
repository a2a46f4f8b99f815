-- The body of an item, as a file of changes writes it: by exactly one key.
use Rattle.std.specs.Prelude.{ℕ, ◌||◌, Bool, List, [], ◌∷◌, Option, Some, None, Result, Ok, codes, if◌then◌else◌}
use Rattle.common_types.specs.declared.refused.Refused.{Refused}
use Rattle.host_types.specs.Site.{text_item}
use Rattle.host_types.specs.declared.item.Body.{Body}
use Rattle.host_types.specs.declared.item.Body.TheVariants as bodies
use Rattle.host_types.specs.declared.menu.Entry.{Entry}
use Rattle.host_types.specs.declared.form.Question.{Question}
use Rattle.toml.specs.Data.{Members}
use Rattle.change_file.specs.Tables.{◌>>=◌, has_only, text_at, number_at, values_at, table_at, each}
use Rattle.change_file.specs.Named.{◌◂◌, name_at, selector_named, all_named}
use Rattle.change_file.specs.Views.{kind_at, view_of}
use Rattle.change_file.specs.Entries.{entry_of}
use Rattle.change_file.specs.Questions.{question_of}

-- the keys of a table that puts an item, with those of its body
abbrev pub with_body : List (List ℕ) → List (List ℕ)
with_body keys = codes "do" ∷ codes "selector" ∷ codes "title" ∷ codes "abstract" ∷ codes "until" ∷ keys

-- ---- bodies of their names

abbrev pub menu : Result (List Entry) Refused → Result Body Refused
menu entries = Ok (λ es. bodies.Menu es) ◂ entries

abbrev pub form : Result (List ℕ) Refused → Result (List Question) Refused → Result Body Refused
form board questions = Ok (λ b qs. bodies.Form b qs) ◂ board ◂ questions

abbrev pub search_in : Result (List ℕ) Refused → Result Body Refused
search_in scope = Ok (λ s. bodies.Search s) ◂ scope

-- ---- bodies of their tables

-- a text of one view, as posts are
abbrev pub text_body : Members → Option (Result Body Refused)
text_body table = do
  text ← text_at (codes "text") table
  Some (Ok (text_item [] 0 text).body)

abbrev pub views_body : Members → Option (Result Body Refused)
views_body table = do
  kind ← kind_at (codes "kind") table
  values ← values_at (codes "views") table
  views ← each view_of values
  Some (Ok (bodies.Views kind views))

abbrev pub menu_body : Members → Option (Result Body Refused)
menu_body table = do
  values ← values_at (codes "menu") table
  entries ← each entry_of values
  Some (menu (all_named entries))

-- a fresh board: its first post has the number 1
abbrev pub board_body : Members → Option (Result Body Refused)
board_body table = do
  cap ← number_at (codes "board") table
  Some (Ok (bodies.Board cap 1))

abbrev pub form_in : Members → Option (Result Body Refused)
form_in table = do
  board ← name_at selector_named (codes "board") table
  values ← values_at (codes "questions") table
  questions ← each question_of values
  Some (form board (all_named questions))

abbrev pub form_body : Members → Option (Result Body Refused)
form_body table = do
  form ← table_at (codes "form") table
  if has_only (codes "board" ∷ codes "questions" ∷ []) form then form_in form else None

-- the table of a form, by its keys
abbrev pub form_table : Members → Option Members
form_table table = do
  form ← table_at (codes "form") table
  if has_only (codes "board" ∷ codes "questions" ∷ []) form then Some form else None

abbrev pub search_body : Members → Option (Result Body Refused)
search_body table = do
  scope ← name_at selector_named (codes "search") table
  Some (search_in scope)

-- one of the six forms, by the keys that there are
abbrev pub body_in : Members → Option (Result Body Refused)
body_in table =
    if has_only (with_body (codes "text" ∷ [])) table then text_body table
    else if has_only (with_body (codes "kind" ∷ codes "views" ∷ [])) table then views_body table
    else if has_only (with_body (codes "menu" ∷ [])) table then menu_body table
    else if has_only (with_body (codes "board" ∷ [])) table then board_body table
    else if has_only (with_body (codes "form" ∷ [])) table then form_body table
    else if has_only (with_body (codes "search" ∷ [])) table then search_body table
    else None

-- whether a table has the keys of one of the four forms for which memory is asked
abbrev pub has_body : Members → Bool
has_body table =
    has_only (with_body (codes "text" ∷ [])) table || has_only (with_body (codes "kind" ∷ codes "views" ∷ [])) table
    || has_only (with_body (codes "menu" ∷ [])) table || has_only (with_body (codes "form" ∷ [])) table
