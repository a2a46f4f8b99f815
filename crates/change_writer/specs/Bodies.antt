-- The table of a change that puts an item.
use Rattle.std.specs.Prelude.{◌≡◌, ◌≤◌, ℕ, true, List, [], Option, Some, Ok, codes}
use Rattle.host_types.specs.declared.item.Body.{Body}
use Rattle.toml.specs.Data.{Members, get_member, members_depth}
use Rattle.change_file.specs.Tables.{has_only, text_at, optional_text_at, optional_moment_at}
use Rattle.change_file.specs.Named.{name_at, selector_named, title_named}
use Rattle.change_file.specs.Bodies.{body_in, with_body}
use Rattle.change_writer.specs.Said.{body_read}

-- the deepest that a change's table nests arrays and tables
abbrev pub deepest : ℕ
deepest = 4

-- Where an item's table has no body, this one has it too, and nothing else of it is another.
pub record AddsBody (old new : Members) (body : Body) : Type 0 where
  pub reads : has_only (with_body []) old ≡ true → body_in new ≡ Some (Ok (body_read body))
  pub does : get_member (codes "do") new ≡ get_member (codes "do") old
  pub stands : get_member (codes "selector") new ≡ get_member (codes "selector") old
  pub titled : get_member (codes "title") new ≡ get_member (codes "title") old
  pub summed_up : get_member (codes "abstract") new ≡ get_member (codes "abstract") old
  pub ends : get_member (codes "until") new ≡ get_member (codes "until") old
  pub depth : members_depth old ≤ deepest → members_depth new ≤ deepest

-- A table that puts an item, but for its body.
pub record BeginsPut (table : Members) (selector title summary : List ℕ) (until : Option ℕ) : Type 0 where
  pub only : has_only (with_body []) table ≡ true
  pub does : text_at (codes "do") table ≡ Some (codes "put")
  pub stands : name_at selector_named (codes "selector") table ≡ Some (Ok selector)
  pub titled : name_at title_named (codes "title") table ≡ Some (Ok title)
  pub summed_up : optional_text_at (codes "abstract") table ≡ Some summary
  pub ends : optional_moment_at (codes "until") table ≡ Some until
  pub depth : members_depth table ≤ deepest
