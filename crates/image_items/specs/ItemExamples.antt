-- Worked examples: which view is wanted, which posts are listed, and what is said where there is none.
use Rattle.std.specs.Prelude.{◌≡◌, [], ◌∷◌, Some, None, Ok, Err, codes, reverse}
use Rattle.common_types.specs.declared.refused.Refused.TheVariants.{BadName}
use Rattle.host_types.specs.Site.{Site, last_numbers}
use Rattle.host_types.specs.declared.card.CardBody.{CardBody}
use Rattle.host_types.specs.declared.card.CardBody.TheVariants as cards
use Rattle.host_types.specs.declared.view.Kind.TheVariants.{Text}
use Rattle.image_items.specs.Documents.{place_in, place_of}
use Rattle.image_items.specs.ItemLines.{item_line}
use Rattle.image_items.specs.Posts.{names_of_posts, posts_by}
use Rattle.image_items.specs.declared.fault.ItemFault.TheVariants as faults

-- `Text/plain` with `hi`, `Text/plain De_DE` with `na`, `Text/html` with nothing
abbrev pub three_views : CardBody
three_views = cards.Views Text (
    record { name = codes "Text/plain"; language = []; length = 2 }
    ∷ record { name = codes "Text/plain"; language = codes "De_DE"; length = 2 }
    ∷ record { name = codes "Text/html"; language = []; length = 0 } ∷ [])

pub record ItemExamples : Type 0 where
  pub first : place_of three_views None ≡ Ok 0
  pub by_name : place_of three_views (Some (codes "Text/html")) ≡ Ok 2
  pub first_of_the_name : place_of three_views (Some (codes "Text/plain")) ≡ Ok 0
  pub by_language : place_of three_views (Some (codes "Text/plain De_DE")) ≡ Ok 1
  pub other_language : place_of three_views (Some (codes "Text/plain Fr_FR")) ≡ Err faults.NoView
  pub other_name : place_of three_views (Some (codes "Text")) ≡ Err faults.NoView
  pub no_name : place_of three_views (Some []) ≡ Err faults.NoView
  pub board : place_of (cards.Board 100 1) None ≡ Err faults.NoDocument
  pub nothing : place_in None None ≡ Err faults.NotFound
  pub missing : item_line faults.NotFound ≡ codes "item: NotFound"
  pub last_three : reverse (last_numbers 3 5) ≡ 2 ∷ 3 ∷ 4 ∷ []
  pub first_two : reverse (last_numbers 100 3) ≡ 1 ∷ 2 ∷ []
  pub no_posts : names_of_posts (codes "/book") 100 1 ≡ []
  pub no_board : (s : Site) → posts_by s (codes "/a") three_views ≡ Err faults.NoBoard
  pub bad_name : item_line (faults.Refused BadName) ≡ codes "item: BadName"
