-- Worked examples of sorts of files, selectors, entries and pages.
use Rattle.std.specs.Prelude.{◌≡◌, [], codes, replicate, length, Some, None, Ok, Err}
use Rattle.common_types.specs.declared.refused.Refused.TheVariants.{BadName}
use Rattle.host_types.specs.declared.menu.Entry.TheVariants.{Local, Info, Remote}
use Rattle.host_types.specs.declared.menu.LinkKind.TheVariants as links
use Rattle.gophermap.specs.Line.{Entry as Item, Comment}
use Rattle.folder_import.specs.Formats.{ending, endings, known_in}
use Rattle.folder_import.specs.Selectors.{child, resolved}
use Rattle.folder_import.specs.Entries.{entry_of}
use Rattle.folder_import.specs.Pages.{page_count, page_name, linked}
use Rattle.folder_import.specs.declared.documents.Sort.TheVariants as sorts
use Rattle.folder_import.specs.declared.fault.ImportFault.TheVariants as faults

pub record ImportExamples : Type 0 where
  -- sorts of files
  pub text : known_in endings (codes "txt") ≡ Some sorts.Text
  pub capitals : known_in endings (codes "PNG") ≡ Some sorts.Png
  pub other : known_in endings (codes "log") ≡ None
  pub last_ending : ending (codes "a.gif.zip") ≡ codes "zip"
  pub no_ending : ending (codes "README") ≡ []
  pub period_at_the_end : ending (codes "a.") ≡ []
  -- selectors
  pub below : child (codes "/phlog") (codes "a.txt") ≡ Ok (codes "/phlog/a.txt")
  pub below_the_top : child [] (codes "a.txt") ≡ Ok (codes "/a.txt")
  pub from_the_top : resolved (codes "/ada") (codes "/ada/phlog") (codes "/about") ≡ Ok (codes "/ada/about")
  pub from_the_folder : resolved (codes "/ada") (codes "/ada/phlog") (codes "a.txt") ≡ Ok (codes "/ada/phlog/a.txt")
  pub folder_by_its_slash : resolved [] (codes "/phlog") (codes "/pictures/") ≡ Ok (codes "/pictures")
  pub top : resolved [] (codes "/phlog") (codes "/") ≡ Ok []
  pub barred : resolved [] [] (codes "a\tb") ≡ Err BadName
  -- entries
  pub local : entry_of [] (codes "/phlog") (Item links.Text (codes "A") (codes "a.txt") (record { host = None; port = None })) ≡ Ok (Some (Local (codes "/phlog/a.txt")))
  pub remote : entry_of [] [] (Item links.Menu (codes "F") (codes "/") (record { host = Some (codes "a.b"); port = Some 70 })) ≡ Ok (Some (Remote links.Menu (codes "F") (codes "/") (codes "a.b") 70))
  pub host_alone : entry_of [] [] (Item links.Menu (codes "F") (codes "/") (record { host = Some (codes "a.b"); port = None })) ≡ Err faults.Place
  pub comment : entry_of [] [] Comment ≡ Ok None
  -- pages
  pub no_entries : page_count 0 ≡ 1
  pub hundred : page_count 100 ≡ 1
  pub hundred_and_one : page_count 101 ≡ 2
  pub two_hundred : page_count 200 ≡ 3
  pub first_page : page_name (codes "/phlog") 0 ≡ codes "/phlog"
  pub first_of_two : length (linked [] (replicate 101 (Info [])) 0) ≡ 100
  pub last_of_two : length (linked [] (replicate 101 (Info [])) 1) ≡ 2
