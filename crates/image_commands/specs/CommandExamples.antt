-- Worked examples of what the commands on an image print.
use Rattle.std.specs.Prelude.{◌≡◌, [], Ok, Err, codes, None}
use Rattle.common_types.specs.declared.refused.Refused.TheVariants.{BadName, TooLong}
use Rattle.host_types.specs.Site.{Site, text_item, fresh_site, with_item}
use Rattle.host_types.specs.declared.item.Item.{Item}
use Rattle.host_types.specs.declared.item.Body.TheVariants.{Moved}
use Rattle.page_store.specs.declared.fault.KeeperFault.TheVariants as store
use Rattle.image_commands.specs.Compacted.{free_line}
use Rattle.image_commands.specs.Upgraded.{upgraded_line}
use Rattle.image_commands.specs.Lines.{formatted_line, figures_line}
use Rattle.image_commands.specs.Listing.{listing}
use Rattle.image_commands.specs.Formatted.{names_of, sectors_of}
use Rattle.image_commands.specs.FaultLines.{fault_line}
use Rattle.image_commands.specs.declared.fault.ImageFault.TheVariants.{Refused, NoFile, BadRecord, Store, Memory}

-- a note of a move to `/to`
abbrev pub moved_item : Item
moved_item = record { title = codes "Old"; stamp = 0; until = None; summary = []; body = Moved (codes "/to") }

-- a fresh site with a text and a note
abbrev pub small_site : Site
small_site = with_item (with_item (fresh_site (codes "localhost") 7070 [] (codes "Top") 0) (codes "/from") moved_item) (codes "/about") (text_item (codes "About us") 0 (codes "Hello"))

pub record CommandExamples : Type 0 where
  pub formatted : formatted_line 64 ≡ codes "formatted 64 pages"
  pub figures : figures_line 2 10 61 3 ≡ codes "items 2 keys 10 free 61 generation 3"
  pub free : free_line 61 ≡ codes "free 61"
  pub upgraded : upgraded_line 2 ≡ codes "upgraded 2"
  pub shown : listing small_site ≡ codes "1  Top\n0 /about About\\x20us\n> /from Old\n"
  pub pages : sectors_of 64 ≡ Ok 512
  pub few_pages : sectors_of 15 ≡ Err store.Small
  pub name : names_of (codes "a b") [] [] ≡ Err BadName
  pub refused : fault_line (Refused TooLong) ≡ codes "change 0: TooLong"
  pub damaged : fault_line (Store (store.Damaged 5)) ≡ codes "image: Damaged 5"
  pub full : fault_line (Store (store.Full 9 4)) ≡ codes "image: Full 9 4"
  pub bad_record : fault_line BadRecord ≡ codes "image: BadRecord"
  pub no_file : fault_line NoFile ≡ codes "image: NoFile"
  pub memory : fault_line Memory ≡ codes "memory"
