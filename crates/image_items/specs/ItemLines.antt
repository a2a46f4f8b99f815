-- What standard error gets where an item is not what a command wants.
use Rattle.std.specs.Prelude.{ℕ, List, ◌++◌, codes}
use Rattle.common_types.specs.PrintedNames.{refused_name}
use Rattle.image_items.specs.declared.fault.ItemFault.{ItemFault}
use Rattle.image_items.specs.declared.fault.ItemFault.TheVariants.{Refused, NotFound, NoDocument, NoView, NoBoard}

abbrev pub item_line : ItemFault → List ℕ
item_line (Refused refused) = codes "item: " ++ refused_name refused
item_line NotFound = codes "item: NotFound"
item_line NoDocument = codes "item: NoDocument"
item_line NoView = codes "item: NoView"
item_line NoBoard = codes "item: NoBoard"
