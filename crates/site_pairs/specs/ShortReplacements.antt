-- Replacements of items that are not too long to have records.
use Rattle.std.specs.Prelude.{List, IsTrue}
use Rattle.host_types.specs.declared.item.Item.{Item}
use Rattle.site_records.specs.Limits.{is_short}
use Rattle.change_plan.specs.Replacements.{AreFit}
use Rattle.change_plan.specs.declared.replacement.Replacement.{Replacement}

abbrev pub IsShortItem : Item → Type 0
IsShortItem item = IsTrue (is_short item)

-- What stood and what is to stand is short.
abbrev pub AreShort : List Replacement → Type 0
AreShort replacements = AreFit IsShortItem replacements
