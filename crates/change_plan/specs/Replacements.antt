-- A change as what it makes at single selectors.
use Rattle.std.specs.Prelude.{◌≡◌, ℕ, false, List, [], ◌∷◌, map, fold, Option, Some, None, All, IfSome, IsSome}
use Rattle.host_types.specs.Site.{Site, item_at, with_item, without_item}
use Rattle.host_types.specs.Words.{is_among}
use Rattle.host_types.specs.declared.item.Item.{Item}
use Rattle.change_plan.specs.declared.replacement.Replacement.{Replacement}

-- the site with an item at a selector, or with nothing there
abbrev pub replaced_at : Site → List ℕ → Option Item → Site
replaced_at s selector None = without_item s selector
replaced_at s selector (Some item) = with_item s selector item

abbrev pub replaced : Site → Replacement → Site
replaced s r = replaced_at s r.selector r.after

-- one replacement after another
abbrev pub all_replaced : Site → List Replacement → Site
all_replaced s rs = fold replaced s rs

-- Each knows what stood at its selector.
abbrev pub AreReplacements : Site → List Replacement → Type 0
AreReplacements s [] = Unit {0}
AreReplacements s (r ∷ rs) = (r.before ≡ item_at s r.selector) × AreReplacements (replaced s r) rs

abbrev pub selectors_of : List Replacement → List (List ℕ)
selectors_of rs = map (λ r. r.selector) rs

-- Each has a selector of its own.
abbrev pub AreApart : List Replacement → Type 0
AreApart [] = Unit {0}
AreApart (r ∷ rs) = (is_among (selectors_of rs) r.selector ≡ false) × AreApart rs

-- Their selectors are these, in whatever order.
abbrev pub AreAt : List (List ℕ) → List Replacement → Type 0
AreAt selectors rs = (selector : List ℕ) → is_among (selectors_of rs) selector ≡ is_among selectors selector

-- Replacements at these selectors, each once, that know what stood there.
pub record AreReplacementsAt (s : Site) (selectors : List (List ℕ)) (rs : List Replacement) : Type 0 where
  pub know : AreReplacements s rs
  pub apart : AreApart rs
  pub at : AreAt selectors rs

-- Where an item is put, one stands already.
abbrev pub IsInPlace : Site → Replacement → Type 0
IsInPlace s r = IfSome r.after (λ item. IsSome (item_at s r.selector))

abbrev pub AreInPlace : Site → List Replacement → Type 0
AreInPlace s [] = Unit {0}
AreInPlace s (r ∷ rs) = IsInPlace s r × AreInPlace (replaced s r) rs

-- No replacement but the first puts an item where none stands.
abbrev pub OnlyFirstIsNew : Site → List Replacement → Type 0
OnlyFirstIsNew s [] = Unit {0}
OnlyFirstIsNew s (r ∷ rs) = AreInPlace (replaced s r) rs

-- What stood and what is to stand is fit.
abbrev pub IsFit : (Item → Type 0) → Replacement → Type 0
IsFit fits r = IfSome r.before fits × IfSome r.after fits

abbrev pub AreFit : (Item → Type 0) → List Replacement → Type 0
AreFit fits rs = All (IsFit fits) rs

-- the post that goes, if one does
abbrev pub removal_of : Option (List ℕ) → Option Item → List Replacement
removal_of None _ = []
removal_of (Some selector) gone = (record { selector = selector; before = gone; after = None }) ∷ []

-- a post, and its board after it
abbrev pub post_replacements : List ℕ → Item → List ℕ → Option Item → Item → Item → List Replacement
post_replacements board item selector there posted stood = (record { selector = selector; before = there; after = Some posted }) ∷ (record { selector = board; before = Some item; after = Some stood }) ∷ []
