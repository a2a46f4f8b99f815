-- What is asked of all items of a site, one by one.
use Rattle.std.specs.Prelude.{◌≡◌, ℕ, ◌+◌, ◌<◌, ◌≤◌, ◌^◌, Bool, false, List, ◌++◌, ◌∷◌, ◌==◌, [], Some, IsTrue}
use Rattle.std.specs.List.{AllByRecursion, list_any}
use Rattle.host_types.specs.Items.{is_selector, is_typed_item}
use Rattle.host_types.specs.Site.{Site, text_view, item_at, board_at, post_selector, IsMenuIn, MayStand}
use Rattle.host_types.specs.declared.view.Kind.TheVariants.{Text}
use Rattle.host_types.specs.declared.item.Item.{Item}
use Rattle.host_types.specs.declared.item.Body.{Body}
use Rattle.host_types.specs.declared.item.Body.TheVariants.{Views}

abbrev pub has_slash : List ℕ → Bool
has_slash bytes = list_any (λ b. b == 47) bytes

-- some bytes that are cut at their last slash
pub record IsCut (bytes front behind : List ℕ) : Type 0 where
  pub parts : bytes ≡ front ++ 47 ∷ behind
  pub last : has_slash behind ≡ false

-- no post is named so
abbrev pub IsNoPostName : List ℕ → Type 0
IsNoPostName selector = (board : List ℕ) (n : ℕ) → n < 2 ^ 64 → selector ≡ post_selector board n → ⊥

-- one of the last numbers below the next
pub record IsLast (number cap next : ℕ) : Type 0 where
  pub first : 0 < number
  pub given : number < next
  pub last : next ≤ number + cap

-- a text document of one view, without language
pub record IsPlainText (body : Body) : Type 0 where
  pub text : List ℕ
  pub is : body ≡ Views Text (text_view text ∷ [])

-- the numbers of all boards fit
abbrev pub BoardsFit : Site → Type 0
BoardsFit s = (board : List ℕ) (cap next : ℕ) → board_at s board ≡ Some (cap, next) → next < 2 ^ 64

-- a selector and an item of the program
pub record IsTyped (e : List ℕ × Item) : Type 0 where
  pub name : IsTrue (is_selector e.0)
  pub item : IsTrue (is_typed_item e.1)

abbrev pub AreTyped : List (List ℕ × Item) → Type 0
AreTyped es = AllByRecursion IsTyped es

-- each may stand where it stands
abbrev pub AllMayStand : Site → List (List ℕ × Item) → Type 0
AllMayStand s es = AllByRecursion (λ e. MayStand s e.0 e.1) es

-- a site that can be reached, and shows a menu first
pub record HasFront (s : Site) : Type 0 where
  pub port : 0 < s.port
  pub top : IsMenuIn (item_at s [])
