-- An item by its card and its views.
use Rattle.std.proofs.Common.{◌≡◌, ℕ, zero, suc, ◌+◌, ◌<◌, List, [], ◌∷◌, ◌++◌, map, length, take, get_or, Option, Some, None, refl, ap, sym, subst, ◌∙◌, arith}
use Rattle.std.specs.Prelude.{slice_get}
use Rattle.std.specs.Option.{option_map}
use Rattle.host_types.specs.Site.{Site, item_at}
use Rattle.host_types.specs.Card.{card_view, card_body, card_of, card_at, bytes_of, viewed_in, viewed_at}
use Rattle.host_types.specs.declared.card.Card.{Card}
use Rattle.host_types.specs.declared.card.CardBody.{CardBody}
use Rattle.host_types.specs.declared.card.CardBody.TheVariants as cards
use Rattle.host_types.specs.declared.card.CardView.{CardView}
use Rattle.host_types.specs.declared.item.Body.{Body}
use Rattle.host_types.specs.declared.item.Body.TheVariants as bodies
use Rattle.host_types.specs.declared.item.Item.{Item}
use Rattle.host_types.specs.declared.view.View.{View}
use Rattle.host_types.specs.declared.view.Kind.{Kind}
use Rattle.image_exports.specs.Whole.{AreViewsAt, IsBodyAt, IsViewAt}

-- ---- the views at places

-- a view stands at a place, of this card, and is the next of those in front
abbrev pub Stands : List View → ℕ → CardView → View → Type 0
Stands all place card view = (slice_get all place ≡ Some view) × (card ≡ card_view view) × (take (place + 1) all ≡ take place all ++ view ∷ [])

stands_in : (all : List View) (place : ℕ) (card : CardView) → place < length (map card_view all) → card ≡ get_or (map card_view all) place card → (view : View) × Stands all place card view
stands_in [] place card within is = absurd (omega (arith, within))
stands_in (v ∷ all) zero card within is = (v, (refl, is, refl))
stands_in (v ∷ all) (suc k) card within is =
    let r = stands_in all k card (omega (arith, within)) is in
    let next : suc k + 1 ≡ suc (k + 1) = omega arith in
    (r.0, (r.1.0, r.1.1, ap (λ n. take n (v ∷ all)) next ∙ ap (λ l. v ∷ l) r.1.2))

pub stands : (all : List View) (cards : List CardView) (place : ℕ) (card : CardView) → cards ≡ map card_view all → place < length cards → card ≡ get_or cards place card → (view : View) × Stands all place card view
stands all cards place card are within is =
    stands_in all place card (subst (λ (l : List CardView). place < length l) are within) (is ∙ ap (λ (l : List CardView). get_or l place card) are)

-- it is the one that the site has there
pub is_there : (s t : Site) (selector : List ℕ) (cards : List CardView) (all : List View) (place : ℕ) (card : CardView) (view : View) → t ≡ s → AreViewsAt s selector cards all → Stands all place card view → IsViewAt t selector place card view
is_there s t selector cards all place card view same are at =
    (at.1, ap (λ (x : Site). viewed_at x selector place) same ∙ are.1 place ∙ ap bytes_of at.0)

-- one more view
pub one_more : (all so_far : List View) (place : ℕ) (card : CardView) (view one : View) → Stands all place card view → so_far ≡ take place all → one ≡ view → so_far ++ one ∷ [] ≡ take (place + 1) all
one_more all so_far place card view one at are is = ap (λ l. l ++ one ∷ []) are ∙ ap (λ (v : View). take place all ++ v ∷ []) is ∙ sym at.2

take_whole : {A : Type 0} (xs : List A) (n : ℕ) → n ≡ length xs → take n xs ≡ xs
take_whole [] zero is = refl
take_whole [] (suc n) is = refl
take_whole (x ∷ xs) zero is = absurd (omega (arith, is))
take_whole (x ∷ xs) (suc n) is = ap (λ l. x ∷ l) (take_whole xs n (omega (arith, is)))

length_cards : (all : List View) → length (map card_view all) ≡ length all
length_cards [] = refl
length_cards (v ∷ all) = ap suc (length_cards all)

pub all_views : (all so_far : List View) (cards : List CardView) (place : ℕ) → cards ≡ map card_view all → place ≡ length cards → so_far ≡ take place all → so_far ≡ all
all_views all so_far cards place are is taken = taken ∙ take_whole all place (is ∙ ap (λ (l : List CardView). length l) are ∙ length_cards all)

-- ---- bodies

-- the views of a body of this card
pub document_of : (s : Site) (selector : List ℕ) (kind : Kind) (views : List CardView) (card : CardBody) (body : Body) → card ≡ cards.Views kind views → IsBodyAt s selector card body → (all : List View) × (body ≡ bodies.Views kind all) × AreViewsAt s selector views all
document_of s selector kind views card (bodies.Views k vs) is at =
    let same : cards.Views kind views ≡ cards.Views k (map card_view vs) = sym is ∙ at.0 in
    let kinds : k ≡ kind = cc same in
    (vs, ap (λ (x : Kind). bodies.Views x vs) kinds, (cc same, at.1))
document_of s selector kind views card (bodies.Menu es) is at = let same : cards.Views kind views ≡ cards.Menu es = sym is ∙ at.0 in absurd (cc same)
document_of s selector kind views card (bodies.Board most next) is at = let same : cards.Views kind views ≡ cards.Board most next = sym is ∙ at.0 in absurd (cc same)
document_of s selector kind views card (bodies.Form board questions) is at = let same : cards.Views kind views ≡ cards.Form board questions = sym is ∙ at.0 in absurd (cc same)
document_of s selector kind views card (bodies.Search scope) is at = let same : cards.Views kind views ≡ cards.Search scope = sym is ∙ at.0 in absurd (cc same)
document_of s selector kind views card (bodies.Moved target) is at = let same : cards.Views kind views ≡ cards.Moved target = sym is ∙ at.0 in absurd (cc same)

-- the body of a card without views
abbrev pub bare : CardBody → Body
bare (cards.Views kind views) = bodies.Views kind []
bare (cards.Menu es) = bodies.Menu es
bare (cards.Board cap next) = bodies.Board cap next
bare (cards.Form board questions) = bodies.Form board questions
bare (cards.Search scope) = bodies.Search scope
bare (cards.Moved target) = bodies.Moved target

abbrev pub IsBare : CardBody → Type 0
IsBare (cards.Views kind views) = ⊥
IsBare (cards.Menu es) = Unit {0}
IsBare (cards.Board cap next) = Unit {0}
IsBare (cards.Form board questions) = Unit {0}
IsBare (cards.Search scope) = Unit {0}
IsBare (cards.Moved target) = Unit {0}

same_bare : (card : CardBody) (body : Body) → card ≡ card_body body → IsBare card → bare card ≡ body
same_bare card (bodies.Views kind vs) is plain = absurd (subst IsBare is plain)
same_bare card (bodies.Menu es) is plain = ap bare is
same_bare card (bodies.Board cap next) is plain = ap bare is
same_bare card (bodies.Form board questions) is plain = ap bare is
same_bare card (bodies.Search scope) is plain = ap bare is
same_bare card (bodies.Moved target) is plain = ap bare is

pub bare_is : (s : Site) (selector : List ℕ) (card this : CardBody) (body : Body) → card ≡ this → IsBare this → IsBodyAt s selector card body → bare this ≡ body
bare_is s selector card this body same plain at = same_bare this body (sym same ∙ at.0) plain

-- ---- items

-- what stands there is of this card
item_of_card : (o : Option Item) (card : Card) → Some card ≡ option_map card_of o → (item : Item) × (o ≡ Some item) × (card ≡ card_of item)
item_of_card None card is = let none : Some card ≡ None = is in absurd (cc none)
item_of_card (Some item) card is = let some : Some card ≡ Some (card_of item) = is in (item, refl, cc some)

body_in : (s : Site) (selector : List ℕ) (o : Option Item) (item : Item) (card : Card) → item_at s selector ≡ o → o ≡ Some item → card ≡ card_of item → IsBodyAt s selector card.body item.body
body_in s selector o item card at some is =
    (ap (λ (c : Card). c.body) is, λ place. ap (λ (x : Option Item). viewed_in x place) (at ∙ some))

pub body_there : (s : Site) (selector : List ℕ) (card : Card) → Some card ≡ card_at s selector → (body : Body) × IsBodyAt s selector card.body body
body_there s selector card is =
    let found = item_of_card (item_at s selector) card is in
    (found.0.body, body_in s selector (item_at s selector) found.0 card refl found.1 found.2)

-- its body is that of the item, and so is all else of the card
pub body_of_item : (s : Site) (selector : List ℕ) (card : Card) (item : Item) → Some card ≡ card_at s selector → item_at s selector ≡ Some item → (card ≡ card_of item) × IsBodyAt s selector card.body item.body
body_of_item s selector card item is stands =
    let found = item_of_card (item_at s selector) card is in
    let same : Some found.0 ≡ Some item = sym found.1 ∙ stands in
    let one : found.0 ≡ item = cc same in
    let card_is : card ≡ card_of item = found.2 ∙ ap card_of one in
    (card_is, body_in s selector (item_at s selector) item card refl stands card_is)

pub whole : (card : Card) (item : Item) (body : Body) → card ≡ card_of item → body ≡ item.body → record { title = card.title; stamp = card.stamp; until = card.until; summary = card.summary; body = body } ≡ item
whole card item body is same =
    ap (λ (c : Card). record { title = c.title; stamp = c.stamp; until = c.until; summary = c.summary; body = body }) is ∙ ap (λ (b : Body). record { title = item.title; stamp = item.stamp; until = item.until; summary = item.summary; body = b }) same
