-- What clients find at a selector, by the card of what stands there.
use Rattle.std.proofs.Common.{◌≡◌, ℕ, List, ◌++◌, Bool, true, false, cond, Option, Some, None, refl, ap, sym, ◌∙◌}
use Rattle.std.specs.Option.{option_map}
use Rattle.host_types.specs.Address.{Address}
use Rattle.host_types.specs.Site.{Site}
use Rattle.host_types.specs.Card.{card_at}
use Rattle.host_types.specs.Fronts.{front_of, front_at}
use Rattle.host_types.specs.Visible.{visible, is_over, card_unless_expired, card_at-visible}
use Rattle.host_types.specs.declared.card.Card.{Card}
use Rattle.host_types.specs.declared.front.CardFront.{CardFront}
use Rattle.text_writer.specs.Menu.{found_line, line_bytes}
use Rattle.site_replies.specs.Fronts.{front_unless_expired}

pub visible_card : (s : Site) (now : ℕ) (q : List ℕ) → card_at (visible s now) q ≡ card_unless_expired (card_at s q) now
visible_card s now q = card_at-visible s now q

hidden : (o : Option Card) (now : ℕ) → option_map front_of (card_unless_expired o now) ≡ front_unless_expired (option_map front_of o) now
hidden None now = refl
hidden (Some card) now =
    elim (is_over card.until now) as (λ (b : Bool). option_map front_of (cond b None (Some card)) ≡ cond b None (Some (front_of card))) [ true ↦ refl | false ↦ refl ]

pub visible_front : (s : Site) (now : ℕ) (q : List ℕ) → front_at (visible s now) q ≡ front_unless_expired (front_at s q) now
visible_front s now q = ap (option_map front_of) (card_at-visible s now q) ∙ hidden (card_at s q) now

-- where there is no front there is no card
pub no_card : (o : Option Card) → None ≡ option_map front_of o → o ≡ None
no_card None e = refl
no_card (Some card) e = absurd (cc e)

-- a front is that of a card
pub one_card : (front : CardFront) (o : Option Card) → Some front ≡ option_map front_of o → (card : Card) × (o ≡ Some card) × (front ≡ front_of card)
one_card front None e = absurd (cc e)
one_card front (Some card) e = (card, refl, cc e)

-- the line of a card that stands there
pub line_shown : (f a : Address) (selector : List ℕ) (card : Card) (o : Option Card) (new old : List ℕ) → f ≡ a → o ≡ Some card → new ≡ old ++ line_bytes (found_line f selector (Some card)) → new ≡ old ++ line_bytes (found_line a selector o)
line_shown f a selector card o new old same is line = line ∙ (λ i. old ++ line_bytes (found_line (same i) selector (sym is i)))
