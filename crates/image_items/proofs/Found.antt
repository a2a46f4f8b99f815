-- The bytes of a document, by the card that was read.
use Rattle.std.proofs.Common.{◌≡◌, ◌∙◌, ℕ, true, List, Option, Some, Ok, Err, length, refl, ap, sym, subst, IsTrue}
use Rattle.std.specs.Prelude.{Result, IfErr, IsErrAnd}
use Rattle.host_types.specs.Card.{card_at, viewed_at}
use Rattle.host_types.specs.Site.{Site}
use Rattle.host_types.specs.SiteState.{SiteState, HasRead, IsReadFault, Rose}
use Rattle.host_types.specs.declared.card.Card.{Card}
use Rattle.host_types.specs.declared.site_fault.SiteFault.{SiteFault}
use Rattle.host_types.specs.declared.site_fault.SiteFault.TheVariants as faults
use Rattle.site_replies.specs.Lengths.{HasLengths}
use Rattle.site_replies.proofs.Cards.{has_lengths}
use Rattle.image_items.specs.Documents.{place_in, place_of, bytes_at, document_at}

module _ (a b : SiteState) (selector : List ℕ) (read : Option Card) (card : Card) (place size : ℕ) (kept : HasRead a b) (is : IsTrue a.honest → read ≡ card_at a.site selector) (some : read ≡ Some card)
    (sized : (bytes : ℕ → List ℕ) → HasLengths card.body bytes → length (bytes place) ≡ size) where
  -- the view is as long as its card says
  pub is_sized : IsTrue b.honest → length (viewed_at b.site selector place) ≡ size
  is_sized still =
      let honest : IsTrue a.honest = sym kept.honest ∙ still in
      let here : Some card ≡ card_at a.site selector = sym some ∙ is honest in
      ap (λ (s : Site). length (viewed_at s selector place)) (kept.site honest) ∙ sized (viewed_at a.site selector) (has_lengths a.site selector card here)

  pub found : (view : Option (List ℕ)) (bytes : List ℕ) → IsTrue a.honest → place_of card.body view ≡ Ok place → (IsTrue b.honest → length (viewed_at b.site selector place) ≡ size → bytes ≡ viewed_at b.site selector place) → Ok bytes ≡ document_at a.site selector view
  found view bytes honest place_is given =
      let still : IsTrue b.honest = kept.honest ∙ honest in
      let here : Some card ≡ card_at a.site selector = sym some ∙ is honest in
      let bytes_are : bytes ≡ viewed_at a.site selector place = given still (is_sized still) ∙ ap (λ (s : Site). viewed_at s selector place) (kept.site honest) in
      let stored : Ok bytes ≡ bytes_at a.site selector (Ok place) = subst (λ (x : List ℕ). Ok x ≡ bytes_at a.site selector (Ok place)) (sym bytes_are) refl in
      stored ∙ sym (ap (bytes_at a.site selector) place_is) ∙ ap (λ (o : Option Card). bytes_at a.site selector (place_in o view)) here

-- a fault of a later call is one of both together, where no read failed before
pub since_read : (a b d : SiteState) (fault : SiteFault) → HasRead a b → b.failed_reads ≡ a.failed_reads → IsReadFault true b d fault → IsReadFault true a d fault
since_read a b d (faults.Refused r) kept none is = absurd is
since_read a b d faults.Read kept none is = λ honest. subst (λ (n : ℕ). Rose n d.failed_reads) none (is (kept.honest ∙ honest))
since_read a b d (faults.Full need free) kept none is = absurd is
since_read a b d faults.Spent kept none is = absurd is
since_read a b d faults.Deep kept none is = absurd is
since_read a b d faults.Failed kept none is = sym kept.usable ∙ is
since_read a b d faults.Memory kept none is = is

pub the_fault : {T : Type 0} (P : SiteFault → Type 0) (result : Result T SiteFault) (e : SiteFault) → IsErrAnd result (λ x. x ≡ e) → P e → IfErr result P
the_fault P (Ok t) e is p = tt
the_fault P (Err x) e is p = subst P (sym is) p
