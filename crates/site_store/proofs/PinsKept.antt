-- What the pins of a key-value store keep, seen as items.
use Rattle.std.proofs.Common.{◌≡◌, ℕ, Bool, true, false, List, [], ◌∷◌, length, map, Option, Some, None, cond, is_some, refl, inl, inr, sym, ap, subst, ◌∙◌, IsTrue, eq-eqb, ne_eqb}
use Rattle.std.specs.Prelude.{◌==◌, ◌||◌, IfSome, Result, Ok, Err, OnOk, IfErr}
use Rattle.std.specs.Map.{lookup}
use Rattle.std.proofs.lemmas.Bool.{cases_eq}
use Rattle.std.proofs.lemmas.List.{length-map}
use Rattle.host_types.specs.Site.{Items}
use Rattle.host_types.specs.Pins as sites
use Rattle.page_store.specs.CommitCalls.{CommitsBatch, FailsToCommit}
use Rattle.page_store.specs.Content as stores
use Rattle.page_store.specs.Pages.{Pair}
use Rattle.page_store.specs.StoreState.{StoreState, CommitNeed, StoreHasRead, HasStayed, IsCommitFault, numbers_out}
use Rattle.page_store.specs.declared.banner.Banner.{Banner}
use Rattle.page_store.specs.declared.edit.Edit.{Edit}
use Rattle.page_store.specs.declared.fault.KeeperFault.{KeeperFault}
use Rattle.page_store.specs.declared.fault.KeeperFault.TheVariants as kinds
use Rattle.site_store.specs.Represented.{HasSite, site_state_of}
use Rattle.site_store.specs.PinnedItems.{Pins, IsLaidOut, HasItems, AllHave, items_of, items_at, pins_of, same_items}

-- ---- the pins by their numbers

numbers_under : (f : ℕ → Items) (numbers : List ℕ) → map (λ (pin : ℕ × Items). pin.0) (map (λ number. (number, f number)) numbers) ≡ numbers
numbers_under f [] = refl
numbers_under f (n ∷ ns) = ap (λ (l : List ℕ). n ∷ l) (numbers_under f ns)

found_under : (f : ℕ → Items) (number : ℕ) (numbers : List ℕ) → lookup (λ n. n == number) (map (λ n. (n, f n)) numbers) ≡ cond (stores.is_among number numbers) (Some (f number)) None
found_under f number [] = refl
found_under f number (n ∷ ns) = elim (cases_eq n number) [
  | inl e ↦ rw (eq-eqb n number e, eq-eqb number n (sym e)) (ap (λ (m : ℕ). Some (f m)) e)
  | inr ne ↦ rw (ne_eqb n number ne, ne_eqb number n (λ e. ne (sym e))) (found_under f number ns)
]

pub numbers_of : (honest : Bool) (pins : Pins) (have : IsTrue honest → AllHave pins) → map (λ (pin : ℕ × Items). pin.0) (pins_of honest pins have) ≡ map (λ (pin : ℕ × List Pair). pin.0) pins
numbers_of honest pins have = numbers_under (items_at honest pins have) (map (λ (pin : ℕ × List Pair). pin.0) pins)

pub length_of : (honest : Bool) (pins : Pins) (have : IsTrue honest → AllHave pins) → length (pins_of honest pins have) ≡ length pins
length_of honest pins have = length-map (map (λ (pin : ℕ × List Pair). pin.0) pins) (λ number. (number, items_at honest pins have number)) ∙ length-map pins (λ (pin : ℕ × List Pair). pin.0)

same_among : (number : ℕ) (numbers : List ℕ) → sites.is_among number numbers ≡ stores.is_among number numbers
same_among number [] = refl
same_among number (n ∷ ns) = ap (λ (b : Bool). number == n || b) (same_among number ns)

-- the same numbers are out
pub out_of : (honest : Bool) (pins : Pins) (have : IsTrue honest → AllHave pins) (number : ℕ) → sites.is_among number (map (λ (pin : ℕ × Items). pin.0) (pins_of honest pins have)) ≡ stores.is_among number (map (λ (pin : ℕ × List Pair). pin.0) pins)
out_of honest pins have number = ap (sites.is_among number) (numbers_of honest pins have) ∙ same_among number (map (λ (pin : ℕ × List Pair). pin.0) pins)

pub found_of : (honest : Bool) (pins : Pins) (have : IsTrue honest → AllHave pins) (number : ℕ) → lookup (λ n. n == number) (pins_of honest pins have) ≡ cond (stores.is_among number (map (λ (pin : ℕ × List Pair). pin.0) pins)) (Some (items_at honest pins have number)) None
found_of honest pins have number = found_under (items_at honest pins have) number (map (λ (pin : ℕ × List Pair). pin.0) pins)

-- a number is out exactly where something is kept under it
pub out_is : (number : ℕ) (pins : Pins) → stores.is_among number (map (λ (pin : ℕ × List Pair). pin.0) pins) ≡ is_some (lookup (λ n. n == number) pins)
out_is number [] = refl
out_is number ((n, pairs) ∷ pins) = elim (cases_eq n number) [
  | inl e ↦ rw (eq-eqb n number e, eq-eqb number n (sym e)) refl
  | inr ne ↦ rw (ne_eqb n number ne, ne_eqb number n (λ e. ne (sym e))) (out_is number pins)
]

none_there : {A : Type 0} (o : Option A) → is_some o ≡ false → o ≡ None
none_there None e = refl
none_there (Some x) e = absurd (cc e)

some_there : {A : Type 0} (o : Option A) → is_some o ≡ true → (x : A) × (o ≡ Some x)
some_there None e = absurd (cc e)
some_there (Some x) e = (x, refl)

pub none_kept_under : (number : ℕ) (pins : Pins) → stores.is_among number (map (λ (pin : ℕ × List Pair). pin.0) pins) ≡ false → lookup (λ n. n == number) pins ≡ None
none_kept_under number pins out = none_there (lookup (λ n. n == number) pins) (sym (out_is number pins) ∙ out)

pub some_kept_under : (number : ℕ) (pins : Pins) → stores.is_among number (map (λ (pin : ℕ × List Pair). pin.0) pins) ≡ true → (pairs : List Pair) × (lookup (λ n. n == number) pins ≡ Some pairs)
some_kept_under number pins out = some_there (lookup (λ n. n == number) pins) (sym (out_is number pins) ∙ out)

-- ---- the items that a pin keeps

laid_out : (found : Option (List Pair)) (has : IfSome found HasItems) (pairs : List Pair) → found ≡ Some pairs → IsLaidOut pairs (items_of found has)
laid_out None has pairs e = absurd (cc e)
laid_out (Some kept) has pairs e = subst (λ (ps : List Pair). IsLaidOut ps has.0) (cc e) has.1

pub are_laid_out : (honest : Bool) (pins : Pins) (have : IsTrue honest → AllHave pins) (number : ℕ) (pairs : List Pair) → IsTrue honest → lookup (λ n. n == number) pins ≡ Some pairs → IsLaidOut pairs (items_at honest pins have number)
are_laid_out true pins have number pairs t e = laid_out (lookup (λ n. n == number) pins) (have refl number) pairs e
are_laid_out false pins have number pairs t e = absurd (cc t)

same_found : (o p : Option (List Pair)) (has : IfSome o HasItems) (now : IfSome p HasItems) → p ≡ o → items_of p now ≡ items_of o has
same_found None None has now e = refl
same_found None (Some x) has now e = absurd (cc e)
same_found (Some x) None has now e = absurd (cc e)
same_found (Some x) (Some y) has now e = same_items x now.0 has.0 (subst (λ (ps : List Pair). IsLaidOut ps now.0) (cc e) now.1) has.1

pub same_items_at : (h k : Bool) (ps qs : Pins) (have : IsTrue h → AllHave ps) (now : IsTrue k → AllHave qs) (number : ℕ) → k ≡ h → (IsTrue h → lookup (λ n. n == number) qs ≡ lookup (λ n. n == number) ps) → items_at k qs now number ≡ items_at h ps have number
same_items_at true true ps qs have now number e same = same_found (lookup (λ n. n == number) ps) (lookup (λ n. n == number) qs) (have refl number) (now refl number) (same refl)
same_items_at true false ps qs have now number e same = absurd (cc e)
same_items_at false true ps qs have now number e same = absurd (cc e)
same_items_at false false ps qs have now number e same = refl

pub same_pins : (h k : Bool) (ps qs : Pins) (have : IsTrue h → AllHave ps) (now : IsTrue k → AllHave qs) → k ≡ h → map (λ (pin : ℕ × List Pair). pin.0) qs ≡ map (λ (pin : ℕ × List Pair). pin.0) ps → (IsTrue h → qs ≡ ps) → pins_of k qs now ≡ pins_of h ps have
same_pins h k ps qs have now e numbers same =
    let items : (number : ℕ) → items_at k qs now number ≡ items_at h ps have number = λ number. same_items_at h k ps qs have now number e (λ t. ap (lookup (λ n. n == number)) (same t)) in
    λ i. map (λ number. (number, items number i)) (numbers i)

-- ---- what no call but those of pins changes

-- The same numbers are out, and the same is kept under each.
pub record PinsStay (old new : StoreState) : Type 0 where
  pub out : numbers_out new ≡ numbers_out old
  pub pins : IsTrue old.honest → new.pins ≡ old.pins

pub pins_stay_read : (old new : StoreState) → StoreHasRead old new → PinsStay old new
pins_stay_read old new read = record { out = read.same.out; pins = read.same.pins }

pins_stayed : (old new : StoreState) → HasStayed old new → PinsStay old new
pins_stayed old new same = record { out = same.out; pins = same.pins }

pub fault_pins : (old new : StoreState) (edits : ℕ) (may_need : CommitNeed → Type 0) (fault : KeeperFault) → IsCommitFault old new edits may_need fault → PinsStay old new
fault_pins old new edits may_need kinds.Device h = pins_stayed old new h.0
fault_pins old new edits may_need kinds.NoImage h = absurd h
fault_pins old new edits may_need kinds.Version h = absurd h
fault_pins old new edits may_need (kinds.Damaged page) h = pins_stayed old new h.0
fault_pins old new edits may_need kinds.Small h = absurd h
fault_pins old new edits may_need kinds.Spent h = pins_stayed old new h.0
fault_pins old new edits may_need kinds.Deep h = pins_stayed old new h.0
fault_pins old new edits may_need (kinds.Full need free) h = pins_stayed old new h.0
fault_pins old new edits may_need kinds.Failed h = record { out = h.out; pins = h.pins }
fault_pins old new edits may_need kinds.Memory h = pins_stayed old new h

pub pins_stay_written : {U : Type 0} (r : Result U KeeperFault) (old new : StoreState) (batch : List Edit) (banner : Banner) (edits : ℕ) (may_need : CommitNeed → Type 0) (needs now : List Edit → CommitNeed → Type 0) → OnOk r (CommitsBatch old new batch banner may_need) → IfErr r (FailsToCommit old new edits may_need needs now) → PinsStay old new
pins_stay_written (Ok x) old new batch banner edits may_need needs now done fault = record { out = done.out; pins = done.pins }
pins_stay_written (Err e) old new batch banner edits may_need needs now done fault = fault_pins old new edits may_need e fault.cause

-- they keep items still
pub have_still : (old new : StoreState) → PinsStay old new → IsTrue old.honest → AllHave old.pins → AllHave new.pins
have_still old new stay honest have = subst AllHave (sym (stay.pins honest)) have

-- no pin is out
pub none_have : (pins : Pins) → pins ≡ [] → AllHave pins
none_have pins none = subst AllHave (sym none) (λ number. tt)

-- ---- where no pin is out

-- no pin of a site is out where none of its store is
pub no_site_pins : (h : StoreState) (keeps : HasSite h) → h.pins ≡ [] → (site_state_of h keeps).pins ≡ []
no_site_pins h keeps none = ap (λ (numbers : List ℕ). map (λ number. (number, items_at h.honest h.pins (λ honest. (keeps honest).2) number)) numbers) (ap (λ (pins : List (ℕ × List Pair)). map (λ (pin : ℕ × List Pair). pin.0) pins) none)

none_named : (honest : Bool) (pins : Pins) (have : IsTrue honest → AllHave pins) → pins_of honest pins have ≡ [] → pins ≡ []
none_named honest [] have none = refl
none_named honest (pin ∷ pins) have none = absurd (cc none)

-- and the other way round
pub no_store_pins : (h : StoreState) (keeps : HasSite h) → (site_state_of h keeps).pins ≡ [] → h.pins ≡ []
no_store_pins h keeps none = none_named h.honest h.pins (λ honest. (keeps honest).2) none
