-- The menu of what a search has found is that of the names that it finds.
use Rattle.std.proofs.Common.{◌≡◌, ℕ, zero, suc, Bool, List, [], ◌∷◌, ◌++◌, Option, Some, None, refl, ap, sym, subst, ◌∙◌, arith}
use Rattle.std.specs.Prelude.{All, filter_map, Result, Ok, Err, OnOk}
use Rattle.std.specs.List.{cons_option}
use Rattle.std.specs.Option.{option_map}
use Rattle.host_types.specs.Address.{address}
use Rattle.host_types.specs.Card.{card_of, card_at}
use Rattle.host_types.specs.Fronts.{front_of, front_at}
use Rattle.host_types.specs.Site.{Site, item_at}
use Rattle.host_types.specs.declared.card.Card.{Card}
use Rattle.host_types.specs.declared.front.CardFront.{CardFront}
use Rattle.host_types.specs.declared.item.Item.{Item}
use Rattle.host_types.specs.declared.menu.Entry.TheVariants.{Local}
use Rattle.text_writer.specs.Menu.{found_line, entry_line, line_bytes, menu}
use Rattle.word_search.specs.Finds.{find_by, find_at, finds_of}
use Rattle.word_search.specs.Search.{search_of}
use Rattle.word_search.specs.declared.find.Find.{Find}
use Rattle.site_replies.specs.Finds.{IsFindOf, found_names}
use Rattle.site_replies.specs.Reply.{locals, menu_reply, as_text}
use Rattle.site_replies.proofs.VisibleCards.{line_shown}

-- what stands where an item was found
stands_by : (selector : List ℕ) (find : Find) (o : Option Card) → option_map (find_by selector) (option_map front_of o) ≡ Some find → (card : Card) × (o ≡ Some card) × (find.front ≡ front_of card)
stands_by selector find None e = absurd (cc e)
stands_by selector find (Some card) e = let same : find_by selector (front_of card) ≡ find = cc e in (card, refl, ap (λ (f : Find). f.front) (sym same))

on_more : {E X : Type 0} {P Q : Type 0} (r : Result X E) → OnOk r P → (P → Q) → OnOk r Q
on_more (Ok x) p more = more p
on_more (Err e) p more = tt

-- the line of a find
pub find_line : {E X : Type 0} (result : Result X E) (s : Site) (find : Find) (new old : List ℕ) → IsFindOf s find → ((card : Card) → find.front ≡ front_of card → OnOk result (new ≡ old ++ line_bytes (found_line (address s) find.selector (Some card)))) → OnOk result (new ≡ old ++ line_bytes (entry_line s (Local find.selector)))
find_line result s find new old found line =
    let there = stands_by find.selector find (card_at s find.selector) found in
    on_more result (line there.0 there.2) (λ is. line_shown (address s) (address s) find.selector there.0 (card_at s find.selector) new old refl there.1 is)

-- ---- the names

lines_found : (s : Site) (names : List (List ℕ)) → filter_map (entry_line s) (locals (found_names (filter_map (find_at s) names))) ≡ filter_map (entry_line s) (locals names)
lines_found s [] = refl
lines_found s (n ∷ names) =
    let f = entry_line s in
    let rest = lines_found s names in
    let others = filter_map (find_at s) names in
    elim (item_at s n) as (λ o. item_at s n ≡ o → filter_map f (locals (found_names (filter_map (find_at s) (n ∷ names)))) ≡ filter_map f (locals (n ∷ names))) [
      | None ↦ λ e.
          ap (λ (o : Option Item). filter_map f (locals (found_names (cons_option (option_map (find_by n) (option_map front_of (option_map card_of o))) others)))) e
          ∙ rest
          ∙ ap (λ (o : Option Item). cons_option (found_line (address s) n (option_map card_of o)) (filter_map f (locals names))) (sym e)
      | Some item ↦ λ e.
          ap (λ (o : Option Item). filter_map f (locals (found_names (cons_option (option_map (find_by n) (option_map front_of (option_map card_of o))) others)))) e
          ∙ ap (cons_option (f (Local n))) rest
    ] refl

first_more : (s : Site) (find : Find) (finds : List Find) → IsFindOf s find → All (IsFindOf s) finds → All (IsFindOf s) (find ∷ finds)
first_more s find finds here all zero d less = here
first_more s find finds here all (suc k) d less = all k d (omega (arith, less))

pub all_stand : (s : Site) (names : List (List ℕ)) → All (IsFindOf s) (filter_map (find_at s) names)
all_stand s [] = λ k d less. absurd (omega (arith, less))
all_stand s (n ∷ names) =
    let rest = all_stand s names in
    elim (find_at s n) as (λ o. find_at s n ≡ o → All (IsFindOf s) (cons_option o (filter_map (find_at s) names))) [
      | None ↦ λ e. rest
      | Some find ↦ λ e.
          let named : find.selector ≡ n = named_so n (front_at s n) find e in
          first_more s find (filter_map (find_at s) names) (ap (find_at s) named ∙ e) rest
    ] refl
  where
    named_so : (n : List ℕ) (o : Option CardFront) (find : Find) → option_map (find_by n) o ≡ Some find → find.selector ≡ n
    named_so n None find e = absurd (cc e)
    named_so n (Some front) find e = let same : find_by n front ≡ find = cc e in ap (λ (f : Find). f.selector) (sym same)

pub all_found : (s : Site) (scope query : List ℕ) (finds : List Find) → finds ≡ finds_of s scope query → All (IsFindOf s) finds
unfolding finds_of
all_found s scope query finds is = subst (All (IsFindOf s)) (sym is) (all_stand s (search_of s scope query))

-- the menu of the names that a search finds
pub found_menu : (s : Site) (is_plus : Bool) (scope query : List ℕ) (finds : List Find) → finds ≡ finds_of s scope query → menu_reply s is_plus (locals (found_names finds)) ≡ menu_reply s is_plus (locals (search_of s scope query))
unfolding finds_of
found_menu s is_plus scope query finds is =
    ap (λ (l : List Find). menu_reply s is_plus (locals (found_names l))) is
    ∙ ap (λ (lines : List (List ℕ)). as_text is_plus (menu lines)) (lines_found s (search_of s scope query))
