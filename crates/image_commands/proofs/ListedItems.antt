-- Items that are listed one after another are all listed.
use Rattle.std.proofs.Common.{◌≡◌, ℕ, Bool, true, List, [], ◌∷◌, ◌++◌, cond, Option, Some, None, refl, ap, sym, subst, ◌∙◌, append_assoc}
use Rattle.std.specs.Prelude.{flat_map}
use Rattle.std.specs.Option.{option_map}
use Rattle.std.specs.FinMap.Entries.{below_all, is_sorted}
use Rattle.std.proofs.lemmas.Bool.{and_parts}
use Rattle.host_types.specs.Site.{Site, IsSite, byte_cmp}
use Rattle.host_types.specs.Card.{card_of}
use Rattle.host_types.specs.declared.card.Card.{Card}
use Rattle.site_store.specs.Walking.{Entry, first_of, first_after, card_after}
use Rattle.site_store.proofs.FoundItems.{kept_sorted}
use Rattle.site_store.proofs.RisingKeys.{rest_of, none_left, next_left, all_left, not_itself}
use Rattle.image_commands.specs.Listing.{line_in, listing_in, IsListedNext}
use Rattle.image_commands.specs.declared.listing.ListForm.{ListForm}

-- the items above a selector; with no selector, all
abbrev pub left_after : Site → Option (List ℕ) → List Entry
left_after s None = s.items
left_after s (Some selector) = rest_of s.items selector

abbrev pub lines_of : ListForm → List Entry → List ℕ
lines_of form es = flat_map (λ e. line_in form e.0 (card_of e.1)) es

-- what was listed, with the lines of the items that are left, is the listing
abbrev pub IsListedTo : ListForm → Site → List ℕ → Option (List ℕ) → Type 0
IsListedTo form s text after = text ++ lines_of form (left_after s after) ≡ listing_in form s

pub nothing_listed : (form : ListForm) (s : Site) (text : List ℕ) (after : Option (List ℕ)) → text ≡ [] → after ≡ None → IsListedTo form s text after
nothing_listed form s text after none first = subst (λ (o : Option (List ℕ)). IsListedTo form s text o) (sym first) (ap (λ (t : List ℕ). t ++ lines_of form s.items) none)

-- the first of some entries, and those above it
first_and_rest : (es : List Entry) (e : Entry) → is_sorted byte_cmp es ≡ true → first_of es ≡ Some e → es ≡ e ∷ rest_of es e.0
first_and_rest [] e sorted is = absurd (cc is)
first_and_rest (x ∷ es) e sorted is =
    let same : x ≡ e = cc is in
    let parts = and_parts (below_all byte_cmp x.0 es) (is_sorted byte_cmp es) sorted in
    let rest : rest_of (x ∷ es) x.0 ≡ es = ap (λ (b : Bool). cond b (x ∷ rest_of es x.0) (rest_of es x.0)) (not_itself x.0) ∙ all_left es x.0 parts.0 in
    subst (λ (y : Entry). x ∷ es ≡ y ∷ rest_of (x ∷ es) y.0) same (ap (λ (l : List Entry). x ∷ l) (sym rest))

some_left : (s : Site) (after : Option (List ℕ)) (e : Entry) → is_sorted byte_cmp s.items ≡ true → first_after s after ≡ Some e → left_after s after ≡ e ∷ rest_of s.items e.0
some_left s None e sorted is = first_and_rest s.items e sorted is
some_left s (Some selector) e sorted is = next_left s.items selector e sorted is

no_first : (es : List Entry) → first_of es ≡ None → es ≡ []
no_first [] none = refl
no_first (e ∷ es) none = absurd (cc none)

nothing_left : (s : Site) (after : Option (List ℕ)) → first_after s after ≡ None → left_after s after ≡ []
nothing_left s None none = no_first s.items none
nothing_left s (Some selector) none = none_left s.items selector none

append_nothing : (xs : List ℕ) → xs ++ [] ≡ xs
append_nothing [] = refl
append_nothing (x ∷ xs) = ap (λ (l : List ℕ). x ∷ l) (append_nothing xs)

-- where no item is above, all are listed
pub all_listed : (form : ListForm) (s : Site) (old new : List ℕ) (after : Option (List ℕ)) → IsListedTo form s old after → None ≡ card_after s after → new ≡ old → new ≡ listing_in form s
all_listed form s old new after so_far none same =
    elim (first_after s after) as (λ (o : Option Entry). first_after s after ≡ o → None ≡ option_map {U = List ℕ × Card} (λ e. (e.0, card_of e.1)) o → new ≡ listing_in form s) [
      | None ↦ λ e _. same ∙ sym (append_nothing old) ∙ ap (λ (l : List Entry). old ++ lines_of form l) (sym (nothing_left s after e)) ∙ so_far
      | Some p ↦ λ e some. absurd (cc some)
    ] refl none

-- the line of the next item is added
pub next_listed : (form : ListForm) (s : Site) (old new : List ℕ) (after : Option (List ℕ)) (selector : List ℕ) (card : Card) → is_sorted byte_cmp s.items ≡ true → IsListedTo form s old after → Some (selector, card) ≡ card_after s after → new ≡ old ++ line_in form selector card → IsListedTo form s new (Some selector)
next_listed form s old new after selector card sorted so_far is added =
    elim (first_after s after) as (λ (o : Option Entry). first_after s after ≡ o → Some (selector, card) ≡ option_map {U = List ℕ × Card} (λ e. (e.0, card_of e.1)) o → IsListedTo form s new (Some selector)) [
      | None ↦ λ e none. absurd (cc none)
      | Some p ↦ λ e some.
          let same : (selector, card) ≡ (p.0, card_of p.1) = cc some in
          ap (λ (t : List ℕ). t ++ lines_of form (rest_of s.items selector)) added
          ∙ ap (λ (x : List ℕ × Card). (old ++ line_in form x.0 x.1) ++ lines_of form (rest_of s.items x.0)) same
          ∙ append_assoc old (line_in form p.0 (card_of p.1)) (lines_of form (rest_of s.items p.0))
          ∙ ap (λ (l : List Entry). old ++ lines_of form l) (sym (some_left s after p sorted e))
          ∙ so_far
    ] refl is

-- ---- the same of what a site is known to be

pub goes_on : (form : ListForm) (s t : Site) (old new : List ℕ) (after lent next : Option (List ℕ)) (selector : List ℕ) → ∥ IsSite s ∥₁ → t ≡ s → lent ≡ after → next ≡ Some selector → IsListedTo form s old after → IsListedNext form t lent old new next → IsListedTo form s new (Some selector)
goes_on form s t old new after lent next selector valid same_site same_after some so_far added =
    let here : IsListedNext form s after old new (Some selector) = subst (λ (u : Site). IsListedNext form u after old new (Some selector)) same_site (subst (λ (o : Option (List ℕ)). IsListedNext form t o old new (Some selector)) same_after (subst (IsListedNext form t lent old new) some added)) in
    next_listed form s old new after selector here.0 (kept_sorted s valid) so_far here.1 here.2

pub ends_all : (form : ListForm) (s t : Site) (old new : List ℕ) (after lent next : Option (List ℕ)) → t ≡ s → lent ≡ after → next ≡ None → IsListedTo form s old after → IsListedNext form t lent old new next → new ≡ listing_in form s
ends_all form s t old new after lent next same_site same_after none so_far added =
    let here : IsListedNext form s after old new None = subst (λ (u : Site). IsListedNext form u after old new None) same_site (subst (λ (o : Option (List ℕ)). IsListedNext form t o old new None) same_after (subst (IsListedNext form t lent old new) none added)) in
    all_listed form s old new after so_far here.0 here.1
