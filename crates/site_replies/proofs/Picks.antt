-- What is picked of a list, one by one.
use Rattle.std.proofs.Common.{◌≡◌, ℕ, List, [], ◌∷◌, ◌++◌, ◌∙◌, ap, sym, refl, append-nil}
use Rattle.std.specs.Prelude.{Option, Some, None, filter_map, flat_map, IsTrue}
use Rattle.std.specs.Option.{option_to_list}
use Rattle.std.proofs.lemmas.Grind.{flat_map-append}
use Rattle.std.proofs.lemmas.List.Elements.{filter_map-append}
use Rattle.text_writer.specs.Menu.{address_fields, line_bytes}
use Rattle.host_types.specs.Address.{Address, address}
use Rattle.host_types.specs.Site.{Site}
use Rattle.host_types.specs.SiteState.{SiteState, HasRead}
use Rattle.site_replies.proofs.AfterReads.{still_honest}

one_picked : {X Y : Type 0} (o : Option Y) (h : X → Option Y) (x : X) → h x ≡ o → filter_map h (x ∷ []) ≡ option_to_list o
one_picked None h x is = rw is refl
one_picked (Some y) h x is = rw is refl

pub filter_map_push : {X Y : Type 0} (h : X → Option Y) (xs : List X) (x : X) → filter_map h (xs ++ x ∷ []) ≡ filter_map h xs ++ option_to_list (h x)
filter_map_push h xs x = filter_map-append h xs (x ∷ []) ∙ ap (λ l. filter_map h xs ++ l) (one_picked (h x) h x refl)

-- one more of what a site gives, as it was before the reads
pub picked_next : {X Y : Type 0} (a b : SiteState) (h : Site → X → Option Y) (xs front : List X) (x : X) (before after : List Y) (one : Option Y) →
    HasRead a b → IsTrue a.honest → before ≡ filter_map (h a.site) front → (IsTrue b.honest → one ≡ h b.site x) → after ≡ before ++ option_to_list one → xs ≡ front ++ x ∷ [] →
    after ≡ filter_map (h a.site) xs
picked_next a b h xs front x before after one kept honest so_far is with_one longer =
    let same : one ≡ h a.site x = is (still_honest a b kept honest) ∙ ap (λ s. h s x) (kept.site honest) in
    with_one
    ∙ ap (λ l. l ++ option_to_list one) so_far
    ∙ ap (λ o. filter_map (h a.site) front ++ option_to_list o) same
    ∙ sym (filter_map_push (h a.site) front x)
    ∙ ap (λ l. filter_map (h a.site) l) (sym longer)

one_line : (o : Option (List ℕ)) → flat_map (λ line. line) (option_to_list o) ≡ line_bytes o
one_line None = refl
one_line (Some line) = append-nil line

pub line_push : {X : Type 0} (h : X → Option (List ℕ)) (xs : List X) (x : X) → flat_map (λ line. line) (filter_map h (xs ++ x ∷ [])) ≡ flat_map (λ line. line) (filter_map h xs) ++ line_bytes (h x)
line_push h xs x =
    ap (flat_map (λ line. line)) (filter_map_push h xs x)
    ∙ flat_map-append (λ (line : List ℕ). line) (filter_map h xs) (option_to_list (h x))
    ∙ ap (λ l. flat_map (λ line. line) (filter_map h xs) ++ l) (one_line (h x))

-- one more line of what a site gives, as it was before the reads
pub line_next : {X : Type 0} (a b : SiteState) (h : Site → X → Option (List ℕ)) (xs front : List X) (x : X) (before after : List ℕ) →
    HasRead a b → IsTrue a.honest → before ≡ flat_map (λ line. line) (filter_map (h a.site) front) → (IsTrue b.honest → after ≡ before ++ line_bytes (h b.site x)) → xs ≡ front ++ x ∷ [] →
    after ≡ flat_map (λ line. line) (filter_map (h a.site) xs)
line_next a b h xs front x before after kept honest so_far is longer =
    is (still_honest a b kept honest)
    ∙ ap (λ l. l ++ line_bytes (h b.site x)) so_far
    ∙ ap (λ s. flat_map (λ line. line) (filter_map (h a.site) front) ++ line_bytes (h s x)) (kept.site honest)
    ∙ sym (line_push (h a.site) front x)
    ∙ ap (λ l. flat_map (λ line. line) (filter_map (h a.site) l)) (sym longer)

-- the fields of the site's address are the same after reads
pub still_fields : (a b : SiteState) (fields : List ℕ) (front : Address) → HasRead a b → IsTrue a.honest → fields ≡ address_fields front → (IsTrue a.honest → front ≡ address a.site) → fields ≡ address_fields (address b.site)
still_fields a b fields front kept honest is same = is ∙ ap address_fields (same honest) ∙ ap (λ (s : Site). address_fields (address s)) (sym (kept.site honest))
