-- Items that are found one by one are the first of those that are found.
use Rattle.std.proofs.Common.{◌≡◌, ℕ, zero, suc, ◌<◌, Bool, true, false, cond, List, [], ◌∷◌, ◌++◌, length, take, arith, ap, sym, ◌∙◌, inl, inr, refl}
use Rattle.std.specs.Prelude.{IsTrue, Option, Some, None, not, ◌&&◌, nat_lt, map, filter, filter_map, fold, if◌then◌else◌}
use Rattle.std.specs.List.{AllByRecursion, cons_option}
use Rattle.std.specs.Option.{option_map}
use Rattle.std.proofs.lemmas.Bool.{cases_Bool, cases_lt, le-ltb, lt-ltb}
use Rattle.std.proofs.lemmas.List.{append-nil, append_assoc, length-append, length-take-le, take_all, take-append-le}
use Rattle.std.proofs.lemmas.List.Elements.{filter-append}
use Rattle.host_types.specs.declared.item.Item.{Item}
use Rattle.std.specs.FinMap.{is_sorted}
use Rattle.host_types.specs.Card.{card_of}
use Rattle.host_types.specs.Fronts.{front_of}
use Rattle.host_types.specs.Site.{Site, byte_cmp, item_at}
use Rattle.host_types.specs.Visible.{is_over, is_fresh, visible, unless_expired, item_at-visible, visible_items-fresh}
use Rattle.host_types.specs.Words.{words_in}
use Rattle.mem_site.proofs.WholeSites.{all_stand}
use Rattle.word_search.specs.Finds.{find_by, find_of, find_at, finds_of}
use Rattle.word_search.specs.Search.{is_found, search_of}
use Rattle.word_search.specs.Gathered.{is_sought, searched_at}
use Rattle.word_search.specs.declared.find.Find.{Find}

abbrev Entries : Type 0
Entries = List (List ℕ × Item)

-- what is found where some items are
abbrev finds : Entries → List Find
finds es = map find_of es

finds_append : (es fs : Entries) → finds (es ++ fs) ≡ finds es ++ finds fs
finds_append [] fs = refl
finds_append (e ∷ es) fs = ap (λ l. find_of e ∷ l) (finds_append es fs)

finds_length : (es : Entries) → length (finds es) ≡ length es
finds_length [] = refl
finds_length (e ∷ es) = ap suc (finds_length es)

within : (es : Entries) (e : List ℕ × Item) → length es < 100 → take 100 (es ++ e ∷ []) ≡ es ++ e ∷ []
within es e few = take_all 100 (es ++ e ∷ []) (omega (arith, few, length-append es (e ∷ [])))

left : (b : Bool) (l : List Find) (e : List ℕ × Item) → (if b && false then l ++ find_of e ∷ [] else l) ≡ l
left true l e = refl
left false l e = refl

one_more : (now : ℕ) (scope : List ℕ) (asked : List (List ℕ)) (es : Entries) (e : List ℕ × Item) →
    searched_at now scope asked (finds (take 100 es)) e ≡ finds (take 100 (es ++ filter (is_sought now scope asked) (e ∷ [])))
unfolding searched_at
one_more now scope asked es e =
    elim (cases_Bool (is_sought now scope asked e)) [
      | inl found ↦ elim (cases_lt (length es) 100) [
        | inl few ↦
            let whole : take 100 es ≡ es = take_all 100 es (omega (arith, few)) in
            let room : nat_lt (length (finds es)) 100 ≡ true = lt-ltb (length (finds es)) 100 (omega (arith, few, finds_length es)) in
            rw (whole, found) (rw room (sym (finds_append es (e ∷ [])) ∙ ap finds (sym (within es e few))))
        | inr many ↦
            let size : length (finds (take 100 es)) ≡ 100 = finds_length (take 100 es) ∙ length-take-le 100 es many in
            let no_room : nat_lt (length (finds (take 100 es))) 100 ≡ false = le-ltb (length (finds (take 100 es))) 100 (omega (arith, size)) in
            rw (no_room, found) (ap finds (sym (take-append-le 100 es (e ∷ []) many)))
      ]
      | inr other ↦ rw other (left (nat_lt (length (finds (take 100 es))) 100) (finds (take 100 es)) e ∙ ap (λ l. finds (take 100 l)) (sym (append-nil es)))
    ]

all_more : (now : ℕ) (scope : List ℕ) (asked : List (List ℕ)) (es fs : Entries) →
    fold (searched_at now scope asked) (finds (take 100 es)) fs ≡ finds (take 100 (es ++ filter (is_sought now scope asked) fs))
all_more now scope asked es [] = ap (λ l. finds (take 100 l)) (sym (append-nil es))
all_more now scope asked es (e ∷ fs) =
    ap (λ l. fold (searched_at now scope asked) l fs) (one_more now scope asked es e)
    ∙ all_more now scope asked (es ++ filter (is_sought now scope asked) (e ∷ [])) fs
    ∙ ap (λ l. finds (take 100 l)) (append_assoc es (filter (is_sought now scope asked) (e ∷ [])) (filter (is_sought now scope asked) fs) ∙ ap (λ l. es ++ l) (sym (filter-append (is_sought now scope asked) (e ∷ []) fs)))

found_sought : (now : ℕ) (scope : List ℕ) (asked : List (List ℕ)) (es : Entries) → fold (searched_at now scope asked) [] es ≡ map find_of (take 100 (filter (is_sought now scope asked) es))
found_sought now scope asked es = all_more now scope asked [] es

and_true : (b : Bool) → (b && true) ≡ b
and_true true = refl
and_true false = refl

and_false : (b : Bool) → (b && false) ≡ false
and_false true = refl
and_false false = refl

-- those that pass both tests are those that pass the first of those that pass the second
both_tests : (a b : List ℕ × Item → Bool) (es : Entries) → filter (λ e. b e && a e) es ≡ filter b (filter a es)
both_tests a b [] = refl
both_tests a b (e ∷ es) =
    let both : Entries = filter (λ e. b e && a e) es in
    elim (a e) as (λ t. cond (b e && t) (e ∷ both) both ≡ filter b (cond t (e ∷ filter a es) (filter a es))) [
      | true ↦ ap (λ t. cond t (e ∷ both) both) (and_true (b e)) ∙ ap (λ (l : Entries). cond (b e) (e ∷ l) l) (both_tests a b es)
      | false ↦ ap (λ t. cond t (e ∷ both) both) (and_false (b e)) ∙ both_tests a b es
    ]

pub found_all : (now : ℕ) (scope : List ℕ) (asked : List (List ℕ)) (es : Entries) → fold (searched_at now scope asked) [] es ≡ map find_of (take 100 (filter (is_found scope asked) (filter (is_fresh now) es)))
found_all now scope asked es = found_sought now scope asked es ∙ ap (λ l. finds (take 100 l)) (both_tests (is_fresh now) (is_found scope asked) es)

-- ---- what is found where each item is what stands at its selector

-- each item is what stands at its selector
abbrev AllStand : Site → Entries → Type 0
AllStand s es = AllByRecursion (λ e. item_at s e.0 ≡ Some e.1) es

stand_still : (s : Site) (now : ℕ) (es : Entries) → AllStand s es → AllStand (visible s now) (filter (is_fresh now) es)
stand_still s now [] all = tt
stand_still s now (e ∷ es) all =
    let rest = stand_still s now es all.1 in
    elim (is_over e.1.until now) as (λ b. is_over e.1.until now ≡ b → AllStand (visible s now) (cond (not b) (e ∷ filter (is_fresh now) es) (filter (is_fresh now) es))) [
      | true ↦ λ b. rest
      | false ↦ λ b. (item_at-visible s now e.0 ∙ ap (λ (o : Option Item). unless_expired o now) all.0 ∙ ap (λ (t : Bool). cond t None (Some e.1)) b, rest)
    ] refl

stand_kept : (s : Site) (p : List ℕ × Item → Bool) (es : Entries) → AllStand s es → AllStand s (filter p es)
stand_kept s p [] all = tt
stand_kept s p (e ∷ es) all =
    let rest = stand_kept s p es all.1 in
    elim (p e) as (λ b. AllStand s (cond b (e ∷ filter p es) (filter p es))) [ true ↦ (all.0, rest) | false ↦ rest ]

stand_first : (s : Site) (n : ℕ) (es : Entries) → AllStand s es → AllStand s (take n es)
stand_first s zero es all = tt
stand_first s (suc n) [] all = tt
stand_first s (suc n) (e ∷ es) all = (all.0, stand_first s n es all.1)

-- so what is found of them is what stands there
found_there : (s : Site) (es : Entries) → AllStand s es → finds es ≡ filter_map (find_at s) (map (λ e. e.0) es)
found_there s [] all = refl
found_there s (e ∷ es) all =
    let here : find_at s e.0 ≡ Some (find_of e) = ap (λ (o : Option Item). option_map (find_by e.0) (option_map front_of (option_map card_of o))) all.0 in
    ap (λ (l : List Find). find_of e ∷ l) (found_there s es all.1)
    ∙ ap (λ (o : Option Find). cons_option o (filter_map (find_at s) (map (λ e. e.0) es))) (sym here)

-- what is found of a site at a moment, item by item
pub search_at : (s : Site) (now : ℕ) (scope query : List ℕ) → IsTrue (is_sorted byte_cmp s.items) → map find_of (take 100 (filter (is_found scope (words_in query)) (filter (is_fresh now) s.items))) ≡ finds_of (visible s now) scope query
unfolding search_of finds_of
search_at s now scope query sorted =
    let all = all_stand s.items sorted in
    let p = is_found scope (words_in query) in
    let there = stand_first (visible s now) 100 (filter p (filter (is_fresh now) s.items)) (stand_kept (visible s now) p (filter (is_fresh now) s.items) (stand_still s now s.items all)) in
    found_there (visible s now) (take 100 (filter p (filter (is_fresh now) s.items))) there
    ∙ ap (λ (l : Entries). filter_map (find_at (visible s now)) (map (λ e. e.0) (take 100 (filter p l)))) (sym (visible_items-fresh s now all))
