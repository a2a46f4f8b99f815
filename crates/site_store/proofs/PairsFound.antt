-- What a binary search finds among pairs whose keys rise.
use Rattle.std.proofs.Common.{◌≡◌, ℕ, zero, suc, ◌<◌, ◌≤◌, Bool, true, false, cond, List, [], ◌∷◌, length, map, Some, None, Result, Ok, Err, inl, inr, Ordering, refl, ap, sym, subst, ◌∙◌, arith}
use Rattle.std.specs.Prelude.{slice_index_or, MatchResult, Decides, bytes_eq}
use Rattle.std.specs.List.Sorted.{IsSearchInRange, IsBinarySearchResult, IsNonDecreasingBy}
use Rattle.std.specs.FinMap.Entries.{below_all, is_sorted}
use Rattle.std.specs.Ordering.{is_lt, is_eq, ordering_index, ordering_reverse}
use Rattle.std.specs.declared.cmp.Ordering.TheVariants.{Less, Equal, Greater}
use Rattle.std.proofs.lemmas.List.{get_or_default}
use Rattle.std.proofs.lemmas.Bool.{and_parts, cases_lt}
use Rattle.std.proofs.lemmas.Slice.Eq.{bytes_eq-Decides}
use Rattle.std.proofs.lemmas.Cmp.{nat_list_cmp_total}
use Rattle.host_types.specs.Site.{byte_cmp}
use Rattle.page_store.specs.Batch.{value_at}
use Rattle.page_store.specs.Keys.{precedes, rises}
use Rattle.page_store.specs.Pages.{Pair, key_of}
use Rattle.site_records.specs.LayoutLaws.{is_at-Decides, at_itself, not_at}
use Rattle.site_store.specs.Opening.{IsPlaceOf}
use Rattle.site_store.proofs.RisingKeys.{is_below, less, below_trans, below_later_all, not_itself, clash}

-- ---- keys that rise, by neighbours and by all later ones

above_sorted : (k : List ℕ) (ps : List Pair) → rises (k ∷ map key_of ps) ≡ true → (below_all byte_cmp k ps ≡ true) × (is_sorted byte_cmp ps ≡ true)
above_sorted k [] h = (refl, refl)
above_sorted k (p ∷ ps) h =
    let parts = and_parts (precedes k p.0) (rises (p.0 ∷ map key_of ps)) h in
    let rest = above_sorted p.0 ps parts.1 in
    (rw (parts.0, below_later_all ps k p.0 parts.0 rest.0) refl, rw (rest.0, rest.1) refl)

pub rises_sorted : (ps : List Pair) → rises (map key_of ps) ≡ true → is_sorted byte_cmp ps ≡ true
rises_sorted [] h = refl
rises_sorted (p ∷ ps) h = let rest = above_sorted p.0 ps h in rw (rest.0, rest.1) refl

above_rises : (k : List ℕ) (ps : List Pair) → below_all byte_cmp k ps ≡ true → is_sorted byte_cmp ps ≡ true → rises (k ∷ map key_of ps) ≡ true
above_rises k [] below sorted = refl
above_rises k (p ∷ ps) below sorted =
    let first = and_parts (is_lt (byte_cmp k p.0)) (below_all byte_cmp k ps) below in
    let rest = and_parts (below_all byte_cmp p.0 ps) (is_sorted byte_cmp ps) sorted in
    rw (first.0, above_rises p.0 ps rest.0 rest.1) refl

pub sorted_rises : (ps : List Pair) → is_sorted byte_cmp ps ≡ true → rises (map key_of ps) ≡ true
sorted_rises [] sorted = refl
sorted_rises (p ∷ ps) sorted =
    let rest = and_parts (below_all byte_cmp p.0 ps) (is_sorted byte_cmp ps) sorted in
    above_rises p.0 ps rest.0 rest.1

-- ---- places

below_place : (k : List ℕ) (ps : List Pair) (n : ℕ) (d : Pair) → below_all byte_cmp k ps ≡ true → n < length ps → is_below k (slice_index_or ps n d).0 ≡ true
below_place k [] n d below room = absurd (omega (arith, room))
below_place k (p ∷ ps) zero d below room = (and_parts (is_below k p.0) (below_all byte_cmp k ps) below).0
below_place k (p ∷ ps) (suc n) d below room = below_place k ps n d (and_parts (is_below k p.0) (below_all byte_cmp k ps) below).1 (omega (arith, room))

-- what is at a place stands at its key
at_place : (ps : List Pair) (n : ℕ) (d : Pair) → is_sorted byte_cmp ps ≡ true → n < length ps → value_at ps (slice_index_or ps n d).0 ≡ Some (slice_index_or ps n d).1
at_place [] n d sorted room = absurd (omega (arith, room))
at_place (p ∷ ps) zero d sorted room = ap (λ (b : Bool). cond b (Some p.1) (value_at ps p.0)) (at_itself p.0)
at_place (p ∷ ps) (suc n) d sorted room =
    let parts = and_parts (below_all byte_cmp p.0 ps) (is_sorted byte_cmp ps) sorted in
    let q = slice_index_or ps n d in
    let above = below_place p.0 ps n d parts.0 (omega (arith, room)) in
    ap (λ (b : Bool). cond b (Some p.1) (value_at ps q.0)) (not_at q.0 p.0 (λ same. clash (is_below p.0 q.0) above (ap (is_below p.0) same ∙ not_itself p.0)))
    ∙ at_place ps n d parts.1 (omega (arith, room))

-- what a search answers of a key
abbrev pub IsFound : List ℕ → List Pair → Result ℕ ℕ → Type 0
IsFound key ps r = MatchResult r (λ n. (d : Pair) → value_at ps key ≡ Some (slice_index_or ps n d).1) (λ n. value_at ps key ≡ None)

module _ (key : List ℕ) where
  greater : (b : List ℕ) → is_below key b ≡ true → byte_cmp b key ≡ Greater
  greater b h = nat_list_cmp_total.antisymm b key ∙ ap ordering_reverse (less key b h)

  lower : (a b : List ℕ) → is_below a b ≡ true → ordering_index (byte_cmp a key) ≤ ordering_index (byte_cmp b key)
  lower a b h = by (byte_cmp a key) refl
    where
      at_most : (o : Ordering) → ordering_index o ≤ 2
      at_most Less = omega arith
      at_most Equal = omega arith
      at_most Greater = omega arith

      by : (o : Ordering) → byte_cmp a key ≡ o → ordering_index o ≤ ordering_index (byte_cmp b key)
      by Less e = omega arith
      by Equal e =
          let same : a ≡ key = (is_at-Decides a key).0 (ap is_eq e) in
          rw (greater b (subst (λ (x : List ℕ). is_below x b ≡ true) same h)) (omega arith)
      by Greater e =
          let below : is_below key a ≡ true = ap is_lt (nat_list_cmp_total.antisymm key a ∙ ap ordering_reverse e) in
          rw (greater b (below_trans key a b below h)) (omega arith)

  rising : (ps : List Pair) → is_sorted byte_cmp ps ≡ true → IsNonDecreasingBy (λ p. ordering_index (byte_cmp p.0 key)) ps
  rising [] sorted i j d le room = absurd (omega (arith, room))
  rising (p ∷ ps) sorted zero zero d le room = omega arith
  rising (p ∷ ps) sorted zero (suc j) d le room = lower p.0 (slice_index_or ps j d).0 (below_place p.0 ps j d (and_parts (below_all byte_cmp p.0 ps) (is_sorted byte_cmp ps) sorted).0 (omega (arith, room)))
  rising (p ∷ ps) sorted (suc i) zero d le room = absurd (omega (arith, le))
  rising (p ∷ ps) sorted (suc i) (suc j) d le room = rising ps (and_parts (below_all byte_cmp p.0 ps) (is_sorted byte_cmp ps) sorted).1 i j d (omega (arith, le)) (omega (arith, room))

  -- where no key is this one, nothing stands at it
  none_at : (ps : List Pair) → ((n : ℕ) (d : Pair) → n < length ps → is_eq (byte_cmp (slice_index_or ps n d).0 key) ≡ false) → value_at ps key ≡ None
  none_at [] other = refl
  none_at (p ∷ ps) other =
      ap (λ (b : Bool). cond b (Some p.1) (value_at ps key)) (not_at key p.0 (λ same. clash (is_eq (byte_cmp p.0 key)) ((is_at-Decides p.0 key).1 (sym same)) (other 0 p (omega arith))))
      ∙ none_at ps (λ n d room. other (suc n) d (omega (arith, room)))

  pub searched : (ps : List Pair) (r : Result ℕ ℕ) → rises (map key_of ps) ≡ true → IsSearchInRange r (length ps) → IsBinarySearchResult (λ p. byte_cmp p.0 key) ps r → IsFound key ps r
  searched ps (Ok n) rise room equal = λ d.
      let p = slice_index_or ps n d in
      let same : p.0 ≡ key = (is_at-Decides p.0 key).0 (ap is_eq (equal d)) in
      ap (value_at ps) (sym same) ∙ at_place ps n d (rises_sorted ps rise) room
  searched ps (Err n) rise room parted =
      let sides = parted (rising ps (rises_sorted ps rise)) in
      none_at ps (λ k d less. elim (cases_lt k n) [
        | inl before ↦ ap is_eq (sides.0 k d (omega arith) before)
        | inr behind ↦ ap is_eq (sides.1 k d (omega (arith, behind)) less)
      ])

-- ---- the place of a key

pub found_place : (key : List ℕ) (ps : List Pair) (r : Result ℕ ℕ) (n : ℕ) → r ≡ Ok n → IsSearchInRange r (length ps) → IsFound key ps r → IsPlaceOf ps key (Some n)
found_place key ps r n is room found = (subst (λ x. IsSearchInRange x (length ps)) is room, subst (IsFound key ps) is found)

pub no_place : (key : List ℕ) (ps : List Pair) (r : Result ℕ ℕ) (n : ℕ) → r ≡ Err n → IsFound key ps r → IsPlaceOf ps key None
no_place key ps r n is found = subst (IsFound key ps) is found

pub likely_place : (key : List ℕ) (ps : List Pair) (n : ℕ) (p : Pair) → rises (map key_of ps) ≡ true → n < length ps → p ≡ slice_index_or ps n p → p.0 ≡ key → IsPlaceOf ps key (Some n)
likely_place key ps n p rise room here same =
    let at : (d : Pair) → slice_index_or ps n d ≡ p = λ d. get_or_default ps n d p room ∙ sym here in
    (room, λ d. subst (λ k. value_at ps k ≡ Some (slice_index_or ps n d).1) (ap key_of (at d) ∙ same) (at_place ps n d (rises_sorted ps rise) room))

-- ---- what is answered

some_same : (v w : List ℕ) → Some v ≡ Some w → v ≡ w
some_same v w e = cc e

some_none : (v : List ℕ) → Some v ≡ None → ⊥
some_none v e = cc e

pub placed_value : (key : List ℕ) (ps : List Pair) (n : ℕ) (p : Pair) (value : List ℕ) (b : Bool) → IsPlaceOf ps key (Some n) → p ≡ slice_index_or ps n p → b ≡ bytes_eq p.1 value → Decides b (value_at ps key ≡ Some value)
placed_value key ps n p value b place here same =
    let value_is : value_at ps key ≡ Some p.1 = place.1 p ∙ ap (λ (q : Pair). Some q.1) (sym here) in
    let decides = bytes_eq-Decides p.1 value in (
      λ t. value_is ∙ ap (λ (x : List ℕ). Some x) (decides.0 (sym same ∙ t)),
      λ e. same ∙ decides.1 (some_same p.1 value (sym value_is ∙ e)),
    )

pub no_value : (key : List ℕ) (ps : List Pair) (value : List ℕ) → IsPlaceOf ps key None → Decides false (value_at ps key ≡ Some value)
no_value key ps value none =
    (λ t. absurd (let e : false ≡ true = t in cc e), λ e. absurd (some_none value (sym e ∙ none)))
