-- Entries whose keys rise, and those of them that pass a test.
use Rattle.std.proofs.Common.{◌≡◌, ℕ, Bool, true, false, cond, List, [], ◌∷◌, Some, None, refl, ap, sym, subst, ◌∙◌}
use Rattle.std.specs.Prelude.{filter, fold}
use Rattle.std.specs.List.{AllByRecursion}
use Rattle.std.specs.BTreeMap.{is_at}
use Rattle.std.specs.FinMap.Entries.{below_all, is_sorted}
use Rattle.std.proofs.lemmas.Bool.{and_parts}
use Rattle.host_types.specs.Site.{byte_cmp}
use Rattle.site_records.specs.LayoutLaws.{is_at-Decides, not_at}
use Rattle.site_store.proofs.RisingKeys.{is_below, found, rest_of, clash, not_itself, same_key, found_below, all_left}

module _ {X : Type 0} where
  -- ---- their order

  below_kept : (p : List ℕ × X → Bool) (k : List ℕ) (es : List (List ℕ × X)) → below_all byte_cmp k es ≡ true → below_all byte_cmp k (filter p es) ≡ true
  below_kept p k [] below = refl
  below_kept p k (e ∷ es) below =
      let parts = and_parts (is_below k e.0) (below_all byte_cmp k es) below in
      let rest = below_kept p k es parts.1 in
      elim (p e) as (λ b. below_all byte_cmp k (cond b (e ∷ filter p es) (filter p es)) ≡ true) [
        | true ↦ rw (parts.0, rest) refl
        | false ↦ rest
      ]

  pub sorted_kept : (p : List ℕ × X → Bool) (es : List (List ℕ × X)) → is_sorted byte_cmp es ≡ true → is_sorted byte_cmp (filter p es) ≡ true
  sorted_kept p [] sorted = refl
  sorted_kept p (e ∷ es) sorted =
      let parts = and_parts (below_all byte_cmp e.0 es) (is_sorted byte_cmp es) sorted in
      let rest = sorted_kept p es parts.1 in
      elim (p e) as (λ b. is_sorted byte_cmp (cond b (e ∷ filter p es) (filter p es)) ≡ true) [
        | true ↦ rw (below_kept p e.0 es parts.0, rest) refl
        | false ↦ rest
      ]

  -- ---- what stands there

  -- what stands among those that pass stands among all, and passes
  pub kept_in : (p : List ℕ × X → Bool) (es : List (List ℕ × X)) (q : List ℕ) (x : X) → is_sorted byte_cmp es ≡ true → found (filter p es) q ≡ Some x → (found es q ≡ Some x) × (p (q, x) ≡ true)
  kept_in p [] q x sorted stands = absurd (cc stands)
  kept_in p (e ∷ es) q x sorted stands =
      let parts = and_parts (below_all byte_cmp e.0 es) (is_sorted byte_cmp es) sorted in
      elim (p e) as (λ b. p e ≡ b → found (cond b (e ∷ filter p es) (filter p es)) q ≡ Some x → (found (e ∷ es) q ≡ Some x) × (p (q, x) ≡ true)) [
        | true ↦ λ b here.
            elim (is_at (byte_cmp q) e.0) as (λ t. is_at (byte_cmp q) e.0 ≡ t → cond t (Some e.1) (found (filter p es) q) ≡ Some x → (cond t (Some e.1) (found es q) ≡ Some x) × (p (q, x) ≡ true)) [
              | true ↦ λ t some.
                  let key : q ≡ e.0 = (is_at-Decides q e.0).0 t in
                  let value : x ≡ e.1 = cc some in
                  (some, (λ i. p (key i, value i)) ∙ b)
              | false ↦ λ t more. kept_in p es q x parts.1 more
            ] refl here
        | false ↦ λ b more.
            let rest = kept_in p es q x parts.1 more in
            let over = found_below e.0 es q x parts.0 rest.0 in
            (ap (λ (t : Bool). cond t (Some e.1) (found es q)) (not_at q e.0 (λ same. clash (is_below e.0 q) over (ap (is_below e.0) same ∙ not_itself e.0))) ∙ rest.0, rest.1)
      ] refl stands

  -- what passes stands among those that do
  pub kept_there : (p : List ℕ × X → Bool) (es : List (List ℕ × X)) (q : List ℕ) (x : X) → found es q ≡ Some x → p (q, x) ≡ true → found (filter p es) q ≡ Some x
  kept_there p [] q x stands passes = absurd (cc stands)
  kept_there p (e ∷ es) q x stands passes =
      elim (is_at (byte_cmp q) e.0) as (λ t. is_at (byte_cmp q) e.0 ≡ t → cond t (Some e.1) (found es q) ≡ Some x → found (cond (p e) (e ∷ filter p es) (filter p es)) q ≡ Some x) [
        | true ↦ λ t some.
            let key : e.0 ≡ q = sym ((is_at-Decides q e.0).0 t) in
            let value : e.1 ≡ x = cc some in
            let here : p e ≡ true = (λ i. p (key i, value i)) ∙ passes in
            ap (λ (b : Bool). found (cond b (e ∷ filter p es) (filter p es)) q) here ∙ ap (λ (b : Bool). cond b (Some e.1) (found (filter p es) q)) t ∙ some
        | false ↦ λ t more.
            elim (p e) as (λ b. found (cond b (e ∷ filter p es) (filter p es)) q ≡ Some x) [
              | true ↦ ap (λ (b : Bool). cond b (Some e.1) (found (filter p es) q)) t ∙ kept_there p es q x more passes
              | false ↦ kept_there p es q x more passes
            ]
      ] refl stands

  -- ---- steps that pass over the others

  pub fold_kept : {A : Type 0} (f : A → List ℕ × X → A) (p : List ℕ × X → Bool) (es : List (List ℕ × X)) (a : A) → ((b : A) (e : List ℕ × X) → p e ≡ false → f b e ≡ b) → fold f a es ≡ fold f a (filter p es)
  fold_kept f p [] a stays = refl
  fold_kept {A} f p (e ∷ es) a stays =
      elim (p e) as (λ b. p e ≡ b → fold f (f a e) es ≡ fold f a (cond b (e ∷ filter p es) (filter p es))) [
        | true ↦ λ b. fold_kept f p es (f a e) stays
        | false ↦ λ b. ap (λ (c : A). fold f c es) (stays a e b) ∙ fold_kept f p es a stays
      ] refl

  -- ---- the first of those that aren't below a key

  -- none of them is below the key
  abbrev pub NoneBelow : List ℕ → List (List ℕ × X) → Type 0
  NoneBelow k es = AllByRecursion (λ e. is_below e.0 k ≡ false) es

  pub none_kept : (p : List ℕ × X → Bool) (k : List ℕ) (es : List (List ℕ × X)) → ((e : List ℕ × X) → p e ≡ true → is_below e.0 k ≡ false) → NoneBelow k (filter p es)
  none_kept p k [] each = tt
  none_kept p k (e ∷ es) each =
      elim (p e) as (λ b. p e ≡ b → NoneBelow k (cond b (e ∷ filter p es) (filter p es))) [
        | true ↦ λ b. (each e b, none_kept p k es each)
        | false ↦ λ b. none_kept p k es each
      ] refl

  -- where nothing stands at the key, all are above it
  pub all_above : (es : List (List ℕ × X)) (k : List ℕ) → NoneBelow k es → found es k ≡ None → rest_of es k ≡ es
  all_above [] k none stands = refl
  all_above (e ∷ es) k none stands =
      elim (is_at (byte_cmp k) e.0) as (λ t. is_at (byte_cmp k) e.0 ≡ t → cond t (Some e.1) (found es k) ≡ None → rest_of (e ∷ es) k ≡ e ∷ es) [
        | true ↦ λ t some. absurd (cc some)
        | false ↦ λ t more.
            elim (is_below k e.0) as (λ b. is_below k e.0 ≡ b → cond b (e ∷ rest_of es k) (rest_of es k) ≡ e ∷ es) [
              | true ↦ λ b. ap (λ (l : List (List ℕ × X)). e ∷ l) (all_above es k none.1 more)
              | false ↦ λ b. absurd (clash (is_at (byte_cmp k) e.0) ((is_at-Decides k e.0).1 (same_key k e.0 b none.0)) t)
            ] refl
      ] refl stands

  -- what stands at the key stands first
  pub first_there : (es : List (List ℕ × X)) (k : List ℕ) (x : X) → is_sorted byte_cmp es ≡ true → NoneBelow k es → found es k ≡ Some x → es ≡ (k, x) ∷ rest_of es k
  first_there [] k x sorted none stands = absurd (cc stands)
  first_there (e ∷ es) k x sorted none stands =
      let parts = and_parts (below_all byte_cmp e.0 es) (is_sorted byte_cmp es) sorted in
      elim (is_at (byte_cmp k) e.0) as (λ t. is_at (byte_cmp k) e.0 ≡ t → cond t (Some e.1) (found es k) ≡ Some x → e ∷ es ≡ (k, x) ∷ rest_of (e ∷ es) k) [
        | true ↦ λ t here.
            let key : e.0 ≡ k = sym ((is_at-Decides k e.0).0 t) in
            let value : e.1 ≡ x = cc here in
            let others : rest_of (e ∷ es) k ≡ es = ap (λ (b : Bool). cond b (e ∷ rest_of es k) (rest_of es k)) (ap (is_below k) key ∙ not_itself k) ∙ all_left es k (subst (λ (j : List ℕ). below_all byte_cmp j es ≡ true) key parts.0) in
            λ i. (key i, value i) ∷ sym others i
        | false ↦ λ t more. absurd (clash (is_below e.0 k) (found_below e.0 es k x parts.0 more) none.0)
      ] refl stands
