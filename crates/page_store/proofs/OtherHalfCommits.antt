-- A commit to the other half may be done, and what stands after it.
use Rattle.std.proofs.Common.{◌≡◌, ◌⊎◌, inl, inr, ⊎_elim, ℕ, zero, suc, ◌+◌, ◌-◌, ◌*◌, ◌^◌, ◌<◌, ◌≤◌, Bool, true, false, List, [], ◌∷◌, length, map, Option, Some, None, refl, sym, ap, subst, ◌∙◌, arith, IsTrue, eq-eqb}
use Rattle.std.specs.Prelude.{nat_lt, ◌==◌, ◌&&◌, ◌||◌}
use Rattle.std.specs.List.{list_all}
use Rattle.std.proofs.lemmas.Bool.{cases_Bool, cases_lt, lt-ltb, eqb-true, eqb-false, ltb-true, ltb-false}
use Rattle.page_store.specs.Reading.{where_true}
use Rattle.page_store.specs.Sectors.{Image, sector, page_of}
use Rattle.page_store.specs.Roots.{seal_of, slot_of, current, greatest_seal, greater, seal_or_zero}
use Rattle.page_store.specs.Keys.{rises}
use Rattle.page_store.specs.Pages.{Pair, key_of}
use Rattle.page_store.specs.Flat.{half_size, is_half, numbers_from, flat_walk, entry_size}
use Rattle.page_store.specs.Content.{Found, is_among, content, content_under, flat_found, found_as}
use Rattle.page_store.specs.Encoding.{flat_pages, flat_bytes, by_pages}
use Rattle.page_store.specs.Batch.{is_map, is_pair}
use Rattle.page_store.specs.Commit.{numbers, put_page, patched, Commit, IsReady}
use Rattle.page_store.specs.FlatState.{found_in_half, other_half, new_root, new_slot, flat_commit}
use Rattle.page_store.specs.declared.banner.Banner.{Banner}
use Rattle.page_store.specs.declared.commit.NewPage.{NewPage}
use Rattle.page_store.specs.declared.slot.Root.{Root}
use Rattle.page_store.specs.declared.slot.Slot.{Slot}
use Rattle.page_store.proofs.Fields.{bind_again}
use Rattle.page_store.proofs.CommitImages.{both_true, from_first}
use Rattle.page_store.proofs.Switches.{shared_each, slot_shares}
use Rattle.page_store.proofs.Commits.{put_here, put_else}
use Rattle.page_store.proofs.Phases.{content-parts, current_cases, not_there}
use Rattle.page_store.proofs.DecodedPages.{ImageHas, Begins, walk_again}

-- ---- seals

pub greatest_ge : (image : Image) (m n seal : ℕ) → n < m → seal_of n (sector image n) ≡ Some seal → seal ≤ greatest_seal image m
unfolding greatest_seal
greatest_ge image zero n seal lt e = absurd (omega arith)
greatest_ge image (suc m) n seal lt e =
    let here = seal_or_zero (seal_of m (sector image m)) in
    let below = greatest_seal image m in
    ⊎_elim (λ (less : n < m). let ih = greatest_ge image m n seal less e in greater_left below here seal ih)
    (λ (ge : m ≤ n). let is : n ≡ m = omega (arith, ge, lt) in greater_right below here seal (let s : seal_of m (sector image m) ≡ Some seal = subst (λ (k : ℕ). seal_of k (sector image k) ≡ Some seal) is e in let v : here ≡ seal = ap seal_or_zero s in omega (arith, v)))
    (cases_lt n m)
  where
    greater_left : (a b x : ℕ) → x ≤ a → x ≤ greater a b
    greater_left a b x le = elim (cases_Bool (nat_lt a b)) [ inl t ↦ let lt = ltb-true a b t in rw t (omega (arith, lt, le)) | inr f ↦ rw f le ]

    greater_right : (a b x : ℕ) → x ≤ b → x ≤ greater a b
    greater_right a b x le = elim (cases_Bool (nat_lt a b)) [ inl t ↦ rw t le | inr f ↦ let ge = ltb-false a b f in rw f (omega (arith, ge, le)) ]

pub greatest_le : (image : Image) (m bound : ℕ) → ((n seal : ℕ) → n < m → seal_of n (sector image n) ≡ Some seal → seal ≤ bound) → greatest_seal image m ≤ bound
unfolding greatest_seal
greatest_le image zero bound h = omega arith
greatest_le image (suc m) bound h =
    let below = greatest_le image m bound (λ n seal lt e. h n seal (omega arith) e) in
    both (greatest_seal image m) (seal_or_zero (seal_of m (sector image m))) below (here (seal_of m (sector image m)) (λ seal e. h m seal (omega arith) e))
  where
    here : (o : Option ℕ) → ((seal : ℕ) → o ≡ Some seal → seal ≤ bound) → seal_or_zero o ≤ bound
    here None g = omega arith
    here (Some seal) g = g seal refl

    both : (a b : ℕ) → a ≤ bound → b ≤ bound → greater a b ≤ bound
    both a b le le2 = elim (cases_Bool (nat_lt a b)) [ inl t ↦ rw t le2 | inr f ↦ rw f le ]

pub slot_of_current : (a : Image) (slot : Slot) → current a ≡ Some slot → (slot.number < 2) × (slot_of a slot.number ≡ Some slot)
slot_of_current a slot now =
    ⊎_elim (λ (h : (slot.number ≡ 0) × (slot_of a 0 ≡ Some slot)). let n = h.0 in (omega (arith, n), subst (λ (k : ℕ). slot_of a k ≡ Some slot) (sym n) h.1))
    (λ (h : (slot.number ≡ 1) × (slot_of a 1 ≡ Some slot)). let n = h.0 in (omega (arith, n), subst (λ (k : ℕ). slot_of a k ≡ Some slot) (sym n) h.1)) (current_cases a slot now)

pub current_le : (a : Image) (slot : Slot) → current a ≡ Some slot → slot.seal ≤ greatest_seal a 16
current_le a slot now =
    let at = slot_of_current a slot now in
    let shares = slot_shares (length a) a slot.number slot at.1 in
    let lt = at.0 in
    greatest_ge a 16 (8 * slot.number + 0) slot.seal (omega (arith, lt)) (shared_each a 8 (8 * slot.number) slot.seal shares 0 (omega arith))

-- ---- pages

pub numbers_flat : (seal first : ℕ) (groups : List (List Pair)) → numbers (flat_pages seal first groups) ≡ numbers_from first (length groups)
numbers_flat seal first [] = refl
numbers_flat seal first (group ∷ groups) = ap (λ (l : List ℕ). first ∷ l) (numbers_flat seal (suc first) groups)

patched_else : (pages : List NewPage) (old : ℕ → List ℕ) (n : ℕ) → is_among n (numbers pages) ≡ false → patched pages old n ≡ old n
patched_else [] old n h = refl
patched_else (page ∷ pages) old n h =
    let both = both_false (n == page.number) (is_among n (numbers pages)) h in
    patched_else pages (put_page page old) n both.1 ∙ put_else page old n (eqb-false n page.number both.0)
  where
    both_false : (a b : Bool) → (a || b) ≡ false → (a ≡ false) × (b ≡ false)
    both_false true b h = absurd cc
    both_false false b h = (refl, h)

pub before_first : (n first count : ℕ) → n < first → is_among n (numbers_from first count) ≡ false
before_first n first count lt = not_there n (numbers_from first count) (λ t. let at = from_first first count n t in absurd (omega (arith, at.0, lt)))

pub patched_holds : (old : ℕ → List ℕ) (seal first : ℕ) (groups : List (List Pair)) → ImageHas (patched (flat_pages seal first groups) old) (flat_pages seal first groups)
patched_holds old seal first [] = tt
patched_holds old seal first (group ∷ groups) =
    let page : NewPage = record { number = first; bytes = flat_bytes seal first group } in
    let later : is_among first (numbers (flat_pages seal (suc first) groups)) ≡ false = ap (is_among first) (numbers_flat seal (suc first) groups) ∙ before_first first (suc first) (length groups) (omega arith) in
    (patched_else (flat_pages seal (suc first) groups) (put_page page old) first later ∙ put_here page old first refl, patched_holds (put_page page old) seal (suc first) groups)

-- ---- halves

either_half : (root : Root) → is_half root ≡ true → ((root.tree ≡ 2) × (other_half root ≡ 2 + half_size root.pages)) ⊎ ((root.tree ≡ 2 + half_size root.pages) × (other_half root ≡ 2))
either_half root h =
    let a = both_true (root.height == 0) (root.tree == 2 || root.tree == 2 + half_size root.pages) h in
    elim (cases_Bool (root.tree == 2)) [
      | inl t ↦ inl (eqb-true root.tree 2 t, rw t refl)
      | inr f ↦ inr (eqb-true root.tree (2 + half_size root.pages) (second (root.tree == 2) (root.tree == 2 + half_size root.pages) f a.1), rw f refl)
    ]
  where
    second : (a b : Bool) → a ≡ false → (a || b) ≡ true → b ≡ true
    second true b f h = absurd (cc f)
    second false b f h = h

pub other_is_half : (root : Root) (pairs : List Pair) (banner : Banner) → is_half root ≡ true → is_half (new_root root pairs banner) ≡ true
other_is_half root pairs banner h =
    ⊎_elim (λ (x : (root.tree ≡ 2) × (other_half root ≡ 2 + half_size root.pages)). second (other_half root) (2 + half_size root.pages) x.1)
    (λ (x : (root.tree ≡ 2 + half_size root.pages) × (other_half root ≡ 2)). first (other_half root) (2 + half_size root.pages) x.1) (either_half root h)
  where
    first : (n m : ℕ) → n ≡ 2 → (n == 2 || n == m) ≡ true
    first n m is = rw (eq-eqb n 2 is) refl

    second : (n m : ℕ) → n ≡ m → (n == 2 || n == m) ≡ true
    second n m is = rw (eq-eqb n m is) (or_true (n == 2))
      where
        or_true : (b : Bool) → (b || true) ≡ true
        or_true true = refl
        or_true false = refl

-- where the other half lies
pub other_bounds : (root : Root) → is_half root ≡ true → 16 ≤ root.pages → (2 ≤ other_half root) × (other_half root + half_size root.pages ≤ root.pages)
other_bounds root h least =
    ⊎_elim (λ (x : (root.tree ≡ 2) × (other_half root ≡ 2 + half_size root.pages)). let e = x.1 in (omega (arith, e), omega (arith, e, least)))
    (λ (x : (root.tree ≡ 2 + half_size root.pages) × (other_half root ≡ 2)). let e = x.1 in (omega (arith, e), omega (arith, e, least))) (either_half root h)

apart : (root : Root) (n k : ℕ) → is_half root ≡ true → k ≤ half_size root.pages → IsTrue (is_among n (numbers_from (other_half root) k)) → is_among n (numbers_from root.tree (half_size root.pages)) ≡ false
apart root n k h le t =
    let at = from_first (other_half root) k n t in
    not_there n (numbers_from root.tree (half_size root.pages)) (λ u. let here = from_first root.tree (half_size root.pages) n u in
    ⊎_elim (λ (x : (root.tree ≡ 2) × (other_half root ≡ 2 + half_size root.pages)). absurd (omega (arith, x.0, x.1, at.0, at.1, here.0, here.1, le)))
    (λ (x : (root.tree ≡ 2 + half_size root.pages) × (other_half root ≡ 2)). absurd (omega (arith, x.0, x.1, at.0, at.1, here.0, here.1, le))) (either_half root h))

-- ---- the content that a commit writes

begins : (pairs : List Pair) → Begins 0 pairs
begins [] = inl refl
begins (pair ∷ pairs) = inr (over (entry_size pair) (omega arith))
  where
    over : (n : ℕ) → 0 < n → nat_lt 0 n ≡ true
    over n lt = lt-ltb 0 n lt

test_both : (slot : Slot) (pairs : List Pair) (x : Option Found) → is_half slot.root ≡ true → is_map pairs ≡ true → where_true (is_half slot.root && is_map pairs) x ≡ x
test_both slot pairs x a b = pass (is_half slot.root) (is_map pairs) a b
  where
    pass : (p q : Bool) → p ≡ true → q ≡ true → where_true (p && q) x ≡ x
    pass true true a b = refl
    pass true false a b = absurd (cc b)
    pass false q a b = absurd (cc a)

pub written_found : (slot : Slot) (bytes : ℕ → List ℕ) (pairs : List Pair) → slot.root.banner.version ≡ 0 → is_half slot.root ≡ true → is_map pairs ≡ true → slot.seal < 2 ^ 64 → slot.root.tree + half_size slot.root.pages ≤ 2 ^ 32 → slot.root.keys ≡ length pairs
    → length (by_pages pairs) ≤ half_size slot.root.pages → ImageHas bytes (flat_pages slot.seal slot.root.tree (by_pages pairs)) → content_under slot bytes ≡ Some (found_in_half slot pairs)
unfolding content_under flat_found
written_found slot bytes pairs version half map_is seal low keys fits holds =
    let both = both_true (rises (map key_of pairs)) (list_all is_pair pairs) map_is in
    let half_pages = half_size slot.root.pages in
    let walk : flat_walk bytes slot.seal half_pages slot.root.tree 0 slot.root.keys ≡ Some pairs =
    ap (flat_walk bytes slot.seal half_pages slot.root.tree 0) keys ∙ walk_again bytes slot.seal half_pages slot.root.tree 0 (length pairs) pairs seal low both.1 (omega arith) fits (begins pairs) holds in
    let flat : flat_found slot bytes ≡ Some (found_in_half slot pairs) =
    bind_again (flat_walk bytes slot.seal half_pages slot.root.tree 0 slot.root.keys) (λ ps. where_true (is_half slot.root && is_map ps) (Some (found_in_half slot ps))) pairs (Some (found_in_half slot pairs)) walk (test_both slot pairs (Some (found_in_half slot pairs)) half map_is) in
    ap (λ (v : ℕ). found_as v slot bytes) version ∙ flat

pub ready : (a : Image) (slot : Slot) (pairs now : List Pair) (top seal : ℕ) (banner : Banner) → content a ≡ Some (slot, found_in_half slot pairs) → greatest_seal a 16 ≤ top → seal ≡ top + 1 → seal < 2 ^ 64
    → slot.number < 2 → is_half slot.root ≡ true → 16 ≤ slot.root.pages → slot.root.pages ≤ 65536 → is_map now ≡ true → banner.version ≡ 0 → length (by_pages now) ≤ half_size slot.root.pages
    → IsReady (flat_commit slot pairs seal now banner) (flat_pages seal (other_half slot.root) (by_pages now)) a
ready a slot pairs now top seal banner holds seals next small number half least most map_is version fits =
    let pages = flat_pages seal (other_half slot.root) (by_pages now) in
    let bounds = other_bounds slot.root half least in
    let parts = content-parts a slot (found_in_half slot pairs) holds in
    let old = current_le a slot parts.0 in
    let named = numbers_flat seal (other_half slot.root) (by_pages now) in
    record {
      content = holds;
      free = λ n t.
          let u : IsTrue (is_among n (numbers_from (other_half slot.root) (length (by_pages now)))) = subst (λ (l : List ℕ). IsTrue (is_among n l)) named t in
          let at = from_first (other_half slot.root) (length (by_pages now)) n u in
          (omega (arith, at.0, bounds.0), apart slot.root n (length (by_pages now)) half fits u);
      number = refl;
      seal = omega (arith, old, seals, next);
      above = record { each = λ k old_seal lt e. let le = greatest_ge a 16 (8 * (1 - slot.number) + k) old_seal (omega (arith, number, lt)) e in omega (arith, le, seals, next) };
      under = written_found (new_slot slot seal now banner) (patched pages (page_of a)) now version (other_is_half slot.root now banner half) map_is small (omega (arith, bounds.1, most)) refl fits
          (patched_holds (page_of a) seal (other_half slot.root) (by_pages now));
    }

abbrev some : ℕ → Option ℕ
some x = Some x

some_is : (x y : ℕ) → some x ≡ some y → x ≡ y
some_is x y e = cc

-- no seal is above the new one
pub seals_after : (commit : Commit) (a b : Image) (top seal : ℕ) → content b ≡ Some (commit.new, commit.new_found) → commit.new.seal ≡ seal → greatest_seal a 16 ≤ top → top ≤ seal
    → ((n : ℕ) → n < 16 → (n < 8 * commit.new.number) ⊎ (8 * commit.new.number + 8 ≤ n) → sector b n ≡ sector a n) → greatest_seal b 16 ≤ seal
seals_after commit a b top seal holds is seals le others =
    let slot = commit.new in
    let parts = content-parts b slot commit.new_found holds in
    let at = slot_of_current b slot parts.0 in
    let shares = slot_shares (length b) b slot.number slot at.1 in
    greatest_le b 16 seal (λ n x lt e. elim (cases_lt n (8 * slot.number)) [
      | inl low ↦ let old = greatest_ge a 16 n x lt (ap (seal_of n) (sym (others n lt (inl low))) ∙ e) in omega (arith, old, seals, le)
      | inr ge ↦ elim (cases_lt n (8 * slot.number + 8)) [
        | inl inside ↦
            let k = n - 8 * slot.number in
            let same : 8 * slot.number + k ≡ n = omega (arith, ge) in
            let mine : seal_of n (sector b n) ≡ Some slot.seal = subst (λ (j : ℕ). seal_of j (sector b j) ≡ Some slot.seal) same (shared_each b 8 (8 * slot.number) slot.seal shares k (omega (arith, ge, inside))) in
            let equal : x ≡ slot.seal = some_is x slot.seal (sym e ∙ mine) in
            omega (arith, equal, is)
        | inr high ↦ let old = greatest_ge a 16 n x lt (ap (seal_of n) (sym (others n lt (inr high))) ∙ e) in omega (arith, old, seals, le)
      ]
    ])
