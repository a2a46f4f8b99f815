-- A walk finds a tree of which the owned nodes are written as pages.
use Rattle.std.proofs.Common.{◌≡◌, ℕ, zero, suc, ◌+◌, ◌≤◌, ◌<◌, ◌^◌, true, List, [], ◌∷◌, ◌++◌, Option, Some, None, is_some, refl, sym, ap, subst, ◌∙◌, arith, append_assoc}
use Rattle.std.specs.Prelude.{◌&&◌, nat_le, nat_lt}
use Rattle.std.specs.List.{list_all}
use Rattle.std.proofs.lemmas.Bool.{le-leb, lt-ltb}
use Rattle.page_store.specs.Reading.{◌>>=◌}
use Rattle.page_store.specs.Pages.{Pair, leaf_of, branch_of, is_inside}
use Rattle.page_store.specs.Batch.{is_key}
use Rattle.page_store.specs.Content.{Found, Bounds, place_in, joined, low_of, high_of, fan, walk}
use Rattle.page_store.specs.Commit.{numbers}
use Rattle.page_store.specs.Same.{Agree}
use Rattle.page_store.specs.declared.commit.NewPage.{NewPage}
use Rattle.page_store.proofs.Fields.{bind_again}
use Rattle.page_store.proofs.ReachedPages.{walk-local}
use Rattle.page_store.proofs.Seals.{walk_later}
use Rattle.tree_nodes.specs.Tree.{Tree, Others, page, leaf, branch, none, other, pairs_of, row_pairs, pages_of, row_pages, other_bytes, entry_room}
use Rattle.tree_nodes.specs.Valid.{IsValid, IsValidRow, IsValidLeaf, others_high}
use Rattle.tree_nodes.specs.Image.{old_of}
use Rattle.tree_nodes.specs.PageBytes.{leaf_page, branch_page, branch_entries, other_entries}
use Rattle.page_store.specs.Keys.{precedes, is_below}
use Rattle.tree_nodes.proofs.WalksWithinBounds.{is_found, old_pairs, walk_level, walk_wider, not_below_nothing}
use Rattle.tree_nodes.proofs.EncodedPages.{leaf_again, valid_branch_again}
use Rattle.tree_pages.specs.Written.{IsWritten, AreWritten, ArePut, AreTreePages, IsTreePage, page_for}
use Rattle.tree_pages.specs.Reached.{times, found_pages, pages_under, all_under, reached, until, IsLater, TreeStays, AreKept, FindsTree}
use Rattle.tree_pages.proofs.Counted.{times_joined, numbers_joined}

put_left : (now : ℕ → List ℕ) (xs ys : List NewPage) → ArePut now (xs ++ ys) → ArePut now xs
put_left now [] ys h = tt
put_left now (x ∷ xs) ys h = (h.0, put_left now xs ys h.1)

put_right : (now : ℕ → List ℕ) (xs ys : List NewPage) → ArePut now (xs ++ ys) → ArePut now ys
put_right now [] ys h = h
put_right now (x ∷ xs) ys h = put_right now xs ys h.1

inside_left : (count : ℕ) (xs ys : List NewPage) → AreTreePages count (xs ++ ys) → AreTreePages count xs
inside_left count [] ys h = tt
inside_left count (x ∷ xs) ys h = (h.0, inside_left count xs ys h.1)

inside_right : (count : ℕ) (xs ys : List NewPage) → AreTreePages count (xs ++ ys) → AreTreePages count ys
inside_right count [] ys h = h
inside_right count (x ∷ xs) ys h = inside_right count xs ys h.1

kept_left : (old now : ℕ → List ℕ) (bounds : Bounds) (xs ys : List ℕ) → AreKept old now bounds (xs ++ ys) → AreKept old now bounds xs
kept_left old now bounds [] ys h = tt
kept_left old now bounds (x ∷ xs) ys h = (h.0, kept_left old now bounds xs ys h.1)

kept_right : (old now : ℕ → List ℕ) (bounds : Bounds) (xs ys : List ℕ) → AreKept old now bounds (xs ++ ys) → AreKept old now bounds ys
kept_right old now bounds [] ys h = h
kept_right old now bounds (x ∷ xs) ys h = kept_right old now bounds xs ys h.1

pub under_joined : (bytes : ℕ → List ℕ) (bounds : Bounds) (xs ys : List ℕ) → all_under bytes bounds (xs ++ ys) ≡ all_under bytes bounds xs ++ all_under bytes bounds ys
under_joined bytes bounds [] ys = refl
under_joined bytes bounds (x ∷ xs) ys = ap (λ (l : List ℕ). pages_under bytes bounds x ++ l) (under_joined bytes bounds xs ys) ∙ sym (append_assoc (pages_under bytes bounds x) (all_under bytes bounds xs) (all_under bytes bounds ys))

low_is : (low key : List ℕ) → is_key key ≡ true → low_of low key ≡ key
low_is low [] h = absurd (cc h)
low_is low (b ∷ bs) h = refl

high_is : (others : Others) (high : Option (List ℕ)) → high_of (other_entries others) high ≡ others_high others high
high_is none high = refl
high_is (other key tree others) high = refl

inside_is : (count n : ℕ) → IsTreePage count n → (nat_le 2 n && nat_lt n count) ≡ true
inside_is count n h = rw (le-leb 2 n h.0, lt-ltb n count h.1) refl

-- a walk finds a tree, at a page that is no root slot
abbrev pub Finds : (ℕ → List ℕ) → (ℕ → List ℕ) → Bounds → ℕ → ℕ → Tree → List ℕ → Option (List ℕ) → ℕ → List NewPage → Type 0
Finds old now bounds generation level tree low high n pages = FindsTree old now bounds generation level tree low high n pages × IsTreePage bounds.pages n

-- the same of the children after the first
pub record FindsRow (old now : ℕ → List ℕ) (bounds : Bounds) (generation level : ℕ) (others named : Others) (low : List ℕ) (high : Option (List ℕ)) (pages : List NewPage) : Type 0 where
  pub found : Found
  pub walked : (from : List ℕ) → fan (walk now (until bounds generation) level) from high (other_entries named) ≡ Some found
  pub pairs : found.pairs ≡ row_pairs (old_of old bounds) others
  pub reaches : (m : ℕ) → times m found.pages ≡ times m (numbers pages) + times m (all_under old bounds (row_pages others))
  pub valid : IsValidRow (old_of now (until bounds generation)) level named low high
  pub bytes : other_bytes named ≡ other_bytes others
  pub same_high : others_high named high ≡ others_high others high
  pub inside : list_all (is_inside bounds.pages) (other_entries named) ≡ true

pub under_is : (bytes : ℕ → List ℕ) (bounds : Bounds) (level n : ℕ) (low : List ℕ) (high : Option (List ℕ)) (found : Found) → walk bytes bounds level n low high ≡ Some found → pages_under bytes bounds n ≡ found.pages
under_is bytes bounds level n low high found e = ap (λ (l : ℕ). found_pages (walk bytes bounds l n [] None)) (walk_level bytes bounds level n low high found e) ∙ ap found_pages (walk_wider bytes bounds level n low [] high None found (not_below_nothing low) (λ key h. refl) e)

module _ (old now : ℕ → List ℕ) (bounds : Bounds) (generation : ℕ) (later : IsLater bounds generation) where
  named_page : (level m : ℕ) (low : List ℕ) (high : Option (List ℕ)) → is_some (walk old bounds level m low high) ≡ true → TreeStays old now bounds m → Finds old now bounds generation level (page m) low high m []
  named_page level m low high stands kept =
      let f = is_found (walk old bounds level m low high) stands in
      let under = under_is old bounds level m low high f.0 f.1 in (
        record {
          found = f.0;
          walked = walk_later now bounds generation level m low high f.0 later.later (walk-local old now bounds level m low high f.0 f.1 (subst (λ (l : List ℕ). Agree l old now) under kept.1));
          pairs = sym (old_pairs old bounds level m low high f.0 f.1);
          reaches = λ k. let same = ap (times k) under in let all = times_joined k (pages_under old bounds m) [] in omega (arith, same, all);
        },
        kept.0,
      )

  new_leaf : (pairs : List Pair) (low : List ℕ) (high : Option (List ℕ)) (n : ℕ) → IsValidLeaf pairs low high → now n ≡ leaf_page n generation pairs → IsTreePage bounds.pages n
      → Finds old now bounds generation 0 (leaf pairs) low high n (page_for n generation 0 (leaf pairs) ∷ [])
  new_leaf pairs low high n valid put inside =
      let small : n < 2 ^ 32 = omega (arith, inside.1, later.pages) in
      let read = leaf_again (until bounds generation) n generation pairs low high small later.last later.first (omega arith) valid in (
        record {
          found = record { pages = n ∷ []; pairs = pairs };
          walked = bind_again (leaf_of (place_in (until bounds generation) 0 n) low high (now n)) (λ ps. Some (record { pages = n ∷ []; pairs = ps })) pairs (Some (record { pages = n ∷ []; pairs = pairs }))
              (ap (leaf_of (place_in (until bounds generation) 0 n) low high) put ∙ read) refl;
          pairs = refl;
          reaches = λ m. omega arith;
        },
        inside,
      )

  no_row : (level : ℕ) (low : List ℕ) (high : Option (List ℕ)) → FindsRow old now bounds generation level none none low high []
  no_row level low high = record {
    found = record { pages = []; pairs = [] };
    walked = λ from. refl;
    pairs = refl;
    reaches = λ m. omega arith;
    valid = tt;
    bytes = refl;
    same_high = refl;
    inside = refl;
  }

  stands_at : (level n : ℕ) (low : List ℕ) (high : Option (List ℕ)) (found : Found) → walk now (until bounds generation) level n low high ≡ Some found → (old_of now (until bounds generation)).stands level n low high ≡ true
  stands_at level n low high found e = ap is_some e

  one_more : (level : ℕ) (key : List ℕ) (tree : Tree) (others named : Others) (low : List ℕ) (high : Option (List ℕ)) (child : ℕ) (here rest : List NewPage) → precedes low key ≡ true → is_below high key ≡ true → is_key key ≡ true
      → Finds old now bounds generation level tree key (others_high others high) child here → FindsRow old now bounds generation level others named key high rest
      → FindsRow old now bounds generation level (other key tree others) (other key (page child) named) low high (here ++ rest)
  one_more level key tree others named low high child here rest above below is first row =
      let f = first.0 in
      let bound : high_of (other_entries named) high ≡ others_high others high = high_is named high ∙ row.same_high in
      let walked : (from : List ℕ) → walk now (until bounds generation) level child (low_of from key) (high_of (other_entries named) high) ≡ Some f.found =
      λ from. ap (λ (l : List ℕ). walk now (until bounds generation) level child l (high_of (other_entries named) high)) (low_is from key is)
      ∙ ap (λ (h : Option (List ℕ)). walk now (until bounds generation) level child key h) bound ∙ f.walked in
      record {
        found = joined f.found row.found;
        walked = λ from. bind_again (walk now (until bounds generation) level child (low_of from key) (high_of (other_entries named) high))
            (λ here. fan (walk now (until bounds generation) level) from high (other_entries named) >>= λ others. Some (joined here others)) f.found (Some (joined f.found row.found)) (walked from)
            (bind_again (fan (walk now (until bounds generation) level) from high (other_entries named)) (λ others. Some (joined f.found others)) row.found (Some (joined f.found row.found)) (row.walked from) refl);
        pairs = ap (λ (l : List Pair). l ++ row.found.pairs) f.pairs ∙ ap (λ (l : List Pair). pairs_of (old_of old bounds) tree ++ l) row.pairs;
        reaches = λ m.
            let a = times_joined m f.found.pages row.found.pages in
            let b = times_joined m (numbers here) (numbers rest) in
            let c = times_joined m (reached old bounds tree) (all_under old bounds (row_pages others)) in
            let k = ap (times m) (under_joined old bounds (pages_of tree) (row_pages others)) in
            let d = ap (times m) (numbers_joined here rest) in
            let x = f.reaches m in
            let y = row.reaches m in
            omega (arith, a, b, c, d, k, x, y);
        valid = (above, below, is, ap (λ (h : Option (List ℕ)). is_some (walk now (until bounds generation) level child key h)) row.same_high ∙ stands_at level child key (others_high others high) f.found f.walked, row.valid);
        bytes = let more = row.bytes in omega (arith, more);
        same_high = refl;
        inside = rw (inside_is bounds.pages child first.1) row.inside;
      }

  new_branch : (level : ℕ) (first : Tree) (others named : Others) (low : List ℕ) (high : Option (List ℕ)) (n child : ℕ) (under rest : List NewPage) → suc level < 2 ^ 16 → 6 + other_bytes others ≤ entry_room
      → Finds old now bounds generation level first low (others_high others high) child under → FindsRow old now bounds generation level others named low high rest
      → now n ≡ branch_page n generation (suc level) (branch_entries (page child) named) → IsTreePage bounds.pages n
      → Finds old now bounds generation (suc level) (branch first others) low high n ((under ++ rest) ++ page_for n generation (suc level) (branch (page child) named) ∷ [])
  new_branch level first others named low high n child under rest small fits here row put inside =
      let f = here.0 in
      let within = until bounds generation in
      let bound : high_of (other_entries named) high ≡ others_high others high = high_is named high ∙ row.same_high in
      let stands : is_some (walk now within level child low (others_high named high)) ≡ true =
      ap (λ (h : Option (List ℕ)). is_some (walk now within level child low h)) row.same_high ∙ stands_at level child low (others_high others high) f.found f.walked in
      let same_bytes = row.bytes in
      let valid : IsValid (old_of now within) (suc level) (branch (page child) named) low high = (stands, row.valid, omega (arith, same_bytes, fits)) in
      let entries : list_all (is_inside bounds.pages) (branch_entries (page child) named) ≡ true = rw (inside_is bounds.pages child here.1) row.inside in
      let read = valid_branch_again (old_of now within) within level n generation (page child) named low high later.pages (omega (arith, inside.1, later.pages)) later.last small later.first (omega arith) valid entries in
      let all : Found = joined f.found row.found in
      let found : Found = record { pages = n ∷ all.pages; pairs = all.pairs } in
      let fanned : fan (walk now within level) low high (branch_entries (page child) named) ≡ Some all =
      bind_again (walk now within level child low (high_of (other_entries named) high)) (λ here. fan (walk now within level) low high (other_entries named) >>= λ others. Some (joined here others)) f.found (Some all)
      (ap (λ (h : Option (List ℕ)). walk now within level child low h) bound ∙ f.walked)
      (bind_again (fan (walk now within level) low high (other_entries named)) (λ others. Some (joined f.found others)) row.found (Some all) (row.walked low) refl) in (
        record {
          found = found;
          walked = bind_again (branch_of (place_in within (suc level) n) low high (now n)) (λ children. fan (walk now within level) low high children >>= λ under. Some (record { pages = n ∷ under.pages; pairs = under.pairs }))
              (branch_entries (page child) named) (Some found) (ap (branch_of (place_in within (suc level) n) low high) put ∙ read)
              (bind_again (fan (walk now within level) low high (branch_entries (page child) named)) (λ under. Some (record { pages = n ∷ under.pages; pairs = under.pairs })) all (Some found) fanned refl);
          pairs = ap (λ (l : List Pair). l ++ row.found.pairs) f.pairs ∙ ap (λ (l : List Pair). pairs_of (old_of old bounds) first ++ l) row.pairs;
          reaches = λ m.
              let a = times_joined m f.found.pages row.found.pages in
              let b = times_joined m (numbers under) (numbers rest) in
              let c = times_joined m (reached old bounds first) (all_under old bounds (row_pages others)) in
              let k = ap (times m) (under_joined old bounds (pages_of first) (row_pages others)) in
              let d = ap (times m) (numbers_joined under rest) in
              let e = ap (times m) (numbers_joined (under ++ rest) (page_for n generation (suc level) (branch (page child) named) ∷ [])) in
              let g = times_joined m (numbers (under ++ rest)) (n ∷ []) in
              let x = f.reaches m in
              let y = row.reaches m in
              omega (arith, a, b, c, d, e, g, k, x, y);
        },
        inside,
      )

mutual
  pub finds : (tree : Tree) (old now : ℕ → List ℕ) (bounds : Bounds) (generation level : ℕ) (low : List ℕ) (high : Option (List ℕ)) (n : ℕ) (pages : List NewPage) → IsLater bounds generation → level < 2 ^ 16
      → IsValid (old_of old bounds) level tree low high → IsWritten generation level tree n pages → ArePut now pages → AreTreePages bounds.pages pages → AreKept old now bounds (pages_of tree)
      → Finds old now bounds generation level tree low high n pages
  finds (page m) old now bounds generation level low high n pages later small valid written put inside kept =
      subst (λ (ps : List NewPage). Finds old now bounds generation level (page m) low high n ps) (sym written.1)
      (subst (λ (k : ℕ). Finds old now bounds generation level (page m) low high k []) (sym written.0) (named_page old now bounds generation later level m low high valid kept.0))
  finds (leaf pairs) old now bounds generation zero low high n pages later small valid written put inside kept =
      let here = subst (λ (ps : List NewPage). ArePut now ps) written put in
      let at = subst (λ (ps : List NewPage). AreTreePages bounds.pages ps) written inside in
      subst (λ (ps : List NewPage). Finds old now bounds generation 0 (leaf pairs) low high n ps) (sym written) (new_leaf old now bounds generation later pairs low high n valid here.0 at.0)
  finds (leaf pairs) old now bounds generation (suc level) low high n pages later small valid written put inside kept = absurd valid
  finds (branch first others) old now bounds generation zero low high n pages later small valid written put inside kept = absurd valid
  finds (branch first others) old now bounds generation (suc level) low high n pages later small valid (child, under, named, rest, first_written, row_written, all) put inside kept =
      let last = page_for n generation (suc level) (branch (page child) named) in
      let puts = subst (λ (ps : List NewPage). ArePut now ps) all put in
      let ats = subst (λ (ps : List NewPage). AreTreePages bounds.pages ps) all inside in
      let put_under = put_left now (under ++ rest) (last ∷ []) puts in
      let at_under = inside_left bounds.pages (under ++ rest) (last ∷ []) ats in
      let put_last = put_right now (under ++ rest) (last ∷ []) puts in
      let at_last = inside_right bounds.pages (under ++ rest) (last ∷ []) ats in
      let here = finds first old now bounds generation level low (others_high others high) child under later (omega (arith, small)) valid.0 first_written (put_left now under rest put_under) (inside_left bounds.pages under rest at_under) (kept_left old now bounds (pages_of first) (row_pages others) kept) in
      let row = finds_row others old now bounds generation level low high named rest later (omega (arith, small)) valid.1 row_written (put_right now under rest put_under) (inside_right bounds.pages under rest at_under) (kept_right old now bounds (pages_of first) (row_pages others) kept) in
      subst (λ (ps : List NewPage). Finds old now bounds generation (suc level) (branch first others) low high n ps) (sym all)
      (new_branch old now bounds generation later level first others named low high n child under rest small valid.2 here row put_last.0 at_last.0)

  finds_row : (others : Others) (old now : ℕ → List ℕ) (bounds : Bounds) (generation level : ℕ) (low : List ℕ) (high : Option (List ℕ)) (named : Others) (pages : List NewPage) → IsLater bounds generation → level < 2 ^ 16
      → IsValidRow (old_of old bounds) level others low high → AreWritten generation level others named pages → ArePut now pages → AreTreePages bounds.pages pages → AreKept old now bounds (row_pages others)
      → FindsRow old now bounds generation level others named low high pages
  finds_row none old now bounds generation level low high named pages later small valid written put inside kept =
      subst (λ (ps : List NewPage). FindsRow old now bounds generation level none named low high ps) (sym written.1)
      (subst (λ (os : Others). FindsRow old now bounds generation level none os low high []) (sym written.0) (no_row old now bounds generation later level low high))
  finds_row (other key tree others) old now bounds generation level low high named pages later small valid (child, here, more, rest, tree_written, row_written, names, all) put inside kept =
      let puts = subst (λ (ps : List NewPage). ArePut now ps) all put in
      let ats = subst (λ (ps : List NewPage). AreTreePages bounds.pages ps) all inside in
      let first = finds tree old now bounds generation level key (others_high others high) child here later small valid.3 tree_written (put_left now here rest puts) (inside_left bounds.pages here rest ats) (kept_left old now bounds (pages_of tree) (row_pages others) kept) in
      let row = finds_row others old now bounds generation level key high more rest later small valid.4 row_written (put_right now here rest puts) (inside_right bounds.pages here rest ats) (kept_right old now bounds (pages_of tree) (row_pages others) kept) in
      subst (λ (ps : List NewPage). FindsRow old now bounds generation level (other key tree others) named low high ps) (sym all)
      (subst (λ (os : Others). FindsRow old now bounds generation level (other key tree others) os low high (here ++ rest)) (sym names)
      (one_more old now bounds generation later level key tree others more low high child here rest valid.0 valid.1 valid.2 first row))

pub found_tree : (tree : Tree) (old now : ℕ → List ℕ) (bounds : Bounds) (generation level : ℕ) (low : List ℕ) (high : Option (List ℕ)) (n : ℕ) (pages : List NewPage) → IsLater bounds generation → level < 2 ^ 16
    → IsValid (old_of old bounds) level tree low high → IsWritten generation level tree n pages → ArePut now pages → AreTreePages bounds.pages pages → AreKept old now bounds (pages_of tree)
    → FindsTree old now bounds generation level tree low high n pages
found_tree tree old now bounds generation level low high n pages later small valid written put inside kept = (finds tree old now bounds generation level low high n pages later small valid written put inside kept).0
