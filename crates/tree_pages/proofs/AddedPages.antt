-- Pages that are added one after another.
use Rattle.std.proofs.Common.{◌≡◌, ℕ, zero, suc, ◌+◌, ◌≤◌, ◌<◌, List, [], ◌∷◌, ◌++◌, length, take, drop, get_or, refl, sym, ap, subst, ◌∙◌, arith, append_assoc, length-append}
use Rattle.std.proofs.lemmas.List.{drop-drop, append-nil}
use Rattle.std.proofs.Math.Seq.{take-add}
use Rattle.std.specs.Prelude.{Result, Ok, Err, IfOk}
use Rattle.page_store.specs.Commit.{numbers}
use Rattle.page_store.specs.declared.commit.NewPage.{NewPage}
use Rattle.tree_nodes.specs.Tree.{Tree, Others, page, leaf, branch, none, other, other_bytes, entry_room}
use Rattle.tree_nodes.specs.NodeView.{tree_of, others_view}
use Rattle.tree_nodes.specs.declared.node.Node.{Node, Page}
use Rattle.tree_nodes.proofs.NodesAsTrees.{Children}
use Rattle.tree_nodes.proofs.NodesRead.{tree_page}
use Rattle.tree_pages.specs.Written.{IsWritten, AreWritten, page_for, AllFit, RowFits, Adds, owned_nodes, row_owned_nodes}
use Rattle.tree_pages.proofs.Counted.{numbers_joined}

-- ---- how many pages

mutual
  pub written_count : (tree : Tree) (generation level n : ℕ) (pages : List NewPage) → IsWritten generation level tree n pages → length pages ≡ owned_nodes tree
  written_count (page m) generation level n pages w = ap length w.1
  written_count (leaf pairs) generation level n pages w = ap length w
  written_count (branch first others) generation zero n pages w = absurd w
  written_count (branch first others) generation (suc level) n pages (child, under, named, rest, here, row, all) =
      let a = written_count first generation level child under here in
      let b = row_count others generation level named rest row in
      let c = length-append under rest in
      let d = ap length all ∙ length-append (under ++ rest) (_ ∷ []) in
      omega (arith, a, b, c, d)

  pub row_count : (others : Others) (generation level : ℕ) (named : Others) (pages : List NewPage) → AreWritten generation level others named pages → length pages ≡ row_owned_nodes others
  row_count none generation level named pages w = ap length w.1
  row_count (other key tree others) generation level named pages (child, here, more, rest, tree_written, row_written, names, all) =
      let a = written_count tree generation level child here tree_written in
      let b = row_count others generation level more rest row_written in
      let c = ap length all ∙ length-append here rest in
      omega (arith, a, b, c)

-- ---- pages behind pages

pub none_added : (given : List ℕ) (old : List NewPage) → Adds given old old []
none_added given old = record { pages = sym (append-nil old); numbered = refl }

pub both_added : (given : List ℕ) (a b c xs ys : List NewPage) → Adds given a b xs → Adds given b c ys → Adds given a c (xs ++ ys)
both_added given a b c xs ys first second =
    let count : length b ≡ length a + length xs = ap length first.pages ∙ length-append a xs in
    let rest : drop (length b) given ≡ drop (length xs) (drop (length a) given) = ap (λ (n : ℕ). drop n given) count ∙ sym (drop-drop (length xs) (length a) given) in
    record {
      pages = second.pages ∙ ap (λ (l : List NewPage). l ++ ys) first.pages ∙ append_assoc a xs ys;
      numbered = numbers_joined xs ys ∙ ap (λ (l : List ℕ). l ++ numbers ys) first.numbered
          ∙ ap (λ (l : List ℕ). take (length xs) (drop (length a) given) ++ l) (second.numbered ∙ ap (take (length ys)) rest)
          ∙ sym (take-add (length xs) (length ys) (drop (length a) given)) ∙ ap (λ (n : ℕ). take n (drop (length a) given)) (sym (length-append xs ys));
    }

-- ---- nodes that fit

pub record FitsBranch (level : ℕ) (first : Tree) (others : Others) : Type 0 where
  pub below : ℕ
  pub is : level ≡ suc below
  pub first_fits : AllFit below first
  pub others_fit : RowFits below others
  pub size : 6 + other_bytes others ≤ entry_room

pub branch_parts : (level : ℕ) (first : Tree) (others : Others) → AllFit level (branch first others) → FitsBranch level first others
branch_parts zero first others h = absurd h
branch_parts (suc level) first others h = record { below = level; is = refl; first_fits = h.0; others_fit = h.1; size = h.2 }

pub row_fits_at : (level : ℕ) (cs : Children) (i : ℕ) (d : List ℕ × Node) → i < length cs → RowFits level (others_view cs) → AllFit level (tree_of (get_or cs i d).1)
row_fits_at level [] i d lt h = absurd (omega (arith, lt))
row_fits_at level (c ∷ cs) zero d lt h = h.0
row_fits_at level (c ∷ cs) (suc i) d lt h = row_fits_at level cs i d (omega (arith, lt)) h.1

pub owned_before : (cs : Children) (i : ℕ) (d : List ℕ × Node) → i < length cs → row_owned_nodes (others_view (take i cs)) + owned_nodes (tree_of (get_or cs i d).1) ≤ row_owned_nodes (others_view cs)
owned_before [] i d lt = absurd (omega (arith, lt))
owned_before (c ∷ cs) zero d lt = omega arith
owned_before (c ∷ cs) (suc i) d lt = let more = owned_before cs i d (omega (arith, lt)) in omega (arith, more)

mutual
  pub named_bytes : (others : Others) (generation level : ℕ) (named : Others) (pages : List NewPage) → AreWritten generation level others named pages → other_bytes named ≡ other_bytes others
  named_bytes none generation level named pages w = ap other_bytes w.0
  named_bytes (other key tree others) generation level named pages (child, here, more, rest, tree_written, row_written, names, all) =
      let a = ap other_bytes names in
      let b = named_bytes others generation level more rest row_written in
      omega (arith, a, b)

-- ---- children, one more

view_none : (named : Children) → others_view named ≡ none → named ≡ []
view_none [] h = refl
view_none (c ∷ cs) h = absurd (cc h)

pub no_rows : (generation level : ℕ) → AreWritten generation level none none []
no_rows generation level = (refl, refl)

pub row_more : (generation level : ℕ) (cs named : Children) (c : List ℕ × Node) (n : ℕ) (pages here : List NewPage) → AreWritten generation level (others_view cs) (others_view named) pages → IsWritten generation level (tree_of c.1) n here
    → AreWritten generation level (others_view (cs ++ c ∷ [])) (others_view (named ++ (c.0, Page n) ∷ [])) (pages ++ here)
row_more generation level [] named c n pages here row tree =
    let is = view_none named row.0 in
    (n, here, none, [], tree, (refl, refl), ap (λ (l : Children). others_view (l ++ (c.0, Page n) ∷ [])) is ∙ ap (λ (t : Tree). other c.0 t none) (tree_page n), ap (λ (l : List NewPage). l ++ here) row.1 ∙ sym (append-nil here))
row_more generation level (x ∷ cs) [] c n pages here (child, first, more, rest, x_written, row_written, names, all) tree = absurd (cc names)
row_more generation level (x ∷ cs) (y ∷ named) c n pages here (child, first, more, rest, x_written, row_written, names, all) tree =
    let parts = same_others names in
    let next = row_more generation level cs named c n rest here (subst (λ (os : Others). AreWritten generation level (others_view cs) os rest) (sym parts.2) row_written) tree in (
      child,
      first,
      others_view (named ++ (c.0, Page n) ∷ []),
      rest ++ here,
      x_written,
      next,
      ap (λ (k : List ℕ). other k (tree_of y.1) (others_view (named ++ (c.0, Page n) ∷ []))) parts.0 ∙ ap (λ (t : Tree). other x.0 t (others_view (named ++ (c.0, Page n) ∷ []))) parts.1,
      ap (λ (l : List NewPage). l ++ here) all ∙ append_assoc first rest here,
    )
  where
    same_others : {k l : List ℕ} {s t : Tree} {os ps : Others} → other k s os ≡ other l t ps → (k ≡ l) × (s ≡ t) × (os ≡ ps)
    same_others h = (cc h, cc h, cc h)

-- ---- a branch

pub branch_written : (generation level below : ℕ) (first : Tree) (others named : Others) (child n : ℕ) (under rest : List NewPage) → level ≡ suc below → IsWritten generation below first child under → AreWritten generation below others named rest
    → IsWritten generation level (branch first others) n ((under ++ rest) ++ page_for n generation level (branch (page child) named) ∷ [])
branch_written generation level below first others named child n under rest is here row =
    subst (λ (l : ℕ). IsWritten generation l (branch first others) n ((under ++ rest) ++ page_for n generation l (branch (page child) named) ∷ [])) (sym is) (child, under, named, rest, here, row, refl)

pub if_ok : {A E : Type 0} {P Q : A → Type 0} (r : Result A E) → ((a : A) → P a → Q a) → IfOk r P → IfOk r Q
if_ok (Ok a) f h = f a h
if_ok (Err e) f h = tt
