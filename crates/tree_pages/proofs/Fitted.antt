-- Trees that fit their pages, child by child, and pages that are whole.
use Rattle.std.proofs.Common.{◌≡◌, ◌≤◌, ◌+◌, ◌-◌, ℕ, zero, suc, Bool, List, [], ◌∷◌, ◌++◌, length, replicate, ◌≢◌, ◌⊎◌, inl, inr, ne_eqb, sym, ap, subst, ◌∙◌, arith, length-append}
use Rattle.std.specs.Prelude.{if◌then◌else◌}
use Rattle.std.proofs.lemmas.Bool.{cases_eq}
use Rattle.std.proofs.lemmas.List.{length-replicate}
use Rattle.page_store.specs.Encoding.{padded}
use Rattle.page_store.specs.Commit.{numbers, put_page, patched}
use Rattle.page_store.specs.declared.commit.NewPage.{NewPage}
use Rattle.tree_nodes.specs.Tree.{Tree, Others, page, leaf, branch, none, other, other_bytes, leaf_bytes, entry_room}
use Rattle.tree_nodes.specs.NodeView.{tree_of, others_view}
use Rattle.tree_nodes.specs.declared.node.Node.{Node}
use Rattle.tree_nodes.proofs.NodesAsTrees.{Children}
use Rattle.tree_nodes.specs.PageBytes.{head_bytes, child_bytes, children_bytes, other_entries, branch_entries, leaf_page, branch_page}
use Rattle.tree_nodes.proofs.EncodedPages.{entries_length, children_length}
use Rattle.page_store.specs.Pages.{Pair}
use Rattle.page_store.specs.Encoding.{entries_bytes}
use Rattle.page_store.proofs.Commits.{put_here, put_else}
use Rattle.tree_pages.specs.Reached.{times}
use Rattle.tree_pages.specs.Written.{AllFit, RowFits, AreWhole, IsWritten, AreWritten}
use Rattle.tree_pages.proofs.AddedPages.{named_bytes}

pub branch_fits : (level below : ℕ) (first : Tree) (others : Others) → level ≡ suc below → AllFit below first → RowFits below others → 6 + other_bytes others ≤ entry_room → AllFit level (branch first others)
branch_fits level below first others up a b size = subst (λ (n : ℕ). AllFit n (branch first others)) (sym up) (a, b, size)

pub row_fits_more : (level : ℕ) (cs : Children) (c : List ℕ × Node) → RowFits level (others_view cs) → AllFit level (tree_of c.1) → RowFits level (others_view (cs ++ c ∷ []))
row_fits_more level [] c h k = (k, tt)
row_fits_more level (x ∷ cs) c h k = (h.0, row_fits_more level cs c h.1 k)

pub below_is : (level below : ℕ) → level ≡ suc below → level - 1 ≡ below
below_is level below up = omega (arith, up)

-- ---- whole pages

pub whole_joined : (xs ys : List NewPage) → AreWhole xs → AreWhole ys → AreWhole (xs ++ ys)
whole_joined [] ys h k = k
whole_joined (x ∷ xs) ys h k = (h.0, whole_joined xs ys h.1 k)

padded_whole : (bytes : List ℕ) → length bytes ≤ 4096 → length (padded 4096 bytes) ≡ 4096
padded_whole bytes le =
    let e = length-append bytes (replicate (4096 - length bytes) 0) in
    let z = length-replicate {A = ℕ} (4096 - length bytes) 0 in
    omega (arith, e, z, le)

head_length : (n generation level count : ℕ) → length (head_bytes n generation level count) ≡ 24
head_length n generation level count = simp length-append (omega arith)

leaf_whole : (n generation : ℕ) (pairs : List Pair) → leaf_bytes pairs ≤ entry_room → length (leaf_page n generation pairs) ≡ 4096
unfolding leaf_page
leaf_whole n generation pairs room =
    let head = head_bytes n generation 0 (length pairs) in
    let both = length-append head (entries_bytes pairs) in
    let a = head_length n generation 0 (length pairs) in
    let b = entries_length pairs in
    padded_whole (head ++ entries_bytes pairs) (omega (arith, both, a, b, room))

branch_whole : (n generation level child : ℕ) (others : Others) → 6 + other_bytes others ≤ entry_room → length (branch_page n generation level (branch_entries (page child) others)) ≡ 4096
unfolding branch_page
branch_whole n generation level child others room =
    let entries = branch_entries (page child) others in
    let head = head_bytes n generation level (length entries) in
    let both = length-append head (children_bytes entries) in
    let a = head_length n generation level (length entries) in
    let first : length (child_bytes (record { key = []; page = child })) ≡ 6 = simp length-append (omega arith) in
    let body = length-append (child_bytes (record { key = []; page = child })) (children_bytes (other_entries others)) in
    let b = children_length others in
    padded_whole (head ++ children_bytes entries) (omega (arith, both, a, first, body, b, room))

mutual
  pub written_whole : (tree : Tree) (generation level n : ℕ) (pages : List NewPage) → AllFit level tree → IsWritten generation level tree n pages → AreWhole pages
  written_whole (page m) generation level n pages f w = subst AreWhole (sym w.1) tt
  written_whole (leaf pairs) generation level n pages f w = subst AreWhole (sym w) (leaf_whole n generation pairs f.1, tt)
  written_whole (branch first others) generation zero n pages f w = absurd w
  written_whole (branch first others) generation (suc level) n pages f w =
      let size = named_bytes others generation level w.2 w.3 w.5 in
      let room = f.2 in
      subst AreWhole (sym w.6)
      (whole_joined (w.1 ++ w.3) _ (whole_joined w.1 w.3 (written_whole first generation level w.0 w.1 f.0 w.4) (row_whole others generation level w.2 w.3 f.1 w.5)) (branch_whole n generation (suc level) w.0 w.2 (omega (arith, size, room)), tt))

  row_whole : (others : Others) (generation level : ℕ) (named : Others) (pages : List NewPage) → RowFits level others → AreWritten generation level others named pages → AreWhole pages
  row_whole none generation level named pages f w = subst AreWhole (sym w.1) tt
  row_whole (other key tree others) generation level named pages f w =
      subst AreWhole (sym w.7) (whole_joined w.1 w.3 (written_whole tree generation level w.0 w.1 f.0 w.4) (row_whole others generation level w.2 w.3 f.1 w.5))

-- a page that was written is whole, whatever was there before
pub patched_whole : (pages : List NewPage) (old : ℕ → List ℕ) (m : ℕ) → AreWhole pages → (1 ≤ times m (numbers pages)) ⊎ (length (old m) ≡ 4096) → length (patched pages old m) ≡ 4096
patched_whole [] old m w (inl some) = absurd (omega (arith, some))
patched_whole [] old m w (inr is) = is
patched_whole (new ∷ pages) old m w h =
    elim (cases_eq m new.number) [
      | inl e ↦ patched_whole pages (put_page new old) m w.1 (inr (ap length (put_here new old m e) ∙ w.0))
      | inr ne ↦ patched_whole pages (put_page new old) m w.1 (later ne h)
    ]
  where
    later : m ≢ new.number → (1 ≤ times m (numbers (new ∷ pages))) ⊎ (length (old m) ≡ 4096) → (1 ≤ times m (numbers pages)) ⊎ (length (put_page new old m) ≡ 4096)
    later ne (inl some) = inl (let none = ap (λ (b : Bool). (if b then 1 else 0) + times m (numbers pages)) (ne_eqb m new.number ne) in omega (arith, some, none))
    later ne (inr is) = inr (ap length (put_else new old m ne) ∙ is)
