-- The entries of a branch, written one after another.
use Rattle.std.proofs.Common.{◌≡◌, ℕ, zero, suc, ◌+◌, ◌*◌, ◌<◌, ◌≤◌, List, [], ◌∷◌, ◌++◌, length, get_or, refl, sym, ap, ◌∙◌, arith, append_assoc, append-nil}
use Rattle.page_store.specs.Heads.{seen_child}
use Rattle.tree_nodes.specs.Tree.{Tree, other_bytes}
use Rattle.tree_nodes.specs.PageBytes.{branch_entries, child_bytes, children_bytes, other_entries, number_of}
use Rattle.tree_nodes.specs.NodeView.{tree_of, others_view}
use Rattle.tree_nodes.specs.declared.node.Node.{Node}
use Rattle.tree_nodes.proofs.NodesAsTrees.{Children}

pub key_at : (cs : Children) (i : ℕ) (x : List ℕ × Node) → i < length cs → x ≡ get_or cs i x → length x.0 ≤ other_bytes (others_view cs)
key_at [] i x lt e = absurd (omega (arith, lt))
key_at (c ∷ cs) zero x lt e = let same = ap (λ (y : List ℕ × Node). length y.0) e in omega (arith, same)
key_at (c ∷ cs) (suc i) x lt e = let more = key_at cs i x (omega (arith, lt)) e in omega (arith, more)

pub view_count : (cs : Children) → 6 * length cs ≤ other_bytes (others_view cs)
view_count [] = omega arith
view_count (c ∷ cs) = let more = view_count cs in omega (arith, more)

pub children_push : (cs : Children) (c : List ℕ × Node) → children_bytes (other_entries (others_view (cs ++ c ∷ []))) ≡ children_bytes (other_entries (others_view cs)) ++ child_bytes (seen_child c.0 (number_of (tree_of c.1)))
children_push [] c = append-nil (child_bytes (seen_child c.0 (number_of (tree_of c.1))))
children_push (d ∷ cs) c =
    ap (λ (l : List ℕ). child_bytes (seen_child d.0 (number_of (tree_of d.1))) ++ l) (children_push cs c)
    ∙ sym (append_assoc (child_bytes (seen_child d.0 (number_of (tree_of d.1)))) (children_bytes (other_entries (others_view cs))) (child_bytes (seen_child c.0 (number_of (tree_of c.1)))))

pub entries_count : (first : Tree) (cs : Children) → length cs + 1 ≡ length (branch_entries first (others_view cs))
entries_count first [] = refl
entries_count first (c ∷ cs) = let more = entries_count first cs in omega (arith, more)
