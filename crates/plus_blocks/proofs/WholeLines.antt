-- Whole lines put together.
use Rattle.std.proofs.Common.{◌≡◌, ℕ, Bool, true, false, List, [], ◌∷◌, ◌++◌, refl, sym, ap, ◌∙◌, subst, append_assoc, append-nil, if◌then◌else◌}
use Rattle.std.specs.Prelude.{codes, flat_map}
use Rattle.std.specs.List.{AllByRecursion}
use Rattle.host_types.specs.Lines.{begins}
use Rattle.text_writer.specs.Text.{line_end, text_end, EndsOnce}
use Rattle.text_writer.specs.Menu.{IsMenuLine}
use Rattle.text_writer.proofs.MenuLines.{ended_once}
use Rattle.plus_blocks.specs.Blocks.{AreLines, block, block_line, info, text_head}
use Rattle.plus_blocks.proofs.Clean.{IsClean, two, cons}

joined_two : (xs ys : List (List ℕ)) → flat_map (λ line. line) (xs ++ ys) ≡ flat_map (λ line. line) xs ++ flat_map (λ line. line) ys
joined_two [] ys = refl
joined_two (x ∷ xs) ys = ap (λ (l : List ℕ). x ++ l) (joined_two xs ys) ∙ sym (append_assoc x (flat_map (λ line. line) xs) (flat_map (λ line. line) ys))

all_two : (xs ys : List (List ℕ)) → AllByRecursion IsMenuLine xs → AllByRecursion IsMenuLine ys → AllByRecursion IsMenuLine (xs ++ ys)
all_two [] ys x y = y
all_two (l ∷ xs) ys x y = (x.0, all_two xs ys x.1 y)

pub no_lines : AreLines []
no_lines = record { each = []; joined = refl; all = tt }

pub both : (a b : List ℕ) → AreLines a → AreLines b → AreLines (a ++ b)
both a b x y = record {
  each = x.each ++ y.each;
  joined = ap (λ (l : List ℕ). l ++ b) x.joined ∙ ap (λ (l : List ℕ). flat_map (λ line. line) x.each ++ l) y.joined ∙ sym (joined_two x.each y.each);
  all = all_two x.each y.each x.all y.all;
}

pub asked : (b : Bool) (bytes : List ℕ) → AreLines bytes → AreLines (if b then bytes else [])
asked true bytes l = l
asked false bytes l = no_lines

pub menu_line : (line : List ℕ) → IsMenuLine line → AreLines line
menu_line line l = record { each = line ∷ []; joined = sym (append-nil line); all = (l, tt) }

pub one_line : (content : List ℕ) → IsClean content → begins 46 content ≡ false → AreLines (content ++ line_end)
one_line content clean other = menu_line (content ++ line_end) (record { content = content; ended = refl; one = clean.none; no_period = other })

pub of_info : (line : List ℕ) → IsMenuLine line → AreLines (info line)
of_info line l =
    let content = codes "+INFO: " ++ l.content in
    let clean : IsClean content = two (codes "+INFO: ") l.content (record { none = refl }) (record { none = l.one }) in
    subst AreLines (append_assoc (codes "+INFO: ") l.content line_end ∙ ap (λ (x : List ℕ). codes "+INFO: " ++ x) (sym l.ended)) (one_line content clean refl)

block_lines : (body : List (List ℕ)) → AllByRecursion IsClean body → AreLines (flat_map block_line body)
block_lines [] all = no_lines
block_lines (line ∷ body) all =
    both (block_line line) (flat_map block_line body) (one_line (32 ∷ line) (cons 32 line refl all.0) refl) (block_lines body all.1)

pub of_block : (name : List ℕ) (body : List (List ℕ)) → IsClean name → begins 46 (name ++ 58 ∷ []) ≡ false → AllByRecursion IsClean body → AreLines (block name body)
unfolding block
of_block name body clean other all =
    let title : AreLines (name ++ codes ":\r\n") = subst AreLines (append_assoc name (58 ∷ []) line_end) (one_line (name ++ 58 ∷ []) (two name (58 ∷ []) clean (record { none = refl })) other) in
    both (name ++ codes ":\r\n") (flat_map block_line body) title (block_lines body all)

-- a reply of whole lines ends once
pub ends_once : (blocks : List ℕ) → AreLines blocks → EndsOnce (text_head ++ blocks ++ text_end)
ends_once blocks l =
    let all = both text_head blocks (one_line (codes "+-1") (record { none = refl }) refl) l in
    subst (λ (b : List ℕ). EndsOnce (b ++ text_end)) (sym all.joined) (ended_once all.each all.all)

pub of_entries : (blocks : List (List ℕ)) → AllByRecursion AreLines blocks → AreLines (flat_map (λ of_entry. of_entry) blocks)
of_entries [] all = no_lines
of_entries (b ∷ blocks) all = both b (flat_map (λ of_entry. of_entry) blocks) all.0 (of_entries blocks all.1)
