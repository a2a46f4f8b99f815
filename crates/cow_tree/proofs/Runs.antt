-- Runs of pairs, and parts of trees.
use Rattle.std.proofs.Common.{◌≡◌, ℕ, Bool, true, false, List, [], ◌∷◌, ◌++◌, refl, sym, ap, ◌∙◌, IsTrue}
use Rattle.std.specs.Prelude.{◌||◌, ◌==◌}
use Rattle.std.proofs.lemmas.List.{append-nil, append_assoc}
use Rattle.page_store.specs.Pages.{Pair}
use Rattle.page_store.specs.Content.{Found, joined, is_among}
use Rattle.page_store.proofs.ReachedPages.{among_right}
use Rattle.cow_tree.specs.KeptLeaves.{IsRun, IsPart}

-- ---- runs

pub whole_run : (pairs : List Pair) → IsRun pairs pairs
whole_run pairs = record { front = []; rest = []; is = sym (append-nil pairs) }

pub no_run : (run pairs : List Pair) → run ≡ [] → IsRun run pairs
no_run run pairs none = record { front = []; rest = pairs; is = ap (λ (l : List Pair). l ++ pairs) (sym none) }

pub front_run : (xs ys : List Pair) → IsRun xs (xs ++ ys)
front_run xs ys = record { front = []; rest = ys; is = refl }

pub back_run : (xs ys : List Pair) → IsRun ys (xs ++ ys)
back_run xs ys = record { front = xs; rest = []; is = ap (λ (l : List Pair). xs ++ l) (sym (append-nil ys)) }

around : (a b run c d : List Pair) → a ++ ((b ++ (run ++ c)) ++ d) ≡ (a ++ b) ++ (run ++ (c ++ d))
around a b run c d =
    ap (λ (l : List Pair). a ++ l) (append_assoc b (run ++ c) d ∙ ap (λ (l : List Pair). b ++ l) (append_assoc run c d)) ∙ sym (append_assoc a b (run ++ (c ++ d)))

-- a run of a run
pub run_again : (inner run pairs : List Pair) → IsRun inner run → IsRun run pairs → IsRun inner pairs
run_again inner run pairs i o = record {
  front = o.front ++ i.front;
  rest = i.rest ++ o.rest;
  is = o.is ∙ ap (λ (l : List Pair). o.front ++ (l ++ o.rest)) i.is ∙ around o.front i.front inner i.rest o.rest;
}

-- ---- parts

among_left : (n : ℕ) (xs ys : List ℕ) → IsTrue (is_among n xs) → IsTrue (is_among n (xs ++ ys))
among_left n [] ys h = absurd (cc h)
among_left n (x ∷ xs) ys h = or_more (n == x) (is_among n xs) (is_among n (xs ++ ys)) (among_left n xs ys) h
  where
    or_more : (a b c : Bool) → (IsTrue b → IsTrue c) → IsTrue (a || b) → IsTrue (a || c)
    or_more true b c f h = refl
    or_more false b c f h = f h

pub part_again : (inner part whole : Found) → IsPart inner part → IsPart part whole → IsPart inner whole
part_again inner part whole i o = record {
  pages = λ n h. o.pages n (i.pages n h);
  run = run_again inner.pairs part.pairs whole.pairs i.run o.run;
}

pub front_part : (f g : Found) → IsPart f (joined f g)
front_part f g = record { pages = λ n h. among_left n f.pages g.pages h; run = front_run f.pairs g.pairs }

pub back_part : (f g : Found) → IsPart g (joined f g)
back_part f g = record { pages = λ n h. among_right n f.pages g.pages h; run = back_run f.pairs g.pairs }

-- what stands under a page is a part of what stands at and under it
pub under_part : (page : ℕ) (f : Found) → IsPart f (record { pages = page ∷ f.pages; pairs = f.pairs })
under_part page f = record { pages = λ n h. among_right n (page ∷ []) f.pages h; run = whole_run f.pairs }
