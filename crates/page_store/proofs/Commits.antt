-- Pages to free places, and then a new root.
use Rattle.std.proofs.Common.{◌≡◌, ◌≢◌, ◌⊎◌, inl, inr, ℕ, zero, suc, ◌+◌, ◌*◌, ◌<◌, ◌≤◌, Bool, true, false, List, [], ◌∷◌, ◌++◌, length, get_or, refl, sym, ap, subst, ◌∙◌, IsTrue, arith, eq-eqb}
use Rattle.std.specs.Prelude.{◌||◌, ◌==◌}
use Rattle.std.proofs.lemmas.Bool.{cases_lt, cases_eq, ne_eqb}
use Rattle.std.proofs.lemmas.Bool.Decides.{nat_tests}
use Rattle.std.proofs.lemmas.List.{map-append}
use Rattle.page_store.specs.Sectors.{Image, page_of}
use Rattle.page_store.specs.Steps.{AreWritten, MayBeAllWritten}
use Rattle.page_store.specs.Content.{is_among}
use Rattle.page_store.specs.Commit.{number_of, numbers, put_page, patched, IsSameOutside, ArePatched}
use Rattle.page_store.specs.declared.commit.NewPage.{NewPage}
use Rattle.page_store.proofs.UntouchedPages.{page_of-same}

-- ---- pages, one after another

patched-push : (pages : List NewPage) (page : NewPage) (old : ℕ → List ℕ) (n : ℕ) → patched (pages ++ page ∷ []) old n ≡ put_page page (patched pages old) n
patched-push [] page old n = refl
patched-push (p ∷ pages) page old n = patched-push pages page (put_page p old) n

pub put_here : (page : NewPage) (old : ℕ → List ℕ) (n : ℕ) → n ≡ page.number → put_page page old n ≡ page.bytes
put_here page old n is = rw (eq-eqb n page.number is) refl

pub put_else : (page : NewPage) (old : ℕ → List ℕ) (n : ℕ) → n ≢ page.number → put_page page old n ≡ old n
put_else page old n ne = rw (ne_eqb n page.number ne) refl

away : (n p k : ℕ) → n ≢ p → 8 * n ≤ k → k < 8 * n + 8 → (k < 8 * p) ⊎ (8 * p + 8 ≤ k)
away n p k other low below = elim (cases_lt n p) [ inl lt ↦ inl (omega arith) | inr le ↦ inr (omega (arith, other)) ]

-- two pages have no sector in common
pub apart : (n p k : ℕ) → n ≢ p → k < 8 → (8 * n + k < 8 * p) ⊎ (8 * p + 8 ≤ 8 * n + k)
apart n p k other lt = elim (cases_lt n p) [ inl less ↦ inl (omega arith) | inr le ↦ inr (omega (arith, other)) ]

pub not_among : (n m : ℕ) (ns : List ℕ) → is_among n ns ≡ false → IsTrue (is_among m ns) → n ≢ m
not_among n m ns h t is = let e : is_among m ns ≡ false = subst (λ (k : ℕ). is_among k ns ≡ false) is h in absurd (cc (t, e))

pub same_then : (ns : List ℕ) (p : ℕ) (bytes : List ℕ) (a b c : Image) → IsTrue (is_among p ns) → IsSameOutside ns a b → MayBeAllWritten (8 * p) 8 bytes b c → IsSameOutside ns a c
same_then ns p bytes a b c in_ns first second = record {
  size = second.size ∙ first.size;
  each = λ n k out lt. second.others (8 * n + k) (apart n p k (not_among n p ns out in_ns) lt) ∙ first.each n k out lt;
}

-- a number is not among more of them
not_among_left : (n : ℕ) (xs ys : List ℕ) → is_among n (xs ++ ys) ≡ false → is_among n xs ≡ false
not_among_left n [] ys h = refl
not_among_left n (x ∷ xs) ys h =
    elim (cases_eq n x) [
      | inl e ↦ absurd (grind (arith, nat_tests))
      | inr ne ↦ let rest : is_among n (xs ++ ys) ≡ false = grind (arith, nat_tests) in let ih = not_among_left n xs ys rest in grind (arith, nat_tests, ih)
    ]

pub among_last : (m : ℕ) (xs : List ℕ) → IsTrue (is_among m (xs ++ m ∷ []))
among_last m [] = rw (eq-eqb m m refl) refl
among_last m (x ∷ xs) = or_right (m == x) (is_among m (xs ++ m ∷ [])) (among_last m xs)
  where
    or_right : (a b : Bool) → IsTrue b → IsTrue (a || b)
    or_right true b h = refl
    or_right false b h = h

pub patched_then : (pages : List NewPage) (page : NewPage) (a b c : Image) → ArePatched pages a b → AreWritten (8 * page.number) 8 page.bytes b c → page_of c page.number ≡ page.bytes → ArePatched (pages ++ page ∷ []) a c
patched_then pages page a b c first second is =
    let names : numbers (pages ++ page ∷ []) ≡ numbers pages ++ page.number ∷ [] = map-append number_of pages (page ∷ []) in
    record {
      outside = record {
        size = second.size ∙ first.outside.size;
        each = λ n k out lt.
            let out2 : is_among n (numbers pages ++ page.number ∷ []) ≡ false = subst (λ (ns : List ℕ). is_among n ns ≡ false) names out in
            second.others (8 * n + k) (apart n page.number k (not_among n page.number (numbers pages ++ page.number ∷ []) out2 (among_last page.number (numbers pages))) lt)
            ∙ first.outside.each n k (not_among_left n (numbers pages) (page.number ∷ []) out2) lt;
      };
      bytes = λ n. elim (cases_eq n page.number) [
        | inl same ↦ ap (page_of c) same ∙ is ∙ sym (put_here page (patched pages (page_of a)) n same) ∙ sym (patched-push pages page (page_of a) n)
        | inr other ↦ page_of-same c b n (λ k low below. second.others k (away n page.number k other low below)) ∙ first.bytes n ∙ sym (put_else page (patched pages (page_of a)) n other) ∙ sym (patched-push pages page (page_of a) n)
      ];
    }

pub none_patched : (a : Image) → ArePatched [] a a
none_patched a = record { outside = record { size = refl; each = λ n k out lt. refl }; bytes = λ n. refl }

pub none_changed : (ns : List ℕ) (a : Image) → IsSameOutside ns a a
none_changed ns a = record { size = refl; each = λ n k out lt. refl }

-- the number of a page is among those of all
pub number_among : (pages : List NewPage) (i : ℕ) (d : NewPage) → i < length pages → IsTrue (is_among (get_or pages i d).number (numbers pages))
number_among [] i d lt = absurd (omega arith)
number_among (p ∷ pages) zero d lt = rw (eq-eqb p.number p.number refl) refl
number_among (p ∷ pages) (suc i) d lt = or_right ((get_or pages i d).number == p.number) (is_among (get_or pages i d).number (numbers pages)) (number_among pages i d (omega arith))
  where
    or_right : (a b : Bool) → IsTrue b → IsTrue (a || b)
    or_right true b h = refl
    or_right false b h = h
