-- Entries of a page, one by one.
use Rattle.std.proofs.Common.{◌≡◌, ℕ, zero, suc, List, [], ◌∷◌, Option, Some, None, refl, sym, ap, ◌∙◌}
use Rattle.page_store.specs.Reading.{◌>>=◌}
use Rattle.page_store.specs.Pages.{entries_at}
use Rattle.page_store.proofs.Fields.{bind_some, bind_again}
use Rattle.tree_nodes.specs.PageViews.{in_row, then_more, after_entries}
use Rattle.tree_nodes.proofs.SizesRead.{some_is}

-- all entries that have the form
pub in_row_all : {E : Type 0} (entry_at : List ℕ → Option (E × List ℕ)) (n : ℕ) (bytes : List ℕ) (x : List E × List ℕ) → entries_at entry_at n bytes ≡ Some x → in_row entry_at n bytes ≡ x.0
in_row_all entry_at zero bytes x e = ap (λ (y : List _ × List ℕ). y.0) (some_is ([], bytes) x e)
in_row_all entry_at (suc n) bytes x e =
    let a = bind_some (entry_at bytes) (λ entry. entries_at entry_at n entry.1 >>= λ others. Some (entry.0 ∷ others.0, others.1)) x e in
    let b = bind_some (entries_at entry_at n a.0.1) (λ others. Some (a.0.0 ∷ others.0, others.1)) x a.2 in
    let is = some_is (a.0.0 ∷ b.0.0, b.0.1) x b.2 in
    ap (then_more (in_row entry_at n)) a.1 ∙ ap (λ (l : List _). a.0.0 ∷ l) (in_row_all entry_at n a.0.1 b.0 b.1) ∙ ap (λ (y : List _ × List ℕ). y.0) is

after_more : {E : Type 0} (e : E) (r : Option (List E × List ℕ)) → after_entries (r >>= λ others. Some (e ∷ others.0, others.1)) ≡ after_entries r
after_more e None = refl
after_more e (Some x) = refl

pub after_step : {E : Type 0} (entry_at : List ℕ → Option (E × List ℕ)) (m n : ℕ) (bytes : List ℕ) (e : E) (after : List ℕ) (all : Option (List ℕ)) → m ≡ suc n → entry_at bytes ≡ Some (e, after)
    → after_entries (entries_at entry_at m bytes) ≡ all → after_entries (entries_at entry_at n after) ≡ all
after_step entry_at m n bytes e after all is read whole =
    sym (after_more e (entries_at entry_at n after))
    ∙ ap after_entries (sym (bind_again (entry_at bytes) (λ entry. entries_at entry_at n entry.1 >>= λ others. Some (entry.0 ∷ others.0, others.1)) (e, after) (entries_at entry_at n after >>= λ others. Some (e ∷ others.0, others.1)) read refl))
    ∙ ap (λ (k : ℕ). after_entries (entries_at entry_at k bytes)) (sym is) ∙ whole

pub after_none : {E : Type 0} (entry_at : List ℕ → Option (E × List ℕ)) (m n : ℕ) (bytes : List ℕ) (all : Option (List ℕ)) → m ≡ suc n → entry_at bytes ≡ None → after_entries (entries_at entry_at m bytes) ≡ all → None ≡ all
after_none entry_at m n bytes all is read whole = sym (rw (is, read) refl) ∙ whole
