-- Whether a key has an entry, by the bytes of the entry.
use Rattle.std.proofs.Common.{◌≡◌, ℕ, List, [], ◌∷◌, false, not, refl, inl, inr, arith}
use Rattle.std.specs.Prelude.{◌==◌, is_some}
use Rattle.std.specs.BTreeMap.{is_at}
use Rattle.std.proofs.lemmas.Bool.{cases_Bool, ne_eqb}
use Rattle.common_types.specs.ByteOrder.{byte_cmp}
use Rattle.page_store.specs.Pages.{Pair}
use Rattle.page_store.specs.Flat.{entry_size}
use Rattle.page_store.specs.Batch.{value_at}
use Rattle.tree_nodes.specs.PackedEntries.{bytes_of_first}

pub none_there : (key : List ℕ) (pairs : List Pair) → is_some (value_at pairs key) ≡ not (bytes_of_first (is_at (byte_cmp key)) pairs == 0)
none_there key [] = refl
none_there key (pair ∷ pairs) =
    elim (cases_Bool (is_at (byte_cmp key) pair.0)) [
      | inl t ↦ let some : (entry_size pair == 0) ≡ false = ne_eqb (entry_size pair) 0 (λ e. omega (arith, e)) in rw (t, some) refl
      | inr f ↦ rw f (none_there key pairs)
    ]
