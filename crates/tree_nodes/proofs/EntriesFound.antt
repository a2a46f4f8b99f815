-- The entries of a leaf, found one after another in its bytes.
use Rattle.std.proofs.Common.{◌≡◌, ℕ, suc, Bool, false, Ordering, ◌+◌, ◌≤◌, List, ◌∷◌, ◌++◌, length, take, drop, Option, Some, None, refl, sym, ap, ◌∙◌, arith, append_assoc}
use Rattle.std.specs.Prelude.{IsSome, ◌==◌}
use Rattle.std.specs.Int.{w16, from_be_bytes, to_be_bytes}
use Rattle.std.specs.Ordering.{is_eq, ordering_index}
use Rattle.std.specs.declared.cmp.Ordering.TheVariants.{Less, Equal, Greater}
use Rattle.std.proofs.lemmas.List.{take_at, drop_at, drop-drop}
use Rattle.std.proofs.lemmas.Nat.{from_be_bytes-to_be_bytes_2}
use Rattle.common_types.specs.ByteOrder.{byte_cmp}
use Rattle.page_store.specs.Pages.{Pair, pair_at}
use Rattle.page_store.specs.Flat.{entry_size}
use Rattle.page_store.specs.Encoding.{entry_bytes}
use Rattle.page_store.proofs.DecodedPages.{pair_sizes}
use Rattle.page_store.proofs.PairsByPage.{size_of_entry}
use Rattle.tree_nodes.specs.PageViews.{pairs_in, then_more}
use Rattle.tree_nodes.specs.PackedEntries.{bytes_below, bytes_there, bytes_before, bytes_of_first}
use Rattle.tree_nodes.proofs.SizesRead.{pair_read}
use Rattle.tree_nodes.proofs.PackedEntries.{AreBytes, pair_written}

-- where the parts of a first entry stand
pub record EntryIs (bytes : List ℕ) (x : Pair × List ℕ) : Type 0 where
  pub key_length : from_be_bytes w16 (take 2 bytes) ≡ length x.0.0
  pub value_length : from_be_bytes w16 (take 2 (drop 2 bytes)) ≡ length x.0.1
  pub key : take (length x.0.0) (drop 4 bytes) ≡ x.0.0
  pub rest : drop (entry_size x.0) bytes ≡ x.1
  pub room : entry_size x.0 ≤ length bytes

entry_is : (bytes : List ℕ) (x : Pair × List ℕ) → AreBytes bytes → pair_at bytes ≡ Some x → EntryIs bytes x
entry_is bytes x fits e =
    let key = x.0.0 in
    let value = x.0.1 in
    let rest = x.1 in
    let first = to_be_bytes w16 (length key) in
    let second = to_be_bytes w16 (length value) in
    let read = pair_read bytes x e in
    let small = pair_sizes x.0 read.0 in
    let whole : bytes ≡ entry_bytes x.0 ++ rest = (pair_written bytes x fits e).0 in
    let parts : bytes ≡ first ++ (second ++ (key ++ (value ++ rest))) = whole ∙ simp append_assoc in
    let after2 : drop 2 bytes ≡ second ++ (key ++ (value ++ rest)) = ap (drop 2) parts in
    let after4 : drop 4 bytes ≡ key ++ (value ++ rest) = sym (drop-drop 2 2 bytes) ∙ ap (drop 2) after2 in
    record {
      key_length = ap (λ (l : List ℕ). from_be_bytes w16 (take 2 l)) parts ∙ from_be_bytes-to_be_bytes_2 (length key) (omega (arith, small.0));
      value_length = ap (λ (l : List ℕ). from_be_bytes w16 (take 2 l)) after2 ∙ from_be_bytes-to_be_bytes_2 (length value) (omega (arith, small.1));
      key = ap (take (length key)) after4 ∙ take_at key (value ++ rest) (length key) refl;
      rest = ap (drop (entry_size x.0)) whole ∙ drop_at (entry_bytes x.0) rest (entry_size x.0) (size_of_entry x.0);
      room = omega (arith, read.1);
    }

-- a first entry, where there is one
pub entry_there : (bytes : List ℕ) → AreBytes bytes → IsSome (pair_at bytes) → (x : Pair × List ℕ) × (pair_at bytes ≡ Some x) × EntryIs bytes x
entry_there bytes fits some = go (pair_at bytes) refl some
  where
    go : (r : Option (Pair × List ℕ)) → pair_at bytes ≡ r → IsSome r → (x : Pair × List ℕ) × (pair_at bytes ≡ Some x) × EntryIs bytes x
    go None e some = absurd (cc some)
    go (Some x) e some = (x, e, entry_is bytes x fits e)

-- the first of some entries, and the others
pub record NextEntry (n m : ℕ) (bytes : List ℕ) (x : Pair × List ℕ) : Type 0 where
  pub read : pair_at bytes ≡ Some x
  pub entry : EntryIs bytes x
  pub row : pairs_in n bytes ≡ x.0 ∷ pairs_in m (drop (entry_size x.0) bytes)
  pub others : length (pairs_in m (drop (entry_size x.0) bytes)) ≡ m

pub next_entry : (n m : ℕ) (bytes : List ℕ) → AreBytes bytes → n ≡ suc m → length (pairs_in n bytes) ≡ n → (x : Pair × List ℕ) × NextEntry n m bytes x
next_entry n m bytes fits is some = go (pair_at bytes) refl
  where
    first : length (then_more (pairs_in m) (pair_at bytes)) ≡ suc m
    first = ap (λ (k : ℕ). length (pairs_in k bytes)) (sym is) ∙ some ∙ is

    go : (r : Option (Pair × List ℕ)) → pair_at bytes ≡ r → (x : Pair × List ℕ) × NextEntry n m bytes x
    go None e = absurd (let none : 0 ≡ suc m = sym (ap (λ (r : Option (Pair × List ℕ)). length (then_more (pairs_in m) r)) e) ∙ first in omega (arith, none))
    go (Some x) e =
        let entry = entry_is bytes x fits e in
        let row : pairs_in n bytes ≡ x.0 ∷ pairs_in m (drop (entry_size x.0) bytes) =
        ap (λ (k : ℕ). pairs_in k bytes) is ∙ ap (then_more (pairs_in m)) e ∙ ap (λ (l : List ℕ). x.0 ∷ pairs_in m l) (sym entry.rest) in
        let size = ap length row in
        (x, record { read = e; entry = entry; row = row; others = omega (arith, size, some, is) })

-- ---- over the first of some pairs

pub over_lesser : (key : List ℕ) (row others : List Pair) (pair : Pair) → row ≡ pair ∷ others → byte_cmp key pair.0 ≡ Greater → (bytes_below key row ≡ entry_size pair + bytes_below key others) × (bytes_there key row ≡ bytes_there key others)
over_lesser key row others pair is greater = (rw (is, greater) refl, rw (is, greater) refl)

pub over_other : (test : List ℕ → Bool) (row others : List Pair) (pair : Pair) → row ≡ pair ∷ others → test pair.0 ≡ false → (bytes_before test row ≡ entry_size pair + bytes_before test others) × (bytes_of_first test row ≡ bytes_of_first test others)
over_other test row others pair is fails = (rw (is, fails) refl, rw (is, fails) refl)

pub not_equal : (o : Ordering) → false ≡ (ordering_index o == 1) → is_eq o ≡ false
not_equal Less e = refl
not_equal Equal e = absurd (cc e)
not_equal Greater e = refl
