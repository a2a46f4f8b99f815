-- Entries of a leaf as bytes: what is read is what was written, and what is put among them or taken.
use lib.Seq.{paste}
use Rattle.std.proofs.Common.{◌≡◌, ℕ, zero, suc, ◌+◌, ◌-◌, ◌*◌, ◌<◌, ◌≤◌, Bool, true, false, List, [], ◌∷◌, ◌++◌, length, take, drop, replicate, get_or, Option, Some, None, Ordering, refl, sym, ap, subst, ◌∙◌, inl, inr, arith, length-append, append_assoc}
use Rattle.std.specs.Prelude.{◌==◌, ◌&&◌, nat_le, if◌then◌else◌}
use Rattle.std.specs.List.{list_all}
use Rattle.std.specs.Int.{w16, from_be_bytes, to_be_bytes}
use Rattle.std.specs.Ordering.{match_ordering}
use Rattle.std.specs.declared.cmp.Ordering.TheVariants.{Less, Equal, Greater}
use Rattle.std.specs.Map.{remove_entry}
use Rattle.std.specs.BTreeMap.{insert_entry, is_at}
use Rattle.std.proofs.lemmas.Bool.{leb-true, ne_eqb, cases_lt}
use Rattle.std.proofs.lemmas.List.{take_at, drop_at, drop-drop, drop-replicate, take-append-drop, append-nil, length-take-le, length-take, get_or-drop, get_or-take, get_or_past}
use Rattle.std.proofs.lemmas.List.Edits.{paste_all}
use Rattle.std.proofs.lemmas.Nat.{be_bytes_2}
use Rattle.std.proofs.lemmas.Map.Lookups.{exact_bytes}
use Rattle.common_types.specs.ByteOrder.{byte_cmp}
use Rattle.page_store.specs.Reading.{◌>>=◌, where_true, number_at, piece_at}
use Rattle.page_store.specs.Batch.{is_pair}
use Rattle.page_store.specs.Pages.{Pair, pair_at, entries_at}
use Rattle.page_store.specs.Flat.{entry_size}
use Rattle.page_store.specs.Encoding.{padded, entry_bytes, entries_bytes}
use Rattle.page_store.proofs.Fields.{bind_some, test_passed}
use Rattle.page_store.proofs.DecodedPages.{entries_again, pair_sizes}
use Rattle.page_store.proofs.PairsByPage.{size_of_entry}
use Rattle.tree_nodes.specs.Tree.{leaf_bytes}
use Rattle.tree_nodes.specs.PageViews.{pairs_in, then_more, after_entries}
use Rattle.tree_nodes.specs.PackedEntries.{IsPacked, bytes_below, bytes_there, bytes_before, bytes_of_first}
use Rattle.tree_nodes.proofs.KeyOrder.{both_true}
use Rattle.tree_nodes.proofs.JoinedPairs.{taken}
use Rattle.tree_nodes.proofs.RisingPairs.{put_pairs, take_pairs}
use Rattle.tree_nodes.proofs.SizesRead.{some_is, pair_read, pairs_read, piece_size}
use Rattle.tree_nodes.proofs.EntriesOneByOne.{in_row_all}
use Rattle.tree_nodes.proofs.PageForm.{after_some}
use Rattle.tree_nodes.proofs.EncodedPages.{entries_length}

-- each is a byte
abbrev pub AreBytes : List ℕ → Type 0
AreBytes bytes = (i : ℕ) → get_or bytes i 0 < 256

pub bytes_after : (n : ℕ) (bytes : List ℕ) → AreBytes bytes → AreBytes (drop n bytes)
bytes_after n bytes h i = rw get_or-drop (h (n + i))

bytes_until : (n : ℕ) (bytes : List ℕ) → AreBytes bytes → AreBytes (take n bytes)
bytes_until n bytes h i =
    elim (cases_lt i n) [
      | inl lt ↦ rw (get_or-take n bytes i 0 lt) (h i)
      | inr le ↦ rw (get_or_past (take n bytes) i 0 (omega (arith, length-take n bytes))) (omega arith)
    ]

-- ---- what is read is what was written

number_written : (bytes : List ℕ) (x : ℕ × List ℕ) → AreBytes bytes → number_at w16 bytes ≡ Some x → (bytes ≡ to_be_bytes w16 x.0 ++ x.1) × AreBytes x.1
number_written bytes x fits e =
    let t = test_passed (nat_le 2 (length bytes)) (Some (from_be_bytes w16 (take 2 bytes), drop 2 bytes)) x e in
    let le = leb-true 2 (length bytes) t.0 in
    let is = some_is (from_be_bytes w16 (take 2 bytes), drop 2 bytes) x t.1 in
    let number : from_be_bytes w16 (take 2 bytes) ≡ x.0 = ap (λ (y : ℕ × List ℕ). y.0) is in
    let rest : drop 2 bytes ≡ x.1 = ap (λ (y : ℕ × List ℕ). y.1) is in
    let front : to_be_bytes w16 x.0 ≡ take 2 bytes = be_bytes_2 (take 2 bytes) x.0 (length-take-le 2 bytes le) (bytes_until 2 bytes fits) (sym number) in
    (sym (take-append-drop 2 bytes) ∙ ap (λ (l : List ℕ). l ++ drop 2 bytes) (sym front) ∙ ap (λ (l : List ℕ). to_be_bytes w16 x.0 ++ l) rest, subst AreBytes rest (bytes_after 2 bytes fits))

piece_written : (n : ℕ) (bytes : List ℕ) (x : List ℕ × List ℕ) → AreBytes bytes → piece_at n bytes ≡ Some x → (bytes ≡ x.0 ++ x.1) × AreBytes x.1
piece_written n bytes x fits e =
    let t = test_passed (nat_le n (length bytes)) (Some (take n bytes, drop n bytes)) x e in
    let is = some_is (take n bytes, drop n bytes) x t.1 in
    let front : take n bytes ≡ x.0 = ap (λ (y : List ℕ × List ℕ). y.0) is in
    let rest : drop n bytes ≡ x.1 = ap (λ (y : List ℕ × List ℕ). y.1) is in
    (sym (take-append-drop n bytes) ∙ ap (λ (l : List ℕ). l ++ drop n bytes) front ∙ ap (λ (l : List ℕ). x.0 ++ l) rest, subst AreBytes rest (bytes_after n bytes fits))

pub pair_written : (bytes : List ℕ) (x : Pair × List ℕ) → AreBytes bytes → pair_at bytes ≡ Some x → (bytes ≡ entry_bytes x.0 ++ x.1) × AreBytes x.1
unfolding pair_at
pair_written bytes x fits e =
    let a = bind_some (number_at w16 bytes) (λ key_length. number_at w16 key_length.1 >>= λ value_length. piece_at key_length.0 value_length.1 >>= λ key. piece_at value_length.0 key.1 >>= λ value.
    where_true (nat_le 1 key_length.0 && (nat_le key_length.0 300 && nat_le value_length.0 1024)) (Some ((key.0, value.0), value.1))) x e in
    let b = bind_some (number_at w16 a.0.1) (λ value_length. piece_at a.0.0 value_length.1 >>= λ key. piece_at value_length.0 key.1 >>= λ value.
    where_true (nat_le 1 a.0.0 && (nat_le a.0.0 300 && nat_le value_length.0 1024)) (Some ((key.0, value.0), value.1))) x a.2 in
    let c = bind_some (piece_at a.0.0 b.0.1) (λ key. piece_at b.0.0 key.1 >>= λ value. where_true (nat_le 1 a.0.0 && (nat_le a.0.0 300 && nat_le b.0.0 1024)) (Some ((key.0, value.0), value.1))) x b.2 in
    let d = bind_some (piece_at b.0.0 c.0.1) (λ value. where_true (nat_le 1 a.0.0 && (nat_le a.0.0 300 && nat_le b.0.0 1024)) (Some ((c.0.0, value.0), value.1))) x c.2 in
    let t = test_passed (nat_le 1 a.0.0 && (nat_le a.0.0 300 && nat_le b.0.0 1024)) (Some ((c.0.0, d.0.0), d.0.1)) x d.2 in
    let is = some_is ((c.0.0, d.0.0), d.0.1) x t.1 in
    let m = number_written bytes a.0 fits a.1 in
    let n = number_written a.0.1 b.0 m.1 b.1 in
    let k = piece_written a.0.0 b.0.1 c.0 n.1 c.1 in
    let v = piece_written b.0.0 c.0.1 d.0 k.1 d.1 in
    let key : length c.0.0 ≡ a.0.0 = (piece_size a.0.0 b.0.1 c.0 c.1).0 in
    let value : length d.0.0 ≡ b.0.0 = (piece_size b.0.0 c.0.1 d.0 d.1).0 in
    let joined : bytes ≡ to_be_bytes w16 a.0.0 ++ (to_be_bytes w16 b.0.0 ++ (c.0.0 ++ (d.0.0 ++ d.0.1))) =
    m.0 ∙ ap (λ (l : List ℕ). to_be_bytes w16 a.0.0 ++ l) (n.0 ∙ ap (λ (l : List ℕ). to_be_bytes w16 b.0.0 ++ l) (k.0 ∙ ap (λ (l : List ℕ). c.0.0 ++ l) v.0)) in
    let sized : bytes ≡ to_be_bytes w16 (length c.0.0) ++ (to_be_bytes w16 (length d.0.0) ++ (c.0.0 ++ (d.0.0 ++ d.0.1))) = rw (key, value) joined in
    let regrouped : entry_bytes (c.0.0, d.0.0) ++ d.0.1 ≡ to_be_bytes w16 (length c.0.0) ++ (to_be_bytes w16 (length d.0.0) ++ (c.0.0 ++ (d.0.0 ++ d.0.1))) = simp append_assoc in
    let here : (bytes ≡ entry_bytes (c.0.0, d.0.0) ++ d.0.1) × AreBytes d.0.1 = (sized ∙ sym regrouped, v.1) in
    subst (λ (y : Pair × List ℕ). (bytes ≡ entry_bytes y.0 ++ y.1) × AreBytes y.1) is here

pairs_written : (n : ℕ) (bytes : List ℕ) (x : List Pair × List ℕ) → AreBytes bytes → entries_at pair_at n bytes ≡ Some x → bytes ≡ entries_bytes x.0 ++ x.1
pairs_written zero bytes x fits e = subst (λ (y : List Pair × List ℕ). bytes ≡ entries_bytes y.0 ++ y.1) (some_is ([], bytes) x e) refl
pairs_written (suc n) bytes x fits e =
    let a = bind_some (pair_at bytes) (λ entry. entries_at pair_at n entry.1 >>= λ others. Some (entry.0 ∷ others.0, others.1)) x e in
    let b = bind_some (entries_at pair_at n a.0.1) (λ others. Some (a.0.0 ∷ others.0, others.1)) x a.2 in
    let is = some_is (a.0.0 ∷ b.0.0, b.0.1) x b.2 in
    let p = pair_written bytes a.0 fits a.1 in
    let more = pairs_written n a.0.1 b.0 p.1 b.1 in
    let here : bytes ≡ entries_bytes (a.0.0 ∷ b.0.0) ++ b.0.1 = p.0 ∙ ap (λ (l : List ℕ). entry_bytes a.0.0 ++ l) more ∙ sym (append_assoc (entry_bytes a.0.0) (entries_bytes b.0.0) b.0.1) in
    subst (λ (y : List Pair × List ℕ). bytes ≡ entries_bytes y.0 ++ y.1) is here

-- ---- packed entries

pub row_pairs : (n : ℕ) (bytes : List ℕ) → list_all is_pair (pairs_in n bytes) ≡ true
row_pairs zero bytes = refl
row_pairs (suc n) bytes = go (pair_at bytes) refl (row_pairs n)
  where
    go : (r : Option (Pair × List ℕ)) → pair_at bytes ≡ r → ((rest : List ℕ) → list_all is_pair (pairs_in n rest) ≡ true) → list_all is_pair (then_more (pairs_in n) r) ≡ true
    go None e more = refl
    go (Some x) e more = rw (pair_read bytes x e).0 (more x.1)

pub packed_again : (pairs : List Pair) → list_all is_pair pairs ≡ true → pairs_in (length pairs) (entries_bytes pairs) ≡ pairs
packed_again pairs h = ap (pairs_in (length pairs)) (sym (append-nil (entries_bytes pairs))) ∙ in_row_all pair_at (length pairs) (entries_bytes pairs ++ []) (pairs, []) (entries_again pairs [] h)

-- the entries of these pairs, and no byte more
pub record ArePacked (count : ℕ) (bytes : List ℕ) (pairs : List Pair) : Type 0 where
  pub packed : IsPacked count bytes
  pub again : pairs_in count bytes ≡ pairs

pub are_packed : (count : ℕ) (bytes : List ℕ) (pairs : List Pair) → list_all is_pair pairs ≡ true → length pairs ≡ count → bytes ≡ entries_bytes pairs → ArePacked count bytes pairs
are_packed count bytes pairs h n b =
    let again : pairs_in count bytes ≡ pairs = rw (← n, b) (packed_again pairs h) in
    record { packed = (ap length again ∙ n, b ∙ ap entries_bytes (sym again)); again = again }

-- bytes that are as long as the entries of their pairs, each of which has the sizes of a pair
pub packed_sizes : (count : ℕ) (bytes : List ℕ) (pairs : List Pair) → IsPacked count bytes → pairs_in count bytes ≡ pairs → (length bytes ≡ leaf_bytes pairs) × (list_all is_pair pairs ≡ true)
packed_sizes count bytes pairs p is = (ap length p.1 ∙ entries_length (pairs_in count bytes) ∙ ap leaf_bytes is, ap (list_all is_pair) (sym is) ∙ row_pairs count bytes)

-- ---- a pair put

abbrev with_entry : List ℕ → List ℕ → List Pair → List ℕ
with_entry key value pairs = take (bytes_below key pairs) (entries_bytes pairs) ++ (entry_bytes (key, value) ++ drop (bytes_below key pairs + bytes_there key pairs) (entries_bytes pairs))

-- a change behind an entry
step_bytes : (pair : Pair) (pairs : List Pair) (at size : ℕ) (new : List ℕ)
    → take (entry_size pair + at) (entries_bytes (pair ∷ pairs)) ++ (new ++ drop (entry_size pair + at + size) (entries_bytes (pair ∷ pairs))) ≡ entry_bytes pair ++ (take at (entries_bytes pairs) ++ (new ++ drop (at + size) (entries_bytes pairs)))
step_bytes pair pairs at size new =
    let front : take (entry_size pair + at) (entry_bytes pair ++ entries_bytes pairs) ≡ entry_bytes pair ++ take at (entries_bytes pairs) = take_behind (entry_bytes pair) (entries_bytes pairs) (entry_size pair) at (size_of_entry pair) in
    let back : drop (entry_size pair + at + size) (entry_bytes pair ++ entries_bytes pairs) ≡ drop (at + size) (entries_bytes pairs) = drop_behind (entry_bytes pair) (entries_bytes pairs) (entry_size pair + at + size) (at + size) (omega (arith, size_of_entry pair)) in
    rw (front, back) (append_assoc (entry_bytes pair) (take at (entries_bytes pairs)) (new ++ drop (at + size) (entries_bytes pairs)))
  where
    take_behind : (xs ys : List ℕ) (n at : ℕ) → length xs ≡ n → take (n + at) (xs ++ ys) ≡ xs ++ take at ys
    take_behind [] ys n at e = ap (λ (k : ℕ). take k ys) (omega (arith, e))
    take_behind (x ∷ xs) ys zero at e = absurd (omega (arith, e))
    take_behind (x ∷ xs) ys (suc n) at e = let next : suc n + at ≡ suc (n + at) = omega arith in rw next (ap (λ (l : List ℕ). x ∷ l) (take_behind xs ys n at (omega (arith, e))))

    drop_behind : (xs ys : List ℕ) (n at : ℕ) → n ≡ length xs + at → drop n (xs ++ ys) ≡ drop at ys
    drop_behind [] ys n at e = ap (λ (k : ℕ). drop k ys) (omega (arith, e))
    drop_behind (x ∷ xs) ys zero at e = absurd (omega (arith, e))
    drop_behind (x ∷ xs) ys (suc n) at e = drop_behind xs ys n at (omega (arith, e))

pub put_written : (key value : List ℕ) (pairs : List Pair) → with_entry key value pairs ≡ entries_bytes (insert_entry byte_cmp pairs key value)
put_written key value [] = refl
put_written key value (pair ∷ pairs) = go (byte_cmp key pair.0) refl (put_written key value pairs)
  where
    go : (o : Ordering) → byte_cmp key pair.0 ≡ o → with_entry key value pairs ≡ entries_bytes (insert_entry byte_cmp pairs key value)
        → take (match_ordering o 0 0 (entry_size pair + bytes_below key pairs)) (entries_bytes (pair ∷ pairs))
        ++ (entry_bytes (key, value) ++ drop (match_ordering o 0 0 (entry_size pair + bytes_below key pairs) + match_ordering o 0 (entry_size pair) (bytes_there key pairs)) (entries_bytes (pair ∷ pairs)))
        ≡ entries_bytes (match_ordering o ((key, value) ∷ pair ∷ pairs) ((pair.0, value) ∷ pairs) (pair ∷ insert_entry byte_cmp pairs key value))
    go Less is more = refl
    go Equal is more =
        let same : key ≡ pair.0 = exact_bytes key pair.0 is in
        let none : 0 + entry_size pair ≡ entry_size pair = omega arith in
        rw (none, drop_at (entry_bytes pair) (entries_bytes pairs) (entry_size pair) (size_of_entry pair)) (ap (λ (k : List ℕ). entry_bytes (k, value) ++ entries_bytes pairs) same)
    go Greater is more = step_bytes pair pairs (bytes_below key pairs) (bytes_there key pairs) (entry_bytes (key, value)) ∙ ap (λ (l : List ℕ). entry_bytes pair ++ l) more

-- how many pairs there are then
pub put_counted : (key value : List ℕ) (pairs : List Pair) → length (insert_entry byte_cmp pairs key value) ≡ (if bytes_there key pairs == 0 then suc (length pairs) else length pairs)
put_counted key value [] = refl
put_counted key value (pair ∷ pairs) = go (byte_cmp key pair.0) (put_counted key value pairs)
  where
    inside : (b : Bool) (n : ℕ) → suc (if b then suc n else n) ≡ (if b then suc (suc n) else suc n)
    inside true n = refl
    inside false n = refl

    go : (o : Ordering) → length (insert_entry byte_cmp pairs key value) ≡ (if bytes_there key pairs == 0 then suc (length pairs) else length pairs)
        → length (match_ordering o ((key, value) ∷ pair ∷ pairs) ((pair.0, value) ∷ pairs) (pair ∷ insert_entry byte_cmp pairs key value)) ≡ (if match_ordering o 0 (entry_size pair) (bytes_there key pairs) == 0 then suc (length (pair ∷ pairs)) else length (pair ∷ pairs))
    go Less more = refl
    go Equal more = let some : (entry_size pair == 0) ≡ false = ne_eqb (entry_size pair) 0 (λ e. omega (arith, e)) in rw some refl
    go Greater more = ap suc more ∙ inside (bytes_there key pairs == 0) (length pairs)

-- ---- a pair taken

pub taken_written : (test : List ℕ → Bool) (pairs : List Pair) → take (bytes_before test pairs) (entries_bytes pairs) ++ drop (bytes_before test pairs + bytes_of_first test pairs) (entries_bytes pairs) ≡ entries_bytes (remove_entry test pairs)
taken_written test [] = refl
taken_written test (pair ∷ pairs) = go (test pair.0) (taken_written test pairs)
  where
    go : (b : Bool) → take (bytes_before test pairs) (entries_bytes pairs) ++ drop (bytes_before test pairs + bytes_of_first test pairs) (entries_bytes pairs) ≡ entries_bytes (remove_entry test pairs)
        → take (if b then 0 else entry_size pair + bytes_before test pairs) (entries_bytes (pair ∷ pairs))
        ++ drop ((if b then 0 else entry_size pair + bytes_before test pairs) + (if b then entry_size pair else bytes_of_first test pairs)) (entries_bytes (pair ∷ pairs)) ≡ entries_bytes (if b then pairs else pair ∷ remove_entry test pairs)
    go true more = let none : 0 + entry_size pair ≡ entry_size pair = omega arith in rw (none, drop_at (entry_bytes pair) (entries_bytes pairs) (entry_size pair) (size_of_entry pair)) refl
    go false more = step_bytes pair pairs (bytes_before test pairs) (bytes_of_first test pairs) [] ∙ ap (λ (l : List ℕ). entry_bytes pair ++ l) more

pub none_taken : (test : List ℕ → Bool) (pairs : List Pair) → bytes_of_first test pairs ≡ 0 → remove_entry test pairs ≡ pairs
none_taken test [] h = refl
none_taken test (pair ∷ pairs) h = go (test pair.0) h (none_taken test pairs)
  where
    go : (b : Bool) → (if b then entry_size pair else bytes_of_first test pairs) ≡ 0 → (bytes_of_first test pairs ≡ 0 → remove_entry test pairs ≡ pairs) → (if b then pairs else pair ∷ remove_entry test pairs) ≡ pair ∷ pairs
    go true h more = absurd (omega (arith, h))
    go false h more = ap (λ (l : List Pair). pair ∷ l) (more h)

pub one_taken : (test : List ℕ → Bool) (pairs : List Pair) → 0 < bytes_of_first test pairs → suc (length (remove_entry test pairs)) ≡ length pairs
one_taken test [] h = absurd (omega (arith, h))
one_taken test (pair ∷ pairs) h = go (test pair.0) h (one_taken test pairs)
  where
    go : (b : Bool) → 0 < (if b then entry_size pair else bytes_of_first test pairs) → (0 < bytes_of_first test pairs → suc (length (remove_entry test pairs)) ≡ length pairs)
        → suc (length (if b then pairs else pair ∷ remove_entry test pairs)) ≡ suc (length pairs)
    go true h more = refl
    go false h more = ap suc (more h)

-- ---- packed leaves with a pair put or taken

pub put_packed : (count : ℕ) (old : List ℕ) (pairs : List Pair) (key value : List ℕ) (at size now : ℕ) (made : List ℕ) → IsPacked count old → pairs_in count old ≡ pairs → is_pair (key, value) ≡ true → at ≡ bytes_below key pairs → size ≡ bytes_there key pairs
    → made ≡ take at old ++ (entry_bytes (key, value) ++ drop (at + size) old) → now ≡ (if size == 0 then suc count else count) → ArePacked now made (insert_entry byte_cmp pairs key value)
put_packed count old pairs key value at size now made p is h a s m n =
    let sizes = packed_sizes count old pairs p is in
    let whole : old ≡ entries_bytes pairs = p.1 ∙ ap entries_bytes is in
    let length_is : count ≡ length pairs = sym p.0 ∙ ap length is in
    let counted : length (insert_entry byte_cmp pairs key value) ≡ now = put_counted key value pairs ∙ rw (n, s, length_is) refl in
    are_packed now made (insert_entry byte_cmp pairs key value) (put_pairs pairs key value sizes.1 h) counted (m ∙ rw (a, s, whole) (put_written key value pairs))

pub taken_packed : (count : ℕ) (old : List ℕ) (pairs : List Pair) (key : List ℕ) (at size now : ℕ) (made : List ℕ) → IsPacked count old → pairs_in count old ≡ pairs → at ≡ bytes_before (is_at (byte_cmp key)) pairs → size ≡ bytes_of_first (is_at (byte_cmp key)) pairs → 0 < size
    → made ≡ take at old ++ drop (at + size) old → now ≡ count - 1 → ArePacked now made (taken key pairs)
taken_packed count old pairs key at size now made p is a s some m n =
    let sizes = packed_sizes count old pairs p is in
    let whole : old ≡ entries_bytes pairs = p.1 ∙ ap entries_bytes is in
    let one = one_taken (is_at (byte_cmp key)) pairs (omega (arith, s, some)) in
    let counted : length (taken key pairs) ≡ now = let same = ap length is in omega (arith, one, p.0, same, n) in
    are_packed now made (taken key pairs) (take_pairs pairs key sizes.1) counted (m ∙ rw (a, s, whole) (taken_written (is_at (byte_cmp key)) pairs))

-- ---- sizes

-- entries of at most 1,328 bytes
pub small_bytes : (pairs : List Pair) → list_all is_pair pairs ≡ true → leaf_bytes pairs ≤ 1328 * length pairs
small_bytes [] h = omega arith
small_bytes (pair ∷ pairs) h =
    let both = both_true (is_pair pair) (list_all is_pair pairs) h in
    let more = small_bytes pairs both.1 in
    let size = pair_sizes pair both.0 in
    omega (arith, more, size.0, size.1)

pub below_inside : (key : List ℕ) (pairs : List Pair) → bytes_below key pairs + bytes_there key pairs ≤ leaf_bytes pairs
below_inside key [] = omega arith
below_inside key (pair ∷ pairs) = go (byte_cmp key pair.0) (below_inside key pairs)
  where
    go : (o : Ordering) → bytes_below key pairs + bytes_there key pairs ≤ leaf_bytes pairs
        → match_ordering o 0 0 (entry_size pair + bytes_below key pairs) + match_ordering o 0 (entry_size pair) (bytes_there key pairs) ≤ entry_size pair + leaf_bytes pairs
    go Less more = omega arith
    go Equal more = omega arith
    go Greater more = omega (arith, more)

pub before_inside : (test : List ℕ → Bool) (pairs : List Pair) → bytes_before test pairs + bytes_of_first test pairs ≤ leaf_bytes pairs
before_inside test [] = omega arith
before_inside test (pair ∷ pairs) = go (test pair.0) (before_inside test pairs)
  where
    go : (b : Bool) → bytes_before test pairs + bytes_of_first test pairs ≤ leaf_bytes pairs
        → (if b then 0 else entry_size pair + bytes_before test pairs) + (if b then entry_size pair else bytes_of_first test pairs) ≤ entry_size pair + leaf_bytes pairs
    go true more = omega arith
    go false more = omega (arith, more)

pub row_small : (n : ℕ) (bytes : List ℕ) → leaf_bytes (pairs_in n bytes) ≤ 1328 * n
row_small zero bytes = omega arith
row_small (suc n) bytes = go (pair_at bytes) refl (row_small n)
  where
    go : (r : Option (Pair × List ℕ)) → pair_at bytes ≡ r → ((rest : List ℕ) → leaf_bytes (pairs_in n rest) ≤ 1328 * n) → leaf_bytes (then_more (pairs_in n) r) ≤ 1328 * suc n
    go None e more = omega arith
    go (Some x) e more = let size = pair_sizes x.0 (pair_read bytes x e).0 in omega (arith, more x.1, size.0, size.1)

-- ---- the entries of a page, and a page of entries

pub rest_inside : (n : ℕ) (bytes rest : List ℕ) → Some rest ≡ after_entries (entries_at pair_at n bytes) → length rest ≤ length bytes
rest_inside n bytes rest e =
    let x = after_some (entries_at pair_at n bytes) rest e in
    let read = pairs_read n bytes x.0 x.1 in
    omega (arith, read.2, ap length x.2)

-- the bytes of a page up to the end of its entries
pub cut_packed : (n : ℕ) (bytes rest : List ℕ) (k : ℕ) → AreBytes bytes → Some rest ≡ after_entries (entries_at pair_at n bytes) → k ≡ length bytes - length rest → ArePacked n (take k bytes) (pairs_in n bytes)
cut_packed n bytes rest k fits e is =
    let x = after_some (entries_at pair_at n bytes) rest e in
    let read = pairs_read n bytes x.0 x.1 in
    let row : pairs_in n bytes ≡ x.0.0 = in_row_all pair_at n bytes x.0 x.1 in
    let rest_is = ap length x.2 in
    let joined : bytes ≡ entries_bytes x.0.0 ++ x.0.1 = pairs_written n bytes x.0 fits x.1 in
    let size : length (entries_bytes x.0.0) ≡ k = omega (arith, entries_length x.0.0, read.2, rest_is, is) in
    let cut : take k bytes ≡ entries_bytes x.0.0 = ap (take k) joined ∙ take_at (entries_bytes x.0.0) x.0.1 k size in
    subst (ArePacked n (take k bytes)) (sym row) (are_packed n (take k bytes) x.0.0 read.1 read.0 cut)

pub piece_padded : (n : ℕ) (front piece page made : List ℕ) (at : ℕ) → page ≡ padded n front → at ≡ length front → length front + length piece ≤ n → made ≡ paste page at piece (length piece) → made ≡ padded n (front ++ piece)
piece_padded n front piece page made at whole is room now =
    let zeros : List ℕ = replicate (n - length front) 0 in
    let k = length piece in
    let back : drop (at + k) (front ++ zeros) ≡ replicate (n - length (front ++ piece)) 0 =
    ap (λ (m : ℕ). drop (m + k) (front ++ zeros)) is ∙ sym (drop-drop k (length front) (front ++ zeros)) ∙ ap (drop k) (drop_at front zeros (length front) refl) ∙ drop-replicate k (n - length front) 0
    ∙ ap (λ (m : ℕ). replicate m 0) (let joined = length-append front piece in omega (arith, joined)) in
    now ∙ ap (λ (l : List ℕ). paste l at piece k) whole ∙ paste_all (front ++ zeros) at piece k refl ∙ rw (take_at front zeros at (sym is), back) (sym (append_assoc front piece (replicate (n - length (front ++ piece)) 0)))

-- ---- places inside the bytes of a packed leaf

pub below_packed : (count : ℕ) (old : List ℕ) (row pairs : List Pair) (key : List ℕ) (at size : ℕ) → IsPacked count old → pairs_in count old ≡ pairs → row ≡ pairs → at ≡ bytes_below key row → size ≡ bytes_there key row → at + size ≤ length old
below_packed count old row pairs key at size p is same a s =
    let sizes = packed_sizes count old pairs p is in
    let inside = below_inside key pairs in
    let at_is = a ∙ ap (bytes_below key) same in
    let size_is = s ∙ ap (bytes_there key) same in
    omega (arith, at_is, size_is, sizes.0, inside)

pub before_packed : (count : ℕ) (old : List ℕ) (row pairs : List Pair) (test : List ℕ → Bool) (at size : ℕ) → IsPacked count old → pairs_in count old ≡ pairs → row ≡ pairs → at ≡ bytes_before test row → size ≡ bytes_of_first test row → at + size ≤ length old
before_packed count old row pairs test at size p is same a s =
    let sizes = packed_sizes count old pairs p is in
    let inside = before_inside test pairs in
    let at_is = a ∙ ap (bytes_before test) same in
    let size_is = s ∙ ap (bytes_of_first test) same in
    omega (arith, at_is, size_is, sizes.0, inside)
