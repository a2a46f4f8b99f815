-- What a table with one member more has at its keys.
use Rattle.std.proofs.Common.{◌≡◌, ◌∙◌, ◌≤◌, ℕ, max, Bool, true, false, ◌&&◌, List, Option, Some, None, Ordering, Less, Equal, Greater, nat_cmp, is_eq, bytes_eq, refl, ap, sym, arith}
use Rattle.std.proofs.lemmas.Map.Text.{is_eq-slice_cmp}
use Rattle.std.proofs.lemmas.Map.Lookups.{exact_bytes}
use Rattle.std.proofs.lemmas.Cmp.{nat_list_cmp_total}
use Rattle.std.specs.Cmp.{tied_itself}
use Rattle.std.specs.Cmp.Lexicographic.{slice_cmp}
use Rattle.std.specs.Ordering.{match_ordering}
use Rattle.toml.specs.Data.{Data, depth, Members, no_members, member, members_depth, get_member}
use Rattle.change_file.specs.Tables.{has_only, is_among}
use Rattle.change_writer.specs.Members.{with_member}

-- the members with one more, by how its key lies beside the first
abbrev placed : Ordering → List ℕ → Data → List ℕ → Data → Members → Members
placed o k d l e ms = match_ordering o (member k d (member l e ms)) (member l d ms) (member l e (with_member k d ms))

-- ---- at its own key

found_at : (o : Ordering) (k : List ℕ) (d : Data) (l : List ℕ) (e : Data) (ms : Members) → slice_cmp nat_cmp k l ≡ o
    → get_member k (with_member k d ms) ≡ Some d → get_member k (placed o k d l e ms) ≡ Some d
found_at Less k d l e ms is ih = rw (tied_itself nat_list_cmp_total k)
found_at Equal k d l e ms is ih = rw is
found_at Greater k d l e ms is ih = rw is ih

pub get_same : (k : List ℕ) (d : Data) (ms : Members) → get_member k (with_member k d ms) ≡ Some d
get_same k d no_members = rw (tied_itself nat_list_cmp_total k)
get_same k d (member l e ms) = found_at (slice_cmp nat_cmp k l) k d l e ms refl (get_same k d ms)

-- ---- at another key

passed_by : {A : Type 0} (o : Ordering) (x y : A) → is_eq o ≡ false → match_ordering o x y x ≡ x
passed_by Less x y h = refl
passed_by Equal x y h = absurd (cc)
passed_by Greater x y h = refl

passed : {A : Type 0} (j k : List ℕ) (x y : A) → bytes_eq j k ≡ false → match_ordering (slice_cmp nat_cmp j k) x y x ≡ x
passed j k x y apart = passed_by (slice_cmp nat_cmp j k) x y (is_eq-slice_cmp j k ∙ apart)

other_at : (o : Ordering) (j k : List ℕ) (d : Data) (l : List ℕ) (e : Data) (ms : Members) → slice_cmp nat_cmp k l ≡ o → bytes_eq j k ≡ false
    → get_member j (with_member k d ms) ≡ get_member j ms → get_member j (placed o k d l e ms) ≡ get_member j (member l e ms)
other_at Less j k d l e ms is apart ih = passed j k (get_member j (member l e ms)) (Some d) apart
other_at Equal j k d l e ms is apart ih =
    let far : bytes_eq j l ≡ false = ap (bytes_eq j) (sym (exact_bytes k l is)) ∙ apart in
    passed j l (get_member j ms) (Some d) far ∙ sym (passed j l (get_member j ms) (Some e) far)
other_at Greater j k d l e ms is apart ih = ap (λ (x : Option Data). match_ordering (slice_cmp nat_cmp j l) x (Some e) x) ih

pub get_other : (j k : List ℕ) (d : Data) (ms : Members) → bytes_eq j k ≡ false → get_member j (with_member k d ms) ≡ get_member j ms
get_other j k d no_members apart = passed j k None (Some d) apart
get_other j k d (member l e ms) apart = other_at (slice_cmp nat_cmp k l) j k d l e ms refl apart (get_other j k d ms apart)

-- ---- its keys

twice : (a b : Bool) → (a && b) ≡ (a && (a && b))
twice true b = refl
twice false b = refl

turned : (a b c : Bool) → (a && (b && c)) ≡ (b && (a && c))
turned true b c = refl
turned false true c = refl
turned false false c = refl

only_at : (o : Ordering) (keys : List (List ℕ)) (k : List ℕ) (d : Data) (l : List ℕ) (e : Data) (ms : Members) → slice_cmp nat_cmp k l ≡ o
    → has_only keys (with_member k d ms) ≡ (is_among keys k && has_only keys ms) → has_only keys (placed o k d l e ms) ≡ (is_among keys k && has_only keys (member l e ms))
only_at Less keys k d l e ms is ih = refl
only_at Equal keys k d l e ms is ih = rw (exact_bytes k l is) (twice (is_among keys l) (has_only keys ms))
only_at Greater keys k d l e ms is ih = ap (λ b. is_among keys l && b) ih ∙ turned (is_among keys l) (is_among keys k) (has_only keys ms)

pub only_with : (keys : List (List ℕ)) (k : List ℕ) (d : Data) (ms : Members) → has_only keys (with_member k d ms) ≡ (is_among keys k && has_only keys ms)
only_with keys k d no_members = refl
only_with keys k d (member l e ms) = only_at (slice_cmp nat_cmp k l) keys k d l e ms refl (only_with keys k d ms)

-- ---- its depth

depth_at : (o : Ordering) (n : ℕ) (k : List ℕ) (d : Data) (l : List ℕ) (e : Data) (ms : Members) → depth d ≤ n → members_depth (member l e ms) ≤ n
    → (members_depth ms ≤ n → members_depth (with_member k d ms) ≤ n) → members_depth (placed o k d l e ms) ≤ n
depth_at Less n k d l e ms one all ih = omega (arith, one, all)
depth_at Equal n k d l e ms one all ih = omega (arith, one, all)
depth_at Greater n k d l e ms one all ih = omega (arith, one, all, ih (omega (arith, all)))

pub depth_with : (n : ℕ) (k : List ℕ) (d : Data) (ms : Members) → depth d ≤ n → members_depth ms ≤ n → members_depth (with_member k d ms) ≤ n
depth_with n k d no_members one all = omega (arith, one)
depth_with n k d (member l e ms) one all = depth_at (slice_cmp nat_cmp k l) n k d l e ms one all (depth_with n k d ms one)
