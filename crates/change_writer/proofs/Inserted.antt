-- An insert into the map of a table, beside its members.
use Rattle.std.proofs.Common.{◌≡◌, ℕ, List, [], ◌∷◌, String, Global, Ordering, Less, Equal, Greater, string_bytes, nat_cmp, refl, ap}
use Rattle.std.specs.Cmp.Lexicographic.{slice_cmp}
use Rattle.std.specs.Ordering.{match_ordering}
use Rattle.std.specs.String.{string_cmp}
use Rattle.std.specs.BTreeMap.{insert_entry}
use Rattle.toml.specs.Data.{member}
use Rattle.toml.specs.View.{view, members_view}
use Rattle.toml.specs.declared.value.Value.{Value}
use Rattle.change_writer.specs.Members.{with_member}

abbrev Entries : Type 0
Entries = List (String Global × Value)

by_order : (o : Ordering) (k : String Global) (v : Value) (e : String Global × Value) (es : Entries)
    → members_view (insert_entry string_cmp es k v) ≡ with_member (string_bytes k) (view v) (members_view es)
    → members_view (match_ordering o ((k, v) ∷ e ∷ es) ((e.0, v) ∷ es) (e ∷ insert_entry string_cmp es k v))
    ≡ match_ordering o (member (string_bytes k) (view v) (members_view (e ∷ es))) (member (string_bytes e.0) (view v) (members_view es)) (member (string_bytes e.0) (view e.1) (with_member (string_bytes k) (view v) (members_view es)))
by_order Less k v e es same = refl
by_order Equal k v e es same = refl
by_order Greater k v e es same = ap (member (string_bytes e.0) (view e.1)) same

pub inserted_member : (k : String Global) (v : Value) (es : Entries) → members_view (insert_entry string_cmp es k v) ≡ with_member (string_bytes k) (view v) (members_view es)
inserted_member k v [] = refl
inserted_member k v (e ∷ es) = by_order (string_cmp k e.0) k v e es (inserted_member k v es)
