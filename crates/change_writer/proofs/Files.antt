-- A file of changes and its tables.
use Rattle.std.proofs.Common.{◌≡◌, ◌≤◌, ◌&&◌, ◌++◌, ℕ, Bool, true, false, List, [], ◌∷◌, map, codes, Option, Some, None, IsSome, is_some, Result, Ok, refl, ap, arith}
use Rattle.std.proofs.lemmas.Bool.{false≢true}
use Rattle.std.specs.List.{list_all}
use Rattle.toml.specs.Data.{Data, string, integer, float, boolean, datetime, array, table, Members, no_members, member, members_depth, items_depth, as_table}
use Rattle.toml.specs.View.{view, items_view}
use Rattle.toml.specs.declared.value.Value.{Value}
use Rattle.change_file.specs.Tables.{◌>>=◌, each, values_of}
use Rattle.change_file.specs.Changes.{change_of, changes_of, is_table, changes_or}
use Rattle.change_file.specs.declared.fault.FileChange.{FileChange}
use Rattle.change_writer.specs.Members.{with_member}
use Rattle.change_writer.specs.Writer.{all_read, or_none, changes_in, tables_depth}
use Rattle.change_writer.proofs.Lists.{each_behind, values_seen}

some_in : {A : Type 0} (o : Option (List A)) → IsSome o → o ≡ Some (or_none o)
some_in None is = absurd (false≢true is)
some_in (Some xs) is = refl

-- one table more
pub adds_one : (vs : List Value) (v : Value) (one : FileChange) → IsSome (all_read vs) → change_of (view v) ≡ Some one → all_read (vs ++ v ∷ []) ≡ Some (changes_in vs ++ one ∷ [])
adds_one vs v one some gives = each_behind change_of vs v (changes_in vs) one (some_in (all_read vs) some) gives

-- ---- the whole file

is_read : (d : Data) (one : FileChange) → change_of d ≡ Some one → is_table d ≡ true
is_read (table ms) one gives = refl
is_read (string s) one gives = absurd (cc)
is_read (integer z) one gives = absurd (cc)
is_read (float x) one gives = absurd (cc)
is_read (boolean b) one gives = absurd (cc)
is_read (datetime d) one gives = absurd (cc)
is_read (array ds) one gives = absurd (cc)

first_read : (o : Option FileChange) (r : Option (List FileChange)) (t rest : Bool) → ((one : FileChange) → o ≡ Some one → t ≡ true) → (IsSome r → rest ≡ true)
    → IsSome (o >>= (λ a. r >>= (λ others. Some (a ∷ others)))) → (t && rest) ≡ true
first_read None r t rest f g is = absurd (false≢true is)
first_read (Some a) None t rest f g is = absurd (false≢true is)
first_read (Some a) (Some d) t rest f g is = rw (f a refl) (g refl)

all_tables : (ds : List Data) → IsSome (each change_of ds) → list_all is_table ds ≡ true
all_tables [] is = refl
all_tables (d ∷ ds) is = first_read (change_of d) (each change_of ds) (is_table d) (list_all is_table ds) (is_read d) (all_tables ds) is

pub file_reads : (vs : List Value) → IsSome (all_read vs) → changes_of (with_member (codes "change") (array (items_view vs)) no_members) ≡ Ok (changes_in vs)
file_reads vs some = rw (values_seen vs, all_tables (map view vs) some, some_in (all_read vs) some)

pub file_depth : (vs : List Value) → tables_depth vs ≤ 5 → members_depth (with_member (codes "change") (array (items_view vs)) no_members) ≤ 80
file_depth vs less = omega (arith, less)
