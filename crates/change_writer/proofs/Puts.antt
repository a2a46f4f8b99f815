-- The table of a change that puts an item, member by member.
use Rattle.std.proofs.Common.{◌≡◌, ◌∙◌, ◌≤◌, ◌||◌, ℕ, ◌&&◌, Bool, true, false, List, [], ◌∷◌, length, map, Option, Some, None, Ok, pos, codes, bytes_eq, nat_lt, refl, ap, sym, arith}
use Rattle.std.specs.List.{list_any}
use Rattle.common_types.specs.Names.{stamp_of}
use Rattle.common_types.specs.declared.refused.Refused.{Refused}
use Rattle.host_types.specs.Items.{kind_letter}
use Rattle.host_types.specs.Site.{text_item}
use Rattle.host_types.specs.declared.change.Change.TheVariants as changes
use Rattle.host_types.specs.declared.item.Body.{Body}
use Rattle.host_types.specs.declared.item.Body.TheVariants as bodies
use Rattle.host_types.specs.declared.menu.Entry.{Entry}
use Rattle.host_types.specs.declared.form.Question.{Question}
use Rattle.host_types.specs.declared.view.View.{View}
use Rattle.host_types.specs.declared.view.Kind.{Kind}
use Rattle.toml.specs.Data.{Data, string, integer, array, table, Items, Members, no_members, member, get_member, members_depth, items_depth, depth}
use Rattle.change_file.specs.Tables.{has_only, is_among, values_of, each}
use Rattle.change_file.specs.Named.{all_named, selector_named, title_named}
use Rattle.change_file.specs.Views.{view_of, kind_of}
use Rattle.change_file.specs.Entries.{entry_of}
use Rattle.change_file.specs.Questions.{question_of}
use Rattle.change_file.specs.Bodies.{body_in, with_body}
use Rattle.change_file.specs.Changes.{change_of}
use Rattle.change_file.specs.declared.fault.FileChange.TheVariants.{Change}
use Rattle.change_writer.proofs.SmallTables.{kind_read}
use Rattle.change_writer.specs.Members.{with_member}
use Rattle.change_writer.specs.Said.{body_read}
use Rattle.change_writer.specs.Bodies.{deepest, AddsBody, BeginsPut}
use Rattle.change_writer.proofs.MemberLaws.{get_same, get_other, only_with, depth_with}

-- ---- keys

or_more : (a b c d e f : Bool) → (a || (b || (c || (d || (e || false))))) ≡ true → (a || (b || (c || (d || (e || f))))) ≡ true
or_more true b c d e f h = refl
or_more false true c d e f h = refl
or_more false false true d e f h = refl
or_more false false false true e f h = refl
or_more false false false false true f h = refl
or_more false false false false false f h = absurd (cc)

key_among : (ks : List (List ℕ)) (k : List ℕ) → is_among (with_body []) k ≡ true → is_among (with_body ks) k ≡ true
key_among ks k h = or_more (bytes_eq (codes "do") k) (bytes_eq (codes "selector") k) (bytes_eq (codes "title") k) (bytes_eq (codes "abstract") k) (bytes_eq (codes "until") k) (list_any (λ one. bytes_eq one k) ks) h

both : (a b c d : Bool) → (a ≡ true → c ≡ true) → (b ≡ true → d ≡ true) → (a && b) ≡ true → (c && d) ≡ true
both true b c d f g h = rw (f refl) (g h)
both false b c d f g h = absurd (cc)

-- a table with these keys alone has them and more alone
pub only_more : (ks : List (List ℕ)) (ms : Members) → has_only (with_body []) ms ≡ true → has_only (with_body ks) ms ≡ true
only_more ks no_members h = refl
only_more ks (member k d ms) h = both (is_among (with_body []) k) (has_only (with_body []) ms) (is_among (with_body ks) k) (has_only (with_body ks) ms) (key_among ks k) (only_more ks ms) h

-- ---- a table that begins

pub begun_table : (s t : List ℕ) → selector_named s ≡ Ok s → title_named t ≡ Ok t
    → BeginsPut (with_member (codes "title") (string t) (with_member (codes "selector") (string s) (member (codes "do") (string (codes "put")) no_members))) s t [] None
begun_table s t is_selector is_title = record { only = refl; does = refl; stands = rw is_selector; titled = rw is_title; summed_up = refl; ends = refl; depth = omega arith }

pub summary_added : (old : Members) (s t a : List ℕ) → BeginsPut old s t [] None → BeginsPut (with_member (codes "abstract") (string a) old) s t a None
summary_added old s t a begins = record {
  only = rw (only_with (with_body []) (codes "abstract") (string a) old) begins.only;
  does = rw (get_other (codes "do") (codes "abstract") (string a) old refl) begins.does;
  stands = rw (get_other (codes "selector") (codes "abstract") (string a) old refl) begins.stands;
  titled = rw (get_other (codes "title") (codes "abstract") (string a) old refl) begins.titled;
  summed_up = rw (get_same (codes "abstract") (string a) old);
  ends = rw (get_other (codes "until") (codes "abstract") (string a) old refl) begins.ends;
  depth = depth_with deepest (codes "abstract") (string a) old (omega arith) begins.depth;
}

pub until_added : (old : Members) (s t a : List ℕ) (n : ℕ) → stamp_of n ≡ Ok n → BeginsPut old s t a None → BeginsPut (with_member (codes "until") (integer (pos n)) old) s t a (Some n)
until_added old s t a n is_moment begins = record {
  only = rw (only_with (with_body []) (codes "until") (integer (pos n)) old) begins.only;
  does = rw (get_other (codes "do") (codes "until") (integer (pos n)) old refl) begins.does;
  stands = rw (get_other (codes "selector") (codes "until") (integer (pos n)) old refl) begins.stands;
  titled = rw (get_other (codes "title") (codes "until") (integer (pos n)) old refl) begins.titled;
  summed_up = rw (get_other (codes "abstract") (codes "until") (integer (pos n)) old refl) begins.summed_up;
  ends = rw (get_same (codes "until") (integer (pos n)) old, is_moment);
  depth = depth_with deepest (codes "until") (integer (pos n)) old (omega arith) begins.depth;
}

-- ---- a table with its body

one_key : (k : List ℕ) (d : Data) (old : Members) (body : Body) → depth d ≤ deepest
    → bytes_eq (codes "do") k ≡ false → bytes_eq (codes "selector") k ≡ false → bytes_eq (codes "title") k ≡ false → bytes_eq (codes "abstract") k ≡ false → bytes_eq (codes "until") k ≡ false
    → (has_only (with_body []) old ≡ true → body_in (with_member k d old) ≡ Some (Ok (body_read body))) → AddsBody old (with_member k d old) body
one_key k d old body shallow a b c e f reads = record {
  reads = reads;
  does = get_other (codes "do") k d old a;
  stands = get_other (codes "selector") k d old b;
  titled = get_other (codes "title") k d old c;
  summed_up = get_other (codes "abstract") k d old e;
  ends = get_other (codes "until") k d old f;
  depth = λ all. depth_with deepest k d old shallow all;
}

text_reads : (old : Members) (text : List ℕ) → has_only (with_body []) old ≡ true → body_in (with_member (codes "text") (string text) old) ≡ Some (Ok (text_item [] 0 text).body)
text_reads old text only = rw (only_with (with_body (codes "text" ∷ [])) (codes "text") (string text) old, only_more (codes "text" ∷ []) old only, get_same (codes "text") (string text) old)

pub text_added : (old : Members) (text : List ℕ) → AddsBody old (with_member (codes "text") (string text) old) (text_item [] 0 text).body
text_added old text = one_key (codes "text") (string text) old (text_item [] 0 text).body (omega arith) refl refl refl refl refl (text_reads old text)

menu_reads : (old : Members) (items : Items) (entries : List Entry) → each entry_of (values_of items) ≡ Some (map (λ e. Ok e) entries) → all_named (map (λ e. Ok e) entries) ≡ Ok entries
    → has_only (with_body []) old ≡ true → body_in (with_member (codes "menu") (array items) old) ≡ Some (Ok (bodies.Menu entries))
menu_reads old items entries read named only =
    rw (
      only_with (with_body (codes "text" ∷ [])) (codes "menu") (array items) old,
      only_with (with_body (codes "kind" ∷ codes "views" ∷ [])) (codes "menu") (array items) old,
      only_with (with_body (codes "menu" ∷ [])) (codes "menu") (array items) old,
      only_more (codes "menu" ∷ []) old only,
      get_same (codes "menu") (array items) old,
      read,
      named,
    )

pub menu_added : (old : Members) (items : Items) (entries : List Entry) → items_depth items ≤ 1 → each entry_of (values_of items) ≡ Some (map (λ e. Ok e) entries) → all_named (map (λ e. Ok e) entries) ≡ Ok entries
    → AddsBody old (with_member (codes "menu") (array items) old) (bodies.Menu entries)
menu_added old items entries shallow read named = one_key (codes "menu") (array items) old (bodies.Menu entries) (omega (arith, shallow)) refl refl refl refl refl (menu_reads old items entries read named)

views_reads : (old : Members) (kind : Kind) (items : Items) (views : List View) → each view_of (values_of items) ≡ Some views
    → has_only (with_body []) old ≡ true → body_in (with_member (codes "views") (array items) (with_member (codes "kind") (string (kind_letter kind ∷ [])) old)) ≡ Some (Ok (bodies.Views kind views))
views_reads old kind items views read only =
    let k = string (kind_letter kind ∷ []) in
    rw (
      only_with (with_body (codes "text" ∷ [])) (codes "views") (array items) (with_member (codes "kind") k old),
      only_with (with_body (codes "kind" ∷ codes "views" ∷ [])) (codes "views") (array items) (with_member (codes "kind") k old),
      only_with (with_body (codes "kind" ∷ codes "views" ∷ [])) (codes "kind") k old,
      only_more (codes "kind" ∷ codes "views" ∷ []) old only,
      get_other (codes "kind") (codes "views") (array items) (with_member (codes "kind") k old) refl,
      get_same (codes "kind") k old,
      kind_read kind,
      get_same (codes "views") (array items) (with_member (codes "kind") k old),
      read,
    )

pub views_added : (old : Members) (kind : Kind) (items : Items) (views : List View) → items_depth items ≤ 1 → each view_of (values_of items) ≡ Some views
    → AddsBody old (with_member (codes "views") (array items) (with_member (codes "kind") (string (kind_letter kind ∷ [])) old)) (bodies.Views kind views)
views_added old kind items views less read =
    let k = string (kind_letter kind ∷ []) in
    let past : (key : List ℕ) → bytes_eq key (codes "views") ≡ false → bytes_eq key (codes "kind") ≡ false → get_member key (with_member (codes "views") (array items) (with_member (codes "kind") k old)) ≡ get_member key old
    = λ key a b. get_other key (codes "views") (array items) (with_member (codes "kind") k old) a ∙ get_other key (codes "kind") k old b in
    record {
      reads = views_reads old kind items views read;
      does = past (codes "do") refl refl;
      stands = past (codes "selector") refl refl;
      titled = past (codes "title") refl refl;
      summed_up = past (codes "abstract") refl refl;
      ends = past (codes "until") refl refl;
      depth = λ all. depth_with deepest (codes "views") (array items) (with_member (codes "kind") k old) (omega (arith, less)) (depth_with deepest (codes "kind") k old (omega arith) all);
    }

board_reads : (old : Members) (cap next : ℕ) → nat_lt cap 65536 ≡ true → has_only (with_body []) old ≡ true → body_in (with_member (codes "board") (integer (pos cap)) old) ≡ Some (Ok (bodies.Board cap 1))
board_reads old cap next small only =
    rw (
      only_with (with_body (codes "text" ∷ [])) (codes "board") (integer (pos cap)) old,
      only_with (with_body (codes "kind" ∷ codes "views" ∷ [])) (codes "board") (integer (pos cap)) old,
      only_with (with_body (codes "menu" ∷ [])) (codes "board") (integer (pos cap)) old,
      only_with (with_body (codes "board" ∷ [])) (codes "board") (integer (pos cap)) old,
      only_more (codes "board" ∷ []) old only,
      get_same (codes "board") (integer (pos cap)) old,
      small,
    )

pub board_added : (old : Members) (cap next : ℕ) → nat_lt cap 65536 ≡ true → AddsBody old (with_member (codes "board") (integer (pos cap)) old) (bodies.Board cap next)
board_added old cap next small = one_key (codes "board") (integer (pos cap)) old (bodies.Board cap next) (omega arith) refl refl refl refl refl (board_reads old cap next small)

abbrev pub form_table : List ℕ → Items → Data
form_table board items = table (with_member (codes "questions") (array items) (with_member (codes "board") (string board) no_members))

form_depth : (board : List ℕ) (items : Items) → items_depth items ≤ 2 → depth (form_table board items) ≤ deepest
form_depth board items less = omega (arith, less)

form_reads : (old : Members) (board : List ℕ) (items : Items) (questions : List Question) → selector_named board ≡ Ok board → each question_of (values_of items) ≡ Some (map (λ q. Ok q) questions) → all_named (map (λ q. Ok q) questions) ≡ Ok questions
    → has_only (with_body []) old ≡ true → body_in (with_member (codes "form") (form_table board items) old) ≡ Some (Ok (bodies.Form board questions))
form_reads old board items questions named read all only =
    let d = form_table board items in
    rw (
      only_with (with_body (codes "text" ∷ [])) (codes "form") d old,
      only_with (with_body (codes "kind" ∷ codes "views" ∷ [])) (codes "form") d old,
      only_with (with_body (codes "menu" ∷ [])) (codes "form") d old,
      only_with (with_body (codes "board" ∷ [])) (codes "form") d old,
      only_with (with_body (codes "form" ∷ [])) (codes "form") d old,
      only_more (codes "form" ∷ []) old only,
      get_same (codes "form") d old,
      named,
      read,
      all,
    )

pub form_added : (old : Members) (board : List ℕ) (items : Items) (questions : List Question) → items_depth items ≤ 2 → selector_named board ≡ Ok board → each question_of (values_of items) ≡ Some (map (λ q. Ok q) questions) → all_named (map (λ q. Ok q) questions) ≡ Ok questions
    → AddsBody old (with_member (codes "form") (form_table board items) old) (bodies.Form board questions)
form_added old board items questions less named read all = one_key (codes "form") (form_table board items) old (bodies.Form board questions) (form_depth board items less) refl refl refl refl refl (form_reads old board items questions named read all)

search_reads : (old : Members) (scope : List ℕ) → selector_named scope ≡ Ok scope → has_only (with_body []) old ≡ true → body_in (with_member (codes "search") (string scope) old) ≡ Some (Ok (bodies.Search scope))
search_reads old scope named only =
    let d = string scope in
    rw (
      only_with (with_body (codes "text" ∷ [])) (codes "search") d old,
      only_with (with_body (codes "kind" ∷ codes "views" ∷ [])) (codes "search") d old,
      only_with (with_body (codes "menu" ∷ [])) (codes "search") d old,
      only_with (with_body (codes "board" ∷ [])) (codes "search") d old,
      only_with (with_body (codes "form" ∷ [])) (codes "search") d old,
      only_with (with_body (codes "search" ∷ [])) (codes "search") d old,
      only_more (codes "search" ∷ []) old only,
      get_same (codes "search") d old,
      named,
    )

pub search_added : (old : Members) (scope : List ℕ) → selector_named scope ≡ Ok scope → AddsBody old (with_member (codes "search") (string scope) old) (bodies.Search scope)
search_added old scope named = one_key (codes "search") (string scope) old (bodies.Search scope) (omega arith) refl refl refl refl refl (search_reads old scope named)

-- ---- the whole table

pub put_reads : (old new : Members) (s t a : List ℕ) (u : Option ℕ) (body : Body) → BeginsPut old s t a u → AddsBody old new body
    → change_of (table new) ≡ Some (Change (changes.Put s (record { title = t; stamp = 0; until = u; summary = a; body = body_read body })))
put_reads old new s t a u body begins adds =
    rw (adds.does, begins.does, adds.stands, begins.stands, adds.titled, begins.titled, adds.summed_up, begins.summed_up, adds.ends, begins.ends, adds.reads begins.only)
