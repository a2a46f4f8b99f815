-- What is known of an item that stands in a site, limit by limit.
use Rattle.std.specs.Prelude.{◌≡◌, ℕ, ◌^◌, ◌<◌, ◌≤◌, true, false, List, length, not, nat_lt, nat_le, ◌&&◌, ◌||◌, ◌==◌, Some, IsTrue}
use Rattle.std.specs.List.{list_all, list_any}
use Rattle.std.proofs.Common.{arith, refl}
use Rattle.std.proofs.lemmas.Bool.{and_parts, or_parts, not-true, leb-true, ltb-true, ltb-false, eqb-false}
use Rattle.common_types.specs.Names.{is_field, is_url_name}
use Rattle.host_types.specs.Items.{has_bad_name, has_twins, is_bad_entry, is_bad_question, is_bad_body, most_view_bytes, view_bytes, is_long_view, is_long_question, is_long_body, is_long_item, is_selector, is_title, is_typed_entry, prompt_of, is_typed_body, is_until, has_moments, is_typed_item}
use Rattle.host_types.specs.Site.{Site, IsSite, item_at, board_of}
use Rattle.host_types.specs.declared.view.View.{View}
use Rattle.host_types.specs.declared.menu.Entry.{Entry}
use Rattle.host_types.specs.declared.form.Question.{Question}
use Rattle.host_types.specs.declared.item.Item.{Item}
use Rattle.host_types.specs.declared.item.Body.{Body}
use Rattle.host_types.specs.declared.item.Body.TheVariants.{Views, Menu, Board, Form, Search, Moved}
use Rattle.host_types.specs.Sizes.{longest_summary}

pub record HasViewLimits (views : List View) : Type 0 where
  pub some : 0 < length views
  pub most : length views ≤ 8
  pub bytes : view_bytes views ≤ most_view_bytes
  pub good_names : list_any has_bad_name views ≡ false
  pub short_names : list_any is_long_view views ≡ false
  pub no_twins : has_twins views ≡ false

pub record HasMenuLimits (entries : List Entry) : Type 0 where
  pub most : length entries ≤ 100
  pub typed : IsTrue (list_all is_typed_entry entries)
  pub ports : list_any is_bad_entry entries ≡ false

pub record HasBoardLimits (selector : List ℕ) (cap next : ℕ) : Type 0 where
  pub least : 0 < cap
  pub most : cap ≤ 100
  pub counted : 0 < next
  pub fits : next < 2 ^ 64
  pub short : length selector ≤ 229

pub record HasFormLimits (board : List ℕ) (questions : List Question) : Type 0 where
  pub name : IsTrue (is_selector board)
  pub some : 0 < length questions
  pub most : length questions ≤ 16
  pub prompts : IsTrue (list_all (λ q. is_title (prompt_of q)) questions)
  pub good_words : list_any is_bad_question questions ≡ false
  pub short_words : list_any is_long_question questions ≡ false

abbrev pub HasBodyLimits : List ℕ → Body → Type 0
HasBodyLimits selector (Views kind views) = HasViewLimits views
HasBodyLimits selector (Menu entries) = HasMenuLimits entries
HasBodyLimits selector (Board cap next) = HasBoardLimits selector cap next
HasBodyLimits selector (Form board questions) = HasFormLimits board questions
HasBodyLimits selector (Search scope) = IsTrue (is_selector scope)
HasBodyLimits selector (Moved target) = IsTrue (is_selector target)

pub record HasLimits (selector : List ℕ) (item : Item) : Type 0 where
  pub name : length selector ≤ 255
  pub name_field : IsTrue (is_field selector)
  pub no_url : is_url_name selector ≡ false
  pub title : length item.title ≤ 69
  pub title_field : IsTrue (is_field item.title)
  pub stamp : item.stamp ≤ 253402300799
  pub until : IsTrue (is_until item.until)
  pub summary : length item.summary ≤ longest_summary
  pub body : HasBodyLimits selector item.body

-- All that stands in a site keeps the limits of an item.
abbrev pub AllHaveLimits : Type 0
AllHaveLimits = (s : Site) (selector : List ℕ) (item : Item) → IsSite s → item_at s selector ≡ Some item → HasLimits selector item

-- ---- it is so

more_than_none : (n : ℕ) → (n == 0) ≡ false → 0 < n
more_than_none n h =
    let other : n ≡ 0 → ⊥ = eqb-false n 0 h in
    omega (arith, other)

body_limits : (selector : List ℕ) (body : Body) → is_typed_body body ≡ true → is_bad_body body ≡ false → is_long_body selector body ≡ false → ((cap next : ℕ) → board_of body ≡ Some (cap, next) → 0 < next) → HasBodyLimits selector body
body_limits selector (Views kind views) typed good short counted =
    let names = or_parts (length views == 0) (list_any has_bad_name views || has_twins views) good in
    let apart = or_parts (list_any has_bad_name views) (has_twins views) names.1 in
    let sizes = or_parts (nat_lt 8 (length views)) (nat_lt most_view_bytes (view_bytes views) || list_any is_long_view views) short in
    let bytes = or_parts (nat_lt most_view_bytes (view_bytes views)) (list_any is_long_view views) sizes.1 in
    record {
      some = more_than_none (length views) names.0;
      most = ltb-false 8 (length views) sizes.0;
      bytes = ltb-false most_view_bytes (view_bytes views) bytes.0;
      good_names = apart.0;
      short_names = bytes.1;
      no_twins = apart.1;
    }
body_limits selector (Menu entries) typed good short counted = record { most = ltb-false 100 (length entries) short; typed = typed; ports = good }
body_limits selector (Board many n) typed good short counted =
    let sizes = or_parts (nat_lt 100 many) (nat_lt 229 (length selector)) short in
    record {
      least = more_than_none many good;
      most = ltb-false 100 many sizes.0;
      counted = counted many n refl;
      fits = ltb-true n (2 ^ 64) typed;
      short = ltb-false 229 (length selector) sizes.1;
    }
body_limits selector (Form board questions) typed good short counted =
    let names = and_parts (is_selector board) (list_all (λ q. is_title (prompt_of q)) questions) typed in
    let words = or_parts (length questions == 0) (list_any is_bad_question questions) good in
    let sizes = or_parts (nat_lt 16 (length questions)) (list_any is_long_question questions) short in
    record {
      name = names.0;
      some = more_than_none (length questions) words.0;
      most = ltb-false 16 (length questions) sizes.0;
      prompts = names.1;
      good_words = words.1;
      short_words = sizes.1;
    }
body_limits selector (Search scope) typed good short counted = typed
body_limits selector (Moved target) typed good short counted = typed

pub limits_at : AllHaveLimits
limits_at s selector item site stands =
    let may = site.each selector item stands in
    let name = and_parts (nat_le (length selector) 255) (is_field selector) may.name in
    let valid = and_parts (is_typed_item item) (not (is_bad_body item.body) && not (is_long_item selector item)) may.valid in
    let typed = and_parts (is_title item.title) (has_moments item && is_typed_body item.body) valid.0 in
    let title = and_parts (nat_le (length item.title) 69) (is_field item.title) typed.0 in
    let body = and_parts (has_moments item) (is_typed_body item.body) typed.1 in
    let moments = and_parts (nat_le item.stamp 253402300799) (is_until item.until) body.0 in
    let limits = and_parts (not (is_bad_body item.body)) (not (is_long_item selector item)) valid.1 in
    let sizes = or_parts (nat_lt longest_summary (length item.summary)) (is_long_body selector item.body) (not-true (is_long_item selector item) limits.1) in
    record {
      name = leb-true (length selector) 255 name.0;
      name_field = name.1;
      no_url = may.no_url;
      title = leb-true (length item.title) 69 title.0;
      title_field = title.1;
      stamp = leb-true item.stamp 253402300799 moments.0;
      until = moments.1;
      summary = ltb-false longest_summary (length item.summary) sizes.0;
      body = body_limits selector item.body body.1 (not-true (is_bad_body item.body) limits.0) sizes.1 may.counted;
    }
