-- How many look-ups a card takes.
use Rattle.std.proofs.Common.{◌≡◌, ◌≤◌, ◌+◌, ◌*◌, ◌/◌, ℕ, Bool, true, false, refl, arith}
use Rattle.std.specs.Prelude.{IsTrue, nat_eq, nat_le, ◌&&◌, ◌||◌}
use Rattle.std.proofs.lemmas.Bool.{eqb-true, leb-true}
use Rattle.site_records.proofs.Formats.{and_second}
use Rattle.page_store.specs.StoreState.{StoreState, StoreHasRead}
use Rattle.page_store.specs.Work.{ReadsPages, no_pages, pages_then}
use Rattle.site_records.specs.Layout.{chunk_count}
use Rattle.host_types.specs.Items.{is_selector, is_title, is_until}
use Rattle.site_records.specs.Limits.{is_stamp, is_summary, is_body, is_record, is_menu_size, is_form_size}
use Rattle.site_records.specs.declared.record.Record.{Record}
use Rattle.site_records.specs.declared.record.RecordBody.{RecordBody}
use Rattle.site_records.specs.declared.record.RecordBody.TheVariants as kept
use Rattle.site_store.specs.Work.{MakesLookUps, chunks_behind, most_menu_chunks}
use Rattle.site_store.proofs.PagesSearched.{look_ups_then, more_look_ups}

menu_size : (n : ℕ) → IsTrue (is_menu_size n) → n ≤ 43100
unfolding is_menu_size
menu_size n h = by_cases (nat_eq n 0) (nat_le 2 n) (nat_le n 43100) n h (λ e. eqb-true n 0 e) (λ e. leb-true n 43100 e)
  where
    by_cases : (a b c : Bool) (n : ℕ) → (a || (b && c)) ≡ true → (a ≡ true → n ≡ 0) → (c ≡ true → n ≤ 43100) → n ≤ 43100
    by_cases true b c n h zero_is small = omega (arith, zero_is refl)
    by_cases false b c n h zero_is small = small (and_second b c h)

form_size : (n : ℕ) → IsTrue (is_form_size n) → n ≤ 43100
unfolding is_form_size
form_size n h = omega (arith, leb-true n 7712 (and_second (nat_le 3 n) (nat_le n 7712) h))

chunks_of_size : (n : ℕ) → n ≤ 43100 → chunk_count n ≤ most_menu_chunks
unfolding chunk_count
chunks_of_size n le = omega (arith, le)

pub few_chunks : (b : RecordBody) → IsTrue (is_body b) → chunks_behind b ≤ most_menu_chunks
few_chunks (kept.Views kind views) h = omega arith
few_chunks (kept.Menu size) h = chunks_of_size size (menu_size size h)
few_chunks (kept.Board cap next) h = omega arith
few_chunks (kept.Form board size) h = chunks_of_size size (form_size size (and_second (is_selector board) (is_form_size size) h))
few_chunks (kept.Search scope) h = omega arith
few_chunks (kept.Moved target) h = omega arith

pub valid_record : (r : Record) → IsTrue (is_record r) → IsTrue (is_body r.body)
valid_record r h =
    let rest = and_second (is_stamp r.stamp && is_until r.until) (is_title r.title && (is_summary r.summary && is_body r.body)) h in
    and_second (is_summary r.summary) (is_body r.body) (and_second (is_title r.title) (is_summary r.summary && is_body r.body) rest)

-- the record alone
pub record_alone : (a b : StoreState) → ReadsPages a.height a.made b.made → MakesLookUps (1 + most_menu_chunks) a b
record_alone a b one = pages_then one (no_pages refl 0) (omega arith)

-- the record, and what stands behind it
pub card_looked_up : (body : RecordBody) (a b c : StoreState) → IsTrue (is_body body) → StoreHasRead a b → ReadsPages a.height a.made b.made → MakesLookUps (chunks_behind body) b c → MakesLookUps (1 + most_menu_chunks) a c
card_looked_up body a b c valid read one rest =
    look_ups_then 1 most_menu_chunks a b c read (pages_then one (no_pages refl 0) (omega arith)) (more_look_ups (chunks_behind body) most_menu_chunks b c (few_chunks body valid) rest)
