-- Worked examples: an image of eight pages, opened at generation 5 with page 2 as its tree.
use Rattle.std.specs.Prelude.{◌≡◌, true, false}
use Rattle.page_alloc.specs.LedgerState.{LedgerState, is_free, is_alive, free_count, has_page}
use Rattle.page_alloc.specs.Calls.{fresh, holding, taking, retiring, abandoned, advanced, pinning, unpinned}

abbrev pub opened : LedgerState
opened = holding 2 (fresh 8 5)

-- a commit that takes page 3 for page 2
abbrev pub running : LedgerState
running = retiring 2 (taking 3 opened)

-- the same after generation 5 was pinned
abbrev pub pinned_and_switched : LedgerState
pinned_and_switched = advanced 6 (retiring 2 (taking 3 (pinning 0 opened)))

pub record LedgerExamples : Type 0 where
  pub root_slots_are_never_free : free_count (fresh 8 5) ≡ 6
  pub held : free_count opened ≡ 5
  pub taken_is_not_free : is_free running 3 ≡ false
  pub retired_is_not_free : is_free running 2 ≡ false
  pub retired_is_not_alive : is_alive running 2 ≡ false
  pub running_commit : free_count running ≡ 4
  pub given_up : abandoned running ≡ opened
  pub switched : free_count (advanced 6 running) ≡ 5
  pub retired_is_free : is_free (advanced 6 running) 2 ≡ true
  pub taken_is_held : is_alive (advanced 6 running) 3 ≡ true
  pub pinned_is_not_free : is_free pinned_and_switched 2 ≡ false
  pub pinned_count : free_count pinned_and_switched ≡ 4
  pub pinned_has_its_page : has_page pinned_and_switched 5 2 ≡ true
  pub pinned_has_no_later_page : has_page pinned_and_switched 5 3 ≡ false
  pub spent : is_free (unpinned 0 pinned_and_switched) 2 ≡ true
  pub jumps : is_free (unpinned 0 (advanced 900 (pinning 0 (advanced 6 running)))) 2 ≡ true
