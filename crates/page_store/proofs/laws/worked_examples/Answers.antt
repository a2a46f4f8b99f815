use Rattle.std.proofs.Common.{refl}
use Rattle.page_store.specs.Sectors.{page_of}
use Rattle.page_store.specs.Roots.{seal_of, short_text_at, root_at, slot_in, greatest_seal}
use Rattle.page_store.specs.Pages.{head_at, pair_at}
use Rattle.page_store.specs.Flat.{flat_page, flat_next}
use Rattle.page_store.specs.Content.{flat_found, content_under, content}
use Rattle.page_store.specs.Batch.{is_value}
use Rattle.page_store.specs.Encoding.{flat_bytes, page_room, record_fields, record_bytes, root_sector, root_sectors, slot_bytes}
use Rattle.page_store.proofs.laws.worked_examples.Goals as goal

pub returns : goal.returns
unfolding page_of seal_of short_text_at root_at slot_in greatest_seal head_at pair_at flat_page flat_next flat_found content_under content is_value flat_bytes page_room record_fields record_bytes root_sector root_sectors slot_bytes
returns c = record {
  fields = refl;
  root_head = refl;
  right_number = refl;
  wrong_number = refl;
  second_is_newer = refl;
  first_is_newer = refl;
  equal_seals = refl;
  no_slot = refl;
  half_written = refl;
  other_slot_stays = refl;
  its_seal_counts = refl;
  device_too_small = refl;
  empty = refl;
  halves = refl;
  second_half = refl;
  no_half = refl;
  page_head = refl;
  page_read = refl;
  page_of_another_generation = refl;
  no_pages = refl;
  one_page = refl;
  two_pages = refl;
  look_up = refl;
  nothing_there = refl;
  first_of_all = refl;
  next_key = refl;
  last_key = refl;
  batch = refl;
  keys_rise = refl;
  same_key_twice = refl;
  empty_key = refl;
}
