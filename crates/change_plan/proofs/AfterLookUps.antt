-- Calls that look items up, one after another.
use Rattle.std.proofs.Common.{◌≡◌, ℕ, List, Bool, false, ◌||◌, Option, Some, Result, Ok, Err, sym, ap, subst, ◌∙◌}
use Rattle.host_types.specs.Site.{Site, item_at, board_of, board_in, board_at, has_posts}
use Rattle.host_types.specs.declared.item.Item.{Item}
use Rattle.host_types.specs.declared.site_fault.SiteFault.{SiteFault}
use Rattle.host_types.specs.declared.site_fault.SiteFault.TheVariants.{Memory}
use Rattle.change_plan.specs.LookUps.{LooksUp}

module _ {T L : Type 0} (shows : L → Site → Type 0) (looks : L → L → Type 0) (fails : L → L → SiteFault → Type 0) where
  -- a call that ends with one whose answer it hands on
  pub ends_so : (a b c : L) (r : Result T SiteFault) {last answer : Site → T → Type 0} → (looks b c → looks a c) → ((fault : SiteFault) → fails b c fault → fails a c fault) → ((s : Site) → shows a s → shows b s)
      → LooksUp shows looks fails b c r last → ((s : Site) → shows a s → (x : T) → last s x → answer s x) → LooksUp shows looks fails a c r answer
  ends_so a b c (Ok x) again later unchanged rest gives = record { gives = λ s shown. gives s shown x (rest.gives s (unchanged s shown)); reads_only = again rest.reads_only; failed = tt }
  ends_so a b c (Err fault) again later unchanged rest gives = record { gives = λ s shown. tt; reads_only = tt; failed = later fault rest.failed }

  -- a call that lacks memory
  pub lacks_memory : (a b : L) (r : Result T SiteFault) {answer : Site → T → Type 0} → r ≡ Err Memory → fails a b Memory → LooksUp shows looks fails a b r answer
  lacks_memory a b r {answer} is failed = subst (λ (r : Result T SiteFault). LooksUp shows looks fails a b r answer) (sym is) (record { gives = λ s shown. tt; reads_only = tt; failed = failed })

-- the first has no posts, and the second is examined
pub second_posts : (s : Site) (from to : List ℕ) (item : Item) (there : Option Item) (numbers others : Option (ℕ × ℕ)) (first posts : Bool) → numbers ≡ board_of item.body → others ≡ board_in there → first ≡ false
    → (numbers ≡ board_at s from → first ≡ has_posts s from) → (others ≡ board_at s to → posts ≡ has_posts s to) → Some item ≡ item_at s from → there ≡ item_at s to → posts ≡ (has_posts s from || has_posts s to)
second_posts s from to item there numbers others first posts is their none one two stands other =
    let no : has_posts s from ≡ false = sym (one (is ∙ ap board_in stands)) ∙ none in
    two (their ∙ ap board_in other) ∙ ap (λ (b : Bool). b || has_posts s to) (sym no)
