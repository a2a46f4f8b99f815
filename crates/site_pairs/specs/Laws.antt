-- What holds of the batch of a change, as statements.
use Rattle.std.specs.Prelude.{◌≡◌, ℕ, Bool, true, false, not, ◌&&◌, ◌||◌, List, [], ◌∷◌, Option, Some, None, Ok, bytes_eq, if◌then◌else◌}
use Rattle.std.specs.List.Sorted.{IsStrictlySortedBy}
use Rattle.host_types.specs.Site.{Site, byte_cmp, item_at}
use Rattle.host_types.specs.Change.{apply, touched}
use Rattle.host_types.specs.Words.{is_among}
use Rattle.host_types.specs.declared.change.Change.{Change}
use Rattle.page_store.specs.declared.edit.Edit.{Edit}
use Rattle.site_records.specs.Keys.{word_key}
use Rattle.site_records.specs.Layout.{has_word}
use Rattle.site_pairs.specs.Edits.{batch_of, edits_of}
use Rattle.site_pairs.specs.ChangeKeys.{keys_between, keys_of}
use Rattle.change_plan.specs.declared.replacement.Replacement.{Replacement}

-- what a batch makes of a key: the value that comes, or none where the key goes; nothing where the batch hasn't the key
abbrev pub made_at : List Edit → List ℕ → Option (Option (List ℕ))
made_at [] key = None
made_at (e ∷ es) key = if bytes_eq key e.key then Some e.value else made_at es key

-- what the batch of one replacement makes of the key of a word
abbrev pub made_of_word : Replacement → List ℕ → Option (Option (List ℕ))
made_of_word r word = made_at (batch_of (edits_of (r ∷ []))) (word_key word r.selector)

-- Of the words of two items only those that differ are written: the key of a word that both have or neither has is not in the batch.
pub record WritesChangedWords (r : Replacement) : Type 0 where
  pub stays : (word : List ℕ) → has_word r.before word ≡ true → has_word r.after word ≡ true → made_of_word r word ≡ None
  pub goes : (word : List ℕ) → has_word r.before word ≡ true → has_word r.after word ≡ false → made_of_word r word ≡ Some None
  pub comes : (word : List ℕ) → has_word r.before word ≡ false → has_word r.after word ≡ true → made_of_word r word ≡ Some (Some [])
  pub lacks : (word : List ℕ) → has_word r.before word ≡ false → has_word r.after word ≡ false → made_of_word r word ≡ None

abbrev pub ChangedWordsAreWritten : Type 0
ChangedWordsAreWritten = (r : Replacement) → WritesChangedWords r

abbrev pub differ : Bool → Bool → Bool
differ a b = (a && not b) || (b && not a)

-- The keys of a change: they rise in byte order, and are those of the items that it changes, before and after. That of a word is one of them where only one of both has the word.
pub record HasKeys (s : Site) (change : Change) (now : ℕ) : Type 0 where
  pub rise : IsStrictlySortedBy byte_cmp (keys_of s change now)
  pub all : (key : List ℕ) → is_among (keys_of s change now) key ≡ is_among (keys_between s (apply s change now) (touched s change)) key
  pub words : (t : Site) (word selector : List ℕ) → apply s change now ≡ Ok t → is_among (keys_of s change now) (word_key word selector) ≡ (is_among (touched s change) selector && differ (has_word (item_at s selector) word) (has_word (item_at t selector) word))

abbrev pub ChangesHaveKeys : Type 0
ChangesHaveKeys = (s : Site) (change : Change) (now : ℕ) → HasKeys s change now
