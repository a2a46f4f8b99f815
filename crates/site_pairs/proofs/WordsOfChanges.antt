-- Which words are among the keys of a change.
use Rattle.std.proofs.Common.{◌≡◌, ℕ, Bool, true, false, List, Result, Ok, refl, ap, ◌∙◌}
use Rattle.std.specs.Prelude.{◌&&◌, ◌||◌, not, is_some}
use Rattle.host_types.specs.Site.{Site, item_at}
use Rattle.host_types.specs.Change.{apply, touched}
use Rattle.host_types.specs.Words.{is_among}
use Rattle.host_types.specs.declared.change.Change.{Change}
use Rattle.common_types.specs.declared.refused.Refused.{Refused}
use Rattle.site_records.specs.Keys.{Word, word_key, owner-key_bytes}
use Rattle.site_records.specs.Layout.{has_word}
use Rattle.site_pairs.specs.ChangeKeys.{keys_in, keys_between, keys_of}
use Rattle.site_pairs.specs.KeyLaws.{has_beside, keys_in-among, among-append, among-once}
use Rattle.site_pairs.specs.Laws.{differ}
use Rattle.site_pairs.proofs.WordKeys.{empty_where, word_beside}

has_it : (b : Bool) → is_some (empty_where b) ≡ b
has_it true = refl
has_it false = refl

word_in : (s t : Site) (selectors : List (List ℕ)) (word selector : List ℕ) → is_among (keys_in s t selectors) (word_key word selector) ≡ (is_among selectors selector && (has_word (item_at s selector) word && not (has_word (item_at t selector) word)))
word_in s t selectors word selector =
    keys_in-among s t selectors (word_key word selector)
    ∙ ap (λ (k : List ℕ). is_among selectors k && has_beside k (item_at s k) (item_at t k) (word_key word selector)) (owner-key_bytes (Word word selector))
    ∙ ap (λ v. is_among selectors selector && is_some v) (word_beside selector (item_at s selector) (item_at t selector) word)
    ∙ ap (λ b. is_among selectors selector && b) (has_it (has_word (item_at s selector) word && not (has_word (item_at t selector) word)))

both : (among a b : Bool) → ((among && a) || (among && b)) ≡ (among && (a || b))
both true a b = refl
both false a b = refl

pub words_written : (s t : Site) (change : Change) (now : ℕ) (word selector : List ℕ) → apply s change now ≡ Ok t → is_among (keys_of s change now) (word_key word selector) ≡ (is_among (touched s change) selector && differ (has_word (item_at s selector) word) (has_word (item_at t selector) word))
unfolding keys_of
words_written s t change now word selector applied =
    let key = word_key word selector in
    let selectors = touched s change in
    let old = has_word (item_at s selector) word in
    let new = has_word (item_at t selector) word in
    among-once (keys_between s (apply s change now) selectors) key
    ∙ ap (λ (r : Result Site Refused). is_among (keys_between s r selectors) key) applied
    ∙ among-append (keys_in s t selectors) (keys_in t s selectors) key
    ∙ ap (λ b. b || is_among (keys_in t s selectors) key) (word_in s t selectors word selector)
    ∙ ap (λ b. (is_among selectors selector && (old && not new)) || b) (word_in t s selectors word selector)
    ∙ both (is_among selectors selector) (old && not new) (new && not old)
