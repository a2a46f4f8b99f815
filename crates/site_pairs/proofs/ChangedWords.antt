-- The edits of one replacement at the keys of words.
use Rattle.std.proofs.Common.{◌≡◌, ℕ, Bool, cond, List, [], ◌∷◌, Option, Some, None, refl, sym, ap, ◌∙◌}
use Rattle.std.specs.Prelude.{◌&&◌, not, bytes_eq}
use Rattle.std.proofs.lemmas.Map.Text.{is_eq-slice_cmp}
use Rattle.site_records.specs.Keys.{word_key}
use Rattle.site_records.specs.Layout.{value_at, has_word}
use Rattle.site_pairs.specs.Edits.{Edits, pairs_beside, batch_of, with_replacement}
use Rattle.site_pairs.specs.Laws.{made_at, made_of_word, WritesChangedWords}
use Rattle.change_plan.specs.declared.replacement.Replacement.{Replacement}
use Rattle.site_pairs.proofs.EditValues.{Value, edit_at, or_put, or_gone, replacement-at}
use Rattle.site_pairs.proofs.WordKeys.{empty_where, word_beside}

made_by : (edits : Edits) (key : List ℕ) → made_at (batch_of edits) key ≡ edit_at edits key
made_by [] key = refl
made_by (e ∷ es) key = ap (cond (bytes_eq key e.0) (Some e.1)) (made_by es key) ∙ ap (λ b. cond b (Some e.1) (edit_at es key)) (sym (is_eq-slice_cmp key e.0))

-- what becomes of a word that the old item has, or not, and the new one has, or not
abbrev word_edit : Bool → Bool → Option Value
word_edit old new = or_put (empty_where (new && not old)) (or_gone (empty_where (old && not new)) None)

made_word : (r : Replacement) (word : List ℕ) → made_of_word r word ≡ word_edit (has_word r.before word) (has_word r.after word)
made_word r word =
    let key = word_key word r.selector in
    made_by (with_replacement [] r) key
    ∙ replacement-at [] r key
    ∙ ap (λ v. or_put v (or_gone (value_at (pairs_beside r.selector r.before r.after) key) None)) (word_beside r.selector r.after r.before word)
    ∙ ap (λ v. or_put (empty_where (has_word r.after word && not (has_word r.before word))) (or_gone v None)) (word_beside r.selector r.before r.after word)

pub writes_changed_words : (r : Replacement) → WritesChangedWords r
writes_changed_words r = record {
  stays = λ word old new. made_word r word ∙ rw (old, new) refl;
  goes = λ word old new. made_word r word ∙ rw (old, new) refl;
  comes = λ word old new. made_word r word ∙ rw (old, new) refl;
  lacks = λ word old new. made_word r word ∙ rw (old, new) refl;
}
