-- The edits of pairs that make replacements.
use Rattle.std.specs.Prelude.{ℕ, List, [], ◌∷◌, ◌++◌, map, fold, Option, Some, None}
use Rattle.std.specs.BTreeMap.{insert_entry}
use Rattle.host_types.specs.Site.{byte_cmp}
use Rattle.host_types.specs.Words.{words_of}
use Rattle.host_types.specs.declared.item.Item.{Item}
use Rattle.page_store.specs.declared.edit.Edit.{Edit}
use Rattle.site_records.specs.Layout.{Pairs, data_pairs, word_pairs}
use Rattle.word_search.specs.WordChange.{dropped}
use Rattle.change_plan.specs.declared.replacement.Replacement.{Replacement}

-- by their keys, in byte order: the value that comes, or none where the key is to go
abbrev pub Edits : Type 0
Edits = List (List ℕ × Option (List ℕ))

abbrev pub with_edit : Edits → List ℕ → Option (List ℕ) → Edits
with_edit edits key value = insert_entry byte_cmp edits key value

-- all these pairs come; at a key that stands twice the first counts
abbrev pub with_all : Edits → Pairs → Edits
with_all edits [] = edits
with_all edits (p ∷ ps) = with_edit (with_all edits ps) p.0 (Some p.1)

-- all these keys go
abbrev pub without_all : Edits → Pairs → Edits
without_all edits [] = edits
without_all edits (p ∷ ps) = with_edit (without_all edits ps) p.0 None

-- the data of what stands at a selector, if anything does
abbrev pub data_at : List ℕ → Option Item → Pairs
data_at selector None = []
data_at selector (Some item) = data_pairs selector item

-- the words of what stands at a selector, if anything does
abbrev pub words_at : Option Item → List (List ℕ)
words_at None = []
words_at (Some item) = words_of item

-- the pairs of what stands at a selector, but those of the words that something else has too
abbrev pub pairs_beside : List ℕ → Option Item → Option Item → Pairs
pairs_beside selector item other = data_at selector item ++ word_pairs selector (dropped (words_at item) (words_at other))

-- the old data goes, with the words that the new item lacks, and the new data comes, with the words that the old item lacks
abbrev pub with_replacement : Edits → Replacement → Edits
with_replacement edits r = with_all (without_all edits (pairs_beside r.selector r.before r.after)) (pairs_beside r.selector r.after r.before)

abbrev pub edits_of : List Replacement → Edits
edits_of replacements = fold with_replacement [] replacements

abbrev pub edit_of : List ℕ × Option (List ℕ) → Edit
edit_of e = record { key = e.0; value = e.1 }

abbrev pub batch_of : Edits → List Edit
batch_of edits = map edit_of edits
