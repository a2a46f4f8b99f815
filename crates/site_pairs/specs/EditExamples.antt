-- Worked examples: the keys that changes of the sample site put or remove.
use Rattle.std.specs.Prelude.{◌≡◌, ℕ, List, [], ◌∷◌, ◌++◌, codes}
use Rattle.host_types.specs.Site.{text_item}
use Rattle.host_types.specs.declared.change.Change.TheVariants.{Put, Remove}
use Rattle.site_records.specs.RecordExamples.{sample}
use Rattle.site_pairs.specs.ChangeKeys.{keys_of}

-- the key of the only chunk of the item at `/about`
abbrev pub about_chunk : List ℕ
about_chunk = codes "C" ++ 6 ∷ codes "/about" ++ 0 ∷ 0 ∷ 0 ∷ []

-- the keys of the item at `/about`, in byte order
abbrev pub about_keys : List (List ℕ)
about_keys =
    about_chunk ∷ codes "I/about" ∷ (codes "W" ++ 2 ∷ codes "us/about") ∷ (codes "W" ++ 3 ∷ codes "dot/about")
    ∷ (codes "W" ++ 4 ∷ codes "last/about") ∷ (codes "W" ++ 5 ∷ codes "about/about") ∷ (codes "W" ++ 5 ∷ codes "hello/about") ∷ []

pub record EditExamples : Type 0 where
  pub removed : keys_of sample (Remove (codes "/about")) 743878921 ≡ about_keys
  -- of the words `us` goes and `you` comes; `about`, `hello`, `dot` and `last` stay
  pub another_title : keys_of sample (Put (codes "/about") (text_item (codes "About you") 743878921 (codes "Hello\n.dot\nlast"))) 743878921 ≡
      about_chunk ∷ codes "I/about" ∷ (codes "W" ++ 2 ∷ codes "us/about") ∷ (codes "W" ++ 3 ∷ codes "you/about") ∷ []
