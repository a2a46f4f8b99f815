-- Worked examples of words and searches.
use Rattle.std.specs.Prelude.{◌≡◌, [], ◌∷◌, codes, replicate, None}
use Rattle.host_types.specs.Site.{Site, text_item}
use Rattle.host_types.specs.declared.item.Body.TheVariants.{Moved, Search}
use Rattle.host_types.specs.Words.{words_in, words_of}
use Rattle.word_search.specs.Search.{search_of}

abbrev pub sample : Site
sample = record {
  items =
      ([], record { title = codes "Top"; stamp = 0; until = None; summary = codes "A last word"; body = Search [] })
      ∷ (codes "/about", text_item (codes "About us") 743878921 (codes "Hello\n.dot\nlast"))
      ∷ (codes "/old", record { title = codes "Hello last"; stamp = 0; until = None; summary = []; body = Moved (codes "/about") })
      ∷ [];
  host = codes "localhost";
  port = 7070;
  admin = [];
}

pub record SearchExamples : Type 0 where
  pub runs : words_in (codes "About us: a-B_c3\r\n") ≡ codes "about" ∷ codes "us" ∷ codes "a" ∷ codes "b" ∷ codes "c3" ∷ []
  pub nothing : words_in (codes " ,.") ≡ []
  pub cut : words_in (replicate 33 65) ≡ replicate 32 97 ∷ []
  pub document : words_of (text_item (codes "About us") 0 (codes "Hello\n.dot\nlast us")) ≡ codes "about" ∷ codes "us" ∷ codes "hello" ∷ codes "dot" ∷ codes "last" ∷ []
  pub both_words : search_of sample [] (codes "HELLO last") ≡ codes "/about" ∷ []
  pub one_word : search_of sample [] (codes "last") ≡ [] ∷ codes "/about" ∷ []
  pub not_all : search_of sample [] (codes "hello none") ≡ []
  pub no_words : search_of sample [] (codes "--") ≡ []
  pub within : search_of sample (codes "/a") (codes "last") ≡ codes "/about" ∷ []
