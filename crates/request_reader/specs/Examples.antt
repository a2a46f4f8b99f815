-- Worked examples of requests.
use Rattle.std.specs.Prelude.{◌≡◌, ℕ, Bool, true, false, List, [], ◌∷◌, ◌++◌, Option, Some, None, codes, replicate}
use Rattle.request_reader.specs.Request.{Request, Plus, Fetch, Attributes, EntryAttributes}
use Rattle.request_reader.specs.Verdict.{Verdict, Open, Early, Whole, Bad, verdict}
use Rattle.request_reader.specs.declared.cause.Cause.TheVariants.{TooLong, NotUnderstood}

abbrev pub plain : List ℕ → Option (List ℕ) → Request
plain selector search = record { selector = selector; search = search; plus = None; lines = None }

abbrev pub plus : List ℕ → Plus → Request
plus selector part = record { selector = selector; search = None; plus = Some part; lines = None }

-- a fetch with data
abbrev pub sent : List ℕ → List (List ℕ) → Request
sent selector data_lines = record { selector = selector; search = None; plus = Some (Fetch None); lines = Some data_lines }

-- what is said of data behind the request line and this head line
abbrev pub of_data : List ℕ → List ℕ → Bool → Verdict
of_data head bytes ended = verdict (codes "/sign\t+\t1\r\n" ++ head ++ codes "\r\n" ++ bytes) ended

pub record RequestLines : Type 0 where
  pub top : verdict (codes "\r\n") false ≡ Whole (plain [] None)
  pub selector : verdict (codes "/about\r\nmore") false ≡ Whole (plain (codes "/about") None)
  pub line_feed : verdict (codes "/about\n") true ≡ Whole (plain (codes "/about") None)
  pub words : verdict (codes "/find\thello there\r\n") false ≡ Whole (plain (codes "/find") (Some (codes "hello there")))
  pub empty_end : verdict (codes "/find\t\t\r\n") false ≡ Whole (plain (codes "/find") None)
  pub empty_second : verdict (codes "/find\t\twords\r\n") false ≡ Whole (plain (codes "/find") (Some (codes "words")))
  pub further_field : verdict (codes "/find\tone\ttwo\r\n") false ≡ Bad NotUnderstood
  pub inner_cr : verdict (codes "/a\rb\n") false ≡ Bad NotUnderstood
  pub nul : verdict (codes "/a\0b\n") false ≡ Bad NotUnderstood
  pub not_yet : verdict (codes "/about\r") false ≡ Open
  pub early : verdict (codes "/about\r") true ≡ Early
  pub greatest_selector : verdict (replicate 255 97 ++ codes "\r\n") false ≡ Whole (plain (replicate 255 97) None)
  pub long_selector : verdict (replicate 256 97 ++ codes "\r\n") false ≡ Bad TooLong
  pub greatest_line : verdict (replicate 1024 97) false ≡ Open
  pub long_line : verdict (replicate 1025 97) false ≡ Bad TooLong

pub record PlusParts : Type 0 where
  pub fetch : verdict (codes "/about\t+\r\n") false ≡ Whole (plus (codes "/about") (Fetch None))
  pub view : verdict (codes "/v\t+Text/plain\r\n") false ≡ Whole (plus (codes "/v") (Fetch (Some (record { name = codes "Text/plain"; language = None }))))
  pub language : verdict (codes "/v\t+Text/plain De_DE\r\n") false ≡ Whole (plus (codes "/v") (Fetch (Some (record { name = codes "Text/plain"; language = Some (codes "De_DE") }))))
  pub first_space : verdict (codes "/v\t+a  b\r\n") false ≡ Whole (plus (codes "/v") (Fetch (Some (record { name = codes "a"; language = Some (codes " b") }))))
  pub empty_language : verdict (codes "/v\t+a \r\n") false ≡ Whole (plus (codes "/v") (Fetch (Some (record { name = codes "a"; language = None }))))
  pub empty_view : verdict (codes "/v\t+ De_DE\r\n") false ≡ Bad NotUnderstood
  pub attributes : verdict (codes "/about\t!\r\n") false ≡ Whole (plus (codes "/about") (Attributes []))
  pub blocks : verdict (codes "/about\t!+ABSTRACT  +ASK \r\n") false ≡ Whole (plus (codes "/about") (Attributes (codes "+ABSTRACT" ∷ codes "+ASK" ∷ [])))
  pub entries : verdict (codes "\t$\r\n") false ≡ Whole (plus [] (EntryAttributes []))
  pub behind_words : verdict (codes "/find\tw\t+\r\n") false ≡ Whole (record { selector = codes "/find"; search = Some (codes "w"); plus = Some (Fetch None); lines = None })
  pub two_empty_fields : verdict (codes "/find\t\t\t+\r\n") false ≡ Whole (record { selector = codes "/find"; search = Some []; plus = Some (Fetch None); lines = None })
  pub no_data : verdict (codes "/about\t!\t0\r\n") false ≡ Whole (plus (codes "/about") (Attributes []))
  pub wrong_flag : verdict (codes "/about\t+\tx\r\n") false ≡ Bad NotUnderstood
  pub long_flag : verdict (codes "/about\t+\t00\r\n") false ≡ Bad NotUnderstood
  pub empty_flag : verdict (codes "/about\t+\t\t1\r\n") false ≡ Bad NotUnderstood
  pub attributes_with_data : verdict (codes "/about\t!\t1\r\n") false ≡ Bad NotUnderstood
  pub field_behind_flag : verdict (codes "/about\t+\t0\t0\r\n") false ≡ Bad NotUnderstood

pub record DataOfRequests : Type 0 where
  pub to_period : of_data (codes "+-1") (codes "Ann\r\n2\r\nHi\r\n..x\r\n.\r\nmore") false ≡ Whole (sent (codes "/sign") (codes "Ann" ∷ codes "2" ∷ codes "Hi" ∷ codes ".x" ∷ []))
  pub counted : of_data (codes "+16") (codes "Ann\r\n2\r\nHi\r\n.x\r\n") false ≡ Whole (sent (codes "/sign") (codes "Ann" ∷ codes "2" ∷ codes "Hi" ∷ codes ".x" ∷ []))
  pub to_end : of_data (codes "+-2") (codes "Bob\r\n0\r\n") true ≡ Whole (sent (codes "/sign") (codes "Bob" ∷ codes "0" ∷ []))
  pub to_end_open : of_data (codes "+-2") (codes "Bob\r\n0\r\n") false ≡ Open
  pub period_without_lf : of_data (codes "+-1") (codes "Ann\r\n.") true ≡ Early
  pub one_period_more : of_data (codes "+-1") (codes ".x\n..\n.\n") false ≡ Whole (sent (codes "/sign") (codes ".x" ∷ codes "." ∷ []))
  pub cr_without_lf : of_data (codes "+4") (codes "Ann\r") false ≡ Whole (sent (codes "/sign") (codes "Ann\r" ∷ []))
  pub no_bytes : of_data (codes "+0") [] false ≡ Whole (sent (codes "/sign") [])
  pub counted_open : of_data (codes "+3") (codes "ab") false ≡ Open
  pub counted_early : of_data (codes "+3") (codes "ab") true ≡ Early
  pub leading_zeros : of_data (codes "+00001") (codes "ab") false ≡ Whole (sent (codes "/sign") (codes "a" ∷ []))
  pub six_digits : of_data (codes "+000001") (codes "ab") false ≡ Bad NotUnderstood
  pub no_digits : of_data (codes "+") (codes "ab") false ≡ Bad NotUnderstood
  pub other_head : of_data (codes "+-3") (codes "ab") false ≡ Bad NotUnderstood
  pub greatest_count : of_data (codes "+32768") (codes "ab") false ≡ Open
  pub long_count : of_data (codes "+32769") [] false ≡ Bad TooLong
  pub no_head : verdict (codes "/sign\t+\t1\r\n") true ≡ Early
  pub greatest_head : verdict (codes "/sign\t+\t1\r\n" ++ replicate 1024 97) false ≡ Open
  pub long_head : verdict (codes "/sign\t+\t1\r\n" ++ replicate 1025 97) false ≡ Bad TooLong

pub record MuchData : Type 0 where
  pub most_lines : of_data (codes "+-1") (replicate 32768 10) false ≡ Open
  pub too_many_lines : of_data (codes "+-1") (replicate 32769 10) false ≡ Bad TooLong
  pub last_period : of_data (codes "+-1") (replicate 32766 10 ++ codes ".\n") false ≡ Whole (sent (codes "/sign") (replicate 32766 []))
  pub late_period : of_data (codes "+-1") (replicate 32767 10 ++ codes ".\n") false ≡ Bad TooLong
  pub too_much_to_end : of_data (codes "+-2") (replicate 32769 97) true ≡ Bad TooLong
