-- Worked examples of dates and blocks.
use Rattle.std.specs.Prelude.{◌≡◌, ℕ, List, [], ◌∷◌, ◌++◌, codes, None}
use Rattle.host_types.specs.Address.{Address}
use Rattle.host_types.specs.declared.card.Card.{Card}
use Rattle.host_types.specs.declared.card.CardBody.TheVariants as cards
use Rattle.host_types.specs.declared.view.Kind.TheVariants as kinds
use Rattle.host_types.specs.declared.form.Question.TheVariants as questions
use Rattle.plus_blocks.specs.Date.{mod_date, listed_date, log_date}
use Rattle.plus_blocks.specs.Blocks.{attributes, entry_attributes, info, item_blocks, views, abstract_block}

pub record DateExamples : Type 0 where
  pub of_1993 : mod_date 743878921 ≡ codes "Wed Jul 28 17:02:01 1993 <19930728170201>"
  pub least : mod_date 0 ≡ codes "Thu Jan 01 00:00:00 1970 <19700101000000>"
  pub greatest : mod_date 253402300799 ≡ codes "Fri Dec 31 23:59:59 9999 <99991231235959>"
  pub leap_day : mod_date 951782400 ≡ codes "Tue Feb 29 00:00:00 2000 <20000229000000>"
  pub in_a_listing : listed_date 743878921 ≡ codes "1993-07-28T17:02:01Z"
  pub in_a_log : log_date 743878921 ≡ codes "28/Jul/1993:17:02:01 +0000"

abbrev pub here : Address
here = record { host = codes "localhost"; port = 7070; admin = codes "Ada <ada@localhost>" }

-- a document of 16 bytes
abbrev pub about : Card
about = record { title = codes "About us"; stamp = 743878921; until = None; summary = []; body = cards.Views kinds.Text (record { name = codes "Text/plain"; language = []; length = 16 } ∷ []) }

-- a document in two languages, with a summary
abbrev pub two_views : Card
two_views = record {
  title = codes "V";
  stamp = 743878921;
  until = None;
  summary = codes "One\r\n.two\n";
  body = cards.Views kinds.Text (record { name = codes "Text/plain"; language = []; length = 2 } ∷ record { name = codes "Text/plain"; language = codes "De_DE"; length = 1025 } ∷ []);
}

abbrev pub sign : Card
sign = record {
  title = codes "Sign";
  stamp = 743878921;
  until = None;
  summary = [];
  body = cards.Form (codes "/book") (questions.Ask (codes "Your name") ∷ questions.AskL (codes "Message") ∷ questions.AskP (codes "Word") (codes "moon") ∷ questions.Choose (codes "Colour") (codes "red" ∷ codes "blue" ∷ []) ∷ []);
}

-- the block of who keeps the items above
abbrev pub ada : List ℕ
ada = codes "+ADMIN:\r\n Admin: Ada <ada@localhost>\r\n Mod-Date: Wed Jul 28 17:02:01 1993 <19930728170201>\r\n"

pub record BlockExamples : Type 0 where
  pub document : attributes here [] (codes "/about") about ≡
      codes "+-1\r\n+INFO: 0About us\t/about\tlocalhost\t7070\t+\r\n" ++ ada ++ codes "+VIEWS:\r\n Text/plain: <1k>\r\n.\r\n"
  pub unknown_name : attributes here (codes "+ABSTRACT" ∷ codes "+SMELL" ∷ []) (codes "/about") about ≡ codes "+-1\r\n+INFO: 0About us\t/about\tlocalhost\t7070\t+\r\n.\r\n"
  pub one_name : attributes here (codes "+VIEWS" ∷ []) (codes "/v") two_views ≡
      codes "+-1\r\n+INFO: 0V\t/v\tlocalhost\t7070\t+\r\n+VIEWS:\r\n Text/plain: <1k>\r\n Text/plain De_DE: <2k>\r\n.\r\n"
  pub summary : attributes here (codes "+ABSTRACT" ∷ []) (codes "/v") two_views ≡ codes "+-1\r\n+INFO: 0V\t/v\tlocalhost\t7070\t+\r\n+ABSTRACT:\r\n One\r\n .two\r\n.\r\n"
  pub form : attributes here (codes "+ASK" ∷ []) (codes "/sign") sign ≡
      codes "+-1\r\n+INFO: 1Sign\t/sign\tlocalhost\t7070\t?\r\n+ASK:\r\n Ask: Your name\r\n AskL: Message\r\n AskP: Word\r\n Choose: Colour\tred\tblue\r\n.\r\n"
  pub top_menu : entry_attributes (item_blocks here [] (codes "/about") about ∷ info (codes "iWelcome\t\tlocalhost\t7070\r\n") ∷ []) ≡
      codes "+-1\r\n+INFO: 0About us\t/about\tlocalhost\t7070\t+\r\n" ++ ada ++ codes "+VIEWS:\r\n Text/plain: <1k>\r\n+INFO: iWelcome\t\tlocalhost\t7070\r\n.\r\n"
  pub no_entries : entry_attributes [] ≡ codes "+-1\r\n.\r\n"
  pub no_bytes : views (record { name = codes "Text/plain"; language = []; length = 0 } ∷ []) ≡ codes "+VIEWS:\r\n Text/plain: <0k>\r\n"
  pub no_summary : abstract_block [] ≡ []
  pub empty_line : abstract_block (codes "\n") ≡ codes "+ABSTRACT:\r\n \r\n"
