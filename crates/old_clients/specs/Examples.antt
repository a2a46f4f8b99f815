-- Worked examples of requests and replies of old clients.
use Rattle.std.specs.Prelude.{◌≡◌, true, false, ◌++◌, codes, replicate}
use Rattle.old_clients.specs.AdaptedRequest.{adapted_request, is_rewritten}
use Rattle.old_clients.specs.AdaptedReply.{adapted_reply}

pub record RewrittenLines : Type 0 where
  pub form : adapted_request (codes "/sign\t$\t1\r\n+-1\r\nAnn\r\n.\r\n") ≡ codes "/sign\t+\t1\r\n+-1\r\nAnn\r\n.\r\n"
  pub search : adapted_request (codes "/find\thello there\t$\r\n") ≡ codes "/find\thello there\t+\r\n"
  pub line_feed : adapted_request (codes "/find\thello\t$\n") ≡ codes "/find\thello\t+\n"
  pub dollar_in_words : adapted_request (codes "/find\ta$\t$\r\n") ≡ codes "/find\ta$\t+\r\n"
  pub empty_selector : adapted_request (codes "\thello\t$\r\n") ≡ codes "\thello\t+\r\n"
  pub one_period : adapted_request (codes "/sign\t$\t1\r\n+-1\r\n..x\r\n.\r\n") ≡ codes "/sign\t+\t1\r\n+-1\r\n..x\r\n.\r\n"
  pub greatest_line : adapted_request (replicate 1020 97 ++ codes "\t$\t1\n") ≡ replicate 1020 97 ++ codes "\t+\t1\n"
  pub said : is_rewritten (codes "/sign\t$\t1\r\n") ≡ true

pub record OtherLines : Type 0 where
  pub menu : adapted_request (codes "/docs\t$\r\n") ≡ codes "/docs\t$\r\n"
  pub no_data : adapted_request (codes "/sign\t$\t0\r\n") ≡ codes "/sign\t$\t0\r\n"
  pub blocks : adapted_request (codes "/sign\t$+ASK\t1\r\n") ≡ codes "/sign\t$+ASK\t1\r\n"
  pub no_words : adapted_request (codes "/find\t\t$\r\n") ≡ codes "/find\t\t$\r\n"
  pub plus_part : adapted_request (codes "/find\t+\t$\r\n") ≡ codes "/find\t+\t$\r\n"
  pub further_field : adapted_request (codes "/find\ta\t$\t1\r\n") ≡ codes "/find\ta\t$\t1\r\n"
  pub selector_alone : adapted_request (codes "$\r\n") ≡ codes "$\r\n"
  pub second_line : adapted_request (codes "/about\r\n/sign\t$\t1\r\n") ≡ codes "/about\r\n/sign\t$\t1\r\n"
  pub not_yet : adapted_request (codes "/sign\t$\t1\r") ≡ codes "/sign\t$\t1\r"
  pub long_line : adapted_request (replicate 1021 97 ++ codes "\t$\t1\n") ≡ replicate 1021 97 ++ codes "\t$\t1\n"
  pub said : is_rewritten (codes "/docs\t$\r\n") ≡ false

pub record Replies : Type 0 where
  pub post : adapted_reply true (codes "+-1\r\n0Ann\tpost//book/1\tlocalhost\t7070\t+\r\n.\r\n") ≡ codes "+-1\r\n+INFO: 0Ann\tpost//book/1\tlocalhost\t7070\t+\r\n.\r\n"
  pub two_lines : adapted_reply true (codes "+-1\r\n0A\t/a\th\t70\t+\r\niB\t\th\t70\r\n.\r\n") ≡ codes "+-1\r\n+INFO: 0A\t/a\th\t70\t+\r\n+INFO: iB\t\th\t70\r\n.\r\n"
  pub no_lines : adapted_reply true (codes "+-1\r\n.\r\n") ≡ codes "+-1\r\n.\r\n"
  pub plus_error : adapted_reply true (codes "--1\r\n1 Wrong word\r\n.\r\n") ≡ codes "--1\r\n1 Wrong word\r\n.\r\n"
  pub plain_error : adapted_reply true (codes "3Request too long\t\terror.host\t1\r\n.\r\n") ≡ codes "3Request too long\t\terror.host\t1\r\n.\r\n"
  pub counted : adapted_reply true (codes "+2\r\n.\n") ≡ codes "+2\r\n.\n"
  pub period_in_front : adapted_reply true (codes "+-1\r\n.x\r\n.\r\n") ≡ codes "+-1\r\n+INFO: .x\r\n.\r\n"
  pub empty_line : adapted_reply true (codes "+-1\r\n\r\n.\r\n") ≡ codes "+-1\r\n+INFO: \r\n.\r\n"
  pub behind_the_end : adapted_reply true (codes "+-1\r\n.\r\nx\r\n") ≡ codes "+-1\r\n.\r\nx\r\n"
  pub cut_off : adapted_reply true (codes "+-1\r\n0A\r\n.\r") ≡ codes "+-1\r\n+INFO: 0A\r\n+INFO: .\r"
  pub not_rewritten : adapted_reply false (codes "+-1\r\nHello\r\n.\r\n") ≡ codes "+-1\r\nHello\r\n.\r\n"
