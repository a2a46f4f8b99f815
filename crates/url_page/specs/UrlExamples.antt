-- Worked examples of redirect pages.
use Rattle.std.specs.Prelude.{◌≡◌, Some, None, [], ◌++◌, codes, replicate, length}
use Rattle.std.specs.Option.{option_map}
use Rattle.url_page.specs.Page.{redirect, escape, unescape}

pub record UrlExamples : Type 0 where
  pub page : redirect (codes "http://a.b/?x&y") ≡ Some (codes "<html><head><meta http-equiv=\"refresh\" content=\"0;url=http://a.b/?x&amp;y\"></head><body><a href=\"http://a.b/?x&amp;y\">http://a.b/?x&amp;y</a></body></html>\n")
  pub size : option_map length (redirect (codes "http://a.b/?x&y")) ≡ Some 156
  pub script : redirect (codes "javascript:x") ≡ None
  pub empty : redirect [] ≡ None
  pub space : redirect (codes "http://a b/") ≡ None
  pub scheme_alone : option_map length (redirect (codes "ftp://")) ≡ Some 117
  pub long : redirect (codes "http://" ++ replicate 245 97) ≡ None
  pub all_four : escape (codes "<a \"b\" & c>") ≡ codes "&lt;a &quot;b&quot; &amp; c&gt;"
  pub once : unescape (codes "&amp;lt;&nbsp;&lt") ≡ codes "&lt;&nbsp;&lt"
