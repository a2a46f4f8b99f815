-- Bytes as they are printed.
use Rattle.std.specs.Prelude.{ℕ, List, encode_utf8_all}
use Rattle.bstr.specs.Escape.{escaped}

-- bytes with escapes for all but printable ASCII and whole characters of more bytes; a space is `\x20`
abbrev pub shown : List ℕ → List ℕ
shown bytes = encode_utf8_all (escaped bytes)
