-- What a rewritten line asks for, by the grammar of request lines.
use Rattle.std.specs.Prelude.{◌≡◌, ◌≤◌, ℕ, true, false, List, Some, None, Ok, if◌then◌else◌, length}
use Rattle.std.specs.List.{after_first, before_first, list_any}
use Rattle.request_reader.specs.Request.{Fetch}
use Rattle.request_reader.specs.RequestLine.{ParsedRequest, is_forbidden, is_tab, parsed_line}
use Rattle.old_clients.specs.AdaptedRequest.{adapted_fields, has_data, is_old}

-- the item at the selector, with data or by the search words
abbrev pub fetch_of : List ℕ → ParsedRequest
fetch_of line = record {
  selector = before_first is_tab line;
  search = if has_data line then None else Some (before_first is_tab (after_first is_tab line));
  plus = Some (Fetch None);
  has_data = has_data line;
}

-- A rewritten line is understood, where its selector is not too long and none of its bytes is forbidden.
abbrev pub AreFetches : Type 0
AreFetches = (line : List ℕ) → is_old line ≡ true → list_any is_forbidden line ≡ false → length (before_first is_tab line) ≤ 255 → parsed_line (adapted_fields line) ≡ Ok (fetch_of line)
