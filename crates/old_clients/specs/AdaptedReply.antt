-- Replies to requests that were rewritten, as they are passed on. The client asked for attributes, so it reads `+INFO` blocks (the Gopher+ paper, section 2) where the host gives the lines of a menu.
use Rattle.std.specs.Prelude.{ℕ, Bool, true, false, List, [], ◌∷◌, ◌++◌, ◌==◌, ◌&&◌, if◌then◌else◌, drop, codes}
use Rattle.host_types.specs.Lines.{is_lf}
use Rattle.text_writer.specs.Text.{text_end}

-- the head of a reply that ends with a line that is one period
abbrev pub head_line : List ℕ
head_line = codes "+-1\r\n"

-- what stands in front of a line
abbrev pub info : List ℕ
info = codes "+INFO: "

abbrev pub begins_with : List ℕ → List ℕ → Bool
begins_with [] bytes = true
begins_with (f ∷ front) [] = false
begins_with (f ∷ front) (b ∷ bytes) = b == f && begins_with front bytes

-- The lines from the start of one on, or from inside one: each has `+INFO: ` in front, up to the line that is one period. What follows that stays.
abbrev pub informed : Bool → List ℕ → List ℕ
informed starts [] = []
informed true (b ∷ bs) = if begins_with text_end (b ∷ bs) then b ∷ bs else info ++ b ∷ informed (is_lf b) bs
informed false (b ∷ bs) = b ∷ informed (is_lf b) bs

-- A reply with another head, as an error's `--1`, stays, and so does every reply to a request that was not rewritten.
unfoldable pub adapted_reply : Bool → List ℕ → List ℕ
adapted_reply false reply = reply
adapted_reply true reply = if begins_with head_line reply then head_line ++ informed true (drop 5 reply) else reply
