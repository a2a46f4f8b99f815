-- What a log has of bytes that are written to it.
use Rattle.std.proofs.Common.{◌≡◌, ◌⊎◌, ⊎_elim, ℕ, Bool, true, false, Option, Some, None, List, [], ◌∷◌, ◌++◌, length, take, refl, sym, ap, subst, ◌∙◌, append_assoc}
use Rattle.std.specs.Prelude.{flat_map}
use Rattle.std.specs.List.{concat}
use Rattle.std.specs.Io.KnownBytes.{Appends, Keeps}
use Rattle.std.proofs.KnownBytes.{Appends-nil, Appends-trans}
use Rattle.std.proofs.lemmas.List.{append-nil, flat_map_more}
use Rattle.std.proofs.lemmas.List.Concat.{flat_map-append}
use Rattle.turns.specs.WireCalls.{WireCall, Wrote, WriteFailed, HasMade, IsSent, IsLastWrite, writes_of}
use Rattle.daily_server.specs.Due.{bytes_by}

pub keeps_none : (a b : Option (List ℕ)) → Keeps a b → Appends a b []
keeps_none None b h = tt
keeps_none (Some x) None h = absurd h
keeps_none (Some x) (Some y) h = h ∙ sym (append-nil x)

pub keeps_then : (a b c : Option (List ℕ)) (bs : List ℕ) → Keeps a b → Appends b c bs → Appends a c bs
keeps_then None b c bs h g = tt
keeps_then (Some x) None c bs h g = absurd h
keeps_then (Some x) (Some y) None bs h g = absurd g
keeps_then (Some x) (Some y) (Some z) bs h g = g ∙ ap (λ l. l ++ bs) h

pub has_none : (a : Option (List ℕ)) (calls : List WireCall) → HasMade calls calls (λ made. Appends a a (flat_map bytes_by made))
has_none a calls = ([], sym (append-nil calls), Appends-nil a)

pub has_more : (a b c : Option (List ℕ)) (old now later : List WireCall) (call : WireCall) → HasMade old now (λ made. Appends a b (flat_map bytes_by made)) → later ≡ now ++ call ∷ [] → Appends b c (bytes_by call) → HasMade old later (λ made. Appends a c (flat_map bytes_by made))
has_more a b c old now later call has wrote took = (
  has.0 ++ call ∷ [],
  wrote ∙ ap (λ l. l ++ call ∷ []) has.1 ∙ append_assoc old has.0 (call ∷ []),
  subst (Appends a c) (flat_map_more bytes_by [] has.0 call) (Appends-trans a b c (flat_map bytes_by has.0) (bytes_by call) has.2 took),
)

take_front : (xs ys : List ℕ) → take (length xs) (xs ++ ys) ≡ xs
take_front [] ys = refl
take_front (x ∷ xs) ys = ap (λ l. x ∷ l) (take_front xs ys)

pieces : (taken : List (List ℕ)) (left : List ℕ) → flat_map bytes_by (writes_of taken left) ≡ concat taken
pieces [] left = refl
pieces (piece ∷ taken) left = ap (λ l. l ++ flat_map bytes_by (writes_of taken left)) (take_front piece (concat taken ++ left)) ∙ ap (λ l. piece ++ l) (pieces taken left)

-- the last call takes nothing
last_takes_none : (whole : Bool) (left : List ℕ) (last : List WireCall) → IsLastWrite whole left last → flat_map bytes_by last ≡ []
last_takes_none true left last ends = ap (flat_map bytes_by) ends.1
last_takes_none false left last ends = ⊎_elim (λ (failed : last ≡ WriteFailed left ∷ []). ap (flat_map bytes_by) failed) (λ (none : last ≡ Wrote left 0 ∷ []). ap (flat_map bytes_by) none) ends.1

none_left : (whole : Bool) (left : List ℕ) (last : List WireCall) → IsLastWrite whole left last → whole ≡ true → left ≡ []
none_left true left last ends is = ends.0
none_left false left last ends is = absurd cc

pub a_front : (bytes : List ℕ) (made : List WireCall) (whole : Bool) → IsSent bytes made whole → (left : List ℕ) × (bytes ≡ flat_map bytes_by made ++ left) × (whole ≡ true → left ≡ [])
a_front bytes made whole sent =
    let all : flat_map bytes_by made ≡ concat sent.taken =
    ap (flat_map bytes_by) sent.made_are ∙ flat_map-append bytes_by (writes_of sent.taken sent.left) sent.last
    ∙ ap (λ l. l ++ flat_map bytes_by sent.last) (pieces sent.taken sent.left) ∙ ap (λ l. concat sent.taken ++ l) (last_takes_none whole sent.left sent.last sent.ends) ∙ append-nil (concat sent.taken) in
    (sent.left, sent.bytes_are ∙ ap (λ l. l ++ sent.left) (sym all), none_left whole sent.left sent.last sent.ends)
