-- Bytes that are being sent.
use Rattle.std.proofs.Common.{◌≡◌, ◌≢◌, ◌⊎◌, inl, inr, ℕ, zero, suc, ◌<◌, ◌≤◌, ◌-◌, List, [], ◌∷◌, ◌++◌, length, take, drop, refl, sym, ap, subst, length-drop, ◌∙◌, arith, true, false}
use Rattle.std.specs.Prelude.{All}
use Rattle.std.specs.List.{concat}
use Rattle.std.proofs.lemmas.List.{append-nil, append_assoc, take-append-drop, take_all, length-take-le}
use Rattle.std.proofs.lemmas.List.Elements.{All-nil, All-push}
use Rattle.turns.specs.WireCalls.{WireCall, Wrote, WriteFailed, HasMade, IsSent, writes_of}

-- Some of the bytes were taken, and `rest` is left.
pub record IsTaken (bytes rest : List ℕ) (old now : List WireCall) : Type 0 where
  pub taken : List (List ℕ)
  pub bytes_are : bytes ≡ concat taken ++ rest
  pub each : All (λ piece. piece ≢ []) taken
  pub calls : now ≡ old ++ writes_of taken rest

pub taken_none : (bytes : List ℕ) (old : List WireCall) → IsTaken bytes bytes old old
taken_none bytes old = record { taken = []; bytes_are = refl; each = All-nil (λ piece. piece ≢ []); calls = sym (append-nil old) }

concat_push : (xs : List (List ℕ)) (x : List ℕ) → concat (xs ++ x ∷ []) ≡ concat xs ++ x
concat_push [] x = append-nil x
concat_push (y ∷ ys) x = ap (λ l. y ++ l) (concat_push ys x) ∙ sym (append_assoc y (concat ys) x)

writes_push : (xs : List (List ℕ)) (x rest : List ℕ) → writes_of (xs ++ x ∷ []) rest ≡ writes_of xs (x ++ rest) ++ Wrote (x ++ rest) (length x) ∷ []
writes_push [] x rest = refl
writes_push (y ∷ ys) x rest =
    ap (λ l. Wrote (y ++ l) (length y) ∷ writes_of (ys ++ x ∷ []) rest) (ap (λ l. l ++ rest) (concat_push ys x) ∙ append_assoc (concat ys) x rest)
    ∙ ap (λ l. Wrote (y ++ (concat ys ++ (x ++ rest))) (length y) ∷ l) (writes_push ys x rest)

-- the same, with what was left before
writes_next : (xs : List (List ℕ)) (rest : List ℕ) (n : ℕ) → n ≤ length rest → writes_of (xs ++ take n rest ∷ []) (drop n rest) ≡ writes_of xs rest ++ Wrote rest n ∷ []
writes_next xs rest n within =
    writes_push xs (take n rest) (drop n rest)
    ∙ ap (λ l. writes_of xs l ++ Wrote l (length (take n rest)) ∷ []) (take-append-drop n rest)
    ∙ ap (λ k. writes_of xs rest ++ Wrote rest k ∷ []) (length-take-le n rest within)

not_empty : (n : ℕ) (xs : List ℕ) → 0 < n → n ≤ length xs → take n xs ≢ []
not_empty n [] some within = absurd (omega arith)
not_empty zero (x ∷ xs) some within = absurd (omega arith)
not_empty (suc n) (x ∷ xs) some within = λ e. cc e

-- a write took n more
pub taken_more : (bytes rest : List ℕ) (old now later : List WireCall) (n : ℕ) → IsTaken bytes rest old now → 0 < n → n ≤ length rest → later ≡ now ++ Wrote rest n ∷ [] → IsTaken bytes (drop n rest) old later
taken_more bytes rest old now later n t some within wrote = record {
  taken = t.taken ++ take n rest ∷ [];
  bytes_are = t.bytes_are ∙ ap (λ l. concat t.taken ++ l) (sym (take-append-drop n rest)) ∙ sym (append_assoc (concat t.taken) (take n rest) (drop n rest)) ∙ ap (λ l. l ++ drop n rest) (sym (concat_push t.taken (take n rest)));
  each = All-push (λ piece. piece ≢ []) t.taken (take n rest) t.each (not_empty n rest some within);
  calls = wrote ∙ ap (λ l. l ++ Wrote rest n ∷ []) t.calls ∙ append_assoc old (writes_of t.taken rest) (Wrote rest n ∷ []) ∙ ap (λ l. old ++ l) (sym (writes_next t.taken rest n within));
}

-- all of them are taken
pub sent_whole : (bytes rest : List ℕ) (old now : List WireCall) → IsTaken bytes rest old now → rest ≡ [] → HasMade old now (λ made. IsSent bytes made true)
sent_whole bytes rest old now t none = (
  writes_of t.taken rest,
  t.calls,
  record {
    taken = t.taken;
    left = [];
    last = [];
    bytes_are = t.bytes_are ∙ ap (λ l. concat t.taken ++ l) none;
    each = t.each;
    made_are = sym (append-nil (writes_of t.taken rest)) ∙ ap (λ l. writes_of t.taken l ++ []) none;
    ends = (refl, refl);
  },
)

-- a write failed, or took none
pub sent_in_part : (bytes rest : List ℕ) (old now later : List WireCall) (call : WireCall) → IsTaken bytes rest old now → rest ≢ [] → later ≡ now ++ call ∷ [] → (call ≡ WriteFailed rest) ⊎ (call ≡ Wrote rest 0) → HasMade old later (λ made. IsSent bytes made false)
sent_in_part bytes rest old now later call t some wrote ends = (
  writes_of t.taken rest ++ call ∷ [],
  wrote ∙ ap (λ l. l ++ call ∷ []) t.calls ∙ append_assoc old (writes_of t.taken rest) (call ∷ []),
  record {
    taken = t.taken;
    left = rest;
    last = call ∷ [];
    bytes_are = t.bytes_are;
    each = t.each;
    made_are = refl;
    ends = (some, last_of call ends);
  },
)
  where
    last_of : (x : WireCall) → (x ≡ WriteFailed rest) ⊎ (x ≡ Wrote rest 0) → (x ∷ [] ≡ WriteFailed rest ∷ []) ⊎ (x ∷ [] ≡ Wrote rest 0 ∷ [])
    last_of x (inl e) = inl (ap (λ y. y ∷ []) e)
    last_of x (inr e) = inr (ap (λ y. y ∷ []) e)

-- nothing to send
pub sent_none : (calls : List WireCall) → HasMade calls calls (λ made. IsSent [] made true)
sent_none calls = sent_whole [] [] calls calls (taken_none [] calls) refl

pub taken_further : (bytes rest : List ℕ) (old now later : List WireCall) (n k : ℕ) → IsTaken bytes rest old now → (n ≡ 0 → ⊥) → n ≤ length rest → later ≡ now ++ Wrote rest n ∷ [] → k ≡ length rest - n → IsTaken bytes (take k (drop n rest)) old later
taken_further bytes rest old now later n k t some within wrote is =
    let all : take k (drop n rest) ≡ drop n rest = take_all k (drop n rest) (omega (arith, length-drop n rest, is)) in
    subst (λ r. IsTaken bytes r old later) (sym all) (taken_more bytes rest old now later n t (omega arith) within wrote)
