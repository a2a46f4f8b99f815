-- Free pages, by sets of generations.
use Rattle.std.proofs.Common.{◌≡◌, ℕ, zero, suc, Bool, true, false, List, [], ◌∷◌, Option, Some, None, length, get_or, leb, ltb, refl, sym, ap, ◌∙◌, inl, inr, ⊎_elim}
use Rattle.std.specs.Prelude.{◌&&◌, not, ◌↔◌}
use Rattle.std.specs.List.{list_any}
use Rattle.std.proofs.lemmas.Bool.{and_parts, and_from, ltb-true, leb-true, lt-ltb, le-leb, or_parts, or_from, not-true, not_from_false}
use Rattle.page_alloc.specs.LedgerState.{LedgerState, pinned, is_taken, mark_of, has_page, is_held, is_free, IsInUse, IsFree}

-- what no pin that is out passes, each of them fails
pub none_of : (f : ℕ → Bool) (pins : List (Option ℕ)) → list_any f (pinned pins) ≡ false → (number generation : ℕ) → get_or pins number None ≡ Some generation → f generation ≡ false
none_of f [] none number generation is = absurd (cc is)
none_of f (None ∷ pins) none zero generation is = absurd (cc is)
none_of f (None ∷ pins) none (suc number) generation is = none_of f pins none number generation is
none_of f (Some g ∷ pins) none zero generation is = same_some (or_parts (f g) (list_any f (pinned pins)) none).0 is
  where
    same_some : f g ≡ false → Some g ≡ Some generation → f generation ≡ false
    same_some fails e = let same : g ≡ generation = cc e in ap f (sym same) ∙ fails
none_of f (Some g ∷ pins) none (suc number) generation is = none_of f pins (or_parts (f g) (list_any f (pinned pins)) none).1 number generation is

pub each_of : (f : ℕ → Bool) (pins : List (Option ℕ)) → ((number generation : ℕ) → get_or pins number None ≡ Some generation → f generation ≡ false) → list_any f (pinned pins) ≡ false
each_of f [] each = refl
each_of f (None ∷ pins) each = each_of f pins (λ number generation is. each (suc number) generation is)
each_of f (Some g ∷ pins) each = or_from (f g) (list_any f (pinned pins)) (each zero g refl) (each_of f pins (λ number generation is. each (suc number) generation is))

unheld : (s : LedgerState) (page : ℕ) → is_held s page ≡ false → (generation : ℕ) → IsInUse s generation → has_page s generation page ≡ false
unheld s page none generation in_use =
    let parts = or_parts (has_page s s.generation page) (list_any (λ g. has_page s g page) (pinned s.pins)) none in
    ⊎_elim
    (λ current. ap (λ (g : ℕ). has_page s g page) current ∙ parts.0)
    (λ pin. none_of (λ g. has_page s g page) s.pins parts.1 pin.0 generation pin.1)
    in_use

pub free_is_by_sets : (s : LedgerState) (page : ℕ) → (is_free s page ≡ true) ↔ IsFree s page
free_is_by_sets s page = (there, back)
  where
    there : is_free s page ≡ true → IsFree s page
    there free =
        let low = and_parts (leb 2 page) (ltb page (length s.lives) && (not (is_taken (mark_of s page)) && not (is_held s page))) free in
        let high = and_parts (ltb page (length s.lives)) (not (is_taken (mark_of s page)) && not (is_held s page)) low.1 in
        let rest = and_parts (not (is_taken (mark_of s page))) (not (is_held s page)) high.1 in
        record {
          no_root_slot = leb-true 2 page low.0;
          within = ltb-true page (length s.lives) high.0;
          untaken = not-true (is_taken (mark_of s page)) rest.0;
          unheld = unheld s page (not-true (is_held s page) rest.1);
        }

    back : IsFree s page → is_free s page ≡ true
    back free =
        let held : is_held s page ≡ false =
        or_from (has_page s s.generation page) (list_any (λ g. has_page s g page) (pinned s.pins)) (free.unheld s.generation (inl refl))
        (each_of (λ g. has_page s g page) s.pins (λ number generation is. free.unheld generation (inr (number, is)))) in
        and_from (leb 2 page) _ (le-leb 2 page free.no_root_slot)
        (and_from (ltb page (length s.lives)) _ (lt-ltb page (length s.lives) free.within)
        (and_from (not (is_taken (mark_of s page))) (not (is_held s page)) (not_from_false (is_taken (mark_of s page)) free.untaken) (not_from_false (is_held s page) held)))
