-- What is taken of a group with one session more, and what stands behind it.
use Rattle.std.proofs.Common.{◌≡◌, ℕ, ◌+◌, Bool, true, false, List, [], ◌∷◌, ◌++◌, length, map, refl, sym, ap, ◌∙◌, arith, append_assoc, if◌then◌else◌}
use Rattle.std.specs.Prelude.{Option, Some, None, Result, Ok, Err, IsOk}
use Rattle.std.proofs.lemmas.List.{append-nil, map-append}
use Rattle.host_types.specs.Site.{Site}
use Rattle.host_types.specs.Change.{apply}
use Rattle.host_types.specs.AllChanges.{Changes, then_at, applied_from, all_applied, one_refusal}
use Rattle.common_types.specs.declared.refused.Refused.{Refused}
use Rattle.group_world.specs.World.{Phase}
use Rattle.group_world.specs.Step.{Group, behind, taken, answered_from, post_from, site_from, all_of}
use Rattle.group_world.specs.Laws.{all_made, and_more}

-- ---- one session more

-- a group with a session behind it that is taken, or left
abbrev pub one_more : Group → Bool → ℕ × Phase → Group
one_more g takes x = record {
  site = if takes then site_from g.site x.1 else g.site;
  sessions = g.sessions ++ (x.0, if takes then answered_from g.site x.1 else x.1) ∷ [];
  changes = g.changes ++ (if takes then post_from g.site x.1 else []);
}

alone : (s : Site) (takes : Bool) (x : ℕ × Phase) → taken s (takes ∷ []) (x ∷ []) ≡ one_more (record { site = s; sessions = []; changes = [] }) takes x
alone s true x = ap (λ (l : Changes). let g : Group = record { site = site_from s x.1; sessions = (x.0, answered_from s x.1) ∷ []; changes = l } in g) (append-nil (post_from s x.1))
alone s false x = refl

in_front : (y : ℕ × Phase) (made : Changes) (g : Group) (takes : Bool) (x : ℕ × Phase) → behind y made (one_more g takes x) ≡ one_more (behind y made g) takes x
in_front y made g takes x =
    ap (λ (l : Changes). let h : Group = record { site = if takes then site_from g.site x.1 else g.site; sessions = y ∷ g.sessions ++ (x.0, if takes then answered_from g.site x.1 else x.1) ∷ []; changes = l } in h)
    (sym (append_assoc made g.changes (if takes then post_from g.site x.1 else [])))

pub taken_more : (s : Site) (choices : List Bool) (takes : Bool) (xs : List (ℕ × Phase)) (x : ℕ × Phase) → length choices ≡ length xs → taken s (choices ++ takes ∷ []) (xs ++ x ∷ []) ≡ one_more (taken s choices xs) takes x
taken_more s [] takes [] x same = alone s takes x
taken_more s [] takes (y ∷ xs) x same = absurd (omega (arith, same))
taken_more s (c ∷ choices) takes [] x same = absurd (omega (arith, same))
taken_more s (true ∷ choices) takes (y ∷ xs) x same =
    ap (behind (y.0, answered_from s y.1) (post_from s y.1)) (taken_more (site_from s y.1) choices takes xs x (omega (arith, same))) ∙ in_front (y.0, answered_from s y.1) (post_from s y.1) (taken (site_from s y.1) choices xs) takes x
taken_more s (false ∷ choices) takes (y ∷ xs) x same =
    ap (behind y []) (taken_more s choices takes xs x (omega (arith, same))) ∙ in_front y [] (taken s choices xs) takes x

-- ---- and those behind

abbrev pub with_rest : Group → List (ℕ × Phase) → Group
with_rest g rest = record { site = g.site; sessions = g.sessions ++ rest; changes = g.changes }

pub taken_front : (s : Site) (choices : List Bool) (xs rest : List (ℕ × Phase)) → length choices ≡ length xs → taken s choices (xs ++ rest) ≡ with_rest (taken s choices xs) rest
taken_front s [] [] rest same = refl
taken_front s [] (y ∷ xs) rest same = absurd (omega (arith, same))
taken_front s (c ∷ choices) [] rest same = absurd (omega (arith, same))
taken_front s (true ∷ choices) (y ∷ xs) rest same = ap (behind (y.0, answered_from s y.1) (post_from s y.1)) (taken_front (site_from s y.1) choices xs rest (omega (arith, same)))
taken_front s (false ∷ choices) (y ∷ xs) rest same = ap (behind y []) (taken_front s choices xs rest (omega (arith, same)))

pub all_of_more : (xs : List (ℕ × Phase)) (x : ℕ × Phase) → all_of (xs ++ x ∷ []) ≡ all_of xs ++ true ∷ []
all_of_more xs x = map-append (λ (y : ℕ × Phase). true) xs (x ∷ [])

-- ---- all changes are right

applied_as : (n : ℕ) (s t : Site) (changes : Changes) → all_made s changes ≡ Some t → applied_from n s changes ≡ Ok t
applied_as n s t [] is = (let same : s ≡ t = cc is in ap (λ (x : Site). let r : Result Site (ℕ × Refused) = Ok x in r) same)
applied_as n s t (c ∷ changes) is = by (apply s c.0 c.1) refl (λ m. applied_as (n + 1) m t changes) is
  where
    by : (r : Result Site Refused) → apply s c.0 c.1 ≡ r → ((m : Site) → all_made m changes ≡ Some t → applied_from (n + 1) m changes ≡ Ok t) → and_more (λ u. all_made u changes) (apply s c.0 c.1) ≡ Some t → then_at n (λ u. applied_from (n + 1) u changes) (apply s c.0 c.1) ≡ Ok t
    by (Ok m) made rest is = rw made (rest m (sym (ap (and_more (λ (u : Site). all_made u changes)) made) ∙ is))
    by (Err refused) made rest is = (let no : None ≡ Some t = sym (ap (and_more (λ (u : Site). all_made u changes)) made) ∙ is in absurd (cc no))

pub all_are_applied : (s t : Site) (changes : Changes) → all_made s changes ≡ Some t → all_applied s changes ≡ Ok t
all_are_applied s t changes is = applied_as 0 s t changes is
