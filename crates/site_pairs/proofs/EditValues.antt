-- What edits make of a key.
use Rattle.std.proofs.Common.{◌≡◌, ℕ, true, false, cond, List, [], ◌∷◌, Option, Some, None, refl, ap, ◌∙◌}
use Rattle.std.specs.Map.{lookup}
use Rattle.std.specs.BTreeMap.{is_at}
use Rattle.host_types.specs.Site.{byte_cmp}
use Rattle.host_types.specs.SiteLaws.{lookup-insert_entry}
use Rattle.site_records.specs.Layout.{Pairs, value_at}
use Rattle.site_pairs.specs.Edits.{Edits, with_all, without_all, pairs_beside, with_replacement}
use Rattle.change_plan.specs.declared.replacement.Replacement.{Replacement}

abbrev pub Value : Type 0
Value = Option (List ℕ)

-- what is to become of a key, if anything
abbrev pub edit_at : Edits → List ℕ → Option Value
edit_at edits key = lookup (is_at (byte_cmp key)) edits

abbrev pub or_put : Value → Option Value → Option Value
or_put None edit = edit
or_put (Some value) edit = Some (Some value)

abbrev pub or_gone : Value → Option Value → Option Value
or_gone None edit = edit
or_gone (Some value) edit = Some None

with_all-at : (edits : Edits) (ps : Pairs) (q : List ℕ) → edit_at (with_all edits ps) q ≡ or_put (value_at ps q) (edit_at edits q)
with_all-at edits [] q = refl
with_all-at edits (p ∷ ps) q =
    lookup-insert_entry (with_all edits ps) p.0 (Some p.1) q
    ∙ elim (is_at (byte_cmp q) p.0) as (λ b. cond b (Some (Some p.1)) (edit_at (with_all edits ps) q) ≡ or_put (cond b (Some p.1) (value_at ps q)) (edit_at edits q)) [
      | true ↦ refl
      | false ↦ with_all-at edits ps q
    ]

without_all-at : (edits : Edits) (ps : Pairs) (q : List ℕ) → edit_at (without_all edits ps) q ≡ or_gone (value_at ps q) (edit_at edits q)
without_all-at edits [] q = refl
without_all-at edits (p ∷ ps) q =
    lookup-insert_entry (without_all edits ps) p.0 None q
    ∙ elim (is_at (byte_cmp q) p.0) as (λ b. cond b (Some None) (edit_at (without_all edits ps) q) ≡ or_gone (cond b (Some p.1) (value_at ps q)) (edit_at edits q)) [
      | true ↦ refl
      | false ↦ without_all-at edits ps q
    ]

-- a replacement puts what comes, and removes what goes
pub replacement-at : (edits : Edits) (r : Replacement) (q : List ℕ) → edit_at (with_replacement edits r) q ≡ or_put (value_at (pairs_beside r.selector r.after r.before) q) (or_gone (value_at (pairs_beside r.selector r.before r.after) q) (edit_at edits q))
replacement-at edits r q =
    let old = pairs_beside r.selector r.before r.after in
    let new = pairs_beside r.selector r.after r.before in
    with_all-at (without_all edits old) new q ∙ ap (or_put (value_at new q)) (without_all-at edits old q)
