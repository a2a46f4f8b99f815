-- No view is longer than all together may be.
use Rattle.std.proofs.Common.{◌≡◌, ℕ, zero, suc, ◌<◌, ◌≤◌, ◌^◌, List, [], ◌∷◌, length, arith, subst}
use Rattle.std.specs.Prelude.{IsTrue, slice_index_or}
use Rattle.std.proofs.lemmas.List.Sums.{sum_by-cons}
use Rattle.std.proofs.lemmas.Bool.{leb-true}
use Rattle.host_types.specs.Items.{view_bytes, most_view_bytes}
use Rattle.host_types.specs.Card.{has_short_views}
use Rattle.host_types.specs.declared.view.View.{View}
use Rattle.host_types.specs.declared.view.Kind.{Kind}
use Rattle.host_types.specs.declared.item.Body.{Body}
use Rattle.host_types.specs.declared.item.Body.TheVariants.{Views}

each_within : (vs : List View) (most k : ℕ) (d : View) → view_bytes vs ≤ most → k < length vs → length (slice_index_or vs k d).bytes ≤ most
each_within [] most k d fits less = absurd (omega arith)
each_within (v ∷ vs) most zero d fits less = omega (arith, sum_by-cons (λ (w : View). length w.bytes) v vs)
each_within (v ∷ vs) most (suc k) d fits less = each_within vs most k d (omega (arith, sum_by-cons (λ (w : View). length w.bytes) v vs)) (omega arith)

pub each_short : (body : Body) (kind : Kind) (vs : List View) → body ≡ Views kind vs → IsTrue (has_short_views body) →
    (k : ℕ) (d : View) → k < length vs → length (slice_index_or vs k d).bytes < 2 ^ 32
unfolding most_view_bytes
each_short body kind vs is short k d less =
    let short_views = subst (λ (b : Body). IsTrue (has_short_views b)) is short in
    let fits : view_bytes vs ≤ 262144 = leb-true (view_bytes vs) 262144 short_views in
    omega (arith, each_within vs 262144 k d fits less)
