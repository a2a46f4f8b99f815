-- One call more.
use Rattle.std.proofs.Common.{◌≡◌, inl, inr, ℕ, ◌≤◌, List, [], ◌∷◌, ◌++◌, length, take, refl, sym, ◌∙◌, ap, subst, arith, length-append}
use Rattle.std.proofs.lemmas.List.{take-append-le}
use Rattle.std.proofs.lemmas.Bool.{cases_lt}
use Rattle.sector_device.specs.Disk.{IsImage, SyncFailed}
use Rattle.sector_device.specs.Device.{Elapses}
use Rattle.sector_device.specs.Calls.{fresh, after, replay, MayLeaveSince}
use Rattle.sector_device.specs.Images.{replay-push, good}
use Rattle.sector_device.specs.declared.call.Call.{Call}

shorter : (first : List (List ℕ)) (calls : List Call) (call : Call) (k : ℕ) (c : List (List ℕ)) → k ≤ length calls → IsImage (replay (fresh first) (take k (calls ++ call ∷ []))) c → IsImage (replay (fresh first) (take k calls)) c
shorter first calls call k c le i = subst (λ (l : List Call). IsImage (replay (fresh first) l) c) (take-append-le k calls (call ∷ []) le) i

longer : (first : List (List ℕ)) (calls : List Call) (call : Call) (k : ℕ) (c : List (List ℕ)) → k ≤ length calls → IsImage (replay (fresh first) (take k calls)) c → IsImage (replay (fresh first) (take k (calls ++ call ∷ []))) c
longer first calls call k c le i = subst (λ (l : List Call). IsImage (replay (fresh first) l) c) (sym (take-append-le k calls (call ∷ []) le)) i

elapses_push : (first : List (List ℕ)) (calls : List Call) (call : Call) → Elapses (length calls) (length (calls ++ call ∷ [])) (MayLeaveSince first calls) (MayLeaveSince first (calls ++ call ∷ []))
elapses_push first calls call = record {
  later = omega (arith, length-append calls (call ∷ []));
  nothing_else = λ t c le left. elim (cases_lt (length calls) left.0) [
    | inl long ↦ inr (left.0, omega (arith, length-append calls (call ∷ [])), left.2, left.3)
    | inr short ↦ inl (left.0, left.1, short, shorter first calls call left.0 c short left.3)
  ];
  keeps = λ t c le left. (left.0, left.1, omega (arith, left.2, length-append calls (call ∷ [])), longer first calls call left.0 c left.2 left.3);
  now = λ c left. left;
}

pub elapses_to : (first : List (List ℕ)) (calls later : List Call) (call : Call) → later ≡ calls ++ call ∷ [] → Elapses (length calls) (length later) (MayLeaveSince first calls) (MayLeaveSince first later)
elapses_to first calls later call is = subst (λ (l : List Call). Elapses (length calls) (length l) (MayLeaveSince first calls) (MayLeaveSince first l)) (sym is) (elapses_push first calls call)

pub replayed : (first : List (List ℕ)) (calls later : List Call) (call : Call) → later ≡ calls ++ call ∷ [] → replay (fresh first) later ≡ after call (replay (fresh first) calls)
replayed first calls later call is = ap (λ (l : List Call). replay (fresh first) l) is ∙ replay-push (fresh first) calls call

pub not_synced : (first : List (List ℕ)) (calls later : List Call) → later ≡ calls → SyncFailed (replay (fresh first) calls) (replay (fresh first) later)
not_synced first calls later is = subst (λ (l : List Call). SyncFailed (replay (fresh first) calls) (replay (fresh first) l)) (sym is) (record { base = refl; writes = refl; view = (good first calls).view })
