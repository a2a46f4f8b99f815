-- What the parts of a disk in memory keep over its calls.
use Rattle.std.proofs.Common.{◌≡◌, ℕ, ◌<◌, List, [], ◌∷◌, ◌++◌, length, drop, Some, slice_get, slice_set, get_or, refl, sym, ◌∙◌, ap, subst, arith, length-append}
use Rattle.std.proofs.Math.Seq.{drop-length}
use Rattle.std.proofs.lemmas.List.{take-append-le, take_all, drop-append-le}
use Rattle.std.proofs.lemmas.Option.{slice_get_read}
use Rattle.sector_device.specs.Disk.{Disk}
use Rattle.sector_device.specs.AfterStop.{done}
use Rattle.sector_device.specs.Calls.{fresh, after, replay, writes_of}
use Rattle.sector_device.specs.Images.{good, replay-push}
use Rattle.sector_device.specs.MemDisk.{IsReadBack}
use Rattle.sector_device.specs.declared.call.Call.{Call}
use Rattle.sector_device.specs.declared.call.Call.TheVariants.{Write, Sync}

-- what reads give is what all writes make
pub view_is_done : (d : Disk) (calls : List Call) → done (writes_of calls) d.view ≡ (replay d calls).view
view_is_done d [] = refl
view_is_done d (Write n b ∷ calls) = view_is_done (after (Write n b) d) calls
view_is_done d (Sync ∷ calls) = view_is_done (after Sync d) calls

writes_of-push : (calls : List Call) (n : ℕ) (b : List ℕ) → writes_of (calls ++ Write n b ∷ []) ≡ writes_of calls ++ (n, b) ∷ []
writes_of-push [] n b = refl
writes_of-push (Write m c ∷ calls) n b = ap (λ (l : List (ℕ × List ℕ)). (m, c) ∷ l) (writes_of-push calls n b)
writes_of-push (Sync ∷ calls) n b = writes_of-push calls n b

pub as_many : (first : List (List ℕ)) (calls : List Call) (synced : ℕ) (shown : List (List ℕ)) → IsReadBack first calls synced shown → length shown ≡ length first
as_many first calls synced shown kept = ap length kept.view ∙ (good first calls).view.size ∙ (good first calls).size_is

pub read_of : (first : List (List ℕ)) (calls : List Call) (synced : ℕ) (shown : List (List ℕ)) (n : ℕ) (x : List ℕ) → IsReadBack first calls synced shown → n < length first → x ≡ get_or shown n x → slice_get (replay (fresh first) calls).view n ≡ Some x
read_of first calls synced shown n x kept lt is =
    subst (λ (v : List (List ℕ)). slice_get v n ≡ Some x) kept.view (slice_get_read shown (length shown) n x refl (omega (arith, as_many first calls synced shown kept)) is)

kept_push : (first : List (List ℕ)) (calls : List Call) (synced : ℕ) (shown : List (List ℕ)) (n : ℕ) (b : List ℕ) → IsReadBack first calls synced shown → IsReadBack first (calls ++ Write n b ∷ []) synced (slice_set shown n b)
kept_push first calls synced shown n b kept =
    let push = replay-push (fresh first) calls (Write n b) in
    record {
      within = omega (arith, kept.within, length-append calls (Write n b ∷ []));
      base = ap (λ (l : List Call). done (writes_of l) first) (take-append-le synced calls (Write n b ∷ []) kept.within) ∙ kept.base ∙ sym (ap (λ (d : Disk). d.base) push);
      writes = ap writes_of (drop-append-le synced calls (Write n b ∷ []) kept.within) ∙ writes_of-push (drop synced calls) n b ∙ ap (λ (l : List (ℕ × List ℕ)). l ++ (n, b) ∷ []) kept.writes ∙ sym (ap (λ (d : Disk). d.writes) push);
      view = ap (λ (v : List (List ℕ)). slice_set v n b) kept.view ∙ sym (ap (λ (d : Disk). d.view) push);
    }

pub kept_write : (first : List (List ℕ)) (calls later : List Call) (synced : ℕ) (shown : List (List ℕ)) (n : ℕ) (b : List ℕ) → IsReadBack first calls synced shown → later ≡ calls ++ Write n b ∷ [] → IsReadBack first later synced (slice_set shown n b)
kept_write first calls later synced shown n b kept is = subst (λ (l : List Call). IsReadBack first l synced (slice_set shown n b)) (sym is) (kept_push first calls synced shown n b kept)

synced_push : (first : List (List ℕ)) (calls : List Call) (synced : ℕ) (shown : List (List ℕ)) → IsReadBack first calls synced shown → IsReadBack first (calls ++ Sync ∷ []) (length (calls ++ Sync ∷ [])) shown
synced_push first calls synced shown kept =
    let push = replay-push (fresh first) calls Sync in
    let all = calls ++ Sync ∷ [] in
    record {
      within = omega arith;
      base = ap (λ (l : List Call). done (writes_of l) first) (take_all (length all) all (omega arith)) ∙ view_is_done (fresh first) all ∙ ap (λ (d : Disk). d.view) push ∙ sym (ap (λ (d : Disk). d.base) push);
      writes = ap writes_of (drop-length all) ∙ sym (ap (λ (d : Disk). d.writes) push);
      view = kept.view ∙ sym (ap (λ (d : Disk). d.view) push);
    }

pub kept_sync : (first : List (List ℕ)) (calls later : List Call) (synced now : ℕ) (shown : List (List ℕ)) → IsReadBack first calls synced shown → later ≡ calls ++ Sync ∷ [] → now ≡ length later → IsReadBack first later now shown
kept_sync first calls later synced now shown kept is at =
    subst (λ m. IsReadBack first later m shown) (sym at) (subst (λ (l : List Call). IsReadBack first l (length l) shown) (sym is) (synced_push first calls synced shown kept))
