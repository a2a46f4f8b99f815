-- What calls of the site that a session makes count, as its hub tells it.
use Rattle.std.proofs.Common.{◌≡◌, ◌⊎◌, inl, inr, ℕ, Bool, true, false, refl, sym, subst, ap, ◌∙◌}
use Rattle.std.specs.Prelude.{List, Result, Ok, Err, IsTrue}
use Rattle.host_types.specs.SiteState.{SiteState, HasRead, IsReadFault}
use Rattle.host_types.specs.Counting as site
use Rattle.view_draws.specs.Counting as views
use Rattle.host_types.specs.declared.site_fault.SiteFault.{SiteFault}
use Rattle.host_types.specs.declared.site_fault.SiteFault.TheVariants as faults
use Rattle.group_hub.specs.Counting.{IsHubReadCounted, HubCountsReads, writes_after, HubCountsWrites, CountsCall, result_of}
use Rattle.group_world.specs.Outcomes.{fault_of, bytes_outcome, draw_outcome}
use Rattle.group_world.specs.declared.answer.InputStatus.{InputStatus}
use Rattle.group_world.specs.declared.answer.InputStatus.TheVariants as heard
use Rattle.group_world.specs.declared.answer.Drawn.{Drawn}
use Rattle.group_world.specs.declared.answer.Drawn.TheVariants as drawn
use Rattle.group_world.specs.declared.fault.HubFault.{HubFault}
use Rattle.group_world.specs.declared.fault.HubFault.TheVariants as hub

reads_are : (honest : Bool) (fault : SiteFault) (before now : ℕ) → site.IsReadCounted honest fault before now → IsHubReadCounted honest (fault_of fault) before now
reads_are honest (faults.Refused r) before now is = is
reads_are honest faults.Read before now is = is
reads_are honest (faults.Full need free) before now is = is
reads_are honest faults.Spent before now is = is
reads_are honest faults.Deep before now is = is
reads_are honest faults.Failed before now is = is
reads_are honest faults.Memory before now is = is

writes_are : (usable : Bool) (fault : SiteFault) (count : ℕ) → site.writes_after usable fault count ≡ writes_after usable (fault_of fault) count
writes_are true (faults.Refused r) count = refl
writes_are true faults.Read count = refl
writes_are true (faults.Full need free) count = refl
writes_are true faults.Spent count = refl
writes_are true faults.Deep count = refl
writes_are true faults.Failed count = refl
writes_are true faults.Memory count = refl
writes_are false (faults.Refused r) count = refl
writes_are false faults.Read count = refl
writes_are false (faults.Full need free) count = refl
writes_are false faults.Spent count = refl
writes_are false faults.Deep count = refl
writes_are false faults.Failed count = refl
writes_are false faults.Memory count = refl

-- a fault of a change, as it is told
pub change_fault_counts : {T : Type 0} (fault : SiteFault) (answer : HubFault) (a b : SiteState) → answer ≡ fault_of fault
    → site.IsReadCounted a.honest fault a.failed_reads b.failed_reads → b.failed_writes ≡ site.writes_after a.usable fault a.failed_writes → CountsCall {T = T} (Err answer) a b
change_fault_counts {T = T} fault answer a b told reads writes =
    subst (λ (e : HubFault). CountsCall {T = T} (Err e) a b) (sym told) (record {
      reads = reads_are a.honest fault a.failed_reads b.failed_reads reads;
      writes = writes ∙ writes_are a.usable fault a.failed_writes;
    })

-- a read of a usable site that fails counts no write
no_write : (may_lack_memory : Bool) (fault : SiteFault) (a b : SiteState) → a.usable ≡ true → IsReadFault may_lack_memory a b fault → a.failed_writes ≡ writes_after a.usable (fault_of fault) a.failed_writes
no_write may_lack_memory (faults.Refused r) a b usable is = absurd is
no_write may_lack_memory faults.Read a b usable is = refl
no_write may_lack_memory (faults.Full need free) a b usable is = absurd is
no_write may_lack_memory faults.Spent a b usable is = absurd is
no_write may_lack_memory faults.Deep a b usable is = absurd is
no_write may_lack_memory faults.Failed a b usable is = absurd (let no : true ≡ false = sym usable ∙ is in cc no)
no_write may_lack_memory faults.Memory a b usable is = refl

-- a fault of what only reads a usable site, as it is told
pub read_fault_counts : {T : Type 0} (may_lack_memory : Bool) (fault : SiteFault) (answer : HubFault) (a b : SiteState) → a.usable ≡ true → answer ≡ fault_of fault → HasRead a b → IsReadFault may_lack_memory a b fault
    → site.IsReadCounted a.honest fault a.failed_reads b.failed_reads → CountsCall {T = T} (Err answer) a b
read_fault_counts {T = T} may_lack_memory fault answer a b usable told kept is reads =
    subst (λ (e : HubFault). CountsCall {T = T} (Err e) a b) (sym told) (record {
      reads = reads_are a.honest fault a.failed_reads b.failed_reads reads;
      writes = kept.writes ∙ no_write may_lack_memory fault a b usable is;
    })

reads_since : {T : Type 0} (result : Result T HubFault) (a b c : SiteState) → b.honest ≡ a.honest → b.failed_reads ≡ a.failed_reads → HubCountsReads result b c → HubCountsReads result a c
reads_since (Ok value) a b c honest none is = is ∙ none
reads_since (Err fault) a b c honest none is = subst (λ (h : Bool). IsHubReadCounted h fault a.failed_reads c.failed_reads) honest (subst (λ (n : ℕ). IsHubReadCounted b.honest fault n c.failed_reads) none is)

writes_since : {T : Type 0} (result : Result T HubFault) (a b c : SiteState) → b.usable ≡ a.usable → b.failed_writes ≡ a.failed_writes → HubCountsWrites result b c → HubCountsWrites result a c
writes_since (Ok value) a b c usable none is = is ∙ none
writes_since (Err fault) a b c usable none is = is ∙ ap (λ (u : Bool). writes_after u fault b.failed_writes) usable ∙ ap (λ (n : ℕ). writes_after a.usable fault n) none

-- a call after reads of which none failed counts as both together
pub call_since : {T : Type 0} (result : Result T HubFault) (a b c : SiteState) → HasRead a b → b.failed_reads ≡ a.failed_reads → CountsCall result b c → CountsCall result a c
call_since result a b c kept none call = record {
  reads = reads_since result a b c kept.honest none call.reads;
  writes = writes_since result a b c kept.usable kept.writes call.writes;
}

-- a keeper that has failed counts nothing more
pub shut_counts : {T : Type 0} (a : SiteState) → a.usable ≡ false → CountsCall {T = T} (Err hub.Failed) a a
shut_counts a shut = record { reads = refl; writes = sym (ap (λ (u : Bool). writes_after u hub.Failed a.failed_writes) shut) }

once : {Once Sized None : Type 0} → Sized → Once ⊎ ((Sized → ⊥) × None) → Once
once sized (inl is) = is
once sized (inr other) = absurd (other.0 sized)

-- a fault of a draw that knows the size of its view
pub drawn_counted : (honest : Bool) (Sized : Type 0) (fault : SiteFault) (before now : ℕ) → (IsTrue honest → Sized) → views.IsViewReadCounted honest Sized fault before now → site.IsReadCounted honest fault before now
drawn_counted honest Sized (faults.Refused r) before now sized is = is
drawn_counted honest Sized faults.Read before now sized is = λ kept. once (sized kept) (is kept)
drawn_counted honest Sized (faults.Full need free) before now sized is = is
drawn_counted honest Sized faults.Spent before now sized is = is
drawn_counted honest Sized faults.Deep before now sized is = is
drawn_counted honest Sized faults.Failed before now sized is = is
drawn_counted honest Sized faults.Memory before now sized is = is

-- ---- as outcomes of events

pub heard_counts : (result : Result InputStatus HubFault) (a b : SiteState) → CountsCall result a b → CountsCall (result_of (bytes_outcome result)) a b
heard_counts (Ok heard.More) a b is = record { reads = is.reads; writes = is.writes }
heard_counts (Ok heard.Ready) a b is = record { reads = is.reads; writes = is.writes }
heard_counts (Ok heard.Waiting) a b is = record { reads = is.reads; writes = is.writes }
heard_counts (Ok heard.Finished) a b is = record { reads = is.reads; writes = is.writes }
heard_counts (Err fault) a b is = record { reads = is.reads; writes = is.writes }

pub drawn_counts : (result : Result Drawn HubFault) (out : List ℕ) (a b : SiteState) → CountsCall result a b → CountsCall (result_of (draw_outcome result out)) a b
drawn_counts (Ok (drawn.Bytes n)) out a b is = record { reads = is.reads; writes = is.writes }
drawn_counts (Ok drawn.Finished) out a b is = record { reads = is.reads; writes = is.writes }
drawn_counts (Err fault) out a b is = record { reads = is.reads; writes = is.writes }
