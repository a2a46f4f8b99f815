-- Calls that read the pairs of a keeper, one after another.
use Rattle.std.proofs.Common.{◌∙◌, ap, ℕ, List, Result, Ok, Err}
use Rattle.std.specs.Prelude.{IsTrue, IfOk, IfErr, OnOk}
use Rattle.host_types.specs.CrashStates.{CrashStates}
use Rattle.page_store.specs.StoreState.{StoreState, CommitNeed}
use Rattle.page_store.specs.declared.edit.Edit.{Edit}
use Rattle.site_store.specs.StoreReads.{StoreReadsOnly, NoneFailed}
use Rattle.site_store.specs.Reads.{ReadsStore, AlwaysReads}
use Rattle.site_store.specs.ReadLaws.{reads_later, none_later}
use Rattle.site_store.specs.declared.fault.SiteOpenFault.{SiteOpenFault}

-- what holds of a value or of a fault, and more of it
pub ok_more : {X E : Type 0} {P Q : X → Type 0} (r : Result X E) → IfOk r P → ((x : X) → P x → Q x) → IfOk r Q
ok_more (Ok x) p more = more x p
ok_more (Err e) p more = tt

err_more : {X E : Type 0} {P Q : E → Type 0} (r : Result X E) → IfErr r P → ((e : E) → P e → Q e) → IfErr r Q
err_more (Ok x) p more = tt
err_more (Err e) p more = more e p

pub on_any : {X E P : Type 0} (r : Result X E) → P → OnOk r P
on_any (Ok x) p = p
on_any (Err e) p = tt

on_more : {X E : Type 0} {P Q : Type 0} (r : Result X E) → OnOk r P → (P → Q) → OnOk r Q
on_more (Ok x) p more = more p
on_more (Err e) p more = tt

module _ {K L : Type 0} {store_state : K → StoreState} {may_need : K → List Edit → CommitNeed → Type 0} {crash_states : K → CrashStates L} where
  pub read_on : {a b c : K} → StoreReadsOnly store_state may_need crash_states a b → StoreReadsOnly store_state may_need crash_states b c → StoreReadsOnly store_state may_need crash_states a c
  read_on {a = a} {b = b} {c = c} x y = reads_later store_state may_need crash_states a b c x y

  -- a call that is done
  pub done : {T : Type 0} {a b : K} {x : T} {cause : StoreState → StoreState → SiteOpenFault → Type 0} {answer : StoreState → T → Type 0} → StoreReadsOnly store_state may_need crash_states a b → NoneFailed (store_state a) (store_state b) → (IsTrue (store_state a).honest → answer (store_state a) x)
      → ReadsStore store_state may_need crash_states a b (Ok x) cause answer
  done only none gives = record { gives = gives; only = only; none = none; fault = tt }

  -- a call that fails
  pub fails : {T : Type 0} {a b : K} {e : SiteOpenFault} {cause : StoreState → StoreState → SiteOpenFault → Type 0} {answer : StoreState → T → Type 0} → StoreReadsOnly store_state may_need crash_states a b → cause (store_state a) (store_state b) e
      → ReadsStore store_state may_need crash_states a b (Err e) cause answer
  fails only fault = record { gives = λ _. tt; only = only; none = tt; fault = fault }

  -- a call that begins with one that always reads
  pub begins : {X T : Type 0} {a b c : K} {x : X} {r : Result T SiteOpenFault} {cause first_cause : StoreState → StoreState → SiteOpenFault → Type 0} {first_answer : StoreState → X → Type 0} {answer : StoreState → T → Type 0} → AlwaysReads store_state may_need crash_states a b (Ok x) first_cause first_answer
      → ReadsStore store_state may_need crash_states a c r cause answer → AlwaysReads store_state may_need crash_states a c r cause answer
  begins first reads = record { reads = reads; closed = λ shut. let clash = first.closed shut in absurd (cc clash) }

  -- a call that fails with one that always reads
  pub begins_badly : {X T : Type 0} {a b c : K} {e : SiteOpenFault} {cause first_cause : StoreState → StoreState → SiteOpenFault → Type 0} {first_answer : StoreState → X → Type 0} {answer : StoreState → T → Type 0} → AlwaysReads store_state may_need crash_states a b (Err e) first_cause first_answer
      → ReadsStore store_state may_need crash_states a c (Err e) cause answer → AlwaysReads store_state may_need crash_states a c (Err e) cause answer
  begins_badly first reads = record { reads = reads; closed = λ shut. let same = first.closed shut in ap Err (cc same) }

  -- a call that ends with one whose answer it hands on
  pub ends : {T : Type 0} (a b c : K) (r : Result T SiteOpenFault) {cause last_cause : StoreState → StoreState → SiteOpenFault → Type 0} {last_answer answer : StoreState → T → Type 0} → StoreReadsOnly store_state may_need crash_states a b → NoneFailed (store_state a) (store_state b)
      → ReadsStore store_state may_need crash_states b c r last_cause last_answer → (IsTrue (store_state a).honest → (x : T) → last_answer (store_state b) x → answer (store_state a) x) → ((e : SiteOpenFault) → last_cause (store_state b) (store_state c) e → cause (store_state a) (store_state c) e)
      → ReadsStore store_state may_need crash_states a c r cause answer
  ends a b c r only none last answers causes = record {
    gives = λ honest. ok_more r (last.gives (only.read.honest ∙ honest)) (answers honest);
    only = read_on only last.only;
    none = on_more r last.none (λ after. none_later (store_state a) (store_state b) (store_state c) none after);
    fault = err_more r last.fault causes;
  }

  -- the answer of a call as another's
  pub hands_on : {T : Type 0} (a b : K) (r : Result T SiteOpenFault) {cause last_cause : StoreState → StoreState → SiteOpenFault → Type 0} {last_answer answer : StoreState → T → Type 0} → ReadsStore store_state may_need crash_states a b r last_cause last_answer
      → (IsTrue (store_state a).honest → (x : T) → last_answer (store_state a) x → answer (store_state a) x) → ((e : SiteOpenFault) → last_cause (store_state a) (store_state b) e → cause (store_state a) (store_state b) e)
      → ReadsStore store_state may_need crash_states a b r cause answer
  hands_on a b r last answers causes = record { gives = λ honest. ok_more r (last.gives honest) (answers honest); only = last.only; none = last.none; fault = err_more r last.fault causes }
