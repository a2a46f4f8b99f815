-- What is done in a turn of a request, put together.
use Rattle.std.proofs.Common.{◌≡◌, ◌⊎◌, Ok, Err, length-drop, ℕ, ◌+◌, ◌-◌, ◌≤◌, ◌<◌, Bool, true, false, List, [], ◌∷◌, ◌++◌, length, take, drop, refl, sym, ap, subst, ◌∙◌, arith, append_assoc}
use Rattle.std.specs.Prelude.{◌==◌, nat_lt, Option, Some, None, Result, IfOk, IsUtf8}
use Rattle.std.proofs.lemmas.Bool.{eqb-true, lt-ltb, le-ltb}
use Rattle.change_file.specs.Changes.{read}
use Rattle.std.proofs.lemmas.List.{append-nil, take-append-drop, length-take-le, take_all}
use Rattle.group_world.specs.declared.event.Event.{Event}
use Rattle.group_world.specs.declared.event.Outcome.{Outcome}
use Rattle.change_file.specs.declared.fault.ApplyFault.{ApplyFault}
use Rattle.turns.specs.Turns.{Trace, trace}
use Rattle.turns.specs.declared.wire.WireFault.{WireFault}
use Rattle.turns.specs.WireCalls.{WireCall, HasMade, Read, ReadFailed, ReadWaited, Wrote, WriteFailed, WriteWaited, Closed}
use Rattle.host_types.specs.declared.change.Change.{Change as SiteChange}
use Rattle.change_file.specs.declared.fault.ChangeFileFault.{ChangeFileFault}
use Rattle.change_file.specs.declared.fault.FileChange.{FileChange}
use Rattle.change_file.specs.declared.fault.FileChange.TheVariants.{Change}
use Rattle.group_world.specs.Outcomes.{admin_outcome}
use Rattle.group_world.specs.declared.event.Event.TheVariants.{Admin}
use Rattle.group_world.specs.declared.fault.HubFault.{HubFault}
use Rattle.admin_lines.specs.Faults.{request_line}
use Rattle.admin_lines.specs.Heads.{head_in}
use Rattle.admin_lines.specs.Holds.{is_hold, held_line, held_text}
use Rattle.admin_lines.specs.declared.fault.RequestFault.TheVariants.{Late}
use Rattle.daily_turns.specs.Tries.{write_try}
use Rattle.admin_lines.specs.declared.head.RequestHead.{RequestHead}
use Rattle.admin_lines.specs.declared.fault.RequestFault.{RequestFault}
use Rattle.admin_office.specs.Lines.{no_memory, not_made, site_fault}
use Rattle.admin_office.specs.Requests.{Goes, HoldsOnce, told, untold, TellsHeld, WaitsOnce, came, late, lost, Agrees, IsHeardSoFar, HasHeardIf, HasHeardBy, HasHeardFile, IsRead, IsTaken, Refuses, TakesPiece, ReadsOnce, hears, fails, waits, WritesOnce, closes, sends, takes_none, breaks, stays, MakesNext, TakesStep, ByWire}
use Rattle.admin_office.specs.Tasks.{Task, Hearing, Holding, Making, Telling, Over}
use Rattle.admin_office.specs.Offices.{IsNewRequest, Receives}
use Rattle.admin_office.specs.declared.gate_log.Arrival.{Arrival}
use Rattle.admin_office.specs.declared.gate_log.Arrival.TheVariants.{Came}
use Rattle.admin_office.specs.declared.office.AdminOffice.{AdminOffice}
use Rattle.admin_office.specs.declared.request.Request.{Request}

-- ---- reads

pub heard_one : (heard piece : List ℕ) (old new : List WireCall) (after : Task) → length piece ≤ 2048 → new ≡ old ++ Read 2048 piece ∷ [] → TakesPiece heard piece after → HasMade old new (λ made. ReadsOnce heard made after false)
heard_one heard piece old new after room called h = (Read 2048 piece ∷ [], called, hears piece after room h)

pub heard_none : (heard : List ℕ) (old new : List WireCall) → new ≡ old ++ ReadWaited 2048 ∷ [] → HasMade old new (λ made. ReadsOnce heard made (Hearing heard) true)
heard_none heard old new called = (ReadWaited 2048 ∷ [], called, waits)

pub heard_badly : (heard : List ℕ) (old mid new : List WireCall) → mid ≡ old ++ ReadFailed 2048 ∷ [] → new ≡ mid ++ Closed ∷ [] → HasMade old new (λ made. ReadsOnce heard made Over false)
heard_badly heard old mid new called closed = (ReadFailed 2048 ∷ Closed ∷ [], closed ∙ ap (λ l. l ++ Closed ∷ []) called ∙ append_assoc old (ReadFailed 2048 ∷ []) (Closed ∷ []), fails)

-- ---- writes

pub told_all : (unsent : List ℕ) (old new : List WireCall) → unsent ≡ [] → new ≡ old ++ Closed ∷ [] → HasMade old new (λ made. WritesOnce unsent made Over false)
told_all unsent old new none closed = (Closed ∷ [], closed, subst (λ u. WritesOnce u (Closed ∷ []) Over false) (sym none) closes)

pub told_some : (unsent : List ℕ) (count : ℕ) (rest : List ℕ) (old new : List WireCall) → (count ≡ 0 → ⊥) → count ≤ length unsent → rest ≡ drop count unsent → new ≡ old ++ Wrote unsent count ∷ [] → HasMade old new (λ made. WritesOnce unsent made (Telling rest) false)
told_some unsent count rest old new some within is called = (
  Wrote unsent count ∷ [],
  called,
  subst (λ n. WritesOnce unsent (Wrote unsent n ∷ []) (Telling rest) false) (length-take-le count unsent within)
      (sends unsent (take count unsent) rest (λ none. some (sym (length-take-le count unsent within) ∙ ap length none)) (sym (take-append-drop count unsent) ∙ ap (λ l. take count unsent ++ l) (sym is))),
)

pub told_later : (unsent : List ℕ) (old new : List WireCall) → (unsent ≡ [] → ⊥) → new ≡ old ++ WriteWaited unsent ∷ [] → HasMade old new (λ made. WritesOnce unsent made (Telling unsent) true)
told_later unsent old new some called = (WriteWaited unsent ∷ [], called, stays unsent some)

pub told_none : (unsent : List ℕ) (old mid new : List WireCall) → (unsent ≡ [] → ⊥) → mid ≡ old ++ Wrote unsent 0 ∷ [] → new ≡ mid ++ Closed ∷ [] → HasMade old new (λ made. WritesOnce unsent made Over false)
told_none unsent old mid new some called closed = (Wrote unsent 0 ∷ Closed ∷ [], closed ∙ ap (λ l. l ++ Closed ∷ []) called ∙ append_assoc old (Wrote unsent 0 ∷ []) (Closed ∷ []), takes_none unsent some)

pub told_badly : (unsent : List ℕ) (old mid new : List WireCall) → (unsent ≡ [] → ⊥) → mid ≡ old ++ WriteFailed unsent ∷ [] → new ≡ mid ++ Closed ∷ [] → HasMade old new (λ made. WritesOnce unsent made Over false)
told_badly unsent old mid new some called closed = (WriteFailed unsent ∷ Closed ∷ [], closed ∙ ap (λ l. l ++ Closed ∷ []) called ∙ append_assoc old (WriteFailed unsent ∷ []) (Closed ∷ []), breaks unsent some)

abbrev ok_of : {E : Type 0} → Option ℕ → Result (Option ℕ) E
ok_of field = Ok field

pub no_write_is : {E : Type 0} (result : Result (Option ℕ) E) (field : Option ℕ) (bytes : List ℕ) → result ≡ Ok field → field ≡ None → write_try result bytes ≡ WriteWaited bytes
no_write_is {E = E} result field bytes is which = ap (λ r. write_try r bytes) is ∙ ap (λ f. write_try (ok_of {E = E} f) bytes) which

-- ---- an office that holds still

pub waited_well : (piece : List ℕ) (old new : List WireCall) (after : Task) → length piece ≤ 2048 → new ≡ old ++ Read 2048 piece ∷ [] → Agrees held_text after → HasMade old new (λ made. WaitsOnce made after)
waited_well piece old new after room called agrees = (Read 2048 piece ∷ [], called, came piece after room agrees)

pub waited_in_vain : (old new : List WireCall) (after : Task) → new ≡ old ++ ReadWaited 2048 ∷ [] → Refuses (request_line Late) after → HasMade old new (λ made. WaitsOnce made after)
waited_in_vain old new after called refuses = (ReadWaited 2048 ∷ [], called, late after refuses)

pub waited_badly : (old mid new : List WireCall) → mid ≡ old ++ ReadFailed 2048 ∷ [] → new ≡ mid ++ Closed ∷ [] → HasMade old new (λ made. WaitsOnce made Over)
waited_badly old mid new called closed = (ReadFailed 2048 ∷ Closed ∷ [], closed ∙ ap (λ l. l ++ Closed ∷ []) called ∙ append_assoc old (ReadFailed 2048 ∷ []) (Closed ∷ []), lost)

pub held_still : (old mid new : List WireCall) (after : Task) → mid ≡ old ++ Wrote held_line (length held_line) ∷ [] → HasMade mid new (λ made. WaitsOnce made after) → HasMade old new (λ made. HoldsOnce made after)
held_still old mid new after wrote waited = (
  Wrote held_line (length held_line) ∷ waited.0,
  waited.1 ∙ ap (λ l. l ++ waited.0) wrote ∙ append_assoc old (Wrote held_line (length held_line) ∷ []) waited.0,
  told waited.0 after waited.2,
)

pub not_held : (old mid new : List WireCall) → TellsHeld old mid false → new ≡ mid ++ Closed ∷ [] → HasMade old new (λ made. HoldsOnce made Over)
not_held old mid new told_is closed = (
  write_try told_is.0 held_line ∷ Closed ∷ [],
  closed ∙ ap (λ l. l ++ Closed ∷ []) told_is.2 ∙ append_assoc old (write_try told_is.0 held_line ∷ []) (Closed ∷ []),
  untold told_is.0 told_is.1,
)

-- so much of it was taken
pub held_by : (whole : Bool) (count : ℕ) (old new : List WireCall) → whole ≡ (count == length held_line) → new ≡ old ++ Wrote held_line count ∷ [] → TellsHeld old new whole
held_by true count old new is wrote = wrote ∙ ap (λ n. old ++ Wrote held_line n ∷ []) (eqb-true count (length held_line) (sym is))
held_by false count old new is wrote = (Ok (Some count), (λ same. other (cc same)), wrote)
  where
    other : count ≡ length held_line → ⊥
    other same = absurd (cc (is ∙ ap (λ n. n == length held_line) same))

pub held_once : (old new : List WireCall) (after : Task) → HasMade old new (λ made. HoldsOnce made after) → HasMade old new (λ made. HoldsOnce made after × (false ≡ false))
held_once old new after made = (made.0, made.1, (made.2, refl))

-- ---- what a request does

pub acts_by_wire : (text : ApplyFault → List ℕ) (task : Task) (Does : List WireCall → Task → Bool → Type 0) (old new : List WireCall) (after : Task) (rests : Bool) → ((t : Trace) → ByWire Does t after rests → TakesStep text task t after rests) → HasMade old new (λ made. Does made after rests) → HasMade old new (λ made. TakesStep text task (trace made [] []) after rests)
acts_by_wire text task Does old new after rests is made = (made.0, made.1, is (trace made.0 [] []) (made.0, refl, made.2))

-- by events alone no call is made
pub no_calls : (text : ApplyFault → List ℕ) (task after : Task) (rests : Bool) (calls : List WireCall) (es : List Event) (os : List Outcome) → TakesStep text task (trace [] es os) after rests → HasMade calls calls (λ made. TakesStep text task (trace made es os) after rests)
no_calls text task after rests calls es os acts = ([], sym (append-nil calls), acts)

-- ---- changes

pub made_well : {X : Type 0} (text : ApplyFault → List ℕ) (change : SiteChange) (left : List FileChange) (count now : ℕ) (result : Result X HubFault) (x : X) (after : Task) → result ≡ Ok x → after ≡ Making left count →
    MakesNext text (Change change ∷ left) count (trace [] (Admin change now ∷ []) (admin_outcome result ∷ [])) after
made_well text change left count now result x after is goes = (now, admin_outcome result, refl, subst (λ r. Goes text (admin_outcome r) left count after) (sym is) goes)

pub made_badly : {X : Type 0} (text : ApplyFault → List ℕ) (change : SiteChange) (left : List FileChange) (count now : ℕ) (result : Result X HubFault) (fault : HubFault) (after : Task) → result ≡ Err fault → Refuses (text (not_made (count - length left) (site_fault fault))) after →
    MakesNext text (Change change ∷ left) count (trace [] (Admin change now ∷ []) (admin_outcome result ∷ [])) after
made_badly text change left count now result fault after is refuses = (now, admin_outcome result, refl, subst (λ r. Goes text (admin_outcome r) left count after) (sym is) refuses)

-- there is no front of what has none
pub none_left : {A : Type 0} (old new : List A) → old ≡ new → new ≡ drop 1 old → old ≡ []
none_left [] new same rest = refl
none_left (x ∷ xs) new same rest = absurd (omega (arith, ap length (same ∙ rest)))

pub makes_as : (text : ApplyFault → List ℕ) (left other : List FileChange) (count : ℕ) (t : Trace) (after : Task) → left ≡ other → MakesNext text other count t after → MakesNext text left count t after
makes_as text left other count t after same makes = subst (λ l. MakesNext text l count t after) (sym same) makes

-- ---- what was heard

-- all that is left behind a place
rest_of : (n : ℕ) (xs : List ℕ) → take (length xs - n) (drop n xs) ≡ drop n xs
rest_of n xs = take_all (length xs - n) (drop n xs) (omega (arith, length-drop n xs))

pub heard_part : (heard seen : List ℕ) (head : RequestHead) (after : Task) → seen ≡ heard → head.start ≤ length heard → length (take (length seen - head.start) (drop head.start seen)) < head.count → after ≡ Hearing heard →
    HasHeardFile (nat_lt (length heard) (head.start + head.count)) head heard after
heard_part heard seen head after same within few is =
    let left : length (drop head.start heard) < head.count = subst (λ l. length l < head.count) (rest_of head.start heard) (subst (λ l. length (take (length l - head.start) (drop head.start l)) < head.count) same few) in
    subst (λ b. HasHeardFile b head heard after) (sym (lt-ltb (length heard) (head.start + head.count) (omega (arith, length-drop head.start heard, within, left)))) is

pub heard_whole : (heard seen : List ℕ) (head : RequestHead) (after : Task) → seen ≡ heard → head.start ≤ length heard → head.count ≤ length (take (length seen - head.start) (drop head.start seen)) → IsRead (take head.count (take (length seen - head.start) (drop head.start seen))) after →
    HasHeardFile (nat_lt (length heard) (head.start + head.count)) head heard after
heard_whole heard seen head after same within all read =
    let left : head.count ≤ length (drop head.start heard) = subst (λ l. head.count ≤ length l) (rest_of head.start heard) (subst (λ l. head.count ≤ length (take (length l - head.start) (drop head.start l))) same all) in
    let file : IsRead (take head.count (drop head.start heard)) after = subst (λ l. IsRead (take head.count l) after) (rest_of head.start heard) (subst (λ l. IsRead (take head.count (take (length l - head.start) (drop head.start l))) after) same read) in
    subst (λ b. HasHeardFile b head heard after) (sym (le-ltb (length heard) (head.start + head.count) (omega (arith, length-drop head.start heard, within, left)))) file

-- it is asked that the office holds still
pub hold_heard : (heard seen : List ℕ) (asks : Bool) → seen ≡ heard → asks ≡ is_hold seen → asks ≡ true → IsHeardSoFar heard Holding
hold_heard heard seen asks same is true_is = subst (λ b. HasHeardIf b heard Holding) (sym true_is ∙ is ∙ ap is_hold same) refl

pub no_hold : (heard seen : List ℕ) (asks : Bool) → seen ≡ heard → asks ≡ is_hold seen → asks ≡ false → is_hold heard ≡ false
no_hold heard seen asks same is false_is = ap is_hold (sym same) ∙ sym is ∙ false_is

pub heard_by : (heard : List ℕ) (given result : Result (Option RequestHead) RequestFault) (after : Task) → is_hold heard ≡ false → given ≡ head_in heard → given ≡ result → HasHeardBy result heard after → IsHeardSoFar heard after
heard_by heard given result after other is which has = subst (λ b. HasHeardIf b heard after) (sym other) (subst (λ r. HasHeardBy r heard after) (sym which ∙ is) has)

-- there are no bytes
pub all_gone : (bytes : List ℕ) (none : Bool) → none ≡ (length bytes == 0) → none ≡ true → bytes ≡ []
all_gone [] none is given = refl
all_gone (b ∷ bytes) none is given = absurd (omega (arith, eqb-true (length (b ∷ bytes)) 0 (sym is ∙ given)))

pub hears_end : (heard piece : List ℕ) (after : Task) → piece ≡ [] → TakesPiece heard [] after → TakesPiece heard piece after
hears_end heard piece after is ends = subst (λ p. TakesPiece heard p after) (sym is) ends

pub hears_more : (heard piece : List ℕ) (after : Task) → (piece ≡ [] → ⊥) → IsHeardSoFar (heard ++ piece) after ⊎ (after ≡ Telling no_memory) → TakesPiece heard piece after
hears_more heard [] after some has = absurd (some refl)
hears_more heard (b ∷ bytes) after some has = has

-- a file that was read
pub read_well : (bytes : List ℕ) (changes : List FileChange) (after : Task) → IfOk {E = ChangeFileFault} (Ok changes) (λ cs. IsUtf8 bytes × (read bytes ≡ Some (Ok cs))) → IsTaken (Ok changes) after → IsRead bytes after
read_well bytes changes after says taken = (Ok changes, record { ok = says; table = λ k e. absurd (cc e); toml = λ e. absurd (cc e) }, taken)

-- ---- who comes

pub received : {W G T : Type 0} (calls : W → List WireCall) (answers : G → List Arrival) (knocks : Bool) (now : ℕ) (gate : G) (new : AdminOffice G W T) (request : Request W) → knocks ≡ true → answers new.gate ≡ answers gate ++ Came ∷ [] → IsNewRequest calls now request →
    new.request ≡ Some request → new.knocks ≡ true → Receives calls answers knocks now gate new
received calls answers knocks now gate new request knocked answered fresh is_in still = subst (λ b. Receives calls answers b now gate new) (sym knocked) (Came, answered, (request, fresh, is_in, still))
