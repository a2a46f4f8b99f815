-- Scripts that go on.
use Rattle.std.proofs.Common.{◌≡◌, ◌≢◌, ℕ, ◌+◌, ◌-◌, ◌^◌, ◌<◌, min, List, [], ◌∷◌, ◌++◌, Option, Some, None, refl, true, false, length, take, drop, get_or, arith, eqb-true, ◌||◌, ◌==◌, ap, sym, ◌∙◌, subst, inl, inr}
use Rattle.std.specs.Prelude.{Result, Ok, Err, IfOk, IfErr, IsErrAnd, OnOk, OnErr, IfSome}
use Rattle.std.specs.List.{list_any}
use Rattle.std.proofs.lemmas.Bool.{true≢false}
use Rattle.std.proofs.lemmas.List.Folds.{list_any-append}
use Rattle.std.specs.Io.KnownBytes.{Appends, Consumes, Keeps, IsAtEnd}
use Rattle.std.proofs.lemmas.Grind.{flat_map-append}
use Rattle.std.proofs.lemmas.List.{append_assoc, append-nil, take-append-drop, drop_more}
use Rattle.std.proofs.lemmas.List.Elements.{All-nil, All-append, All-push}
use Rattle.group_world.specs.declared.event.Event.{Event as HubEvent}
use Rattle.group_world.specs.declared.event.Outcome.{Outcome}
use Rattle.host_script.specs.Lines.{Ran, RanBy, RanSo, LinePlace, start, number_after, RunsLines, IsCutLine, RunsLine, RunsTo, IsRunTo, IsReplayed, IsLastRun, TakesFront, StopsIn, StopsAtEnd, LineComesIn, IsScriptStopped, IsHalted, Halts, ended, is_lf, last_line}
use Rattle.host_script.specs.declared.fault.ReplayFault.{ReplayFault}
use Rattle.host_script.specs.declared.fault.ReplayFault.TheVariants.{Script, Memory, Output}

pub some_item : (b : ℕ) (bs : List ℕ) → b ∷ bs ≢ []
some_item b bs e = absurd (cc e)

-- what a writer was given, and then more
pub appends_more : (a b c : Option (List ℕ)) (xs ys : List ℕ) → Appends a b xs → Appends b c ys → Appends a c (xs ++ ys)
appends_more None b c xs ys p q = tt
appends_more (Some known) (Some bs) (Some cs) xs ys p q = q ∙ ap (λ l. l ++ ys) p ∙ append_assoc known xs ys
appends_more (Some known) (Some bs) None xs ys p q = absurd q
appends_more (Some known) None c xs ys p q = absurd p

pub appends_none : (a : Option (List ℕ)) → Appends a a []
appends_none None = tt
appends_none (Some known) = sym (append-nil known)

pub keeps_same : (a : Option (List ℕ)) → Keeps a a
keeps_same None = tt
keeps_same (Some known) = refl

pub consumes_none : (a : Option (List ℕ)) → Consumes a a []
consumes_none None = tt
consumes_none (Some known) = refl

-- what a reader has given, and then more
pub consumes_more : (a b c : Option (List ℕ)) (xs ys : List ℕ) → Consumes a b xs → Consumes b c ys → Consumes a c (xs ++ ys)
consumes_more None b c xs ys p q = tt
consumes_more (Some known) (Some bs) (Some cs) xs ys p q = p ∙ ap (λ l. xs ++ l) q ∙ sym (append_assoc xs ys cs)
consumes_more (Some known) (Some bs) None xs ys p q = absurd q
consumes_more (Some known) None c xs ys p q = absurd p

pub lines_more : (now then after : ℕ) (lines others printed fault_text : List (List ℕ)) (e f : List HubEvent) (o p : List Outcome) →
    RunsLines now then lines printed e o → RunsLines then after others fault_text f p → RunsLines now after (lines ++ others) (printed ++ fault_text) (e ++ f) (o ++ p)
lines_more now then after [] others [] fault_text e f o p first second =
    subst (λ t. RunsLines t after others fault_text (e ++ f) (o ++ p)) first.0
    (subst (λ l. RunsLines then after others fault_text (l ++ f) (o ++ p)) (sym first.1) (subst (λ l. RunsLines then after others fault_text f (l ++ p)) (sym first.2) second))
lines_more now then after (l ∷ ls) others (t ∷ ts) fault_text e f o p first second = record {
  moment = first.moment;
  first_events = first.first_events;
  first_outcomes = first.first_outcomes;
  later_events = first.later_events ++ f;
  later_outcomes = first.later_outcomes ++ p;
  first = first.first;
  others = lines_more first.moment then after ls others ts fault_text first.later_events f first.later_outcomes p first.others second;
  events_are = ap (λ (x : List HubEvent). x ++ f) first.events_are ∙ append_assoc first.first_events first.later_events f;
  outcomes_are = ap (λ (x : List Outcome). x ++ p) first.outcomes_are ∙ append_assoc first.first_outcomes first.later_outcomes p;
}
lines_more now then after [] others (t ∷ ts) fault_text e f o p first second = absurd first
lines_more now then after (l ∷ ls) others [] fault_text e f o p first second = absurd first

-- numbers go on
number_more : (n : ℕ) (xs ys : List (List ℕ)) → number_after n (xs ++ ys) ≡ number_after (number_after n xs) ys
number_more n [] ys = refl
number_more n (x ∷ xs) ys = number_more (min (n + 1) (2 ^ 64 - 1)) xs ys

-- a line alone
lines_one : (now after : ℕ) (line printed : List ℕ) (e : List HubEvent) (o : List Outcome) → RunsLine now after line printed e o → RunsLines now after (line ∷ []) (printed ∷ []) e o
lines_one now after line printed e o run = record {
  moment = after;
  first_events = e;
  first_outcomes = o;
  later_events = [];
  later_outcomes = [];
  first = run;
  others = (refl, refl, refl);
  events_are = sym (append-nil e);
  outcomes_are = sym (append-nil o);
}

pub ended-append : (xs ys : List (List ℕ)) → ended (xs ++ ys) ≡ ended xs ++ ended ys
ended-append xs ys = flat_map-append (λ line. line ++ 10 ∷ []) xs ys

pub cut_more : (text rest piece next : List ℕ) (lines others : List (List ℕ)) → IsCutLine text lines rest → IsCutLine (rest ++ piece) others next → IsCutLine (text ++ piece) (lines ++ others) next
cut_more text rest piece next lines others p q = record {
  whole = ap (λ l. l ++ piece) p.whole ∙ append_assoc (ended lines) rest piece ∙ ap (λ l. ended lines ++ l) q.whole ∙ sym (append_assoc (ended lines) (ended others) next) ∙ ap (λ l. l ++ next) (sym (ended-append lines others));
  lines_plain = All-append (λ line. list_any is_lf line ≡ false) lines others p.lines_plain q.lines_plain;
  rest_plain = q.rest_plain;
}

-- a text and more of it
runs_more : (now then after : LinePlace) (a b c : Option (List ℕ)) (text rest piece next : List ℕ) (e f : List HubEvent) (o p : List Outcome) →
    RunsTo now then a b text rest e o → RunsTo then after b c (rest ++ piece) next f p → RunsTo now after a c (text ++ piece) next (e ++ f) (o ++ p)
runs_more now then after a b c text rest piece next e f o p first second = record {
  lines = first.lines ++ second.lines;
  printed = first.printed ++ second.printed;
  cut = cut_more text rest piece next first.lines second.lines first.cut second.cut;
  run = lines_more now.moment then.moment after.moment first.lines second.lines first.printed second.printed e f o p first.run second.run;
  number = second.number ∙ ap (λ n. number_after n second.lines) first.number ∙ sym (number_more now.number first.lines second.lines);
  written = subst (λ l. Appends a c l) (sym (ended-append first.printed second.printed)) (appends_more a b c _ _ first.written second.written);
}

comes_more : (fault : ReplayFault) (left more : List ℕ) → LineComesIn fault left → LineComesIn fault (left ++ more)
comes_more (Script n) left more p = (p.0 ++ more, ap (λ l. l ++ more) p.1)
comes_more Output left more p = (p.0 ++ more, ap (λ l. l ++ more) p.1)
comes_more Memory [] more p = absurd (p refl)
comes_more Memory (b ∷ bs) more p = some_item b (bs ++ more)

-- a piece of which a front was run ends at a line
stopped : (fault : ReplayFault) (now then : LinePlace) (a b c : Option (List ℕ)) (before front rest left more piece : List ℕ) (e f : List HubEvent) (o p : List Outcome) → piece ≡ front ++ (left ++ more) →
    RunsTo now then a b (before ++ front) rest e o → StopsIn b c then rest left fault f p → IsScriptStopped fault now a c before piece (e ++ f) (o ++ p)
stopped fault now then a b c before front rest left more piece e f o p is run stop = record {
  front = front;
  left = left ++ more;
  is = is;
  to = then;
  line = rest;
  between = b;
  first_events = e;
  first_outcomes = o;
  later_events = f;
  later_outcomes = p;
  run = run;
  later = (stop.0, comes_more fault left more stop.1);
  events_are = refl;
  outcomes_are = refl;
}

-- so does a script that ends within a piece
halted_in : (fault : ReplayFault) (then : LinePlace) (a b c unread : Option (List ℕ)) (text rest piece more script : List ℕ) (e f : List HubEvent) (o p : List Outcome) → script ≡ text ++ (piece ++ more) →
    RunsTo start then a b text rest e o → IsScriptStopped fault then b c rest piece f p → IsHalted fault a c unread script (e ++ f) (o ++ p)
halted_in fault then a b c unread text rest piece more script e f o p is run q = record {
  front = text ++ q.front;
  left = q.left ++ more;
  is = is ∙ ap (λ l. text ++ l) (ap (λ l. l ++ more) q.is ∙ append_assoc q.front q.left more) ∙ sym (append_assoc text q.front (q.left ++ more));
  to = q.to;
  line = q.line;
  between = q.between;
  first_events = e ++ q.first_events;
  first_outcomes = o ++ q.first_outcomes;
  later_events = q.later_events;
  later_outcomes = q.later_outcomes;
  run = runs_more start then q.to a b q.between text rest q.front q.line e q.first_events o q.first_outcomes run q.run;
  later = inl (q.later.0, comes_more fault q.left more q.later.1);
  events_are = ap (λ (x : List HubEvent). e ++ x) q.events_are ∙ sym (append_assoc e q.first_events q.later_events);
  outcomes_are = ap (λ (x : List Outcome). o ++ x) q.outcomes_are ∙ sym (append_assoc o q.first_outcomes q.later_outcomes);
}

-- and one that ends at its last line, which lacks its LF
halted_last : (fault : ReplayFault) (then : LinePlace) (a b c unread : Option (List ℕ)) (text rest script : List ℕ) (e f : List HubEvent) (o p : List Outcome) → script ≡ text →
    RunsTo start then a b text rest e o → StopsAtEnd b c then rest fault f p → IsHalted fault a c unread script (e ++ f) (o ++ p)
halted_last fault then a b c unread text rest script e f o p is run stop = record {
  front = text;
  left = [];
  is = is ∙ sym (append-nil text);
  to = then;
  line = rest;
  between = b;
  first_events = e;
  first_outcomes = o;
  later_events = f;
  later_outcomes = p;
  run = run;
  later = inr (inl (refl, stop));
  events_are = refl;
  outcomes_are = refl;
}

-- and one of which no more could be read
cut_off : (then : LinePlace) (a b : Option (List ℕ)) (text rest left script : List ℕ) (e : List HubEvent) (o : List Outcome) → script ≡ text ++ left →
    RunsTo start then a b text rest e o → IsHalted (Script then.number) a b (Some left) script e o
cut_off then a b text rest left script e o is run = record {
  front = text;
  left = left;
  is = is;
  to = then;
  line = rest;
  between = b;
  first_events = e;
  first_outcomes = o;
  later_events = [];
  later_outcomes = [];
  run = run;
  later = inr (inr (record { fault_is = refl; events_are = refl; outcomes_are = refl; kept = refl; unread_is = refl }));
  events_are = sym (append-nil e);
  outcomes_are = sym (append-nil o);
}

-- A reader has given a text, and that was run as far as its last LF.
pub record IsReadTo {H : Type 0} (ran : Ran H) (old new : H) (after : LinePlace) (a b : Option (List ℕ)) (from left : Option (List ℕ)) (rest : List ℕ) : Type 0 where
  pub text : List ℕ
  pub consumed : Consumes from left text
  pub run : IsRunTo ran old new start after a b text rest

-- events of which something is known are some events
pub so_by : {H : Type 0} (ran : Ran H) (old new : H) (P : List HubEvent → List Outcome → Type 0) → RanBy ran old new P → RanSo ran old new
so_by ran old new P p = (p.0, p.1, p.3)

-- of hubs that events lead from one to another
module _ {H : Type 0} (ran : Ran H) (none : (w : H) → ran w [] [] w) (join : (a b c : H) (e f : List HubEvent) (o p : List Outcome) → ran a e o b → ran b f p c → ran a (e ++ f) (o ++ p) c) where
  by_more : (old mid new : H) (P Q R : List HubEvent → List Outcome → Type 0) → ((e f : List HubEvent) (o p : List Outcome) → P e o → Q f p → R (e ++ f) (o ++ p)) → RanBy ran old mid P → RanBy ran mid new Q → RanBy ran old new R
  by_more old mid new P Q R both p q = (p.0 ++ q.0, p.1 ++ q.1, both p.0 q.0 p.1 q.1 p.2 q.2, join old mid new p.0 q.0 p.1 q.1 p.3 q.3)

  pub run_more : (old mid new : H) (now then after : LinePlace) (a b c : Option (List ℕ)) (text rest piece next : List ℕ) →
      IsRunTo ran old mid now then a b text rest → IsRunTo ran mid new then after b c (rest ++ piece) next → IsRunTo ran old new now after a c (text ++ piece) next
  run_more old mid new now then after a b c text rest piece next p q = by_more old mid new (RunsTo now then a b text rest) (RunsTo then after b c (rest ++ piece) next) (RunsTo now after a c (text ++ piece) next) (runs_more now then after a b c text rest piece next) p q

  pub so_none : (w : H) → RanSo ran w w
  so_none w = ([], [], none w)

  pub by_none : (w : H) (P : List HubEvent → List Outcome → Type 0) → P [] [] → RanBy ran w w P
  by_none w P p = ([], [], p, none w)

  pub so_on : (old mid new : H) → RanSo ran old mid → RanSo ran mid new → RanSo ran old new
  so_on old mid new p q = (p.0 ++ q.0, p.1 ++ q.1, join old mid new p.0 q.0 p.1 q.1 p.2 q.2)

  -- nothing of a text was run yet
  pub run_none : (w : H) (now : LinePlace) (a : Option (List ℕ)) (rest : List ℕ) → list_any is_lf rest ≡ false → IsRunTo ran w w now now a a rest rest
  run_none w now a rest plain = (
    [],
    [],
    record {
      lines = [];
      printed = [];
      cut = record { whole = refl; lines_plain = All-nil (λ line. list_any is_lf line ≡ false); rest_plain = plain };
      run = (refl, refl, refl);
      number = refl;
      written = appends_none a;
    },
    none w,
  )

  -- a line that its LF ends
  pub run_one : (old new : H) (now after : LinePlace) (a b : Option (List ℕ)) (line printed : List ℕ) (e : List HubEvent) (o : List Outcome) → list_any is_lf line ≡ false → after.number ≡ min (now.number + 1) (2 ^ 64 - 1) →
      RunsLine now.moment after.moment line printed e o → ran old e o new → Appends a b (printed ++ 10 ∷ []) → IsRunTo ran old new now after a b (line ++ 10 ∷ []) []
  run_one old new now after a b line printed e o plain number run calls written = (
    e,
    o,
    record {
      lines = line ∷ [];
      printed = printed ∷ [];
      cut = record { whole = sym (append-nil (ended (line ∷ [])) ∙ append-nil (line ++ 10 ∷ [])); lines_plain = All-push (λ l. list_any is_lf l ≡ false) [] line (All-nil (λ l. list_any is_lf l ≡ false)) plain; rest_plain = refl };
      run = lines_one now.moment after.moment line printed e o run;
      number = number;
      written = subst (λ l. Appends a b l) (sym (append-nil (printed ++ 10 ∷ []))) written;
    },
    calls,
  )

  -- nothing stands behind the last LF
  pub last_none : (w : H) (now : ℕ) (a : Option (List ℕ)) (rest : List ℕ) → (length rest == 0) ≡ true → IsLastRun ran w w now a a rest
  last_none w now a [] is_none = record { after = now; printed = []; events = []; outcomes = []; run = (refl, refl, refl); calls = none w; written = appends_none a }
  last_none w now a (b ∷ bs) is_none = absurd (omega (arith, eqb-true (length (b ∷ bs)) 0 is_none))

  -- a line stands there
  pub last_one : (old new : H) (now after : ℕ) (a b : Option (List ℕ)) (rest printed : List ℕ) (e : List HubEvent) (o : List Outcome) → (length rest == 0) ≡ false →
      RunsLine now after rest printed e o → ran old e o new → Appends a b (printed ++ 10 ∷ []) → IsLastRun ran old new now a b rest
  last_one old new now after a b [] printed e o some run calls written = absurd (true≢false some)
  last_one old new now after a b (x ∷ xs) printed e o some run calls written = record {
    after = after;
    printed = printed ∷ [];
    events = e;
    outcomes = o;
    run = lines_one now after (x ∷ xs) printed e o run;
    calls = calls;
    written = subst (λ l. Appends a b l) (sym (append-nil (printed ++ 10 ∷ []))) written;
  }

  pub read_more : (old mid new : H) (then after : LinePlace) (a b c from left later : Option (List ℕ)) (piece rest next : List ℕ) →
      IsReadTo ran old mid then a b from left rest → Consumes left later piece → IsRunTo ran mid new then after b c (rest ++ piece) next → IsReadTo ran old new after a c from later next
  read_more old mid new then after a b c from left later piece rest next p consumed run = record {
    text = p.text ++ piece;
    consumed = consumes_more from left later p.text piece p.consumed consumed;
    run = run_more old mid new start then after a b c p.text rest piece next p.run run;
  }

  pub read_none : (w : H) (a from : Option (List ℕ)) → IsReadTo ran w w start a a from from []
  read_none w a from = record { text = []; consumed = consumes_none from; run = run_none w start a [] refl }

  -- the script ends
  replayed : (old mid new : H) (then : LinePlace) (a b c : Option (List ℕ)) (script : List ℕ) (left : Option (List ℕ)) (rest : List ℕ) →
      IsReadTo ran old mid then a b (Some script) left rest → IsAtEnd left → IsLastRun ran mid new then.moment b c rest → IsReplayed ran old new a c script
  replayed old mid new then a b c script None rest p end last = absurd p.consumed
  replayed old mid new then a b c script (Some left) rest p end last =
      let whole : script ≡ p.text = p.consumed ∙ ap (λ l. p.text ++ l) end ∙ append-nil p.text in
      let run = p.run.2 in
      record {
        lines = run.lines;
        rest = rest;
        printed = run.printed ++ last.printed;
        after = last.after;
        events = p.run.0 ++ last.events;
        outcomes = p.run.1 ++ last.outcomes;
        cut = subst (λ t. IsCutLine t run.lines rest) (sym whole) run.cut;
        run = lines_more 0 then.moment last.after run.lines (last_line rest) run.printed last.printed p.run.0 last.events p.run.1 last.outcomes run.run last.run;
        calls = join old mid new p.run.0 last.events p.run.1 last.outcomes p.run.3 last.calls;
        written = subst (λ l. Appends a c l) (sym (ended-append run.printed last.printed)) (appends_more a b c _ _ run.written last.written);
      }

  pub replayed_known : (old mid new : H) (then : LinePlace) (a b c : Option (List ℕ)) (from left : Option (List ℕ)) (rest : List ℕ) →
      IsReadTo ran old mid then a b from left rest → IsAtEnd left → IsLastRun ran mid new then.moment b c rest → IfSome from (IsReplayed ran old new a c)
  replayed_known old mid new then a b c None left rest p end last = tt
  replayed_known old mid new then a b c (Some script) left rest p end last = replayed old mid new then a b c script left rest p end last

  -- a fault at a byte of a piece
  pub stopped_at : (old mid new : H) (fault : ReplayFault) (now then : LinePlace) (a b c : Option (List ℕ)) (line piece : List ℕ) (i : ℕ) (rest : List ℕ) → i < length piece →
      IsRunTo ran old mid now then a b (line ++ take i piece) rest → RanBy ran mid new (StopsIn b c then rest (get_or piece i 0 ∷ []) fault) → RanBy ran old new (IsScriptStopped fault now a c line piece)
  stopped_at old mid new fault now then a b c line piece i rest within p q =
      by_more old mid new (RunsTo now then a b (line ++ take i piece) rest) (StopsIn b c then rest (get_or piece i 0 ∷ []) fault) (IsScriptStopped fault now a c line piece)
      (λ e f o r. stopped fault now then a b c line (take i piece) rest (get_or piece i 0 ∷ []) (drop (i + 1) piece) piece e f o r (sym (take-append-drop i piece) ∙ ap (λ l. take i piece ++ l) (drop_more piece i 0 within)))
      p q

  -- a fault within a piece
  pub halted_within : (old mid new : H) (fault : ReplayFault) (then : LinePlace) (a b c from left later : Option (List ℕ)) (piece rest : List ℕ) →
      IsReadTo ran old mid then a b from left rest → Consumes left later piece → RanBy ran mid new (IsScriptStopped fault then b c rest piece) → Halts ran old new a c later from fault
  halted_within old mid new fault then a b c None left later piece rest p consumed q = tt
  halted_within old mid new fault then a b c (Some script) None later piece rest p consumed q = absurd p.consumed
  halted_within old mid new fault then a b c (Some script) (Some others) None piece rest p consumed q = absurd consumed
  halted_within old mid new fault then a b c (Some script) (Some others) (Some more) piece rest p consumed q =
      by_more old mid new (RunsTo start then a b p.text rest) (IsScriptStopped fault then b c rest piece) (IsHalted fault a c (Some more) script)
      (λ e f o r. halted_in fault then a b c (Some more) p.text rest piece more script e f o r (p.consumed ∙ ap (λ l. p.text ++ l) consumed))
      p.run q

  -- a fault at the last line
  pub halted_at_last : (old mid new : H) (fault : ReplayFault) (then : LinePlace) (a b c from left unread : Option (List ℕ)) (rest : List ℕ) →
      IsReadTo ran old mid then a b from left rest → IsAtEnd left → RanBy ran mid new (StopsAtEnd b c then rest fault) → Halts ran old new a c unread from fault
  halted_at_last old mid new fault then a b c None left unread rest p end q = tt
  halted_at_last old mid new fault then a b c (Some script) None unread rest p end q = absurd p.consumed
  halted_at_last old mid new fault then a b c (Some script) (Some left) unread rest p end q =
      by_more old mid new (RunsTo start then a b p.text rest) (StopsAtEnd b c then rest fault) (IsHalted fault a c unread script)
      (λ e f o r. halted_last fault then a b c unread p.text rest script e f o r (p.consumed ∙ ap (λ l. p.text ++ l) end ∙ append-nil p.text))
      p.run q

  -- no more can be read
  pub halted_unread : (old new : H) (then : LinePlace) (a b from left unread : Option (List ℕ)) (rest : List ℕ) →
      IsReadTo ran old new then a b from left rest → Keeps left unread → Halts ran old new a b unread from (Script then.number)
  halted_unread old new then a b None left unread rest p kept = tt
  halted_unread old new then a b (Some script) None unread rest p kept = absurd p.consumed
  halted_unread old new then a b (Some script) (Some left) None rest p kept = absurd kept
  halted_unread old new then a b (Some script) (Some left) (Some unread) rest p kept =
      subst (λ u. RanBy ran old new (IsHalted (Script then.number) a b (Some u) script)) (sym kept)
      (p.run.0, p.run.1, cut_off then a b p.text rest left script p.run.0 p.run.1 p.consumed p.run.2, p.run.3)

pub some_line : (line : List ℕ) → (length line == 0) ≡ false → line ≢ []
some_line [] none = absurd (true≢false none)
some_line (b ∷ bs) some = some_item b bs

pub plain_more : (line : List ℕ) (b : ℕ) → list_any is_lf line ≡ false → (b == 10) ≡ false → list_any is_lf (line ++ b ∷ []) ≡ false
plain_more line b plain other = list_any-append is_lf line (b ∷ []) ∙ ap (λ x. x || list_any is_lf (b ∷ [])) plain ∙ ap (λ x. x || false) other

-- a read that gives nothing at the end
pub at_end : (left later : Option (List ℕ)) (piece : List ℕ) → Consumes left later piece → piece ≡ [] → IsAtEnd later → IsAtEnd left
at_end None later piece consumed none end = tt
at_end (Some bytes) (Some others) piece consumed none end = consumed ∙ ap (λ l. l ++ others) none ∙ end
at_end (Some bytes) None piece consumed none end = absurd consumed

pub on_err : {X E : Type 0} {P : Type 0} (r : Result X E) → P → OnErr r P
on_err (Ok x) p = tt
on_err (Err e) p = p

-- an LF stands there
pub comes_lf : (fault : ReplayFault) (byte : ℕ) → byte ≡ 10 → LineComesIn fault (byte ∷ [])
comes_lf (Script n) byte is = ([], ap (λ b. b ∷ []) is)
comes_lf Output byte is = ([], ap (λ b. b ∷ []) is)
comes_lf Memory byte is = some_item byte []

-- a front of a text is one of a longer text
pub front_more : (a b : Option (List ℕ)) (text more : List ℕ) → TakesFront a b text → TakesFront a b (text ++ more)
front_more a b text more p = record { front = p.front; left = p.left ++ more; is = ap (λ l. l ++ more) p.is ∙ append_assoc p.front p.left more; some_left = some_more p.left p.some_left; written = p.written }
  where
    some_more : (left : List ℕ) → left ≢ [] → left ++ more ≢ []
    some_more [] some = absurd (some refl)
    some_more (x ∷ xs) some = some_item x (xs ++ more)

-- a text, and then a front of another
pub front_behind : (a b c : Option (List ℕ)) (text more : List ℕ) → Appends a b text → TakesFront b c more → TakesFront a c (text ++ more)
front_behind a b c text more p q = record { front = text ++ q.front; left = q.left; is = ap (λ l. text ++ l) q.is ∙ sym (append_assoc text q.front q.left); some_left = q.some_left; written = appends_more a b c text q.front p q.written }

-- at the exit of a `?`
pub if_err_of : {X E : Type 0} (P : E → Type 0) {y : E} (r : Result X E) → IsErrAnd r (λ e. e ≡ y) → P y → IfErr r P
if_err_of P (Ok x) is p = tt
if_err_of P (Err e) is p = subst P (sym is) p

pub only_one : (outcomes : List Outcome) → length outcomes ≡ 1 → (outcome : Outcome) × (outcomes ≡ outcome ∷ [])
only_one [] is = absurd (omega (arith, is))
only_one (o ∷ []) is = (o, refl)
only_one (o ∷ p ∷ ps) is = absurd (omega (arith, is))

-- A writer has taken a front of a text, and this is left of it.
pub record IsTaken (given took : Option (List ℕ)) (text rest : List ℕ) : Type 0 where
  pub front : List ℕ
  pub is : text ≡ front ++ rest
  pub written : Appends given took front

pub taken_more : (a b c : Option (List ℕ)) (text rest : List ℕ) (n : ℕ) → IsTaken a b text rest → Appends b c (take n rest) → IsTaken a c text (drop n rest)
taken_more a b c text rest n p q = record {
  front = p.front ++ take n rest;
  is = p.is ∙ ap (λ l. p.front ++ l) (sym (take-append-drop n rest)) ∙ sym (append_assoc p.front (take n rest) (drop n rest));
  written = appends_more a b c p.front (take n rest) p.written q;
}

pub taken_kept : (a b c : Option (List ℕ)) (text rest : List ℕ) → IsTaken a b text rest → Keeps b c → IsTaken a c text rest
taken_kept None b c text rest p q = record { front = p.front; is = p.is; written = tt }
taken_kept (Some known) None c text rest p q = absurd p.written
taken_kept (Some known) (Some bs) None text rest p q = absurd q
taken_kept (Some known) (Some bs) (Some cs) text rest p q = record { front = p.front; is = p.is; written = q ∙ p.written }

pub if_err : {X E : Type 0} {P Q : E → Type 0} (r : Result X E) → IfErr r P → ((e : E) → P e → Q e) → IfErr r Q
if_err (Ok x) p f = tt
if_err (Err e) p f = f e p

pub on_ok : {X E : Type 0} {P Q : Type 0} (r : Result X E) → OnOk r P → (P → Q) → OnOk r Q
on_ok (Ok x) p f = f p
on_ok (Err e) p f = tt

pub if_ok : {X E : Type 0} {P Q : X → Type 0} (r : Result X E) → IfOk r P → ((x : X) → P x → Q x) → IfOk r Q
if_ok (Ok x) p f = f x p
if_ok (Err e) p f = tt
