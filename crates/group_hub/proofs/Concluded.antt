-- What a verdict comes to, by what was made of it.
use Rattle.std.proofs.Common.{◌≡◌, ℕ, Bool, true, false, [], refl, sym, ap, subst, ◌∙◌}
use Rattle.std.specs.Prelude.{◌&&◌, Option, Some, None, Result, Ok, Err, IfOk, IfErr, IfSome, IsTrue, is_some, option_map}
use Rattle.host_types.specs.Site.{Site}
use Rattle.host_types.specs.SiteState.{SiteState, HasRead}
use Rattle.host_types.specs.Pins.{Pinned}
use Rattle.host_types.specs.declared.change.Change.{Change}
use Rattle.request_reader.specs.Request.{Request}
use Rattle.request_reader.specs.Verdict.{Verdict, Open, Early, Whole, Bad}
use Rattle.site_replies.specs.Reply.{WholeAnswer, reply}
use Rattle.site_replies.specs.Replies.{answer_of}
use Rattle.site_replies.specs.declared.answered.Answered.{Answered}
use Rattle.group_world.specs.Step.{StepResult, says, at_moment, waits_or}
use Rattle.group_world.specs.World.{Waits}
use Rattle.group_world.specs.Outcomes.{heard_outcome}
use Rattle.group_world.specs.declared.answer.InputStatus.{InputStatus}
use Rattle.group_world.specs.declared.answer.InputStatus.TheVariants as heard
use Rattle.group_world.specs.declared.event.Outcome.TheVariants.{Ready, Finished, Waiting}
use Rattle.group_hub.specs.Understood.{reply_by, answered, post_of, concluded, is_whole}
use Rattle.group_hub.specs.Hears.{is_grouped, is_full, made_post, IsConcluded, IsLetWait, IsCrowded}
use Rattle.group_hub.specs.Sessions.{waits_by}
use Rattle.group_hub.specs.declared.posting.Posting.{Posting}
use Rattle.group_hub.specs.declared.phase.Concluded.{Concluded}
use Rattle.group_hub.specs.declared.phase.Concluded.TheVariants as ends
use Rattle.group_world.specs.declared.fault.HubFault.{HubFault}
use Rattle.group_world.specs.declared.fault.HubFault.TheVariants.{Crowded}

pub and_left : (a b : Bool) → (a && b) ≡ true → a ≡ true
and_left true b is = refl
and_left false b is = is

waits_or_none : (request : Request) (now : ℕ) (a : WholeAnswer) (post : Option Change) → a.post ≡ post → (waits_or request now a post).post ≡ None
waits_or_none request now a None is = is
waits_or_none request now a (Some post) is = refl

-- where posts wait, none is made
grouped_none : (s : Site) (now : ℕ) (v : Verdict) → (concluded true s now v).post ≡ None
grouped_none s now Open = refl
grouped_none s now Early = refl
grouped_none s now (Whole request) = waits_or_none request now (reply s request now) (reply s request now).post refl
grouped_none s now (Bad cause) = refl

pub none_to_make : (grouped : Bool) (s : Site) (now : ℕ) (v : Verdict) → grouped ≡ true → at_moment now (concluded grouped s now v).post ≡ []
none_to_make grouped s now v is = ap (at_moment now) (subst (λ (b : Bool). (concluded b s now v).post ≡ None) (sym is) (grouped_none s now v))

post_at_once : (s : Site) (now : ℕ) (v : Verdict) → (concluded false s now v).post ≡ post_of (reply_by s now v)
post_at_once s now Open = refl
post_at_once s now Early = refl
post_at_once s now (Whole request) = refl
post_at_once s now (Bad cause) = refl

no_post : (s : Site) (post : Option Change) (made : Option Answered) → made_post made ≡ post → is_some post ≡ false → post_of (option_map (answer_of s) made) ≡ None
no_post s post None is none = refl
no_post s None (Some a) is none = is
no_post s (Some post) (Some a) is none = absurd (cc none)

made_by : (grouped : Bool) (s : Site) (now : ℕ) (v : Verdict) (made : Option Answered) → (grouped && is_some (made_post made)) ≡ false → option_map (answer_of s) made ≡ reply_by s now v
    → (concluded grouped s now v).post ≡ post_of (option_map (answer_of s) made)
made_by false s now v made stays is = post_at_once s now v ∙ ap post_of (sym is)
made_by true s now v made stays is = grouped_none s now v ∙ sym (no_post s (made_post made) made refl stays)

-- what is to be made of what was read
pub to_make : (grouped : Bool) (a m : SiteState) (now : ℕ) (v : Verdict) (made : Option Answered) → HasRead a m → (grouped && is_some (made_post made)) ≡ false → (IsTrue a.honest → option_map (answer_of a.site) made ≡ reply_by a.site now v)
    → IsTrue a.honest → at_moment now (concluded grouped a.site now v).post ≡ at_moment now (post_of (option_map (answer_of m.site) made))
to_make grouped a m now v made kept stays is honest =
    ap (at_moment now) (made_by grouped a.site now v made stays (is honest) ∙ ap (λ (s : Site). post_of (option_map (answer_of s) made)) (sym (kept.site honest)))

-- a session that is answered does not wait
pub never_waits : (status : InputStatus) (made : Option WholeAnswer) → heard_outcome status ≡ (answered made).outcome → status ≡ heard.Waiting → ⊥
never_waits status None is waits = let no : Waiting ≡ Finished = ap heard_outcome (sym waits) ∙ is in cc no
never_waits status (Some a) is waits = let no : Waiting ≡ Ready = ap heard_outcome (sym waits) ∙ is in cc no

-- ---- a post that waits

waits_or_some : (request : Request) (now : ℕ) (a : WholeAnswer) (post : Option Change) → is_some post ≡ true → waits_or request now a post ≡ says Waiting (Waits request now)
waits_or_some request now a None some = absurd (cc some)
waits_or_some request now a (Some post) some = refl

some_waits : (s : Site) (now : ℕ) (v : Verdict) → is_some (post_of (reply_by s now v)) ≡ true → concluded true s now v ≡ says Waiting (waits_by v now)
some_waits s now Open some = absurd (cc some)
some_waits s now Early some = absurd (cc some)
some_waits s now (Whole request) some = waits_or_some request now (reply s request now) (reply s request now).post some
some_waits s now (Bad cause) some = absurd (cc some)

post_seen : (s : Site) (made : Option Answered) → is_some (made_post made) ≡ is_some (post_of (option_map (answer_of s) made))
post_seen s None = refl
post_seen s (Some a) = refl

-- what a right post comes to where posts wait
pub post_waits : (grouped : Bool) (s : Site) (now : ℕ) (v : Verdict) (made : Option Answered) → (grouped && is_some (made_post made)) ≡ true → option_map (answer_of s) made ≡ reply_by s now v → concluded grouped s now v ≡ says Waiting (waits_by v now)
post_waits true s now v made some is = some_waits s now v (ap (λ (m : Option WholeAnswer). is_some (post_of m)) (sym is) ∙ sym (post_seen s made) ∙ some)
post_waits false s now v made some is = absurd (cc some)

whole_post : (v : Verdict) (made : Option Answered) → IfSome made (λ a. is_some a.post ≡ true → is_whole v ≡ true) → is_some (made_post made) ≡ true → is_whole v ≡ true
whole_post v None on some = absurd (cc some)
whole_post v (Some a) on some = on some

and_right : (a b : Bool) → (a && b) ≡ true → b ≡ true
and_right true b is = is
and_right false b is = absurd (cc is)

-- A post is let wait, or may not come to wait.
abbrev pub LetsWait : {P : Type 0} → Posting → Result (Concluded P) HubFault → Type 0
LetsWait posting result = IfOk result (λ c. (c ≡ ends.Waits) × (is_full posting ≡ false)) × IfErr result (λ e. (e ≡ Crowded) × (is_full posting ≡ true))

pub waits_as_said : {P : Type 0} (pinned : P → Pinned) (step : StepResult) (posting : Posting) (v : Verdict) (now : ℕ) (b : SiteState) (result : Result (Concluded P) HubFault) → LetsWait posting result → step ≡ says Waiting (waits_by v now) → IfOk result (IsConcluded pinned step v now b)
waits_as_said pinned step posting v now b (Ok c) (ok, err) is = subst (λ c. IsConcluded pinned step v now b c) (sym ok.0) is
waits_as_said pinned step posting v now b (Err e) lets is = tt

pub waits_rightly : {P : Type 0} (posting : Posting) (v : Verdict) (made : Option Answered) (result : Result (Concluded P) HubFault) → LetsWait posting result → (is_grouped posting && is_some (made_post made)) ≡ true
    → IfSome made (λ a. is_some a.post ≡ true → is_whole v ≡ true) → IfOk result (IsLetWait posting v)
waits_rightly posting v made (Ok c) (ok, err) some on = subst (λ c. IsLetWait posting v c) (sym ok.0) (and_left _ _ some, ok.1, whole_post v made on (and_right _ _ some))
waits_rightly posting v made (Err e) lets some on = tt

pub crowded_rightly : {P : Type 0} (honest : Bool) (step : StepResult) (posting : Posting) (v : Verdict) (now : ℕ) (result : Result (Concluded P) HubFault) → LetsWait posting result → (IsTrue honest → step ≡ says Waiting (waits_by v now)) → IsCrowded honest posting step result
crowded_rightly honest step posting v now (Ok c) lets is = tt
crowded_rightly honest step posting v now (Err e) (ok, err) is = λ crowded. (err.1, λ kept. ap (λ (r : StepResult). r.outcome) (is kept))
