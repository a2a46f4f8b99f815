-- A server that was asked in place of an image.
use Rattle.std.proofs.Common.{Bor, ◌≡◌, ◌⊎◌, inl, inr, ℕ, Bool, true, false, List, [], ◌∷◌, ◌++◌, Option, Ok, Err, refl, ap, ◌∙◌, subst, length, map}
use Rattle.std.specs.Prelude.{Result, Some, string_bytes, if◌then◌else◌}
use Rattle.std.specs.declared.alloc.Global.{Global}
use Rattle.std.specs.declared.string.String.{String}
use Rattle.file_device.specs.FileCalls.{FileHistory}
use Rattle.file_device.specs.FileUses.{FileUse, NotOpened}
use Rattle.change_file.specs.Changes.{read}
use Rattle.admin_socket.specs.SocketCalls.{SocketCall}
use Rattle.turns.specs.WireCalls.{WireCall, HasMade}
use Rattle.admin_lines.specs.Replies.{reply}
use Rattle.admin_lines.specs.declared.reply.ReplyFault.{ReplyFault}
use Rattle.admin_client.specs.Asking.{IsAsked, IsAnsweredInVain}
use Rattle.admin_client.specs.declared.answer.AdminAnswer.{AdminAnswer}
use Rattle.gopher_host.specs.Asked.{answer_of, AsksInstead, AsksServer, GivesAnswer, OpensUnasked, PrintsAnswer}
use Rattle.gopher_host.specs.Kept.{Drops, DropsInstead, dropped_line, removal}
use Rattle.gopher_host.specs.declared.fault.Fault.{Fault}
use Rattle.gopher_host.specs.declared.fault.Fault.TheVariants as faults

-- a refusal is what is answered
refused_so : {W X : Type 0} (line : List ℕ → List ℕ) (contents : W → Option (List ℕ)) (old new : W) (given : Result (String Global) Fault) (result : Result X Fault) (cause : Fault) → given ≡ Err cause → PrintsAnswer line given contents old new result → (result ≡ Err cause) × (new ≡ old)
refused_so line contents old new (Ok text) result cause is printed = absurd (cc is)
refused_so line contents old new (Err e) (Ok x) cause is printed = absurd printed
refused_so line contents old new (Err e) (Err fault) cause is printed =
    let same : e ≡ cause = cc is in
    (ap (λ f. Err f) (printed.0 ∙ same), printed.1)

pub asked_instead : {W X : Type 0} (image name file : List ℕ) (line : List ℕ → List ℕ) (contents : W → Option (List ℕ)) (used_before used_now : List FileUse) (before now : List SocketCall) (old new : W) (given : Result (String Global) Fault) (result : Result X Fault) (Holds : FileHistory → FileHistory → Type 0) →
    used_now ≡ used_before ++ NotOpened image ∷ [] → AsksInstead name file before now given → PrintsAnswer line given contents old new result →
    OpensUnasked image name used_before used_now before now old new result Holds ⊎ AsksServer image name file line contents used_before used_now before now old new result
asked_instead image name file line contents used_before used_now before now old new given result Holds unopened (inl (fault, there, is, nobody)) printed =
    let refused = refused_so line contents old new given result (faults.Image fault) is printed in
    inl (inl (fault, there, refused.0, unopened, (refused.1, nobody)))
asked_instead image name file line contents used_before used_now before now old new given result Holds unopened (inr (connected, gives)) printed =
    inr (record { unopened = unopened; connected = connected; given = given; gives = gives; printed = printed })

-- ---- what is answered

pub gives_so : (file : List ℕ) (answer : AdminAnswer) (old new : List WireCall) → HasMade old new (λ made. IsAsked file (reply answer.done (string_bytes answer.text)) made) → GivesAnswer file (answer_of answer)
gives_so file answer old new made = by answer.done answer.text made.2
  where
    by : (done : Bool) (text : String Global) → IsAsked file (reply done (string_bytes text)) made.0 → GivesAnswer file (if done then Ok text else Err (faults.Told text))
    by true text asked = (made.0, asked)
    by false text asked = inl (text, made.0, refl, asked)

pub gives_no_reply : (file : List ℕ) (cause : ReplyFault) (old new : List WireCall) → HasMade old new (λ made. IsAnsweredInVain file made) → GivesAnswer file (Err (faults.Reply cause))
gives_no_reply file cause old new made = inr (inl (cause, made.0, refl, made.2))

-- ---- items that are removed

names_of : (names : List (Bor (List ℕ))) → map (λ name. removal name.now) names ≡ map removal (map (λ name. name.now) names)
names_of [] = refl
names_of (n ∷ names) = ap (λ l. removal n.now ∷ l) (names_of names)

-- a file that removes them
pub says_so : (names : List (Bor (List ℕ))) (file bytes : List ℕ) → bytes ≡ file → read file ≡ Some (Ok (map (λ name. removal name.now) names)) → read bytes ≡ Some (Ok (map removal (map (λ name. name.now) names)))
says_so names file bytes same says = ap read same ∙ says ∙ ap (λ l. Some (Ok l)) (names_of names)

-- somebody was asked for it, or not, and that is printed
pub dropped_so : {W X : Type 0} (name : List ℕ) (names : List (List ℕ)) (bytes : List ℕ) (contents : W → Option (List ℕ)) (before now : List SocketCall) (old new : W) (given : Result (String Global) Fault) (result : Result X Fault) (count : ℕ) →
    read bytes ≡ Some (Ok (map removal names)) → AsksInstead name bytes before now given → count ≡ length names → PrintsAnswer (λ t. dropped_line count) given contents old new result → DropsInstead name names contents before now old new result
dropped_so name names bytes contents before now old new given result count says (inl (fault, there, is, nobody)) counted printed =
    let refused = refused_so (λ t. dropped_line count) contents old new given result (faults.Image fault) is printed in
    inl (fault, there, refused.0, nobody, refused.1)
dropped_so name names bytes contents before now old new given result count says (inr (connected, gives)) counted printed =
    inr (bytes, says, connected, given, gives, subst (λ n. PrintsAnswer (λ t. dropped_line n) given contents old new result) counted printed)

pub drops_instead : {W X : Type 0} (contents : W → Option (List ℕ)) (image name : List ℕ) (names : List (List ℕ)) (moment : ℕ) (used_before used_now : List FileUse) (before now : List SocketCall) (old new : W) (result : Result X Fault) →
    used_now ≡ used_before ++ NotOpened image ∷ [] → DropsInstead name names contents before now old new result → Drops contents image name names moment used_before used_now before now old new result
drops_instead contents image name names moment used_before used_now before now old new result unopened (inl (fault, there, is, nobody, same)) = inr (inl (inl (fault, there, is, unopened, (same, nobody))))
drops_instead contents image name names moment used_before used_now before now old new result unopened (inr (bytes, says, connected, given, gives, printed)) =
    inr (inr (bytes, says, record { unopened = unopened; connected = connected; given = given; gives = gives; printed = printed }))
