-- From what the function gave that did a command's work to how the command ends.
use Rattle.std.proofs.Common.{◌≡◌, ◌⊎◌, inl, inr, ℕ, List, [], ◌∷◌, ◌++◌, Option, Ok, Err, sym, ap, ◌∙◌, subst, refl, append_assoc}
use Rattle.std.specs.Prelude.{Result, IfOk, IfErr}
use Rattle.sector_device.specs.Device.{State}
use Rattle.file_device.specs.FileCalls.{FileHistory, file_state}
use Rattle.file_device.specs.FileUses.{FileUse, Opened, Left}
use Rattle.file_device.specs.Opening.{IsOpened, IsUnused}
use Rattle.file_device.specs.declared.file_call.FileCall.TheVariants.{Open, Lock}
use Rattle.host_on_disk.specs.OpenFaults.{HandsBack}
use Rattle.image_commands.specs.declared.fault.ImageFault.{ImageFault}
use Rattle.gopher_host.specs.Endings.{GivesAs, text_of, given_beside, device_beside}
use Rattle.admin_socket.specs.SocketCalls.{SocketCall}
use Rattle.gopher_host.specs.Held.{HasImage, ReadsImage}
use Rattle.gopher_host.specs.ImageFiles.{OpensThen, AnswersAs, IsUnwritten, file_crash_states}
use Rattle.gopher_host.specs.declared.fault.Fault.{Fault}

pub ok_too : {T E : Type 0} {P Q : T → Type 0} (result : Result T E) → ((t : T) → P t → Q t) → IfOk result P → IfOk result Q
ok_too (Ok t) f h = f t h
ok_too (Err e) f h = h

pub err_too : {T E : Type 0} {P Q : E → Type 0} (result : Result T E) → ((e : E) → P e → Q e) → IfErr result P → IfErr result Q
err_too (Ok t) f h = h
err_too (Err e) f h = f e h

pub both_too : {T E : Type 0} {P Q R : T → Type 0} (result : Result T E) → ((t : T) → P t → Q t → R t) → IfOk result P → IfOk result Q → IfOk result R
both_too (Ok t) f p q = f t p q
both_too (Err e) f p q = tt

pub both_err_too : {T E : Type 0} {P Q R : E → Type 0} (result : Result T E) → ((e : E) → P e → Q e → R e) → IfErr result P → IfErr result Q → IfErr result R
both_err_too (Ok t) f p q = tt
both_err_too (Err e) f p q = f e p q

pub all_err_too : {T E : Type 0} {P Q R S : E → Type 0} (result : Result T E) → ((e : E) → P e → Q e → R e → S e) → IfErr result P → IfErr result Q → IfErr result R → IfErr result S
all_err_too (Ok t) f p q r = tt
all_err_too (Err e) f p q r = f e p q r

-- what was given is printed, or its fault is answered
pub answers : {A W X : Type 0} {as_fault : ImageFault → Fault} (text : A → List ℕ) (handed : Result (A × FileHistory) (ImageFault × FileHistory)) (given : Result A ImageFault) (Is : FileHistory → List ℕ → Type 0) (IsCause : FileHistory → ImageFault → Type 0) (contents : W → Option (List ℕ)) (old new : W) (result : Result X Fault) →
    given ≡ given_beside handed → GivesAs as_fault (text_of text given) contents old new result → IfOk handed (λ r. Is r.1 (text r.0)) → IfErr handed (λ e. IsCause e.1 e.0) → AnswersAs as_fault (Is (device_beside handed)) (IsCause (device_beside handed)) contents old new result
answers text (Ok r) given Is IsCause contents old new result is gives done caused =
    record { given = text_of text given; gives = gives; is = subst (λ g. IfOk (text_of text g) (Is r.1)) (sym is) done; caused = subst (λ g. IfErr (text_of text g) (IsCause r.1)) (sym is) tt }
answers text (Err e) given Is IsCause contents old new result is gives done caused =
    record { given = text_of text given; gives = gives; is = subst (λ g. IfOk (text_of text g) (Is e.1)) (sym is) tt; caused = subst (λ g. IfErr (text_of text g) (IsCause e.1)) (sym is) caused }

-- nothing was written, whatever was given
pub unwritten : {A : Type 0} (IsCause : State → State → ImageFault → Type 0) (opened : FileHistory) (handed : Result (A × FileHistory) (ImageFault × FileHistory)) → IfOk handed (λ r. IsUnwritten opened r.1) →
    IfErr handed (λ e. HandsBack IsCause file_state file_crash_states opened e.1 e.0) → IsUnwritten opened (device_beside handed)
unwritten IsCause opened (Ok r) kept refused = kept
unwritten IsCause opened (Err e) kept refused = refused.no_new_crash_state refl

-- nothing was written, or something may have been that keeps the site
pub unless_written : {A K M : Type 0} → A ⊎ K → M ⊎ A → A ⊎ (M × K)
unless_written (inl a) may = inl a
unless_written (inr k) (inl m) = inr (m, k)
unless_written (inr k) (inr a) = inl a

-- one more, and another
pub two_more : {A : Type 0} (xs ys zs : List A) (a b : A) → ys ≡ xs ++ a ∷ [] → zs ≡ ys ++ b ∷ [] → zs ≡ xs ++ a ∷ b ∷ []
two_more xs ys zs a b first second = second ∙ ap (λ l. l ++ b ∷ []) first ∙ append_assoc xs (a ∷ []) (b ∷ [])

-- a file was opened and let go of
pub opened_then : {X Untouched : Type 0} (image : List ℕ) (before between now : List FileUse) (opened left : FileHistory) (result : Result X Fault) (Holds : FileHistory → FileHistory → Type 0) →
    between ≡ before ++ Opened opened ∷ [] → now ≡ between ++ Left left ∷ [] → opened.path ≡ image → IsOpened (Lock ∷ Open ∷ []) opened → IsUnused opened → Holds opened left → OpensThen image before now result Untouched Holds
opened_then image before between now opened left result Holds first second named calls unused holds =
    inr (record { opened = opened; left = left; used = two_more before between now (Opened opened) (Left left) first second; named = named; calls = calls; unused = unused; holds = holds })

-- an image that was read was had and let go of
pub read_then : {X Untouched : Type 0} (image : List ℕ) (before between now : List FileUse) (none sockets : List SocketCall) (opened left : FileHistory) (result : Result X Fault) (Holds : FileHistory → FileHistory → Type 0) →
    HasImage image before between none sockets (Ok opened) → now ≡ between ++ Left left ∷ [] → Holds opened left → ReadsImage image before now none sockets result Untouched Holds
read_then image before between now none sockets opened left result Holds had used holds = inr (record { opened = opened; left = left; between = between; had = had; used = used; holds = holds })
