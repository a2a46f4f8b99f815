-- What a parse of the command line found, and its errors.
use Rattle.std.proofs.Common.{◌≡◌, ◌≢◌, ◌∙◌, ap, ap₂, refl, sym, subst, Bool, true, false, List, Option, Some, None, option_map}
use Rattle.std.specs.Prelude.{Err, IsErrAnd, IsSomeAnd, Ok, Result}
use Rattle.clap.specs.Words.{HasMatchesOf, Row, Text, app_of, is_simple, kind_of, subcommand_name_of, subcommand_of, subcommand_rows_of, takes}
use Rattle.clap.specs.declared.builder.command.Command.{Command}
use Rattle.clap.specs.declared.error.Error.{Error}
use Rattle.clap.specs.declared.error.kind.ErrorKind.{ErrorKind}
use Rattle.clap.specs.declared.error.kind.ErrorKind.TheVariants as kind
use Rattle.clap.specs.declared.parser.matches.ArgMatches.{ArgMatches}
use Rattle.clap.specs.declared.parser.matches.ArgMatches.TheViews.{out-ArgMatches}
use Rattle.command_words.specs.CommandLine.{IsApp, gopher_host}
use Rattle.command_words.specs.Misreads.{misread_by, misread_of}
use Rattle.command_words.specs.Reading.{IsReadAs}
use Rattle.command_words.specs.declared.words.Misread.{Misread}
use Rattle.command_words.specs.declared.words.Task.{Task}

-- clap's contracts give the matches of the command line
is_plain : is_simple gopher_host ≡ true
is_plain = refl

pairs : {X : Type 0} (both : X → Text × List Row) (o : Option X) (name : Text) (rows : List Row) → option_map (λ x. (both x).0) o ≡ Some name
    → option_map (λ (p : Text × List Row). p.1) (option_map both o) ≡ Some rows → option_map both o ≡ Some (name, rows)
pairs both None name rows is_name are =
    let bad : None ≡ Some name = is_name in
    cc
pairs both (Some x) name rows is_name are =
    let one : (both x).0 ≡ name = cc in
    let two : (both x).1 ≡ rows = cc in
    ap₂ (λ (a : Text) (b : List Row). Some (a, b)) one two

-- the command that the words name, as clap found it
pub found_command : (c : Command) (words : List Text) (m : ArgMatches) (name : Text) (rows : List Row) → IsApp gopher_host c → HasMatchesOf (app_of c) words m → subcommand_name_of m ≡ Some name
    → option_map (λ (p : Text × List Row). p.1) (subcommand_rows_of m) ≡ Some rows → subcommand_of gopher_host words ≡ Some (name, rows)
found_command c words m name rows is_app has is_name are =
    let found : subcommand_rows_of m ≡ subcommand_of gopher_host words = (subst (λ a. HasMatchesOf a words m) is_app.0 has is_plain).1 in
    sym found ∙ pairs _ (out-ArgMatches m).subcommand name rows is_name are

-- what holds of the value that is there
pub known : {X : Type 0} (P : X → Type 0) (o : Option X) (x : X) → o ≡ Some x → P x → IsSomeAnd o P
known P o x is p = subst (λ q. IsSomeAnd q P) (sym is) p

not_taken : (b : Bool) → (b ≡ true → ⊥) → b ≡ false
not_taken false h = refl
not_taken true h = absurd (h refl)

the_error : {T E : Type 0} (r : Result T E) (x : E) → IsErrAnd r (λ e. e ≡ x) → r ≡ Err x
the_error (Ok t) x h = absurd h
the_error (Err e) x h = ap Err h

-- an error of clap's is lack of memory, or of words that the command line doesn't take
pub read_error : (c : Command) (words : List Text) (e : Error) (r : Result Task Misread) → IsApp gopher_host c → (takes (app_of c) words ≡ true → kind_of e ≡ kind.OutOfMemory) → IsErrAnd r (λ x. x ≡ misread_of e) → IsReadAs words r
read_error c words e r is_app passes is = subst (IsReadAs words) (sym (the_error r _ is)) (go (kind_of e) refl)
  where
    taken : takes gopher_host words ≡ true → kind_of e ≡ kind.OutOfMemory
    taken = subst (λ a. takes a words ≡ true → kind_of e ≡ kind.OutOfMemory) is_app.0 passes

    other : (kind_of e ≢ kind.OutOfMemory) → (kind_of e ≢ kind.OutOfMemory) × (takes gopher_host words ≡ false)
    other no_memory = (no_memory, not_taken _ (λ t. no_memory (taken t)))

    go : (k : ErrorKind) → kind_of e ≡ k → IsReadAs words (Err (misread_by (kind_of e) e))
    go kind.OutOfMemory is_k = subst (λ k. IsReadAs words (Err (misread_by k e))) (sym is_k) tt
    go k is_k = subst (λ k. IsReadAs words (Err (misread_by k e))) (sym is_k) (other (λ oom. let bad : k ≡ kind.OutOfMemory = sym is_k ∙ oom in cc))
