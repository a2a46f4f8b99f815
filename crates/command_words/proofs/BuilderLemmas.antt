-- What clap's builders make of arguments and commands.
use Rattle.std.proofs.Common.{◌≡◌, ◌∙◌, ◌&&◌, ◌||◌, ◌++◌, ap, ap₂, refl, Bool, true, false, [], ◌∷◌, Some, None}
use Rattle.std.specs.Borrow.{Bor}
use Rattle.std.specs.Prelude.{Option, IsSomeAnd}
use Rattle.clap.specs.Lexer.{usize_max}
use Rattle.clap.specs.Walk.{is_empty, is_free_arg}
use Rattle.clap.specs.Simple.{app_of_fields, new_shape, on_top}
use Rattle.clap.specs.Words.{AddsArg, AddsConflicts, AddsRequirements, AddsSubcommand, App, Rule, Shape, Text, app_of, new_app, new_rule, rule_of, with_rule, with_subcommand}
use Rattle.clap.specs.declared.builder.action.ArgAction.TheVariants.{SetTrue}
use Rattle.clap.specs.declared.builder.arg.Arg.{Arg}
use Rattle.clap.specs.declared.builder.arg.ArgPredicate.{ArgPredicate}
use Rattle.clap.specs.declared.builder.texts.Texts.TheVariants.{One}
use Rattle.clap.specs.declared.builder.command.Command.{Command}
use Rattle.clap.specs.declared.builder.command.Command.TheViews.{out-Command}
use Rattle.clap.proofs.WalkLemmas.{both}
use Rattle.clap.proofs.SimpleLemmas.{is_nil, not_empty}
use Rattle.command_words.specs.CommandLine.{IsApp, IsArg, IsCommand, some_values, standing}

some_is : {A : Type 0} (o : Option A) (a : A) → IsSomeAnd o (λ x. x ≡ a) → o ≡ Some a
some_is None a is = absurd is
some_is (Some x) a is = ap Some is

third_false : (a b c d : Bool) → c ≡ false → (a && (b && (c && d))) ≡ false
third_false false b c d e = refl
third_false true false c d e = refl
third_false true true c d e = ap (λ x. x && d) e

second_false : (a b c : Bool) → b ≡ false → (a && (b && c)) ≡ false
second_false false b c e = refl
second_false true b c e = ap (λ x. x && c) e

-- an argument that needs another one has a rule on it
pub needing : (rule : Rule) (old new : Arg) (x : ArgPredicate × Bor Text) → IsArg rule old → AddsRequirements old new (x ∷ []) → IsArg (record rule { is_free = false }) new
needing rule old new x is adds =
    let some : is_empty new.needs.items ≡ false = ap is_empty adds.1 ∙ not_empty old.needs.items x in
    let bound : is_free_arg (record old { needs = new.needs }) ≡ false = third_false _ _ _ _ some in
    let rules : rule_of new ≡ record (rule_of old) { is_free = is_free_arg (record old { needs = new.needs }) } = ap rule_of adds.0 in
    (rules ∙ ap₂ (λ (r : Rule) (b : Bool). record r { is_free = b }) is.0 bound, ap (λ (a : Arg). a.global) adds.0 ∙ is.1)

-- it needs no other, where it needed none before
pub needs_alone : (rule : Rule) (old new : Arg) (x : ArgPredicate × Bor Text) → rule.is_free ≡ true → IsArg rule old → AddsRequirements old new (x ∷ []) → new.needs.items ≡ x ∷ []
needs_alone rule old new x is_free is adds =
    let free : is_free_arg old ≡ true = ap (λ (r : Rule). r.is_free) is.0 ∙ is_free in
    let none : old.needs.items ≡ [] = is_nil old.needs.items (both _ _ (both _ _ (both _ _ free).1).1).0 in
    adds.1 ∙ ap (λ xs. xs ++ x ∷ []) none

-- and so has one that stands beside no other
pub conflicting : (rule : Rule) (old new : Arg) (x : Bor Text) → IsArg rule old → AddsConflicts old new (x ∷ []) → IsArg (record rule { is_free = false }) new
conflicting rule old new x is adds =
    let some : is_empty new.conflicts.items ≡ false = ap is_empty adds.1 ∙ not_empty old.conflicts.items x in
    let bound : is_free_arg (record old { conflicts = new.conflicts }) ≡ false = second_false _ _ _ some in
    let rules : rule_of new ≡ record (rule_of old) { is_free = is_free_arg (record old { conflicts = new.conflicts }) } = ap rule_of adds.0 in
    (rules ∙ ap₂ (λ (r : Rule) (b : Bool). record r { is_free = b }) is.0 bound, ap (λ (a : Arg). a.global) adds.0 ∙ is.1)

-- an argument more
pub with_arg : (app : App) (rule : Rule) (old new : Command) (a : Arg) → IsApp app old → IsArg rule a → AddsArg old a new → IsApp (with_rule app rule) new
with_arg app rule old new a is_app is_arg adds =
    (adds.shape is_arg.1 ∙ ap₂ with_rule is_app.0 is_arg.0, adds.globals ∙ ap₂ (λ x y. x || y) is_app.1 is_arg.1)

-- a command more
pub with_command : (app : App) (shape : Shape) (old new sub : Command) → IsApp app old → IsCommand shape sub → AddsSubcommand old sub new → IsApp (with_subcommand app shape) new
with_command app shape old new sub is_app is_sub adds =
    (adds.shape is_sub.1 ∙ ap₂ with_subcommand is_app.0 (ap (λ (a : App). a.top) is_sub.0), adds.globals ∙ ap₂ (λ x y. x || y) is_app.1 is_sub.1)

-- what stands for an argument that is missing
pub standing_arg : (rule : Rule) (value : Bor Text) (old missing valued new : Arg) (h : _) → IsArg rule old → missing ≡ record old { required = false } → valued ≡ record missing { default_vals = One value } → new ≡ record valued { hide_default_value = h } → IsArg (standing value.now rule) new
standing_arg rule value old missing valued new h is e1 e2 e3 =
    let rules : rule_of new ≡ record (rule_of old) { required = false; defaults = value.now ∷ [] } =
    ap rule_of e3 ∙ (ap rule_of e2 ∙ ap (λ (x : Arg). record (rule_of x) { defaults = value.now ∷ [] }) e1) in (
      rules ∙ ap (λ (r : Rule). record r { required = false; defaults = value.now ∷ [] }) is.0,
      ap (λ (x : Arg). x.global) e3 ∙ (ap (λ (x : Arg). x.global) e2 ∙ (ap (λ (x : Arg). x.global) e1 ∙ is.1)),
    )

-- with one value or more
pub some_values_arg : (rule : Rule) (old new : Arg) → IsArg rule old → new ≡ record old { num_vals = new.num_vals } → IsSomeAnd new.num_vals (λ r. r ≡ record { start_inclusive = 1; end_inclusive = usize_max }) → IsArg (some_values rule) new
some_values_arg rule old new is made range =
    let number : new.num_vals ≡ Some (record { start_inclusive = 1; end_inclusive = usize_max }) = some_is new.num_vals _ range in
    let rules : rule_of new ≡ record (rule_of old) { range = new.num_vals } = ap rule_of made in (
      rules ∙ ap₂ (λ (r : Rule) (n : _). record r { range = n }) is.0 number,
      ap (λ (x : Arg). x.global) made ∙ is.1,
    )

-- texts for the user change nothing that is read
pub told : (app : App) (c about help : Command) (a : _) (h : _) → IsApp app c → out-Command about ≡ record (out-Command c) { about = a } → out-Command help ≡ record (out-Command about) { after_help = h } → IsApp app help
told app c about help a h is e1 e2 =
    (ap app_of_fields e2 ∙ (ap app_of_fields e1 ∙ is.0), ap (λ f. f.has_globals) e2 ∙ (ap (λ f. f.has_globals) e1 ∙ is.1))

-- a command with a version and a text for the user, which wants a subcommand
pub headed : (name : Text) (c version about needing : Command) (v : _) (a : _) → IsApp (new_app name) c → out-Command version ≡ record (out-Command c) { version = Some v } → out-Command about ≡ record (out-Command version) { about = a }
    → out-Command needing ≡ record (out-Command about) { subcommand_required = true }
    → IsApp (record { top = record (new_shape name) { has_version = true; subcommand_required = true }; subs = [] }) needing
headed name c version about needing v a is e1 e2 e3 =
    let one : app_of version ≡ on_top (λ (s : Shape). record s { has_version = true }) (app_of c) = ap app_of_fields e1 in
    let two : app_of about ≡ app_of version = ap app_of_fields e2 in
    let three : app_of needing ≡ on_top (λ (s : Shape). record s { subcommand_required = true }) (app_of about) = ap app_of_fields e3 in
    let both : app_of needing ≡ on_top (λ (s : Shape). record s { has_version = true; subcommand_required = true }) (app_of c) = three ∙ ap (on_top (λ (s : Shape). record s { subcommand_required = true })) (two ∙ one) in (
      both ∙ ap (on_top (λ (s : Shape). record s { has_version = true; subcommand_required = true })) is.0,
      ap (λ f. f.has_globals) e3 ∙ (ap (λ f. f.has_globals) e2 ∙ (ap (λ f. f.has_globals) e1 ∙ is.1)),
    )

-- a flag with a name and a text for the user
pub free_flag : (name : Text) (a long help set : Arg) (l : Bor Text) (h : _) → rule_of a ≡ new_rule name → (a.required ≡ false) × (a.global ≡ false) → long ≡ record a { long = Some l } → help ≡ record long { help = h } → set ≡ record help { action = Some SetTrue }
    → IsArg (record (new_rule name) { long = Some l.now; action = Some SetTrue }) set
free_flag name a long help set l h is plain e1 e2 e3 =
    let rules : rule_of set ≡ record (rule_of a) { long = Some l.now; action = Some SetTrue } =
    ap rule_of e3 ∙ (ap (λ (x : Arg). record (rule_of x) { action = Some SetTrue }) e2 ∙ ap (λ (x : Arg). record (rule_of x) { action = Some SetTrue }) e1) in (
      rules ∙ ap (λ (r : Rule). record r { long = Some l.now; action = Some SetTrue }) is,
      ap (λ (x : Arg). x.global) e3 ∙ (ap (λ (x : Arg). x.global) e2 ∙ (ap (λ (x : Arg). x.global) e1 ∙ plain.1)),
    )
