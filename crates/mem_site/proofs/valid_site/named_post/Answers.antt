use Rattle.std.proofs.Common.{◌∙◌, sym, subst}
use Rattle.std.proofs.lemmas.Bool.{both_ways}
use Rattle.host_types.specs.Site.{post_selector}
use Rattle.mem_site.specs.ValidSites.{IsCut}
use Rattle.host_types.proofs.LookUps.{same_some}
use Rattle.mem_site.proofs.CutNames.{named_parts, rest_is, made_of}
use Rattle.mem_site.proofs.valid_site.named_post.Goals as goal

pub returns-in_default-number_in : goal.returns-in_default-number_in
returns-in_default-number_in c = λ board n fits named.
    let own = named_parts c.as_bytes.result.now c.in-Some.board.now c.in-Some.digits.now board n fits (c.as_bytes.ensures.bytes ∙ named) (subst (λ rest. IsCut rest c.in-Some.board.now c.in-Some.digits.now) (rest_is c.as_bytes.result.now) c.in-Some.ensures) in
    absurd (cc (c.in_default-number_in.ensures n fits own.1))

pub returns-else-branch : goal.returns-else-branch
returns-else-branch c = λ board n fits named.
    let own = named_parts c.as_bytes.result.now c.in-Some.board.now c.in-Some.digits.now board n fits (c.as_bytes.ensures.bytes ∙ named) (subst (λ rest. IsCut rest c.in-Some.board.now c.in-Some.digits.now) (rest_is c.as_bytes.result.now) c.in-Some.ensures) in
    let numbers = same_some c.in-Some-number_in.number n (c.in-Some-number_in.ensures n fits own.1) in
    let boards = made_of c.in-Ok.board c.in-Some.board.now c.in-Ok.ensures ∙ own.0 in
    both_ways c.in_ok-is_named.field-0 c.if-branch.false (c.in_ok-is_named.ensures.1 (named ∙ sym (λ i. post_selector (boards i) (numbers i))))
