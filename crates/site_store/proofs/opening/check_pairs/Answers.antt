use Rattle.std.proofs.Common.{◌≡◌, List, Option, false, true, map, sym, subst, ◌∙◌}
use Rattle.std.specs.Prelude.{MatchOption}
use Rattle.page_store.specs.Keys.{rises}
use Rattle.page_store.specs.Pages.{Pair, key_of}
use Rattle.page_store.specs.declared.banner.Banner.{Banner}
use Rattle.site_store.proofs.SitesRead.{none_rising, whole_site, broken_site}
use Rattle.site_store.proofs.opening.check_pairs.Goals as goal

pub returns-in_default-clause-fault : goal.returns-in_default-clause-fault
returns-in_default-clause-fault c =
    let pairs = c.args.pairs.now in
    let banner = c.args.banner.now in
    none_rising pairs banner (subst (λ (o : Option (List Pair × Banner)). MatchOption o (rises (map key_of pairs) ≡ false) (λ read. read ≡ (pairs, banner))) c.in_default.is c.in_ok-read.ensures)

pub returns-then-branch-clause-site : goal.returns-then-branch-clause-site
returns-then-branch-clause-site c =
    let pairs = c.args.pairs.now in
    let banner = c.args.banner.now in
    let is = subst (λ (o : Option (List Pair × Banner)). MatchOption o (rises (map key_of pairs) ≡ false) (λ read. read ≡ (pairs, banner))) c.in-Some.is c.in_ok-read.ensures in
    let site = c.in_ok-site.ensures in
    (c.in_ok-site.site, whole_site pairs banner c.in_ok-site.site c.in-Some.read c.site_of.new.read c.requires.version is site.same site.address (c.in_ok-has_layout.ensures.0 c.if-branch.true))

pub returns-clause-fault : goal.returns-clause-fault
returns-clause-fault c =
    let pairs = c.args.pairs.now in
    let banner = c.args.banner.now in
    let is = subst (λ (o : Option (List Pair × Banner)). MatchOption o (rises (map key_of pairs) ≡ false) (λ read. read ≡ (pairs, banner))) c.in-Some.is c.in_ok-read.ensures in
    let site = c.in_ok-site.ensures in
    broken_site pairs banner c.in_ok-site.site c.in-Some.read c.site_of.new.read is site.same site.named (λ whole. let yes : c.in_ok-has_layout.field-0 ≡ true = c.in_ok-has_layout.ensures.1 whole in absurd (let e : false ≡ true = sym c.if-branch.false ∙ yes in cc e))
