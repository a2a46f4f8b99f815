use Rattle.std.proofs.Common.{◌≡◌, ◌∙◌, length, refl, arith, rules}
use Rattle.change_file.specs.declared.fault.FileChange.TheVariants.{Change}
use Rattle.change_writer.specs.Said.{read_back}
use Rattle.host_types.specs.declared.change.Change.TheVariants.{Put}
use Rattle.folder_import.specs.Pages.{page_change, page_count, page_name, linked, menu_item}
use Rattle.folder_import.proofs.Parts.{front_of, made_more}
use Rattle.folder_import.proofs.pages.put_menu.Goals as goal

pub loop-number-preserved : goal.loop-number-preserved
loop-number-preserved c =
    let at = c.args.at.now in
    let title = c.args.title.now in
    let entries = c.args.entries.now in
    let k = c.loop-number.number in
    let name : c.in_ok-page_name.field-0 ≡ page_name at k = c.in_ok-page_name.ensures in
    let links : c.in_ok-linked.field-0 ≡ linked at entries k = c.in_ok-linked.ensures in
    let titled : c.in_ok-clone.field-0 ≡ title = search (rules, c.in_ok-clone.ensures.cases) in
    let item : c.menu_item-item.result ≡ menu_item title (linked at entries k) = rw (c.menu_item-item.ensures, titled, links) refl in
    let one : read_back (Put c.in_ok-page_name.field-0 c.menu_item-item.result) ≡ page_change at title entries k = rw (name, item) refl in
    rw (c.in_ok-add.ensures.added, one) (made_more (page_change at title entries) (λ x. Change x) c.args.writer.now c.loop-number.writer k c.loop-number.invariant)

pub returns-in_err-clone-clause-front : goal.returns-in_err-clone-clause-front
returns-in_err-clone-clause-front c =
    front_of (page_change c.args.at.now c.args.title.now c.args.entries.now) (λ x. Change x) c.args.writer.now c.loop-number.writer c.loop-number.number (page_count (length c.args.entries.now)) (omega (arith, c.loop-number-test.true, c.page_count-number-end.ensures)) c.loop-number.invariant

pub returns-in_err-linked-clause-front : goal.returns-in_err-linked-clause-front
returns-in_err-linked-clause-front c =
    front_of (page_change c.args.at.now c.args.title.now c.args.entries.now) (λ x. Change x) c.args.writer.now c.loop-number.writer c.loop-number.number (page_count (length c.args.entries.now)) (omega (arith, c.loop-number-test.true, c.page_count-number-end.ensures)) c.loop-number.invariant

pub returns-in_err-page_name-clause-front : goal.returns-in_err-page_name-clause-front
returns-in_err-page_name-clause-front c =
    front_of (page_change c.args.at.now c.args.title.now c.args.entries.now) (λ x. Change x) c.args.writer.now c.loop-number.writer c.loop-number.number (page_count (length c.args.entries.now)) (omega (arith, c.loop-number-test.true, c.page_count-number-end.ensures)) c.loop-number.invariant

pub returns-in_err-add-clause-front : goal.returns-in_err-add-clause-front
returns-in_err-add-clause-front c =
    front_of (page_change c.args.at.now c.args.title.now c.args.entries.now) (λ x. Change x) c.args.writer.now c.add.new.self c.loop-number.number (page_count (length c.args.entries.now)) (omega (arith, c.loop-number-test.true, c.page_count-number-end.ensures)) (c.in_err-add.ensures.same ∙ c.loop-number.invariant)

pub returns-clause-front : goal.returns-clause-front
returns-clause-front c =
    front_of (page_change c.args.at.now c.args.title.now c.args.entries.now) (λ x. Change x) c.args.writer.now c.loop-number.writer c.loop-number.number (page_count (length c.args.entries.now)) (omega (arith, c.loop-number.auto.number-end, c.page_count-number-end.ensures)) c.loop-number.invariant
