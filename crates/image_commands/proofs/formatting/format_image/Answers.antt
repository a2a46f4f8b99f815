use Rattle.std.proofs.Common.{◌≤◌, List, refl, sym, ap, subst, ◌∙◌, arith}
use Rattle.page_store.specs.Pages.{Pair}
use Rattle.page_store.specs.Batch.{is_map}
use Rattle.page_store.specs.Encoding.{pages_needed}
use Rattle.image_commands.proofs.FirstLeaves.{one_leaf}
use Rattle.image_commands.proofs.FormattedImages.{banner_of, fresh_shows, is_formatted, done_more, failed_more}
use Rattle.image_commands.proofs.formatting.format_image.Goals as goal

pub returns-clause-made : goal.returns-clause-made
returns-clause-made g c = λ honest.
    let names = c.args.names in
    let all = c.deref.ensures.value ∙ c.in_ok-pairs.ensures.pairs names.host names.admin c.args.port in
    is_formatted c.format.result (g.D.Device.state c.format.new.device).disk.view c.args.pages c.deref.result.now (banner_of names.host c.args.port names.admin) _ (done_more c.format.result c.format.ensures.made (λ m. m.content honest)) (done_more c.format.result c.format.ensures.made (λ m. m.first honest)) refl
    (fresh_shows c.deref.result.now names.host c.args.port names.admin names.title c.args.now all c.as_bytes.ensures.length c.as_bytes.ensures.valid c.requires.port (omega (arith, c.ranges.port.fits))
    c.as_bytes-2.ensures.length c.as_bytes-2.ensures.valid c.as_bytes-3.ensures.length c.as_bytes-3.ensures.valid (omega (arith, c.seconds.ensures.value, c.seconds.ensures.range)))

pub format-requires-clause-one_page : goal.format-requires-clause-one_page
format-requires-clause-one_page g c =
    let same = c.deref.ensures.value in
    one_leaf c.deref.result.now (ap is_map same ∙ c.in_ok-pairs.ensures.map) (subst (λ (l : List Pair). pages_needed l ≤ 1) (sym same) c.in_ok-pairs.ensures.one_page)

pub returns-clause-sure : goal.returns-clause-sure
returns-clause-sure g c = λ honest. done_more c.format.result c.format.ensures.made (λ m. m.sure honest)

pub returns-clause-fits : goal.returns-clause-fits
returns-clause-fits g c = done_more c.format.result c.format.ensures.made (λ m. m.fits)

pub returns-clause-counts : goal.returns-clause-counts
returns-clause-counts g c = done_more c.format.result c.format.ensures.made (λ m. m.counts)

pub returns-clause-fault : goal.returns-clause-fault
returns-clause-fault g c = failed_more c.format.result c.format.ensures.fault (λ e f. f.cause)

pub returns-clause-unwritten : goal.returns-clause-unwritten
returns-clause-unwritten g c = failed_more c.format.result c.format.ensures.fault (λ e f. f.unwritten)
