use Rattle.std.proofs.Common.{ap, sym, ◌∙◌}
use Rattle.host_types.specs.declared.item.Body.TheVariants.{Views}
use Rattle.site_records.proofs.Lengths.{short_views}
use Rattle.site_records.proofs.record_writing.body_of.Goals as goal

pub views_of-requires : goal.views_of-requires
views_of-requires c = short_views c.args.body.now c.in-Views.kind c.as_slice.result.now (c.in-Views.is ∙ ap (Views c.in-Views.kind) (sym c.as_slice.ensures)) c.requires
