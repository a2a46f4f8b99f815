use Rattle.std.proofs.Common.{◌≡◌}
use Rattle.page_store.specs.Sectors.{page_of}
use Rattle.cow_tree.proofs.PathReads.{if_ok_done}
use Rattle.cow_tree.proofs.drafts.load_needed.Goals as goal

pub returns-clause-draft : goal.returns-clause-draft
returns-clause-draft g c = λ keeps edits read pairs d.
    let view = (g.D.Device.state c.args.device.now).disk.view in
    let loaded : page_of view c.args.page ≡ c.load_page.new.bytes = if_ok_done c.load_page.result c.is_err.result _ c.is_err.ensures.value c.if-is_err.false (c.load_page.ensures.page keeps) in
    c.take_needed.ensures.draft view loaded edits read pairs d

pub returns-clause-read : goal.returns-clause-read
returns-clause-read g c = λ keeps.
    let view = (g.D.Device.state c.args.device.now).disk.view in
    let loaded : page_of view c.args.page ≡ c.load_page.new.bytes = if_ok_done c.load_page.result c.is_err.result _ c.is_err.ensures.value c.if-is_err.false (c.load_page.ensures.page keeps) in
    c.take_needed.ensures.read view loaded
