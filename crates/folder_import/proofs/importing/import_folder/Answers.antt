use Rattle.std.proofs.Common.{◌∙◌, refl}
use Rattle.std.specs.Option.{option_copied}
use Rattle.folder_import.specs.declared.importing.Import.{Import}
use Rattle.folder_import.proofs.Imported.{imported}
use Rattle.folder_import.proofs.importing.import_folder.Goals as goal

pub returns : goal.returns
returns c =
    let start = c.put_documents.new.out in
    let between : Import = record { file = start.file; left_out = c.menu_entries.new.left_out } in
    let titles = c.deref.ensures.value ∙ c.in_ok-titles.ensures in
    imported c.args.top.now c.args.folder.now c.args.found.now c.args.out.now start between c.put_or_tell.new.out (option_copied c.map_in-map.result) c.deref.result.now c.in_ok-entries.field-0.entries.items c.deref-2.result.now c.in_ok-title.title c.in_ok-entries.field-0.below.items
    c.map_in-map.ensures titles c.in_ok-entries.ensures.changes c.in_ok-entries.ensures.told c.in_ok-entries.ensures.entries c.in_ok-entries.ensures.below c.in_ok-title.ensures (c.deref-2.ensures.value ∙ c.in_ok-entries-2.ensures.entries) refl c.in_ok-entries-2.ensures.told c.in_ok-put_or_tell.ensures
