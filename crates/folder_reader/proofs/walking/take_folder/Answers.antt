use Rattle.std.proofs.Common.{◌∙◌, subst, List}
use Rattle.std.specs.Option.{option_map}
use Rattle.folder_import.specs.Folders.{IsImported}
use Rattle.folder_import.specs.declared.found.Found.{Found}
use Rattle.folder_reader.specs.Walked.{IsTakenFrom, reading_of}
use Rattle.folder_reader.proofs.walking.take_folder.Goals as goal

pub returns-clause-taken : goal.returns-clause-taken
returns-clause-taken c =
    let below = c.in_ok-import_folder.field-0.items in
    let reading = reading_of c.deref.result.now (option_map (λ all. all.items) c.in_ok-found.found) in
    let taken : IsTakenFrom c.args.folder.now c.args.top.now c.args.one.now reading c.args.out.now c.import_folder.new.out below = record {
      path = c.deref.ensures.value ∙ c.in_ok-path.ensures;
      found = c.in_ok-found-2.found.items;
      between = c.told.new.out;
      told = c.in_ok-found-2.ensures;
      put = subst (λ (l : List Found). IsImported c.args.top.now c.args.one.now l c.told.new.out c.import_folder.new.out below) c.deref-2.ensures.value c.in_ok-import_folder.ensures;
    } in
    (reading, c.in_ok-found.ensures.noted, taken)
