use Rattle.folder_import.proofs.Takes.{taken}
use Rattle.folder_import.proofs.laws.documents_are_taken.Goals as goal

pub returns : goal.returns
returns c = taken
