use Rattle.std.proofs.Common.{◌≡◌, ◌++◌, take, string_bytes}
use Rattle.folder_import.specs.Folders.{documents, folders, listing, lines_told}
use Rattle.folder_import.proofs.importing.put_documents.Given as goal

-- what was found so far
abbrev pub invariant-loop-one : goal.invariant-loop-one
invariant-loop-one l =
    record {
      changes : l.out.file ≡ l.fn.out.file ++ documents l.titles l.folder (take l.one-index l.found);
      told : string_bytes l.out.left_out ≡ string_bytes l.fn.out.left_out ++ lines_told l.titles l.folder (take l.one-index l.found);
      entries : l.listing.entries.items ≡ listing l.titles l.folder (take l.one-index l.found);
      below : l.listing.below.items ≡ folders l.titles l.folder (take l.one-index l.found);
    }
