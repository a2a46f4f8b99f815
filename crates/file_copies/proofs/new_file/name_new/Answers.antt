use Rattle.std.proofs.Common.{◌++◌, ◌∷◌, [], Bool, inl, inr, ap, ◌∙◌, refl}
use Rattle.file_names.specs.NameCalls.{Renamed, Synced}
use Rattle.file_copies.proofs.Notes.{two_more}
use Rattle.file_copies.proofs.new_file.name_new.Goals as goal

pub returns-then-not-rename-clause-failed : goal.returns-then-not-rename-clause-failed
returns-then-not-rename-clause-failed g c = (refl, inl (c.rename.ensures ∙ ap (λ (b : Bool). c.args.names.now.calls ++ Renamed c.args.part.now c.args.new.now b ∷ []) c.if-not-rename.true))

pub returns-then-not-sync_folder-clause-failed : goal.returns-then-not-sync_folder-clause-failed
returns-then-not-sync_folder-clause-failed g c =
    let renamed = c.rename.ensures ∙ ap (λ (b : Bool). c.args.names.now.calls ++ Renamed c.args.part.now c.args.new.now b ∷ []) c.if-not-rename.false in
    let synced = c.sync_folder.ensures ∙ ap (λ (b : Bool). c.rename.new.log.calls ++ Synced c.args.new.now b ∷ []) c.if-not-sync_folder.true in
    (refl, inr (two_more _ _ _ _ _ renamed synced))

pub returns-clause-named : goal.returns-clause-named
returns-clause-named g c =
    let renamed = c.rename.ensures ∙ ap (λ (b : Bool). c.args.names.now.calls ++ Renamed c.args.part.now c.args.new.now b ∷ []) c.if-not-rename.false in
    let synced = c.sync_folder.ensures ∙ ap (λ (b : Bool). c.rename.new.log.calls ++ Synced c.args.new.now b ∷ []) c.if-not-sync_folder.false in
    two_more _ _ _ _ _ renamed synced
