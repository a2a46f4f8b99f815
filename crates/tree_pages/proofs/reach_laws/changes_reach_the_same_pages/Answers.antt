use Rattle.tree_pages.proofs.ChangesReach.{put_reaches, delete_reaches}
use Rattle.tree_pages.proofs.reach_laws.changes_reach_the_same_pages.Goals as goal

pub returns-clause-put : goal.returns-clause-put
returns-clause-put c = put_reaches

pub returns-clause-delete : goal.returns-clause-delete
returns-clause-delete c = delete_reaches
