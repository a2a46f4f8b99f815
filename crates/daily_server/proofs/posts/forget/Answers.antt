use Rattle.std.proofs.Common.{rules}
use Rattle.arrayvec.proofs.ArrayVecLemmas.{filter-from_retain}
use Rattle.daily_server.proofs.posts.forget.Goals as goal

pub returns-clause-recent : goal.returns-clause-recent
returns-clause-recent c = filter-from_retain _ _ _ (λ x b f' y called. search rules) _ _ c.retain.ensures.filtered
