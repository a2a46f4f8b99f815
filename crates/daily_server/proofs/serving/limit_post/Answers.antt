use Rattle.turns.proofs.Runnings.{run_none}
use Rattle.daily_server.proofs.Limiting.{let_through, unlimited}
use Rattle.daily_server.proofs.serving.limit_post.Goals as goal

pub returns-in_default-clause-run : goal.returns-in_default-clause-run
returns-in_default-clause-run g c = run_none _ _ _ _ g.met.S.SiteKeeper.crash_states_represent _ _ _ (unlimited c.args.most c.args.now (c.args.client.now, c.args.posts.now.items) c.in_default.not-Some)

pub returns-else-not-take_post-clause-run : goal.returns-else-not-take_post-clause-run
returns-else-not-take_post-clause-run g c = run_none _ _ _ _ g.met.S.SiteKeeper.crash_states_represent _ _ _
    (let_through c.args.most c.in-Some.most c.args.now c.args.client.now c.args.posts.now.items c.take_post.new.posts.items c.take_post.result c.in-Some.is c.take_post.ensures.may c.if-not-take_post.false c.take_post.ensures.noted)
