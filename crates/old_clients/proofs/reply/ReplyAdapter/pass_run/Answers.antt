use Rattle.std.proofs.Common.{◌≡◌, ◌+◌, ◌++◌, [], ap, ◌∙◌, take, arith, refl}
use Rattle.std.proofs.lemmas.Grind.{common_steps}
use Rattle.old_clients.proofs.Replies.{run_passed}
use Rattle.old_clients.specs.Place.{run_length}
use Rattle.old_clients.proofs.reply.ReplyAdapter.pass_run.Goals as goal

pub returns-clause-given : goal.returns-clause-given
returns-clause-given c =
    let run = c.run_length-run in
    let none : c.args.self.now.ready ≡ [] = grind (arith, common_steps) in
    let given : take (c.args.at + run.result) c.copy_to.new.out ≡ take c.args.at c.args.out.now ++ take run.result (take c.min.result c.args.rest.now) = grind (arith, common_steps) in
    let so_many = run.ensures.run ∙ ap (λ a. run_length a.place (take c.min.result c.args.rest.now)) c.self.view_is in
    run_passed c.args.self.now c.args.rest.now _ c.args.out.now c.copy_to.new.out c.args.at c.min.result run.result none refl so_many run.ensures.within given
