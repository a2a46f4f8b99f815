use Rattle.tree_nodes.specs.OwnedTrees.{state_of}
use Rattle.cow_tree.proofs.DraftSteps.{needed_alive}
use Rattle.cow_tree.proofs.drafts.read_needed.Goals as goal

pub returns-then-not-lives-clause-draft : goal.returns-then-not-lives-clause-draft
returns-then-not-lives-clause-draft g c = λ keeps edits read pairs d.
    let view = (g.D.Device.state c.args.device.now).disk.view in
    let alive = needed_alive c.args.slot.now view edits read pairs c.args.ledger.now (state_of c.args.tree.now) c.args.key.now c.args.page d c.requires.needed in
    let dead = c.if-not-lives.true in
    let answered = c.lives.ensures in
    cc

pub returns-in-Some-clause-draft : goal.returns-in-Some-clause-draft
returns-in-Some-clause-draft g c = λ keeps edits read pairs d. c.take_needed.ensures.draft (g.D.Device.state c.args.device.now).disk.view (c.in-Some.ensures keeps) edits read pairs d

pub returns-in-Some-clause-read : goal.returns-in-Some-clause-read
returns-in-Some-clause-read g c = λ keeps. c.take_needed.ensures.read (g.D.Device.state c.args.device.now).disk.view (c.in-Some.ensures keeps)
