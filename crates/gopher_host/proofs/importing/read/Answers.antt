use Rattle.gopher_host.proofs.importing.read.Goals as goal

pub returns-in-Ok-clause-walked : goal.returns-in-Ok-clause-walked
returns-in-Ok-clause-walked c = let walked = c.in-Ok.ensures.walked in (walked.0, walked.1, walked.3, walked.4)
