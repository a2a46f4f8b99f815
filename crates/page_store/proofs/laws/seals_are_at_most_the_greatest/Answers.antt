use Rattle.page_store.proofs.OtherHalfCommits.{greatest_ge}
use Rattle.page_store.proofs.laws.seals_are_at_most_the_greatest.Goals as goal

pub returns : goal.returns
returns c = λ image n seal lt is. greatest_ge image 16 n seal lt is
