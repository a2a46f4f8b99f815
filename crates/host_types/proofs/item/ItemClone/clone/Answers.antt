use Rattle.host_types.proofs.SameBodies.{same_body}
use Rattle.host_types.proofs.item.ItemClone.clone.Goals as goal

pub returns : goal.returns
returns c = record {
  cases = λ i. record {
    title = c.in_ok-clone.ensures.cases i;
    stamp = c.args.self.now.stamp;
    until = c.args.self.now.until;
    summary = c.in_ok-clone-2.ensures.cases i;
    body = same_body c.args.self.now.body c.in_ok-clone-3.field-0 c.in_ok-clone-3.ensures.cases i;
  };
}
