use Rattle.std.proofs.Common.{ap, refl, ◌∙◌, ◌++◌, ◌∷◌, []}
use Rattle.admin_office.specs.Arrivals.{arrival_of}
use Rattle.admin_office.proofs.Steps.{received}
use Rattle.admin_office.proofs.office.AdminOffice.receive.Goals as goal

pub returns-in-Some-clause-received : goal.returns-in-Some-clause-received
returns-in-Some-clause-received g c = received g.W.ReadyWire.calls g.G.AdminGate.answers c.args.self.now.knocks c.args.now c.args.self.now.gate _ c.new.result c.if-not-self.false
    (c.next.ensures.answers ∙ ap (λ r. g.G.AdminGate.answers c.args.self.now.gate ++ arrival_of r ∷ []) c.in-Some.is) c.new.ensures refl c.if-not-self.false
