use Rattle.std.proofs.Common.{ap, subst, ◌∙◌, arith}
use Rattle.site_records.specs.Reading.{Gives, entries_at}
use Rattle.site_records.specs.Limits.{are_entries}
use Rattle.site_records.specs.Records.{entries_bytes}
use Rattle.site_records.proofs.Loops.{lacks_for}
use Rattle.site_records.proofs.EntryLaws.{entries_take, entries_found, entries_again}
use Rattle.site_records.proofs.entry_reading.read_entries.Goals as goal

pub returns-clause-found : goal.returns-clause-found
returns-clause-found c = entries_found c.args.bytes.now c.all_entries.result (λ i. omega (arith, c.type_inv.bytes i)) c.all_entries.ensures

pub returns-clause-only : goal.returns-clause-only
returns-clause-only c = λ es fits e. subst (λ f. Gives (λ x. x) c.all_entries.result f) (ap entries_at e ∙ entries_again es fits) c.all_entries.ensures

pub returns-clause-memory : goal.returns-clause-memory
returns-clause-memory c = lacks_for are_entries entries_bytes c.args.bytes.now (entries_at c.args.bytes.now) (λ x found. entries_take c.args.bytes.now x (λ i. omega (arith, c.type_inv.bytes i)) found) c.all_entries.result c.all_entries.ensures
