use Rattle.std.proofs.Common.{◌≡◌, ap, Err}
use Rattle.change_file.specs.declared.fault.ChangeFileFault.TheVariants.{NotToml, Table}
use Rattle.admin_office.proofs.Steps.{read_well}
use Rattle.admin_office.proofs.hearing.read_file.Goals as goal

pub returns-in-Ok : goal.returns-in-Ok
returns-in-Ok c = read_well c.args.bytes.now c.in-Ok.changes.items _ c.in-Ok.ensures.ok c.take.ensures

pub returns-in-Err : goal.returns-in-Err
returns-in-Err c = (
  Err c.in-Err.fault,
  record {
    ok = tt;
    table = λ k e. let same : c.in-Err.fault ≡ Table k = cc in c.in-Err.ensures.table k (ap (λ f. Err f) same);
    toml = λ e utf8. let same : c.in-Err.fault ≡ NotToml = cc in c.in-Err.ensures.toml (ap (λ f. Err f) same) utf8;
  },
  c.refuse_by.ensures _ c.file_line.ensures,
)
