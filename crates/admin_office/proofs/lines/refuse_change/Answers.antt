use Rattle.admin_office.proofs.lines.refuse_change.Goals as goal

pub returns : goal.returns
returns g c = c.refuse_by.ensures _ c.text.ensures
