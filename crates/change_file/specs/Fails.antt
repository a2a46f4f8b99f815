-- Why a part of a file is not read: it has another form, or memory is lacking for what has the form.
use Rattle.std.specs.Prelude.{◌≡◌, Option, None, IsSome}
use Rattle.change_file.specs.declared.fault.FormFault.{FormFault}
use Rattle.change_file.specs.declared.fault.FormFault.TheVariants.{Form, Memory}

-- Of what takes no memory only its form is told.
abbrev pub HasNoForm : {A : Type 0} → Option A → FormFault → Type 0
HasNoForm read e = (e ≡ Form) × (read ≡ None)

abbrev pub FormFails : {A : Type 0} → Option A → FormFault → Type 0
FormFails read Form = read ≡ None
FormFails read Memory = IsSome read
