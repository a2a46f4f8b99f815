use Rattle.std.proofs.Common.{◌∙◌}
use Rattle.file_device.proofs.Shown.{as_many}
use Rattle.file_device.proofs.Pages.{page_shown}
use Rattle.file_device.proofs.file_device.FileDeviceDevice.page.Goals as goal

pub returns : goal.returns
returns c =
    let f = c.self.inside in
    let shown = c.deref.ensures.value ∙ c.self.invariant.shown in
    record { lends = rw (← c.self.view_is) (page_shown (λ y. y.now) c.page_in.result f.file.made.calls c.deref.result.now c.args.n shown (as_many f.file.made.calls c.deref.result.now shown) c.page_in.ensures) }
