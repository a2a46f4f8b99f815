use Rattle.std.proofs.Common.{◌≤◌, ◌<◌, ◌+◌, ◌*◌, ℕ, List, length, get_or, sym, subst, arith}
use Rattle.page_store.specs.declared.commit.NewPage.{NewPage}
use Rattle.filled_images.proofs.filled_image.FilledImage.write_all.Goals as goal

pub write_pages-requires : goal.write_pages-requires
write_pages-requires g c =
    let size = c.in_ok-write_page.ensures.sectors.outcome.same.size in
    let room = c.requires in
    subst (λ (l : List NewPage). (k : ℕ) (d : NewPage) → k < length l → 8 * (get_or l k d).number + 8 ≤ (g.D.Device.state c.write_page.new.device).size) (sym c.deref.ensures.value)
    (λ k d lt. let p = c.args.self.now.inside k d lt in let last = p.1 in omega (arith, last, room, size))
