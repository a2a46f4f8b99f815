use Rattle.std.proofs.Common.{◌∙◌, ap, subst, map, List, Bor, ℕ}
use Rattle.mem_site.specs.ValidSites.{AreTyped}
use Rattle.host_types.specs.declared.item.Item.{Item}
use Rattle.mem_site.proofs.WholeSites.{boards_fit, decides_in}
use Rattle.mem_site.proofs.mem_site.MemSite.is_valid.Goals as goal

abbrev seen : List (Bor (List ℕ) × Bor Item) → List (List ℕ × Item)
seen = map (λ e. (e.0.now, e.1.now))

pub all_may_stand-requires : goal.all_may_stand-requires
all_may_stand-requires c = boards_fit c.args.self.now (subst AreTyped (ap seen c.deref.ensures.value ∙ c.in_ok-entries.ensures) c.valid_names.ensures)

pub returns : goal.returns
returns c =
    decides_in c.all_may_stand.result c.args.self.now (seen c.deref-2.result.now) c.in_order.ensures c.valid_address.ensures.host c.valid_address.ensures.port c.valid_address.ensures.admin
    (c.has_front.ensures.0 c.if-not-has_front.false) (ap seen c.deref-2.ensures.value ∙ c.in_ok-entries.ensures) c.all_may_stand.ensures
