-- A plan as a key-value store makes it.
use Rattle.std.proofs.Common.{◌≡◌, ℕ, List, [], ◌∷◌, Option, Some, None, refl, sym, ◌∙◌}
use Rattle.host_types.specs.Site.{Site}
use Rattle.host_types.specs.declared.item.Item.{Item}
use Rattle.page_store.specs.StoreState.{StoreState}
use Rattle.page_store.specs.declared.banner.Banner.{Banner}
use Rattle.change_plan.specs.Plans as plans
use Rattle.change_plan.specs.Replacements.{replaced_at, replaced, all_replaced}
use Rattle.change_plan.specs.declared.plan.Plan.{Plan}
use Rattle.change_plan.specs.declared.replacement.Replacement.{Replacement}
use Rattle.site_store.specs.Represented.{RepresentedBy}
use Rattle.site_store.specs.Planned.{named, banner_after}

one_host : (s : Site) (q : List ℕ) (o : Option Item) → (replaced_at s q o).host ≡ s.host
one_host s q None = refl
one_host s q (Some item) = refl

one_port : (s : Site) (q : List ℕ) (o : Option Item) → (replaced_at s q o).port ≡ s.port
one_port s q None = refl
one_port s q (Some item) = refl

one_admin : (s : Site) (q : List ℕ) (o : Option Item) → (replaced_at s q o).admin ≡ s.admin
one_admin s q None = refl
one_admin s q (Some item) = refl

-- replacements don't change under which name clients find the site
all_host : (l : List Replacement) (s : Site) → (all_replaced s l).host ≡ s.host
all_host [] s = refl
all_host (x ∷ l) s = all_host l (replaced s x) ∙ one_host s x.selector x.after

all_port : (l : List Replacement) (s : Site) → (all_replaced s l).port ≡ s.port
all_port [] s = refl
all_port (x ∷ l) s = all_port l (replaced s x) ∙ one_port s x.selector x.after

all_admin : (l : List Replacement) (s : Site) → (all_replaced s l).admin ≡ s.admin
all_admin [] s = refl
all_admin (x ∷ l) s = all_admin l (replaced s x) ∙ one_admin s x.selector x.after

-- a site is named by the banner as by the plan
same_name : (t : Site) (b : Banner) (host : Option (List ℕ × ℕ)) (admin : Option (List ℕ)) → b.host ≡ t.host → b.port ≡ t.port → b.admin ≡ t.admin → plans.with_admin (plans.with_host t host) admin ≡ named t (banner_after b host admin)
same_name t b None None h p a = λ i. record t { host = sym h i; port = sym p i; admin = sym a i }
same_name t b (Some name) None h p a = λ i. record t { host = name.0; port = name.1; admin = sym a i }
same_name t b None (Some admin) h p a = λ i. record t { host = sym h i; port = sym p i; admin = admin }
same_name t b (Some name) (Some admin) h p a = refl

-- what a plan makes is named by the banner after it
pub planned_named : (h : StoreState) (s : Site) (p : Plan) → RepresentedBy h s → plans.planned s p ≡ named (all_replaced s p.replacements.items) (banner_after h.banner p.host p.admin)
planned_named h s p kept =
    let l = p.replacements.items in
    same_name (all_replaced s l) h.banner p.host p.admin (kept.host ∙ sym (all_host l s)) (kept.port ∙ sym (all_port l s)) (kept.admin ∙ sym (all_admin l s))
