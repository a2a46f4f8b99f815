-- What represents the site between two calls.
use Rattle.std.specs.Prelude.{List, IsTrue}
use Rattle.page_store.specs.Pages.{Pair}
use Rattle.page_store.specs.StoreState.{StoreState}
use Rattle.page_store.specs.declared.banner.Banner.{Banner}
use Rattle.site_store.specs.Represented.{Represents, HasSite, site_of, site_kept}

pub crash_states_represent_site : {L : Type 0} → (has_content : L → List Pair → Banner → Type 0) (h : StoreState) (keeps : HasSite h) (c : L) → IsTrue h.honest → has_content c h.pairs h.banner → Represents has_content c (site_of h keeps)
crash_states_represent_site has_content h keeps c honest content = (h.pairs, h.banner, content, site_kept h keeps honest)
