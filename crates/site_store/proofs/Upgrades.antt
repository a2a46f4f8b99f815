-- What a store of version 1 holds once it is raised.
use Rattle.std.proofs.Common.{◌≡◌, ◌⊎◌, ◌<◌, ◌≤◌, ◌+◌, ℕ, Bool, true, false, cond, List, [], ◌∷◌, ◌++◌, length, map, drop, zero, Option, Some, None, inl, inr, refl, sym, ap, subst, ◌∙◌, suc, arith}
use Rattle.std.specs.Prelude.{IsTrue, ◌==◌, IfSome, option_to_list}
use Rattle.std.specs.List.{AllByRecursion, list_all}
use Rattle.std.specs.Coded.{×_prop}
use Rattle.std.specs.Option.{option_map}
use Rattle.std.specs.Ordering.{is_lt}
use Rattle.std.proofs.Common.{get_or}
use Rattle.std.specs.BTreeMap.{is_at}
use Rattle.std.specs.Map.{lookup}
use Rattle.std.specs.FinMap.{is_sorted}
use Rattle.std.specs.FinMap.Entries.{below_all}
use Rattle.std.proofs.Props.{props}
use Rattle.std.proofs.lemmas.Bool.{and_parts, eqb-true}
use Rattle.std.proofs.lemmas.List.{append-nil, append_assoc, drop_more}
use mathlib.Core.Logic.{∥∥₁_elim}
use Rattle.host_types.specs.Site.{Site, IsSite, byte_cmp, item_at}
use Rattle.host_types.specs.SiteLaws.{same_pairs}
use Rattle.host_types.specs.declared.item.Item.{Item}
use Rattle.page_store.specs.Batch.{updated, is_batch, is_edit, edit_key}
use Rattle.page_store.specs.Keys.{rises}
use Rattle.page_store.specs.Pages.{Pair}
use Rattle.page_store.specs.declared.banner.Banner.{Banner}
use Rattle.page_store.specs.declared.edit.Edit.{Edit}
use Rattle.site_pairs.specs.Edits.{Edits, batch_of}
use Rattle.site_records.specs.Keys.{item_key}
use Rattle.site_records.specs.Records.{item_bytes}
use Rattle.site_records.specs.Layout.{Pairs, layout, layout_v1, value_at, is_record_key}
use Rattle.site_records.specs.LayoutLaws.{is_at-Decides, record_in-layout, is_sorted-layout}
use Rattle.site_store.proofs.EditsMakeLayouts.{rises_from}
use Rattle.site_store.proofs.RaisedPairs.{all_first, first_layout, raises, raised_once, edits_sorted, batch_makes}
use Rattle.site_store.specs.Opening.{IsSitePairsFault}
use Rattle.site_store.specs.Represented.{PairsShowSite}
use Rattle.site_store.specs.declared.fault.SiteOpenFault.{SiteOpenFault}
use Rattle.site_store.specs.declared.fault.SiteOpenFault.TheVariants.{BadRecord, Keeper, Memory}
use Rattle.site_store.specs.Upgrading.{is_first, IsRaisedPair, AreRaised, ShowsFirst, raised_banner, record_edits, upgrade_batch, IsUpgradeOf, IsNotRaised}

-- ---- the site of some pairs, before and after

known_prop : (es : List (List ℕ × Item)) → IsProp (AllByRecursion (λ e. IsTrue (is_first e.1)) es)
known_prop [] = hlevel props
known_prop (e ∷ es) = let first : IsProp (IsTrue (is_first e.1)) = hlevel props in ×_prop first (known_prop es)

-- Pairs whose raised ones are the layout of a site represent it in version 1.
pub shown_first : (pairs raised : List Pair) (banner : Banner) (s : Site) → banner.version ≡ 1 → AreRaised pairs raised → PairsShowSite raised (raised_banner banner) s → ShowsFirst pairs banner s
shown_first pairs raised banner s version are shown = record {
  valid = shown.valid;
  known = ∥∥₁_elim shown.valid (known_prop s.items) (λ site. all_first s pairs raised site are shown.all);
  all = first_layout pairs raised s are shown.all;
  host = shown.host;
  port = shown.port;
  admin = shown.admin;
  version = version;
}

raised_layout : (pairs raised : List Pair) (banner : Banner) (s : Site) → AreRaised pairs raised → ShowsFirst pairs banner s → raised ≡ layout s
raised_layout pairs raised banner s are first =
    let set : IsProp (raised ≡ layout s) = hlevel props in
    ∥∥₁_elim first.valid set (λ site. raised_once pairs raised (layout s) are (subst (λ (ps : Pairs). AreRaised ps (layout s)) (sym first.all) (raises s site first.known)))

-- and the other way round
pub shown_raised : (pairs raised : List Pair) (banner : Banner) (s : Site) → AreRaised pairs raised → ShowsFirst pairs banner s → PairsShowSite raised (raised_banner banner) s
shown_raised pairs raised banner s are first = record {
  valid = first.valid;
  all = raised_layout pairs raised banner s are first;
  host = first.host;
  port = first.port;
  admin = first.admin;
  version = refl;
}

-- pairs of which none are raised represent no site in version 1
pub none_first : (pairs : List Pair) (banner : Banner) → ((all : List Pair) → AreRaised pairs all → ⊥) → (s : Site) → ShowsFirst pairs banner s → ⊥
none_first pairs banner none s first =
    let empty : IsProp ⊥ = hlevel props in
    ∥∥₁_elim first.valid empty (λ site. none (layout s) (subst (λ (ps : Pairs). AreRaised ps (layout s)) (sym first.all) (raises s site first.known)))

-- ---- the batch

pub upgrade_of : (pairs raised : List Pair) (banner : Banner) (batch : List Edit) (s : Site) → banner.version ≡ 1 → AreRaised pairs raised → PairsShowSite raised (raised_banner banner) s → batch ≡ batch_of (record_edits raised) → IsUpgradeOf pairs banner batch
upgrade_of pairs raised banner batch s version are shown is = (s, shown_first pairs raised banner s version are shown, is ∙ ap (λ (ps : Pairs). batch_of (record_edits ps)) shown.all)

pub is_batch_of_records : (raised : List Pair) (banner : Banner) (batch : List Edit) (s : Site) → PairsShowSite raised banner s → batch ≡ batch_of (record_edits raised) → IsTrue (list_all is_edit batch) → IsTrue (is_batch batch)
is_batch_of_records raised banner batch s shown is sizes =
    let sorted : is_sorted byte_cmp raised ≡ true = ap (is_sorted byte_cmp) shown.all ∙ is_sorted-layout s in
    rw (ap (λ (b : List Edit). rises (map edit_key b)) is ∙ rises_from (record_edits raised) (edits_sorted raised sorted), sizes) refl

-- It makes the layout.
pub makes_layout : (pairs : List Pair) (banner : Banner) (s : Site) → ShowsFirst pairs banner s → updated pairs (upgrade_batch s) ≡ layout s
makes_layout pairs banner s first =
    let set : IsProp (updated pairs (upgrade_batch s) ≡ layout s) = hlevel props in
    ∥∥₁_elim first.valid set (λ site. ap (λ (ps : Pairs). updated ps (upgrade_batch s)) first.all ∙ batch_makes (layout_v1 s) (layout s) (raises s site first.known) (is_sorted-layout s))

-- ---- one edit for each item

abbrev records_of : Pairs → Pairs
records_of [] = []
records_of (p ∷ ps) = cond (is_record_key p.0) (p ∷ records_of ps) (records_of ps)

as_many : (ps : Pairs) → length (record_edits ps) ≡ length (records_of ps)
as_many [] = refl
as_many (p ∷ ps) = elim (is_record_key p.0) as (λ b. length (cond b ((p.0, Some p.1) ∷ record_edits ps) (record_edits ps)) ≡ length (cond b (p ∷ records_of ps) (records_of ps))) [
  | true ↦ ap suc (as_many ps)
  | false ↦ as_many ps
]

below_records : (k : List ℕ) (ps : Pairs) → below_all byte_cmp k ps ≡ true → below_all byte_cmp k (records_of ps) ≡ true
below_records k [] h = refl
below_records k (p ∷ ps) h =
    let parts = and_parts (is_lt (byte_cmp k p.0)) (below_all byte_cmp k ps) h in
    let rest = below_records k ps parts.1 in
    elim (is_record_key p.0) as (λ b. below_all byte_cmp k (cond b (p ∷ records_of ps) (records_of ps)) ≡ true) [
      | true ↦ rw (parts.0, rest) refl
      | false ↦ rest
    ]

sorted_records : (ps : Pairs) → is_sorted byte_cmp ps ≡ true → is_sorted byte_cmp (records_of ps) ≡ true
sorted_records [] h = refl
sorted_records (p ∷ ps) h =
    let parts = and_parts (below_all byte_cmp p.0 ps) (is_sorted byte_cmp ps) h in
    let rest = sorted_records ps parts.1 in
    elim (is_record_key p.0) as (λ b. is_sorted byte_cmp (cond b (p ∷ records_of ps) (records_of ps)) ≡ true) [
      | true ↦ rw (below_records p.0 ps parts.0, rest) refl
      | false ↦ rest
    ]

-- at the key of a record stands what stood there
record_there : (ps : Pairs) (q : List ℕ) → is_record_key q ≡ true → value_at (records_of ps) q ≡ value_at ps q
record_there [] q is = refl
record_there (p ∷ ps) q is =
    let rest = record_there ps q is in
    elim (is_record_key p.0) as (λ b. is_record_key p.0 ≡ b → value_at (cond b (p ∷ records_of ps) (records_of ps)) q ≡ cond (is_at (byte_cmp q) p.0) (Some p.1) (value_at ps q)) [
      | true ↦ λ t. ap (λ (o : Option (List ℕ)). cond (is_at (byte_cmp q) p.0) (Some p.1) o) rest
      | false ↦ λ t. elim (is_at (byte_cmp q) p.0) as (λ c. is_at (byte_cmp q) p.0 ≡ c → value_at (records_of ps) q ≡ cond c (Some p.1) (value_at ps q)) [
        | true ↦ λ u. absurd (let clash : true ≡ false = sym is ∙ ap is_record_key ((is_at-Decides q p.0).0 u) ∙ t in cc clash)
        | false ↦ λ u. rest
      ] refl
    ] refl

-- and at any other nothing
no_record_there : (ps : Pairs) (q : List ℕ) → is_record_key q ≡ false → value_at (records_of ps) q ≡ None
no_record_there [] q other = refl
no_record_there (p ∷ ps) q other =
    let rest = no_record_there ps q other in
    elim (is_record_key p.0) as (λ b. is_record_key p.0 ≡ b → value_at (cond b (p ∷ records_of ps) (records_of ps)) q ≡ None) [
      | true ↦ λ t. elim (is_at (byte_cmp q) p.0) as (λ c. is_at (byte_cmp q) p.0 ≡ c → cond c (Some p.1) (value_at (records_of ps) q) ≡ None) [
        | true ↦ λ u. absurd (let clash : true ≡ false = sym t ∙ ap is_record_key (sym ((is_at-Decides q p.0).0 u)) ∙ other in cc clash)
        | false ↦ λ u. rest
      ] refl
      | false ↦ λ t. rest
    ] refl

-- the records of some items
abbrev item_records : List (List ℕ × Item) → Pairs
item_records es = map (λ e. (item_key e.0, item_bytes e.1)) es

below_items : (k : List ℕ) (es : List (List ℕ × Item)) → below_all byte_cmp k es ≡ true → below_all byte_cmp (item_key k) (item_records es) ≡ true
below_items k [] h = refl
below_items k (e ∷ es) h =
    let parts = and_parts (is_lt (byte_cmp k e.0)) (below_all byte_cmp k es) h in
    rw (parts.0, below_items k es parts.1) refl

sorted_items : (es : List (List ℕ × Item)) → is_sorted byte_cmp es ≡ true → is_sorted byte_cmp (item_records es) ≡ true
sorted_items [] h = refl
sorted_items (e ∷ es) h =
    let parts = and_parts (below_all byte_cmp e.0 es) (is_sorted byte_cmp es) h in
    rw (below_items e.0 es parts.0, sorted_items es parts.1) refl

item_there : (es : List (List ℕ × Item)) (selector : List ℕ) → value_at (item_records es) (item_key selector) ≡ option_map item_bytes (lookup (is_at (byte_cmp selector)) es)
item_there [] selector = refl
item_there (e ∷ es) selector =
    elim (is_at (byte_cmp selector) e.0) as (λ b. cond b (Some (item_bytes e.1)) (value_at (item_records es) (item_key selector)) ≡ option_map item_bytes (cond b (Some e.1) (lookup (is_at (byte_cmp selector)) es))) [
      | true ↦ refl
      | false ↦ item_there es selector
    ]

no_item_there : (es : List (List ℕ × Item)) (q : List ℕ) → is_record_key q ≡ false → value_at (item_records es) q ≡ None
no_item_there [] q other = refl
no_item_there (e ∷ es) q other =
    elim (is_at (byte_cmp q) (item_key e.0)) as (λ c. is_at (byte_cmp q) (item_key e.0) ≡ c → cond c (Some (item_bytes e.1)) (value_at (item_records es) q) ≡ None) [
      | true ↦ λ u. absurd (let clash : true ≡ false = ap is_record_key (sym ((is_at-Decides q (item_key e.0)).0 u)) ∙ other in cc clash)
      | false ↦ λ u. no_item_there es q other
    ] refl

same_records : (s : Site) (q : List ℕ) → IsSite s → value_at (records_of (layout s)) q ≡ value_at (item_records s.items) q
same_records s [] site = no_record_there (layout s) [] refl ∙ sym (no_item_there s.items [] refl)
same_records s (tag ∷ selector) site =
    elim (tag == 73) as (λ b. (tag == 73) ≡ b → value_at (records_of (layout s)) (tag ∷ selector) ≡ value_at (item_records s.items) (tag ∷ selector)) [
      | true ↦ λ t.
          let is : tag ≡ 73 = eqb-true tag 73 t in
          record_there (layout s) (tag ∷ selector) t
          ∙ subst (λ (n : ℕ). value_at (layout s) (n ∷ selector) ≡ value_at (item_records s.items) (n ∷ selector)) (sym is) (record_in-layout s selector site.sorted ∙ sym (item_there s.items selector))
      | false ↦ λ t. no_record_there (layout s) (tag ∷ selector) t ∙ sym (no_item_there s.items (tag ∷ selector) t)
    ] refl

map_length : (es : List (List ℕ × Item)) → length (item_records es) ≡ length es
map_length [] = refl
map_length (e ∷ es) = ap suc (map_length es)

batch_length : (ps : Pairs) → length (batch_of (record_edits ps)) ≡ length (record_edits ps)
batch_length ps = edits_length (record_edits ps)
  where
    edits_length : (es : Edits) → length (batch_of es) ≡ length es
    edits_length [] = refl
    edits_length (e ∷ es) = ap suc (edits_length es)

-- As many edits as items.
pub one_for_each : (s : Site) → ∥ IsSite s ∥₁ → length (upgrade_batch s) ≡ length s.items
one_for_each s valid =
    let set : IsProp (length (upgrade_batch s) ≡ length s.items) = hlevel props in
    ∥∥₁_elim valid set (λ site.
    let same : records_of (layout s) ≡ item_records s.items = same_pairs (records_of (layout s)) (item_records s.items) (sorted_records (layout s) (is_sorted-layout s)) (sorted_items s.items site.sorted) (λ q. same_records s q site) in
    batch_length (layout s) ∙ as_many (layout s) ∙ ap length same ∙ map_length s.items)

-- ---- pairs that are raised one after another

pub raised_more : (ps qs : Pairs) (p q : Pair) (rest : Pairs) → ((more : Pairs) → AreRaised (p ∷ rest) more → AreRaised ps (qs ++ more)) → IsRaisedPair p q → (more : Pairs) → AreRaised rest more → AreRaised ps ((qs ++ q ∷ []) ++ more)
raised_more ps qs p q rest so_far one more are = subst (λ (l : Pairs). AreRaised ps l) (sym (append_assoc qs (q ∷ []) more)) (so_far (q ∷ more) (one, are))

pub raised_all : (ps qs rest : Pairs) → rest ≡ [] → ((more : Pairs) → AreRaised rest more → AreRaised ps (qs ++ more)) → AreRaised ps qs
raised_all ps qs rest none so_far = subst (λ (l : Pairs). AreRaised ps l) (append-nil qs) (so_far [] (subst (λ (l : Pairs). AreRaised l []) (sym none) tt))

drop_raised : (n : ℕ) (ps all : Pairs) → AreRaised ps all → AreRaised (drop n ps) (drop n all)
drop_raised zero ps all are = are
drop_raised (suc n) [] [] are = tt
drop_raised (suc n) [] (q ∷ all) are = absurd are
drop_raised (suc n) (p ∷ ps) [] are = absurd are
drop_raised (suc n) (p ∷ ps) (q ∷ all) are = drop_raised n ps all are.1

first_raised : (p : Pair) (rest all : Pairs) → AreRaised (p ∷ rest) all → (q : Pair) × IsRaisedPair p q
first_raised p rest [] are = absurd are
first_raised p rest (q ∷ all) are = (q, are.0)

-- where one is not raised, all are not
pub not_all : (fault : SiteOpenFault) (ps : Pairs) (n : ℕ) (p : Pair) (rest : Pairs) → drop n ps ≡ p ∷ rest → IsNotRaised (IsRaisedPair p) fault → IsNotRaised (AreRaised ps) fault
not_all BadRecord ps n p rest parts none = λ all are. let found = first_raised p rest (drop n all) (subst (λ (l : Pairs). AreRaised l (drop n all)) parts (drop_raised n ps all are)) in none found.0 found.1
not_all (Keeper fault) ps n p rest parts none = absurd none
not_all Memory ps n p rest parts none = tt

-- the pair in hand, and those behind it
pub here : (ps : Pairs) (n : ℕ) (p : Pair) → n < length ps → p ≡ get_or ps n p → drop n ps ≡ p ∷ drop (n + 1) ps
here ps n p within is = drop_more ps n p within ∙ ap (λ (x : Pair). x ∷ drop (n + 1) ps) (sym is)

-- ---- the edits of records one after another

first_edit : (p : Pair) (ps : Pairs) → batch_of (record_edits (p ∷ ps)) ≡ batch_of (record_edits (p ∷ [])) ++ batch_of (record_edits ps)
first_edit p ps = elim (is_record_key p.0) as (λ b. batch_of (cond b ((p.0, Some p.1) ∷ record_edits ps) (record_edits ps)) ≡ batch_of (cond b ((p.0, Some p.1) ∷ []) []) ++ batch_of (record_edits ps)) [
  | true ↦ refl
  | false ↦ refl
]

pub edits_on : (rest ps : Pairs) (p : Pair) (batch more all new : List Edit) → rest ≡ p ∷ ps → more ≡ batch_of (record_edits (p ∷ [])) → new ≡ batch ++ more → batch ++ batch_of (record_edits rest) ≡ all → new ++ batch_of (record_edits ps) ≡ all
edits_on rest ps p batch more all new here_is more_is new_is so_far =
    ap (λ (l : List Edit). l ++ batch_of (record_edits ps)) (new_is ∙ ap (λ (l : List Edit). batch ++ l) more_is)
    ∙ append_assoc batch (batch_of (record_edits (p ∷ []))) (batch_of (record_edits ps))
    ∙ ap (λ (l : List Edit). batch ++ l) (sym (first_edit p ps))
    ∙ ap (λ (l : Pairs). batch ++ batch_of (record_edits l)) (sym here_is)
    ∙ so_far

pub sizes_on : (batch new : List Edit) (edit : Option Edit) → IsTrue (list_all is_edit batch) → IfSome edit (λ e. IsTrue (is_edit e)) → new ≡ batch ++ option_to_list edit → IsTrue (list_all is_edit new)
sizes_on batch new edit sizes size is = subst (λ (l : List Edit). IsTrue (list_all is_edit l)) (sym is) (both batch edit sizes size)
  where
    both : (batch : List Edit) (edit : Option Edit) → IsTrue (list_all is_edit batch) → IfSome edit (λ e. IsTrue (is_edit e)) → IsTrue (list_all is_edit (batch ++ option_to_list edit))
    both [] None sizes size = refl
    both [] (Some e) sizes size = rw size refl
    both (b ∷ batch) edit sizes size =
        let parts = and_parts (is_edit b) (list_all is_edit batch) sizes in
        rw (parts.0, both batch edit parts.1 size) refl

pub record_key_long : (key : List ℕ) → is_record_key key ≡ true → 1 ≤ length key
record_key_long [] is = absurd (cc is)
record_key_long (b ∷ key) is = omega arith

pub edits_end : (ps : Pairs) (batch all : List Edit) → ps ≡ [] → batch ++ batch_of (record_edits ps) ≡ all → batch ≡ all
edits_end ps batch all none is = sym (append-nil batch) ∙ ap (λ (l : Pairs). batch ++ batch_of (record_edits l)) (sym none) ∙ is

pub ended : (ps : Pairs) (n : ℕ) → length ps ≤ n → drop n ps ≡ []
ended [] zero h = refl
ended [] (suc n) h = refl
ended (p ∷ ps) zero h = absurd (omega (arith, h))
ended (p ∷ ps) (suc n) h = ended ps n (omega (arith, h))

-- ---- the batch of pairs that were read

-- pairs that can't be raised represent no site in version 1
pub not_raised : (fault : SiteOpenFault) (pairs : List Pair) (banner : Banner) → IsNotRaised (AreRaised pairs) fault → IsNotRaised (ShowsFirst pairs banner) fault
not_raised BadRecord pairs banner none = none_first pairs banner none
not_raised (Keeper fault) pairs banner none = absurd none
not_raised Memory pairs banner none = tt

-- nor do those whose raised ones represent none
pub not_shown : (fault : SiteOpenFault) (pairs raised seen : List Pair) (banner under : Banner) → AreRaised pairs raised → seen ≡ raised → under ≡ raised_banner banner → IsSitePairsFault seen under fault → IsNotRaised (ShowsFirst pairs banner) fault
not_shown BadRecord pairs raised seen banner under are same is none = λ s first. none s (subst (λ (l : List Pair). PairsShowSite l under s) (sym same) (subst (λ (b : Banner). PairsShowSite raised b s) (sym is) (shown_raised pairs raised banner s are first)))
not_shown (Keeper fault) pairs raised seen banner under are same is none = absurd none
not_shown Memory pairs raised seen banner under are same is none = tt

shown_so : (raised seen : List Pair) (banner under : Banner) (s : Site) → seen ≡ raised → under ≡ raised_banner banner → PairsShowSite seen under s → PairsShowSite raised (raised_banner banner) s
shown_so raised seen banner under s same is shown = subst (λ (b : Banner). PairsShowSite raised b s) is (subst (λ (l : List Pair). PairsShowSite l under s) same shown)

pub upgrade_found : (pairs raised seen again : List Pair) (banner under : Banner) (batch : List Edit) → banner.version ≡ 1 → AreRaised pairs raised → seen ≡ raised → again ≡ raised → under ≡ raised_banner banner → (s : Site) × PairsShowSite seen under s
    → batch ≡ batch_of (record_edits again) → IsUpgradeOf pairs banner batch
upgrade_found pairs raised seen again banner under batch version are same more is site edits =
    upgrade_of pairs raised banner batch site.0 version are (shown_so raised seen banner under site.0 same is site.1) (edits ∙ ap (λ (l : Pairs). batch_of (record_edits l)) more)

pub batch_found : (raised seen again : List Pair) (banner under : Banner) (batch : List Edit) → seen ≡ raised → again ≡ raised → under ≡ raised_banner banner → (s : Site) × PairsShowSite seen under s → batch ≡ batch_of (record_edits again) → IsTrue (list_all is_edit batch) → IsTrue (is_batch batch)
batch_found raised seen again banner under batch same more is site edits sizes =
    is_batch_of_records raised (raised_banner banner) batch site.0 (shown_so raised seen banner under site.0 same is site.1) (edits ∙ ap (λ (l : Pairs). batch_of (record_edits l)) more) sizes
