-- Items that are told one after another are all told.
use Rattle.std.proofs.Common.{◌≡◌, ℕ, Bool, true, false, List, [], ◌∷◌, ◌++◌, cond, Option, Some, None, Ok, Err, inl, inr, refl, ap, sym, subst, ◌∙◌, append_assoc, append-nil, IsUtf8, string_bytes}
use Rattle.std.specs.Prelude.{Result, OnOk}
use Rattle.std.specs.Option.{option_map}
use Rattle.std.specs.FinMap.Entries.{below_all, is_sorted}
use Rattle.std.proofs.lemmas.Bool.{and_parts}
use Rattle.common_types.specs.Names.{is_reserved}
use Rattle.host_types.specs.Card.{card_body, card_of, card_at}
use Rattle.host_types.specs.Site.{Site, IsSite, byte_cmp, item_at}
use Rattle.host_types.specs.declared.card.Card.{Card}
use Rattle.host_types.specs.declared.card.CardBody.{CardBody}
use Rattle.host_types.specs.declared.change.Change.{Change as SiteChange}
use Rattle.host_types.specs.declared.change.Change.TheVariants.{Put}
use Rattle.host_types.specs.declared.item.Item.{Item}
use Rattle.host_types.specs.declared.site_fault.SiteFault.{SiteFault}
use Rattle.site_records.specs.LayoutLaws.{at_itself}
use Rattle.site_store.specs.Walking.{Entry, first_of, first_after, card_after}
use Rattle.site_store.proofs.FoundItems.{kept_sorted}
use Rattle.site_store.proofs.RisingKeys.{rest_of, none_left, next_left, all_left, not_itself, is_next, found}
use Rattle.change_file.specs.Changes as file
use Rattle.change_file.specs.declared.fault.FileChange.{FileChange}
use Rattle.change_file.specs.declared.fault.FileChange.TheVariants.{Change}
use Rattle.change_writer.specs.Comments.{comment, comments}
use Rattle.change_writer.specs.Said.{IsSaid, read_back}
use Rattle.image_exports.specs.Told.{AreTold, IsPut, IsToldIn, named, named_as, reason}
use Rattle.image_exports.specs.Exports.{AddsTo, IsExportOf, IsToldNext}
use Rattle.image_exports.specs.declared.exporting.Export.{Export}

-- ---- one item

comments_of_one : (text : List ℕ) → comment text ≡ comments (text ∷ [])
comments_of_one text = sym (append-nil (comment text))

pub adds_name : {T : Type 0} (r : Result T SiteFault) (old new : Export) (selector : List ℕ) (item : Item) (why : List ℕ) (body : CardBody) → new.file ≡ old.file → (¬ (IsPut (selector, item))) → why ≡ reason selector body → body ≡ card_body item.body
    → OnOk r (string_bytes new.comments ≡ string_bytes old.comments ++ comment (named_as why selector)) → OnOk r (AddsTo old new (IsToldIn (selector, item)))
adds_name (Err e) old new selector item why body same unput is of_item added = tt
adds_name (Ok x) old new selector item why body same unput is of_item added =
    let text : named_as why selector ≡ named selector (card_body item.body) = ap (λ (w : List ℕ). named_as w selector) (is ∙ ap (reason selector) of_item) in
    record {
      changes = [];
      names = named selector (card_body item.body) ∷ [];
      is = inr (unput, refl, refl);
      file = same ∙ sym (append-nil old.file);
      comments = added ∙ ap (λ (t : List ℕ). string_bytes old.comments ++ comment t) text ∙ ap (λ (t : List ℕ). string_bytes old.comments ++ t) (comments_of_one (named selector (card_body item.body)));
    }

pub adds_put : (old new : Export) (change : SiteChange) (selector : List ℕ) (item : Item) → new.file ≡ old.file ++ Change (read_back change) ∷ [] → string_bytes new.comments ≡ string_bytes old.comments → change ≡ Put selector item → IsSaid change → is_reserved selector ≡ false → AddsTo old new (IsToldIn (selector, item))
adds_put old new change selector item added same is said free = record {
  changes = Change (read_back (Put selector item)) ∷ [];
  names = [];
  is = inl ((free, subst IsSaid is said), refl, refl);
  file = added ∙ ap (λ (c : SiteChange). old.file ++ Change (read_back c) ∷ []) is;
  comments = same ∙ sym (append-nil (string_bytes old.comments));
}

pub post_unput : (selector : List ℕ) (item : Item) → is_reserved selector ≡ true → ¬ (IsPut (selector, item))
post_unput selector item reserved = λ put. let clash : true ≡ false = sym reserved ∙ put.0 in cc clash

pub unsaid_unput : (change : SiteChange) (selector : List ℕ) (item : Item) → change ≡ Put selector item → (¬ (IsSaid change)) → ¬ (IsPut (selector, item))
unsaid_unput change selector item is unsaid = λ put. unsaid (subst IsSaid (sym is) put.1)

-- ---- the next item

some_is : {A : Type 0} (x y : A) → Some x ≡ Some y → x ≡ y
some_is x y e = cc e

first_stands : (s : Site) (after : Option (List ℕ)) (e : Entry) → is_sorted byte_cmp s.items ≡ true → first_after s after ≡ Some e → item_at s e.0 ≡ Some e.1
first_stands s None e sorted is = of_first s.items e sorted is
  where
    of_first : (es : List Entry) (e : Entry) → is_sorted byte_cmp es ≡ true → first_of es ≡ Some e → found es e.0 ≡ Some e.1
    of_first [] e sorted is = absurd (cc is)
    of_first (x ∷ es) e sorted is = subst (λ (y : Entry). found (x ∷ es) y.0 ≡ Some y.1) (some_is x e is) (at_first x es)
      where
        at_first : (x : Entry) (es : List Entry) → found (x ∷ es) x.0 ≡ Some x.1
        at_first x es = ap (λ (t : Bool). cond t (Some x.1) (found es x.0)) (at_itself x.0)
first_stands s (Some selector) e sorted is = (is_next s.items selector e sorted is).stands

-- the card of the next item is that of what stands at its selector
pub card_there : (s : Site) (after : Option (List ℕ)) (selector : List ℕ) (card : Card) → ∥ IsSite s ∥₁ → Some (selector, card) ≡ card_after s after → (item : Item) × (first_after s after ≡ Some (selector, item)) × (item_at s selector ≡ Some item) × (Some card ≡ card_at s selector)
card_there s after selector card valid is =
    elim (first_after s after) as (λ (o : Option Entry). first_after s after ≡ o → Some (selector, card) ≡ option_map {U = List ℕ × Card} (λ e. (e.0, card_of e.1)) o → (item : Item) × (first_after s after ≡ Some (selector, item)) × (item_at s selector ≡ Some item) × (Some card ≡ card_at s selector)) [
      | None ↦ λ e none. absurd (cc none)
      | Some p ↦ λ e some.
          let same : (selector, card) ≡ (p.0, card_of p.1) = cc some in
          let name : selector ≡ p.0 = ap (λ (x : List ℕ × Card). x.0) same in
          let here : item_at s selector ≡ Some p.1 = ap (item_at s) name ∙ first_stands s after p (kept_sorted s valid) e in
          (p.1, e ∙ ap (λ (q : List ℕ). Some (q, p.1)) (sym name), here, ap (λ (x : List ℕ × Card). Some x.1) same ∙ sym (ap (option_map card_of) here))
    ] refl is

-- ---- the items that are left

-- the items above a selector; with no selector, all
abbrev pub left_after : Site → Option (List ℕ) → List Entry
left_after s None = s.items
left_after s (Some selector) = rest_of s.items selector

-- the first of some entries, and those above it
first_and_rest : (es : List Entry) (e : Entry) → is_sorted byte_cmp es ≡ true → first_of es ≡ Some e → es ≡ e ∷ rest_of es e.0
first_and_rest [] e sorted is = absurd (cc is)
first_and_rest (x ∷ es) e sorted is =
    let same : x ≡ e = cc is in
    let parts = and_parts (below_all byte_cmp x.0 es) (is_sorted byte_cmp es) sorted in
    let rest : rest_of (x ∷ es) x.0 ≡ es = ap (λ (b : Bool). cond b (x ∷ rest_of es x.0) (rest_of es x.0)) (not_itself x.0) ∙ all_left es x.0 parts.0 in
    subst (λ (y : Entry). x ∷ es ≡ y ∷ rest_of (x ∷ es) y.0) same (ap (λ (l : List Entry). x ∷ l) (sym rest))

some_left : (s : Site) (after : Option (List ℕ)) (e : Entry) → is_sorted byte_cmp s.items ≡ true → first_after s after ≡ Some e → left_after s after ≡ e ∷ rest_of s.items e.0
some_left s None e sorted is = first_and_rest s.items e sorted is
some_left s (Some selector) e sorted is = next_left s.items selector e sorted is

no_first : (es : List Entry) → first_of es ≡ None → es ≡ []
no_first [] none = refl
no_first (e ∷ es) none = absurd (cc none)

nothing_left : (s : Site) (after : Option (List ℕ)) → first_after s after ≡ None → left_after s after ≡ []
nothing_left s None none = no_first s.items none
nothing_left s (Some selector) none = none_left s.items selector none

-- ---- one after another

-- What was told so far, with what tells the items that are left, tells all.
pub record IsToldTo (s : Site) (out : Export) (after : Option (List ℕ)) : Type 0 where
  pub names : List (List ℕ)
  pub named : string_bytes out.comments ≡ comments names
  pub onward : (more : List FileChange) (others : List (List ℕ)) → AreTold (left_after s after) more others → AreTold s.items (out.file ++ more) (names ++ others)

pub nothing_told : (s : Site) (out : Export) (after : Option (List ℕ)) → out.file ≡ [] → string_bytes out.comments ≡ [] → after ≡ None → IsToldTo s out after
nothing_told s out after none_put none_named first = record {
  names = [];
  named = none_named;
  onward = λ more others told. subst (λ (cs : List FileChange). AreTold s.items (cs ++ more) others) (sym none_put) (subst (λ (o : Option (List ℕ)). AreTold (left_after s o) more others) first told);
}

comments_both : (a b : List (List ℕ)) → comments (a ++ b) ≡ comments a ++ comments b
comments_both [] b = refl
comments_both (x ∷ a) b = ap (λ (t : List ℕ). comment x ++ t) (comments_both a b) ∙ sym (append_assoc (comment x) (comments a) (comments b))

next_told : (s : Site) (old new : Export) (after : Option (List ℕ)) (selector : List ℕ) (item : Item) → is_sorted byte_cmp s.items ≡ true → IsToldTo s old after → first_after s after ≡ Some (selector, item) → AddsTo old new (IsToldIn (selector, item)) → IsToldTo s new (Some selector)
next_told s old new after selector item sorted so_far is added = record {
  names = so_far.names ++ added.names;
  named = added.comments ∙ ap (λ (t : List ℕ). t ++ comments added.names) so_far.named ∙ sym (comments_both so_far.names added.names);
  onward = λ more others told.
      let here : AreTold (left_after s after) (added.changes ++ more) (added.names ++ others) = subst (λ (es : List Entry). AreTold es (added.changes ++ more) (added.names ++ others)) (sym (some_left s after (selector, item) sorted is)) (added.changes, more, added.names, others, refl, refl, added.is, told) in
      let all = so_far.onward (added.changes ++ more) (added.names ++ others) here in
      subst (λ (cs : List FileChange). AreTold s.items cs ((so_far.names ++ added.names) ++ others)) (sym (append_assoc old.file added.changes more) ∙ ap (λ (cs : List FileChange). cs ++ more) (sym added.file)) (subst (λ (ns : List (List ℕ)). AreTold s.items (old.file ++ (added.changes ++ more)) ns) (sym (append_assoc so_far.names added.names others)) all);
}

pub goes_on : (s t : Site) (old new : Export) (after lent next : Option (List ℕ)) (selector : List ℕ) → ∥ IsSite s ∥₁ → t ≡ s → lent ≡ after → next ≡ Some selector → IsToldTo s old after → IsToldNext t lent old new next → IsToldTo s new (Some selector)
goes_on s t old new after lent next selector valid same_site same_after some so_far added =
    let here : IsToldNext s after old new (Some selector) = subst (λ (u : Site). IsToldNext u after old new (Some selector)) same_site (subst (λ (o : Option (List ℕ)). IsToldNext t o old new (Some selector)) same_after (subst (IsToldNext t lent old new) some added)) in
    next_told s old new after selector here.0 (kept_sorted s valid) so_far here.1 here.2

-- where no item is above, all are told
all_told : (s : Site) (old new : Export) (after : Option (List ℕ)) → IsToldTo s old after → first_after s after ≡ None → new ≡ old → (names : List (List ℕ)) × (string_bytes new.comments ≡ comments names) × AreTold s.items new.file names
all_told s old new after so_far none same =
    let here : AreTold (left_after s after) [] [] = subst (λ (es : List Entry). AreTold es [] []) (sym (nothing_left s after none)) (refl, refl) in
    let all = so_far.onward [] [] here in (
      so_far.names,
      ap (λ (e : Export). string_bytes e.comments) same ∙ so_far.named,
      subst (λ (e : Export). AreTold s.items e.file so_far.names) (sym same) (subst (λ (cs : List FileChange). AreTold s.items cs so_far.names) (append-nil old.file) (subst (λ (ns : List (List ℕ)). AreTold s.items (old.file ++ []) ns) (append-nil so_far.names) all)),
    )

pub ends_all : (s t : Site) (old new : Export) (after lent next : Option (List ℕ)) → t ≡ s → lent ≡ after → next ≡ None → IsToldTo s old after → IsToldNext t lent old new next → (names : List (List ℕ)) × (string_bytes new.comments ≡ comments names) × AreTold s.items new.file names
ends_all s t old new after lent next same_site same_after none so_far added =
    let here : IsToldNext s after old new None = subst (λ (u : Site). IsToldNext u after old new None) same_site (subst (λ (o : Option (List ℕ)). IsToldNext t o old new None) same_after (subst (IsToldNext t lent old new) none added)) in
    all_told s old new after so_far here.0 here.1

pub export_is : (s : Site) (out : Export) (text : List ℕ) (told : (names : List (List ℕ)) × (string_bytes out.comments ≡ comments names) × AreTold s.items out.file names) → IsUtf8 text → (rest : List ℕ) × (text ≡ string_bytes out.comments ++ rest) → ((names : List (List ℕ)) → string_bytes out.comments ≡ comments names → file.read text ≡ Some (Ok out.file)) → IsExportOf s text
export_is s out text told valid begins reads = record {
  changes = out.file;
  names = told.0;
  rest = begins.0;
  told = told.2;
  begins = begins.1 ∙ ap (λ (t : List ℕ). t ++ begins.0) told.1;
  utf8 = valid;
  reads = reads told.0 told.1;
}
