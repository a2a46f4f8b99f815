-- Documents that come of files are taken by a site.
use Rattle.std.proofs.Common.{◌≡◌, ◌∙◌, refl, sym, ap, subst, ℕ, Bool, true, false, cond, List, ◌∷◌, ◌++◌, Result, Ok, Err, arith}
use Rattle.std.proofs.lemmas.Bool.Decides.{nat_tests}
use Rattle.std.proofs.lemmas.List.{length-append}
use Rattle.std.specs.Str.{is_utf8}
use Rattle.common_types.specs.Names.{name_of, is_field, is_reserved}
use Rattle.common_types.specs.declared.refused.Refused.{Refused}
use Rattle.common_types.specs.declared.refused.Refused.TheVariants.{Reserved, TooLong}
use Rattle.host_types.specs.Change.{put, is_empty, item_put}
use Rattle.host_types.specs.Items.{is_bad_body, is_long_item}
use Rattle.host_types.specs.Site.{Site, board_at, has_posts, with_item}
use Rattle.host_types.specs.declared.item.Item.{Item}
use Rattle.folder_import.specs.Formats.{document}
use Rattle.folder_import.specs.Found.{is_hidden, is_map, is_page_name}
use Rattle.folder_import.specs.Parts.{Titled, left_out, map_part, part_of, placed, sized, titled, title_in, with_content}
use Rattle.folder_import.specs.Selectors.{child}
use Rattle.folder_import.specs.Taken.{DocumentsAreTaken}
use Rattle.gophermap.proofs.NameBytes.{name_is}
use Rattle.folder_import.specs.declared.documents.Sort.{Sort}
use Rattle.folder_import.specs.declared.documents.Sort.TheVariants as sorts
use Rattle.folder_import.specs.declared.found.Content.{Content}
use Rattle.folder_import.specs.declared.found.Content.TheVariants as contents
use Rattle.folder_import.specs.declared.found.Found.{Found}
use Rattle.folder_import.specs.declared.found.Part.{Part}
use Rattle.folder_import.specs.declared.found.Part.TheVariants as parts
use Rattle.folder_import.specs.declared.found.Reason.TheVariants as reasons

-- what is known of a document's selector and item
pub record Fits (selector : List ℕ) (item : Item) : Type 0 where
  pub named : is_empty selector ≡ false
  pub free : is_reserved selector ≡ false
  pub title : List ℕ
  pub sort : Sort
  pub bytes : List ℕ
  pub is : item ≡ document title sort bytes
  pub small : is_long_item selector item ≡ false

no_bad : (title bytes : List ℕ) (sort : Sort) → is_bad_body (document title sort bytes).body ≡ false
no_bad title bytes sorts.Text = refl
no_bad title bytes sorts.Gif = refl
no_bad title bytes sorts.Png = refl
no_bad title bytes sorts.Jpeg = refl
no_bad title bytes sorts.Html = refl
no_bad title bytes sorts.BinHex = refl
no_bad title bytes sorts.Zip = refl
no_bad title bytes sorts.Uuencoded = refl
no_bad title bytes sorts.Binary = refl

-- ---- a part that is a document

-- where one side is none, it is the other
only : (b : Bool) (p q : Part) (s : List ℕ) (i : Item) → ¬ (p ≡ parts.Document s i) → cond b p q ≡ parts.Document s i → (b ≡ false) × (q ≡ parts.Document s i)
only true p q s i never is = absurd (never is)
only false p q s i never is = (refl, is)

one_size : (selector s : List ℕ) (item i : Item) → sized selector item ≡ parts.Document s i → (is_long_item selector item ≡ false) × (selector ≡ s) × (item ≡ i)
one_size selector s item i is =
    let r = only (is_long_item selector item) (left_out TooLong) (parts.Document selector item) s i (λ e. cc e) is in
    let same : parts.Document selector item ≡ parts.Document s i = r.1 in
    (r.0, cc same, cc same)

of_content : (selector title s : List ℕ) (said : Bool) (content : Content) (i : Item) → is_empty selector ≡ false → is_reserved selector ≡ false → with_content selector title said content ≡ parts.Document s i → Fits s i
of_content selector title s said contents.Folder i named free is = absurd (cc is)
of_content selector title s said (contents.File sort bytes) i named free is =
    let r = one_size selector s (document title sort bytes) i is in
    record {
      named = subst (λ x. is_empty x ≡ false) r.1 named;
      free = subst (λ x. is_reserved x ≡ false) r.1 free;
      title = title;
      sort = sort;
      bytes = bytes;
      is = sym r.2;
      small = subst (λ x. is_long_item x i ≡ false) r.1 (subst (λ y. is_long_item selector y ≡ false) r.2 r.0);
    }
of_content selector title s said contents.Other i named free is = absurd (cc is)
of_content selector title s said contents.Unread i named free is = absurd (cc is)

of_title : (selector s : List ℕ) (said : Bool) (content : Content) (title : Result (List ℕ) Refused) (i : Item) → is_empty selector ≡ false → is_reserved selector ≡ false → titled selector said content title ≡ parts.Document s i → Fits s i
of_title selector s said content (Err refused) i named free is = absurd (cc is)
of_title selector s said content (Ok title) i named free is = of_content selector title s said content i named free is

of_place : (titles : List Titled) (found : Found) (place : Result (List ℕ) Refused) (s : List ℕ) (i : Item) → ((selector : List ℕ) → place ≡ Ok selector → is_empty selector ≡ false) → placed titles found place ≡ parts.Document s i → Fits s i
of_place titles found (Err refused) s i named is = absurd (cc is)
of_place titles found (Ok selector) s i named is =
    let about = title_in titles selector found.name in
    let r = only (is_reserved selector) (left_out Reserved) (titled selector about.1 found.content (name_of is_field 69 about.0)) s i (λ e. cc e) is in
    of_title selector s about.1 found.content (name_of is_field 69 about.0) i (named selector refl) r.0 r.1

no_map : (content : Content) (s : List ℕ) (i : Item) → map_part content ≡ parts.Document s i → ⊥
no_map contents.Folder s i is = cc is
no_map (contents.File sort bytes) s i is = cc is
no_map contents.Other s i is = cc is
no_map contents.Unread s i is = cc is

not_empty : (xs ys : List ℕ) (b : ℕ) → is_empty (xs ++ b ∷ ys) ≡ false
not_empty xs ys b = grind (arith, nat_tests, length-append xs (b ∷ ys))

child_named : (folder name selector : List ℕ) → child folder name ≡ Ok selector → is_empty selector ≡ false
child_named folder name selector is = subst (λ x. is_empty x ≡ false) (name_is is_field 255 (folder ++ 47 ∷ name) selector is) (not_empty folder name 47)

said : (b : Bool) (p : Part) (s : List ℕ) (i : Item) → cond b p (parts.LeftOut reasons.Unsaid) ≡ parts.Document s i → p ≡ parts.Document s i
said true p s i is = is
said false p s i is = absurd (cc is)

pub fits : (titles : List Titled) (folder : List ℕ) (found : Found) (s : List ℕ) (i : Item) → part_of titles folder found ≡ parts.Document s i → Fits s i
fits titles folder found s i is =
    let shown = only (is_hidden found.name) parts.Passed _ s i (λ e. cc e) is in
    let other = only (is_map found.name) (map_part found.content) _ s i (no_map found.content s i) shown.1 in
    let named = only (is_page_name found.name) (left_out Reserved) _ s i (λ e. cc e) other.1 in
    of_place titles found (child folder found.name) s i (λ selector at. child_named folder found.name selector at) (said (is_utf8 found.name) (placed titles found (child folder found.name)) s i named.1)

-- ---- it is taken

takes_document : (s : Site) (now : ℕ) (selector title bytes : List ℕ) (sort : Sort) → is_empty selector ≡ false → is_reserved selector ≡ false → is_long_item selector (document title sort bytes) ≡ false → has_posts s selector ≡ false
    → put s selector (document title sort bytes) now ≡ Ok (with_item s selector (item_put (board_at s selector) (document title sort bytes) now))
unfolding put
takes_document s now selector title bytes sort named free small none = rw (named, free, no_bad title bytes sort, small, none) refl

pub taken : DocumentsAreTaken
taken titles folder found selector item is s now none =
    let f = fits titles folder found selector item is in
    let small = subst (λ y. is_long_item selector y ≡ false) f.is f.small in
    (with_item s selector (item_put (board_at s selector) (document f.title f.sort f.bytes) now), ap (λ y. put s selector y now) f.is ∙ takes_document s now selector f.title f.bytes f.sort f.named f.free small none)
