-- What a move makes.
use Rattle.std.proofs.Common.{◌≡◌, ℕ, Bool, true, false, List, [], ◌∷◌, Option, Some, refl, sym, ap, subst, ◌∙◌}
use Rattle.std.specs.Prelude.{◌&&◌, ◌||◌, is_some, nat_lt, bytes_eq, length}
use Rattle.std.proofs.lemmas.Bool.{false_from_ne_true}
use Rattle.std.proofs.lemmas.Slice.Eq.{bytes_eq-Decides}
use Rattle.host_types.specs.Names.{is_reserved}
use Rattle.host_types.specs.Site.{Site, item_at, with_item, board_of, has_posts}
use Rattle.host_types.specs.Change.{is_empty, is_moved, move_to, moved_item}
use Rattle.host_types.specs.declared.item.Item.{Item}
use Rattle.host_types.proofs.LookUps.{put_elsewhere, they_differ}
use Rattle.change_plan.specs.Plans.{AreMade}
use Rattle.change_plan.specs.declared.replacement.Replacement.{Replacement}

abbrev pub move_of : List ℕ → List ℕ → Item → Option Item → ℕ → List Replacement
move_of from to item there now = (record { selector = to; before = there; after = Some item }) ∷ (record { selector = from; before = Some item; after = Some (moved_item item to now) }) ∷ []

pub bytes_differ : (a b : List ℕ) → (a ≡ b → ⊥) → bytes_eq a b ≡ false
bytes_differ a b apart = false_from_ne_true (bytes_eq a b) (λ h. apart ((bytes_eq-Decides a b).0 h))

-- the order of two doesn't matter
pub either_first : (a b rest : Bool) → (a || (b || rest)) ≡ (b || (a || rest))
either_first true true rest = refl
either_first true false rest = refl
either_first false true rest = refl
either_first false false rest = refl

pub move_plan : (s : Site) (from to : List ℕ) (item : Item) (there : Option Item) (now : ℕ) (l : List Replacement) → (is_empty from || is_empty to) ≡ false → (is_reserved from || is_reserved to) ≡ false → bytes_eq from to ≡ false
    → Some item ≡ item_at s from → is_moved item.body ≡ false → (is_some (board_of item.body) && nat_lt 229 (length to)) ≡ false → (has_posts s from || has_posts s to) ≡ false → there ≡ item_at s to
    → l ≡ move_of from to item there now → AreMade s (move_to s from to now) (from ∷ to ∷ []) l
unfolding move_to
move_plan s from to item there now l root reserved same stands moved long posts at is =
    let apart = λ (e : from ≡ to). no (sym same ∙ (bytes_eq-Decides from to).1 e) in
    let found : item_at s from ≡ Some item = sym stands in
    let second : item_at (with_item s to item) from ≡ Some item = put_elsewhere s to item from (they_differ from to apart) ∙ found in
    let made : AreMade s (move_to s from to now) (from ∷ to ∷ []) (move_of from to item there now) = record {
      makes = rw (root, reserved, same, found, moved, long, posts) refl;
      first = (ap (λ (o : Option Item). is_some o) second, tt);
      at = λ _. record {
        know = (at, (sym second, tt));
        apart = (ap (λ (b : Bool). b || false) (bytes_differ to from (λ e. apart (sym e))), (refl, tt));
        at = λ selector. either_first (bytes_eq selector to) (bytes_eq selector from) false;
      };
    } in
    subst (λ (x : List Replacement). AreMade s (move_to s from to now) (from ∷ to ∷ []) x) (sym is) made
  where
    no : false ≡ true → ⊥
    no h = cc h
