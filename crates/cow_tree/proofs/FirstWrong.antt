-- A walk names the first page that is wrong.
use Rattle.std.proofs.Common.{◌≡◌, ℕ, zero, suc, Bool, true, false, List, [], ◌∷◌, ◌++◌, Option, Some, None, refl, sym, ap, ◌∙◌, append_assoc}
use Rattle.std.specs.Prelude.{◌&&◌, not, Result, Ok, Err, if◌then◌else◌}
use Rattle.std.specs.Option.{is_some}
use Rattle.std.proofs.lemmas.List.{append-nil}
use Rattle.page_store.specs.Reading.{where_true}
use Rattle.page_store.specs.Pages.{Pair, Child, leaf_of, branch_of}
use Rattle.page_store.specs.Content.{Found, Bounds, joined, low_of, high_of, place_in, is_among}
use Rattle.cow_tree.specs.NamedWalks.{◌>>=◌, or_name, fan_or_name, walk_or_name}
use Rattle.cow_tree.specs.FirstWrong.{Look, looks_at_children, look_and_under, looks_at, first_wrong, named_or_none, NamesTheFirst}

-- the first that is wrong, once a walk came to its end
abbrev after : Result Found ℕ → List ℕ → List Look → Option ℕ
after (Ok found) reached looks = first_wrong (reached ++ found.pages) looks
after (Err page) reached looks = Some page

abbrev FirstIs : (ℕ → List ℕ → Option (List ℕ) → List Look) → (ℕ → List ℕ → Option (List ℕ) → List ℕ → Result Found ℕ) → Type 0
FirstIs under w = (page : ℕ) (low : List ℕ) (high : Option (List ℕ)) (reached : List ℕ) (looks : List Look) → first_wrong reached (under page low high ++ looks) ≡ after (w page low high reached) reached looks

one_list : (a b c : List ℕ) (looks : List Look) → first_wrong ((a ++ b) ++ c) looks ≡ first_wrong (a ++ (b ++ c)) looks
one_list a b c looks = ap (λ (l : List ℕ). first_wrong l looks) (append_assoc a b c)

children_first : (under : ℕ → List ℕ → Option (List ℕ) → List Look) (w : ℕ → List ℕ → Option (List ℕ) → List ℕ → Result Found ℕ) → FirstIs under w → (children : List Child) (low : List ℕ) (high : Option (List ℕ)) (reached : List ℕ) (looks : List Look)
    → first_wrong reached (looks_at_children under low high children ++ looks) ≡ after (fan_or_name w low high children reached) reached looks
children_first under w h [] low high reached looks = ap (λ (l : List ℕ). first_wrong l looks) (sym (append-nil reached))
children_first under w h (child ∷ children) low high reached looks =
    ap (first_wrong reached) (append_assoc (under child.page (low_of low child.key) (high_of children high)) (looks_at_children under low high children) looks)
    ∙ h child.page (low_of low child.key) (high_of children high) reached (looks_at_children under low high children ++ looks)
    ∙ first (λ before. children_first under w h children low high before looks) (w child.page (low_of low child.key) (high_of children high) reached)
  where
    goes_on : (here : Found) (r : Result Found ℕ) → after r (reached ++ here.pages) looks ≡ after (r >>= λ others. Ok (joined here others)) reached looks
    goes_on here (Ok others) = one_list reached here.pages others.pages looks
    goes_on here (Err page) = refl

    first : ((before : List ℕ) → first_wrong before (looks_at_children under low high children ++ looks) ≡ after (fan_or_name w low high children before) before looks) → (r : Result Found ℕ)
        → after r reached (looks_at_children under low high children ++ looks) ≡ after (r >>= λ here. fan_or_name w low high children (reached ++ here.pages) >>= λ others. Ok (joined here others)) reached looks
    first others (Ok here) = others (reached ++ here.pages) ∙ goes_on here (fan_or_name w low high children (reached ++ here.pages))
    first others (Err page) = refl

walk_first : (a : ℕ → List ℕ) (bounds : Bounds) (level page : ℕ) (low : List ℕ) (high : Option (List ℕ)) (reached : List ℕ) (looks : List Look)
    → first_wrong reached (looks_at a bounds level page low high ++ looks) ≡ after (walk_or_name a bounds level page low high reached) reached looks
walk_first a bounds zero page low high reached looks = at (is_among page reached) (leaf_of (place_in bounds 0 page) low high (a page))
  where
    at : (b : Bool) (form : Option (List Pair)) → (if is_some form && not b then first_wrong (reached ++ page ∷ []) looks else Some page) ≡ after (or_name page (where_true (not b) form) >>= λ pairs. Ok (record { pages = page ∷ []; pairs = pairs })) reached looks
    at true None = refl
    at true (Some pairs) = refl
    at false None = refl
    at false (Some pairs) = refl
walk_first a bounds (suc level) page low high reached looks = at (λ children. children_first (looks_at a bounds level) (walk_or_name a bounds level) (λ p l h r ls. walk_first a bounds level p l h r ls) children low high (reached ++ page ∷ []) looks) (is_among page reached) (branch_of (place_in bounds (suc level) page) low high (a page)) refl
  where
    goes_on : (r : Result Found ℕ) → after r (reached ++ page ∷ []) looks ≡ after (r >>= λ under. Ok (record { pages = page ∷ under.pages; pairs = under.pairs })) reached looks
    goes_on (Ok under) = one_list reached (page ∷ []) under.pages looks
    goes_on (Err wrong) = refl

    new : (b : Bool) (one other : Option ℕ) → b ≡ false → (if true && not b then one else other) ≡ one
    new true one other e = absurd (cc e)
    new false one other e = refl

    at : ((children : List Child) → first_wrong (reached ++ page ∷ []) (looks_at_children (looks_at a bounds level) low high children ++ looks) ≡ after (fan_or_name (walk_or_name a bounds level) low high children (reached ++ page ∷ [])) (reached ++ page ∷ []) looks)
        → (b : Bool) (form : Option (List Child)) → is_among page reached ≡ b → first_wrong reached (look_and_under page (looks_at_children (looks_at a bounds level) low high) form ++ looks)
        ≡ after (or_name page (where_true (not b) form) >>= λ children. fan_or_name (walk_or_name a bounds level) low high children (reached ++ page ∷ []) >>= λ under. Ok (record { pages = page ∷ under.pages; pairs = under.pairs })) reached looks
    at under true None e = refl
    at under true (Some children) e = rw e refl
    at under false None e = refl
    at under false (Some children) e =
        new (is_among page reached) _ _ e
        ∙ under children
        ∙ goes_on (fan_or_name (walk_or_name a bounds level) low high children (reached ++ page ∷ []))

pub names_the_first : NamesTheFirst
names_the_first a bounds level page low high =
    named (walk_or_name a bounds level page low high [])
    ∙ sym (walk_first a bounds level page low high [] [])
    ∙ ap (first_wrong []) (no_more (looks_at a bounds level page low high))
  where
    named : (r : Result Found ℕ) → named_or_none r ≡ after r [] []
    named (Ok found) = refl
    named (Err wrong) = refl

    no_more : (l : List Look) → l ++ [] ≡ l
    no_more [] = refl
    no_more (x ∷ l) = ap (λ (m : List Look). x ∷ m) (no_more l)
