-- Views and bodies by what their records say.
use Rattle.std.proofs.Common.{◌≡◌, ◌^◌, ℕ, zero, suc, ◌+◌, ◌<◌, ◌≤◌, true, false, List, [], ◌∷◌, ◌++◌, length, map, take, get_or, Option, Some, None, refl, sym, ap, subst, ◌∙◌, arith}
use Rattle.std.specs.Prelude.{IsTrue, All, slice_get, slice_index_or, nat_lt, nat_le, not, ◌&&◌}
use Rattle.std.specs.List.{list_any, list_all}
use Rattle.std.proofs.lemmas.Bool.{and_parts, not-true, leb-true, ltb-false, le-ltb}
use Rattle.std.proofs.lemmas.List.Sums.{sum_by-cons}
use Rattle.std.proofs.lemmas.List.{length-map}
use Rattle.std.specs.Option.{option_map}
use Rattle.std.proofs.Props.{props}
use mathlib.Core.Logic.{∥∥₁_elim}
use Rattle.host_types.specs.Items.{view_bytes, most_view_bytes, is_long_view, is_long_question}
use Rattle.host_types.specs.Card.{card_view}
use Rattle.host_types.specs.Site.{Site, item_at}
use Rattle.host_types.specs.declared.view.View.{View}
use Rattle.host_types.specs.declared.view.Kind.{Kind}
use Rattle.host_types.specs.declared.card.CardView.{CardView}
use Rattle.host_types.specs.declared.menu.Entry.{Entry}
use Rattle.host_types.specs.declared.form.Question.{Question}
use Rattle.host_types.specs.declared.item.Item.{Item}
use Rattle.host_types.specs.declared.item.Body.{Body}
use Rattle.host_types.specs.declared.item.Body.TheVariants as bodies
use Rattle.page_store.specs.Pages.{Pair}
use Rattle.page_store.specs.Batch.{value_at}
use Rattle.page_store.specs.StoreState.{StoreState, StoreHasRead}
use Rattle.site_records.specs.Keys.{chunk_key}
use Rattle.site_records.specs.Layout.{chunk_in, kept_chunk}
use Rattle.site_records.specs.Limits.{is_body, are_views, is_view, all_lengths, go_together, is_view_count, is_short_body, are_questions}
use Rattle.site_records.specs.Records.{parts_of, recorded, recorded_body, entries_bytes, questions_bytes}
use Rattle.site_records.specs.declared.record.Record.{Record}
use Rattle.site_records.specs.declared.record.RecordBody.{RecordBody}
use Rattle.site_records.specs.declared.record.RecordBody.TheVariants as kept
use Rattle.site_records.proofs.Sizes.{IsValid, valid_body, menu_entries, form_questions}
use Rattle.site_records.proofs.LayoutTells.{found_small}
use Rattle.site_records.proofs.ChunkLaws.{chunks_law}
use Rattle.site_store.specs.Represented.{RepresentedBy}
use Rattle.site_store.specs.StoreReads.{HasPart, HasParts, HasViews, HasEntries, HasQuestions, HasBody}
use Rattle.site_store.specs.ReadLaws.{kept_after}
use Rattle.site_store.proofs.FoundItems.{kept_valid}

-- ---- one view of some

-- the view at a place, whose card is this one
pub record OneView (views : List View) (place : ℕ) (card : CardView) : Type 0 where
  pub view : View
  pub there : slice_get views place ≡ Some view
  pub seen : card ≡ card_view view
  pub part : slice_get (map (λ (v : View). v.bytes) views) place ≡ Some view.bytes

view_at : (views : List View) (place : ℕ) (card : CardView) → place < length (map card_view views) → card ≡ get_or (map card_view views) place card → OneView views place card
view_at [] place card less is = absurd (omega (arith, less))
view_at (v ∷ views) zero card less is = record { view = v; there = refl; seen = is; part = refl }
view_at (v ∷ views) (suc place) card less is = let one = view_at views place card (omega (arith, less)) is in record { view = one.view; there = one.there; seen = one.seen; part = one.part }

pub one_view : (pairs : List Pair) (selector : List ℕ) (cards : List CardView) (views : List View) (place : ℕ) (card : CardView) → HasViews pairs selector cards views → place < length cards → card ≡ get_or cards place card → OneView views place card
one_view pairs selector cards views place card has less is =
    view_at views place card (subst (λ (l : List CardView). place < length l) has.0 less) (subst (λ (l : List CardView). card ≡ get_or l place card) has.0 is)

pub its_part : (pairs : List Pair) (selector : List ℕ) (cards : List CardView) (views : List View) (place : ℕ) (card : CardView) → HasViews pairs selector cards views → (one : OneView views place card) → HasPart pairs selector place one.view.bytes
its_part pairs selector cards views place card has one k less = has.1 place k less ∙ ap (λ (o : Option (List ℕ)). chunk_in o k) one.part

take_more : {A : Type 0} (xs : List A) (i : ℕ) (x : A) → slice_get xs i ≡ Some x → take (suc i) xs ≡ take i xs ++ x ∷ []
take_more [] i x h = absurd (cc h)
take_more (y ∷ ys) zero x h = let same : y ≡ x = cc h in ap (λ z. z ∷ []) same
take_more (y ∷ ys) (suc i) x h = ap (λ (l : List _). y ∷ l) (take_more ys i x h)

pub next_view : (views now : List View) (place : ℕ) (card : CardView) (view : View) → (one : OneView views place card) → view ≡ one.view → now ≡ take place views ++ view ∷ [] → now ≡ take (place + 1) views
next_view views now place card view one same is = is ∙ ap (λ (v : View). take place views ++ v ∷ []) same ∙ sym (take_more views place one.view one.there) ∙ (let more : suc place ≡ place + 1 = omega arith in ap (λ (n : ℕ). take n views) more)

take_get : {A : Type 0} (xs : List A) (i : ℕ) (x : A) → i < length xs → x ≡ get_or xs i x → take (suc i) xs ≡ take i xs ++ x ∷ []
take_get [] i x less is = absurd (omega (arith, less))
take_get (y ∷ ys) zero x less is = ap (λ z. z ∷ []) (sym is)
take_get (y ∷ ys) (suc i) x less is = ap (λ (l : List _). y ∷ l) (take_get ys i x (omega (arith, less)) is)

map_last : (views : List View) (view : View) → map card_view (views ++ view ∷ []) ≡ map card_view views ++ card_view view ∷ []
map_last [] view = refl
map_last (v ∷ vs) view = ap (λ (l : List CardView). card_view v ∷ l) (map_last vs view)

pub next_cards : (cards : List CardView) (views now : List View) (place : ℕ) (card : CardView) (view : View) → place < length cards → card ≡ get_or cards place card → card_view view ≡ card → now ≡ views ++ view ∷ [] → map card_view views ≡ take place cards → map card_view now ≡ take (place + 1) cards
next_cards cards views now place card view less is same pushed before =
    ap (map card_view) pushed ∙ map_last views view ∙ ap (λ (l : List CardView). l ++ card_view view ∷ []) before ∙ ap (λ (c : CardView). take place cards ++ c ∷ []) same
    ∙ sym (take_get cards place card less is) ∙ (let more : suc place ≡ place + 1 = omega arith in ap (λ (n : ℕ). take n cards) more)

-- ---- bodies

-- the parts of what stands at a selector
-- what stands at a chunk's key
pub kept_at : (h : StoreState) (s : Site) (selector : List ℕ) → RepresentedBy h s → (part k : ℕ) → k < 2 ^ 16 → value_at h.pairs (chunk_key selector part k) ≡ kept_chunk (item_at s selector) part k
kept_at h s selector kept part k less =
    let set : IsProp (value_at h.pairs (chunk_key selector part k) ≡ kept_chunk (item_at s selector) part k) = hlevel props in
    ∥∥₁_elim kept.valid set (λ site. ap (λ (ps : List Pair). value_at ps (chunk_key selector part k)) kept.all ∙ chunks_law s selector part k site.sorted (found_small s site selector) less)

pub kept_parts : (h : StoreState) (s : Site) (selector : List ℕ) (item : Item) → RepresentedBy h s → item_at s selector ≡ Some item → HasParts h.pairs selector (parts_of item.body)
kept_parts h s selector item kept stands part k less = kept_at h s selector kept part k less ∙ ap (λ (o : Option Item). kept_chunk o part k) stands

body_parts : (h : StoreState) (selector : List ℕ) (kept : RecordBody) (body : Body) → HasBody h selector kept body → HasParts h.pairs selector (parts_of body)
body_parts h selector kept body keeps = subst (λ (b : Body). HasParts h.pairs selector (parts_of b)) keeps.body_is (kept_parts h keeps.site selector keeps.item keeps.is_kept keeps.stands)

body_valid : (h : StoreState) (selector : List ℕ) (kept : RecordBody) (body : Body) → HasBody h selector kept body → IsValid body
body_valid h selector kept body keeps = subst IsValid keeps.body_is (valid_body selector keeps.item (kept_valid keeps.site selector keeps.item keeps.is_kept.valid keeps.stands))

pub record KeptViews (h : StoreState) (selector : List ℕ) (kind : Kind) (cards : List CardView) (body : Body) : Type 0 where
  pub views : List View
  pub body_is : body ≡ bodies.Views kind views
  pub has : HasViews h.pairs selector cards views

views_of : (kind : Kind) (cards : List CardView) (body : Body) → kept.Views kind cards ≡ recorded_body body → (views : List View) × (body ≡ bodies.Views kind views) × (cards ≡ map card_view views)
views_of kind cards (bodies.Views k views) e = let same : k ≡ kind = cc e in (views, ap (λ (x : Kind). bodies.Views x views) same, cc e)
views_of kind cards (bodies.Menu es) e = absurd (cc e)
views_of kind cards (bodies.Board cap next) e = absurd (cc e)
views_of kind cards (bodies.Form board qs) e = absurd (cc e)
views_of kind cards (bodies.Search scope) e = absurd (cc e)
views_of kind cards (bodies.Moved target) e = absurd (cc e)

pub kept_views : (h : StoreState) (selector : List ℕ) (kind : Kind) (cards : List CardView) (k : RecordBody) (body : Body) → k ≡ kept.Views kind cards → HasBody h selector k body → KeptViews h selector kind cards body
kept_views h selector kind cards k body is keeps =
    let v = views_of kind cards body (sym is ∙ keeps.recorded) in
    record { views = v.0; body_is = v.1; has = (v.2, subst (λ (b : Body). HasParts h.pairs selector (parts_of b)) v.1 (body_parts h selector k body keeps)) }

pub record KeptEntries (h : StoreState) (selector : List ℕ) (size : ℕ) (body : Body) : Type 0 where
  pub entries : List Entry
  pub body_is : body ≡ bodies.Menu entries
  pub has : HasEntries h.pairs selector size entries

entries_of : (size : ℕ) (body : Body) → kept.Menu size ≡ recorded_body body → (es : List Entry) × (body ≡ bodies.Menu es) × (length (entries_bytes es) ≡ size)
entries_of size (bodies.Menu es) e = (es, refl, cc e)
entries_of size (bodies.Views k views) e = absurd (cc e)
entries_of size (bodies.Board cap next) e = absurd (cc e)
entries_of size (bodies.Form board qs) e = absurd (cc e)
entries_of size (bodies.Search scope) e = absurd (cc e)
entries_of size (bodies.Moved target) e = absurd (cc e)

pub kept_entries : (h : StoreState) (selector : List ℕ) (size : ℕ) (k : RecordBody) (body : Body) → k ≡ kept.Menu size → HasBody h selector k body → KeptEntries h selector size body
kept_entries h selector size k body is keeps =
    let v = entries_of size body (sym is ∙ keeps.recorded) in
    let valid = subst IsValid v.1 (body_valid h selector k body keeps) in
    let parts = subst (λ (b : Body). HasParts h.pairs selector (parts_of b)) v.1 (body_parts h selector k body keeps) in
    record { entries = v.0; body_is = v.1; has = (menu_entries v.0 valid.typed valid.not_bad valid.not_long, v.2, λ i less. parts 0 i less) }

pub record KeptQuestions (h : StoreState) (selector : List ℕ) (board : List ℕ) (size : ℕ) (body : Body) : Type 0 where
  pub questions : List Question
  pub body_is : body ≡ bodies.Form board questions
  pub has : HasQuestions h.pairs selector size questions

questions_of : (board : List ℕ) (size : ℕ) (body : Body) → kept.Form board size ≡ recorded_body body → (qs : List Question) × (body ≡ bodies.Form board qs) × (length (questions_bytes qs) ≡ size)
questions_of board size (bodies.Form b qs) e = let same : b ≡ board = cc e in (qs, ap (λ (x : List ℕ). bodies.Form x qs) same, cc e)
questions_of board size (bodies.Menu es) e = absurd (cc e)
questions_of board size (bodies.Views k views) e = absurd (cc e)
questions_of board size (bodies.Board cap next) e = absurd (cc e)
questions_of board size (bodies.Search scope) e = absurd (cc e)
questions_of board size (bodies.Moved target) e = absurd (cc e)

pub kept_questions : (h : StoreState) (selector : List ℕ) (board : List ℕ) (size : ℕ) (k : RecordBody) (body : Body) → k ≡ kept.Form board size → HasBody h selector k body → KeptQuestions h selector board size body
kept_questions h selector board size k body is keeps =
    let v = questions_of board size body (sym is ∙ keeps.recorded) in
    let valid = subst IsValid v.1 (body_valid h selector k body keeps) in
    let parts = subst (λ (b : Body). HasParts h.pairs selector (parts_of b)) v.1 (body_parts h selector k body keeps) in
    record { questions = v.0; body_is = v.1; has = (form_questions board v.0 valid.typed valid.not_bad valid.not_long, v.2, λ i less. parts 0 i less) }

-- ---- sizes

each_card : (cards : List CardView) (most k : ℕ) (d : CardView) → all_lengths cards ≤ most → k < length cards → (slice_index_or cards k d).length ≤ most
each_card [] most k d fits less = absurd (omega (arith, less))
each_card (v ∷ vs) most zero d fits less = omega (arith, fits, sum_by-cons (λ (w : CardView). w.length) v vs)
each_card (v ∷ vs) most (suc k) d fits less = each_card vs most k d (omega (arith, fits, sum_by-cons (λ (w : CardView). w.length) v vs)) (omega (arith, less))

together : (cards : List CardView) → IsTrue (are_views cards) → all_lengths cards ≤ 262144
unfolding go_together most_view_bytes
together cards h =
    let both = and_parts (is_view_count (length cards) && list_all is_view cards) _ h in
    let parts = and_parts _ (not (nat_lt 262144 (all_lengths cards))) both.1 in
    ltb-false 262144 (all_lengths cards) (not-true _ parts.1)

pub short_cards : (k : RecordBody) (kind : Kind) (cards l : List CardView) → k ≡ kept.Views kind cards → IsTrue (is_body k) → l ≡ cards → All (λ v. v.length ≤ 262144) l
short_cards k kind cards l is body same i d less =
    let fits = together l (subst (λ (x : List CardView). IsTrue (are_views x)) (sym same) (subst (λ (b : RecordBody). IsTrue (is_body b)) is body)) in
    each_card l 262144 i d fits less

same_lengths : (views : List View) → all_lengths (map card_view views) ≡ view_bytes views
same_lengths [] = refl
same_lengths (v ∷ vs) = sum_by-cons (λ (w : CardView). w.length) (card_view v) (map card_view vs) ∙ ap (λ n. length v.bytes + n) (same_lengths vs) ∙ sym (sum_by-cons (λ (w : View). length w.bytes) v vs)

none_long : (views : List View) → list_all is_view (map card_view views) ≡ true → list_any is_long_view views ≡ false
none_long [] h = refl
none_long (v ∷ vs) h =
    let both = and_parts (is_view (card_view v)) (list_all is_view (map card_view vs)) h in
    let parts = and_parts _ _ both.0 in
    let rest = and_parts _ _ parts.1 in
    let name = and_parts (nat_le (length v.name) 40) _ parts.0 in
    let language = and_parts (nat_le (length v.language) 10) _ rest.0 in
    rw (le-ltb 40 (length v.name) (leb-true _ _ name.0), le-ltb 10 (length v.language) (leb-true _ _ language.0)) (none_long vs both.1)

pub short_views_body : (kind : Kind) (views : List View) (k : RecordBody) (cards : List CardView) → k ≡ kept.Views kind cards → IsTrue (is_body k) → map card_view views ≡ cards → IsTrue (is_short_body (bodies.Views kind views))
unfolding most_view_bytes
short_views_body kind views k cards is body same =
    let valid : IsTrue (are_views (map card_view views)) = subst (λ (x : List CardView). IsTrue (are_views x)) (sym same) (subst (λ (b : RecordBody). IsTrue (is_body b)) is body) in
    let both = and_parts (is_view_count (length (map card_view views)) && list_all is_view (map card_view views)) _ valid in
    let counts = and_parts (is_view_count (length (map card_view views))) (list_all is_view (map card_view views)) both.0 in
    let count = and_parts _ (nat_le (length (map card_view views)) 8) counts.0 in
    let few : length views ≤ 8 = let n = leb-true (length (map card_view views)) 8 count.1 in omega (arith, n, length-map views card_view) in
    let fits : view_bytes views ≤ 262144 = let n = together (map card_view views) valid in omega (arith, n, same_lengths views) in
    rw (le-ltb 8 (length views) few, le-ltb 262144 (view_bytes views) fits, none_long views counts.1) refl

pub short_form_body : (board : List ℕ) (qs : List Question) → IsTrue (are_questions qs) → list_any is_long_question qs ≡ false → IsTrue (is_short_body (bodies.Form board qs))
short_form_body board qs valid short =
    let both = and_parts (nat_lt 0 (length qs)) _ valid in
    let rest = and_parts (nat_le (length qs) 16) _ both.1 in
    rw (le-ltb 16 (length qs) (leb-true _ _ rest.0), short) refl

-- ---- items

-- an item by its record and its body
pub item_is : (s : Site) (selector : List ℕ) (r : Record) (o : Option Item) → Some r ≡ option_map recorded o → (item : Item) × (o ≡ Some item) × (r ≡ recorded item)
item_is s selector r None e = absurd (cc e)
item_is s selector r (Some item) e = (item, refl, cc e)

-- the body of the item whose record was read
pub keeps_body : (a b : StoreState) (s : Site) (selector : List ℕ) (r : Record) (item : Item) → StoreHasRead a b → IsTrue a.honest → RepresentedBy a s → item_at s selector ≡ Some item → r ≡ recorded item → HasBody b selector r.body item.body
keeps_body a b s selector r item read honest kept stands is = record { site = s; is_kept = kept_after a b s read honest kept; item = item; stands = stands; body_is = refl; recorded = ap (λ (x : Record). x.body) is }

-- an item put together of its record and its body
pub whole_item : (s : Site) (selector : List ℕ) (r : Record) (body : Body) (item : Item) → item_at s selector ≡ Some item → r ≡ recorded item → body ≡ item.body → Some (record { title = r.title; stamp = r.stamp; until = r.until; summary = r.summary; body = body }) ≡ item_at s selector
whole_item s selector r body item stands is body_is =
    (λ i. Some (record { title = (is i).title; stamp = (is i).stamp; until = (is i).until; summary = (is i).summary; body = body_is i })) ∙ sym stands
