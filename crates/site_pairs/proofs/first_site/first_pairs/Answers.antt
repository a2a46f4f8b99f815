use Rattle.std.proofs.Common.{◌≡◌, [], ◌++◌, ap, ◌∙◌}
use Rattle.host_types.specs.Site.{empty_menu}
use Rattle.site_records.specs.Layout.{item_pairs, in_order}
use Rattle.site_pairs.proofs.FirstPage.{is_first_layout, first_map, first_page}
use Rattle.site_pairs.proofs.first_site.first_pairs.Goals as goal

ordered : (c : goal.Joined-top-4) → c.in_ok-all.all.items ≡ in_order (item_pairs [] (empty_menu c.args.title.now c.args.stamp))
ordered c =
    c.in_ok-all.ensures.copies
    ∙ c.in_ok-ordered.ensures
    ∙ ap in_order c.in_ok-put_item.ensures
    ∙ ap (λ l. in_order (l ++ item_pairs c.root.result c.empty_menu-top.result)) c.new-pairs.ensures.items
    ∙ ap (λ q. in_order (item_pairs q c.empty_menu-top.result)) c.root.ensures
    ∙ ap (λ i. in_order (item_pairs [] i)) c.empty_menu-top.ensures
    ∙ ap (λ t. in_order (item_pairs [] (empty_menu t c.args.stamp))) c.in_ok-clone.ensures.cases

pub returns-clause-pairs : goal.returns-clause-pairs
returns-clause-pairs c = λ host admin port. ordered c ∙ is_first_layout host admin c.args.title.now port c.args.stamp

pub returns-clause-map : goal.returns-clause-map
returns-clause-map c = first_map c.in_ok-all.all.items c.args.title.now c.args.stamp (ordered c) c.in_ok-all.ensures.sizes

pub returns-clause-one_page : goal.returns-clause-one_page
returns-clause-one_page c = first_page c.in_ok-all.all.items c.args.title.now c.args.stamp (ordered c) c.as_bytes.ensures.length
