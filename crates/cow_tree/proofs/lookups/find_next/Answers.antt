use Rattle.std.proofs.Common.{List, sym, subst, ◌∙◌, take, rules}
use Rattle.std.proofs.lemmas.Result.{err_from_is_err_and}
use Rattle.page_store.specs.Sectors.{page_of}
use Rattle.page_store.specs.Pages.{Pair}
use Rattle.cow_tree.specs.Opening.{bounds_under}
use Rattle.cow_tree.specs.KeptLeaves.{IsKeptLeaf}
use Rattle.cow_tree.specs.PinnedTrees.{bounds_at}
use Rattle.cow_tree.specs.declared.tree_root.TreeRoot.{TreeRoot}
use Rattle.cow_tree.proofs.AnswersGiven.{answer_err}
use Rattle.cow_tree.proofs.RootWalks.{found_there}
use Rattle.cow_tree.proofs.TreesAreMaps.{found_map}
use Rattle.cow_tree.proofs.KeptLeavesRead.{kept_tells}
use Rattle.cow_tree.proofs.LeafPlaces.{next_known}
use Rattle.cow_tree.proofs.lookups.find_next.Goals as goal

pub returns-in-Some-clause-next : goal.returns-in-Some-clause-next
returns-in-Some-clause-next g c =
    let a = page_of (g.D.Device.state c.args.device.now).disk.view in
    let next = next_known c.args.kept.now c.args.after.now (take c.in-Some.sizes.0 c.copy_next.new.key, take c.in-Some.sizes.1 c.copy_next.new.value) c.in-Some.ensures.copied.is in
    record {
      pair = λ keeps found is.
          c.in-Some.ensures.copied.is ∙ next.1 ∙ sym (kept_tells a (bounds_under c.args.slot.now) found c.args.kept.now c.args.after.now (found_map c.args.slot.now a found is.0) is.1 next.0);
      kept = λ keeps found is. subst (λ (l : List Pair). IsKeptLeaf a (bounds_under c.args.slot.now) found l) (sym c.in-Some.ensures.kept) is.1;
      reads = search rules;
    }

pub returns-in_err-read_next_leaf-clause-next : goal.returns-in_err-read_next_leaf-clause-next
returns-in_err-read_next_leaf-clause-next g c =
    let a = page_of (g.D.Device.state c.args.device.now).disk.view in
    let p = err_from_is_err_and c.from_residual.result c.from_residual.ensures.1 in
    let next = c.in_err-read_next_leaf.ensures.next in
    record {
      pair = λ keeps found is. answer_err c.from_residual.result c.in_err-read_next_leaf.field-0.0 p.0 _ _ p.1 p.2 (next.pair keeps found (found_there c.args.slot.now a found c.under.result c.under.ensures is.0));
      kept = λ keeps found is.
          subst (λ (tree : TreeRoot). IsKeptLeaf a (bounds_at tree) found c.read_next_leaf.new.kept) c.under.ensures
          (next.kept keeps found (found_there c.args.slot.now a found c.under.result c.under.ensures is.0));
      reads = search rules;
    }

pub returns-clause-next : goal.returns-clause-next
returns-clause-next g c =
    let a = page_of (g.D.Device.state c.args.device.now).disk.view in
    let next = c.in_ok-read_next_leaf.ensures.next in
    record {
      pair = λ keeps found is. c.copy_after.ensures.copied.is ∙ next.pair keeps found (found_there c.args.slot.now a found c.under.result c.under.ensures is.0);
      kept = λ keeps found is.
          subst (λ (l : List Pair). IsKeptLeaf a (bounds_under c.args.slot.now) found l) (sym c.copy_after.ensures.kept)
          (subst (λ (tree : TreeRoot). IsKeptLeaf a (bounds_at tree) found c.read_next_leaf.new.kept) c.under.ensures
          (next.kept keeps found (found_there c.args.slot.now a found c.under.result c.under.ensures is.0)));
      reads = record { device = next.reads.device; reads = next.reads.reads };
    }
