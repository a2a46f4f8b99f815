use Rattle.std.proofs.Common.{◌≡◌, ◌*◌, ◌+◌, true, IsTrue}
use Rattle.std.specs.Prelude.{option_copied}
use Rattle.std.specs.List.{list_all}
use Rattle.page_store.specs.Sectors.{page_of}
use Rattle.page_store.specs.Steps.{crash_states_of}
use Rattle.page_store.specs.DeviceEffects.{IsReadCall}
use Rattle.page_store.specs.Pages.{is_inside}
use Rattle.page_store.specs.Content.{walk, fan}
use Rattle.tree_nodes.specs.PageViews.{bounds_of, children_in}
use Rattle.cow_tree.specs.NamedWalks.{walk_or_name, fan_or_name}
use Rattle.cow_tree.specs.Work.{ReadsEachOnce}
use Rattle.cow_tree.specs.Walks.{IsWalkedTo, NamesAfter, OnlyHolds, HoldsWhole}
use Rattle.cow_tree.proofs.opening_walk.+walks.Given as goal

abbrev pub decreases-walk_children : goal.decreases-walk_children
decreases-walk_children g l = 2 * l.level + 1

abbrev pub decreases-walk_tree : goal.decreases-walk_tree
decreases-walk_tree g l = 2 * l.level

abbrev pub invariant-walk_children-loop-key : goal.invariant-walk_children-loop-key
invariant-walk_children-loop-key g l =
    let d = g.D.Device in
    record {
      ledger : OnlyHolds l.fn.ledger l.ledger;
      inside : list_all (is_inside l.bounds.pages) (children_in l.left.count l.left.entries.now) ≡ true;
      device : IsReadCall d.state (crash_states_of d.moment d.possible_since) l.fn.device l.device;
      reads : (d.state l.device).failed_reads ≡ (d.state l.fn.device).failed_reads;
      work : ReadsEachOnce (d.state l.fn.device) (d.state l.device) l.fn.ledger l.ledger;
      whole : IsTrue (d.state l.fn.device).honest → HoldsWhole (d.state l.fn.device).disk.view l.fn.ledger l.ledger;
      so_far : IsTrue (d.state l.fn.device).honest → IsWalkedTo (fan (walk (page_of (d.state l.fn.device).disk.view) (bounds_of l.bounds) l.level) l.low (option_copied l.high)) (children_in l.branch.count l.branch.entries.now) (children_in l.left.count l.left.entries.now) l.fn.ledger l.ledger l.count;
      names : IsTrue (d.state l.fn.device).honest → NamesAfter (fan_or_name (walk_or_name (page_of (d.state l.fn.device).disk.view) (bounds_of l.bounds) l.level) l.low (option_copied l.high)) (children_in l.branch.count l.branch.entries.now) (children_in l.left.count l.left.entries.now) l.fn.ledger l.ledger;
    }

abbrev pub decreases-walk_children-loop-key : goal.decreases-walk_children-loop-key
decreases-walk_children-loop-key g l = l.left.count
