use Rattle.std.proofs.Common.{ℕ, Option, arith, rules}
use Rattle.std.specs.Prelude.{option_map, take}
use Rattle.page_store.specs.Sectors.{page_of}
use Rattle.tree_nodes.specs.PageViews.{bounds_of}
use Rattle.cow_tree.proofs.PagesTold.{pair_answered}
use Rattle.cow_tree.proofs.next_reads.read_pair.Goals as goal

pub returns-clause-next : goal.returns-clause-next
returns-clause-next g c =
    let loaded = c.in_ok-load_page.ensures.reads in
    record {
      within = c.copy_pair.ensures.within;
      pair = λ keeps found walked.
          pair_answered (page_of (g.D.Device.state c.args.device.now).disk.view) (bounds_of c.args.bounds) c.args.page found c.load_page.new.bytes (c.in_ok-load_page.ensures.page keeps) (let long = c.load_page.array_long in omega (arith, long)) walked c.args.after.now
          (λ (sizes : Option (ℕ × ℕ)). option_map (λ (n : ℕ × ℕ). (take n.0 c.copy_pair.new.key, take n.1 c.copy_pair.new.value)) sizes) c.copy_pair.result c.copy_pair.ensures.pair c.copy_pair.ensures.fault;
      key = c.copy_pair.ensures.key;
      value = c.copy_pair.ensures.value;
      reads = search rules;
    }
