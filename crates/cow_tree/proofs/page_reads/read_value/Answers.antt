use Rattle.std.proofs.Common.{ℕ, Option, arith, rules}
use Rattle.std.specs.Prelude.{option_map, take}
use Rattle.page_store.specs.Sectors.{page_of}
use Rattle.tree_nodes.specs.PageViews.{bounds_of}
use Rattle.cow_tree.proofs.PagesTold.{value_answered}
use Rattle.cow_tree.proofs.WorkDone.{whatever}
use Rattle.cow_tree.proofs.page_reads.read_value.Goals as goal

pub returns : goal.returns
returns g c =
    let loaded = c.in_ok-load_page.ensures.reads in
    record {
      found = record {
        within = c.copy_value.ensures.within;
        value = λ keeps found walked.
            value_answered (page_of (g.D.Device.state c.args.device.now).disk.view) (bounds_of c.args.bounds) c.args.page found c.load_page.new.bytes (c.in_ok-load_page.ensures.page keeps) (let long = c.load_page.array_long in omega (arith, long)) walked c.args.key.now
            (λ (size : Option ℕ). option_map (λ (n : ℕ). take n c.copy_value.new.buffer) size) c.copy_value.result c.copy_value.ensures.value c.copy_value.ensures.fault;
        buffer = c.copy_value.ensures.buffer;
        reads = search rules;
      };
      work = whatever c.copy_value.result c.in_ok-load_page.ensures.work;
    }
