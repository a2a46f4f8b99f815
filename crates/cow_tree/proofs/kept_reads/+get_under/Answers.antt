use Rattle.std.proofs.Common.{◌≡◌, ◌+◌, ◌*◌, arith, ◌-◌, ℕ, [], Option, Some, None, sym, subst, rules}
use Rattle.std.specs.Prelude.{option_map, take}
use Rattle.std.proofs.lemmas.Result.{err_from_is_err_and}
use Rattle.sector_device.specs.Disk.{Disk}
use Rattle.sector_device.specs.Effects.{MadeAtMost}
use Rattle.sector_device.proofs.Works.{most_then, no_more_than}
use Rattle.page_store.specs.Sectors.{page_of}
use Rattle.page_store.specs.Batch.{value_at}
use Rattle.page_store.specs.Content.{walk}
use Rattle.page_store.proofs.DeviceSequences.{still_honest}
use Rattle.tree_nodes.specs.PageViews.{bounds_of}
use Rattle.cow_tree.specs.KeptPlaces.{IsLeafUnder}
use Rattle.cow_tree.proofs.AnswersGiven.{answer_is, answer_err}
use Rattle.cow_tree.proofs.ValuesInLeaves.{leaf_alone, leaf_of_part, on_any, on_err, on_more}
use Rattle.cow_tree.proofs.kept_reads.+get_under.Goals as goal

pub returns-then-level-eq0 : goal.returns-then-level-eq0
returns-then-level-eq0 g t c =
    let here = c.get_in_leaf-found.ensures.found in
    record {
      found = record {
        within = here.within;
        value = λ keeps found walked.
            here.value keeps found (subst (λ (n : ℕ). walk (page_of (g.D.Device.state c.args.device.now).disk.view) (bounds_of c.args.bounds) n c.args.page [] None ≡ Some found) c.if-level-eq0.true walked);
        buffer = here.buffer;
        reads = here.reads;
      };
      kept = λ keeps. c.looked_into.ensures.kept (page_of (g.D.Device.state c.get_in_leaf-found.new.device).disk.view) (c.get_in_leaf-found.ensures.kept keeps);
      leaf = λ keeps found walked.
          let view = page_of (g.D.Device.state c.args.device.now).disk.view in
          let there = subst (λ (n : ℕ). walk view (bounds_of c.args.bounds) n c.args.page [] None ≡ Some found) c.if-level-eq0.true walked in
          on_any c.get_in_leaf-found.result (subst (λ (n : ℕ). IsLeafUnder view (bounds_of c.args.bounds) n found) (sym c.looked_into.ensures.leaf) (leaf_alone view (bounds_of c.args.bounds) c.args.page found there));
      work = subst (λ (n : ℕ). MadeAtMost (8 * (n + 1)) 0 0 (g.D.Device.state c.args.device.now) (g.D.Device.state c.get_in_leaf-found.new.device)) (sym c.if-level-eq0.true) c.get_in_leaf-found.ensures.work;
    }

pub returns-in_err-child : goal.returns-in_err-child
returns-in_err-child g t c =
    let p = err_from_is_err_and c.from_residual.result c.from_residual.ensures.1 in
    record {
      found = record {
        within = search rules;
        value = λ keeps found walked. answer_err c.from_residual.result c.in_err-child.field-0.0 p.0 _ _ p.1 p.2 (c.in_err-child.ensures.way keeps found walked);
        buffer = search rules;
        reads = search rules;
      };
      kept = c.in_err-child.ensures.kept;
      leaf = λ keeps found walked. on_err _ c.from_residual.result p.0 p.1;
      work = no_more_than c.page_around.ensures.work (omega arith) (omega arith) (omega arith);
    }

pub returns : goal.returns
returns g t c =
    let d = g.D.Device in
    let under = c.get_under.ensures.found in
    let read = c.in_ok-child.ensures.reads in
    record {
      found = record {
        within = under.within;
        value = λ keeps found walked.
            let w = c.in_ok-child.ensures.way keeps found walked in
            let keeps1 = still_honest (d.state c.args.device.now) (d.state c.page_around.new.device) read.device.only.same keeps in
            let here = subst (λ (x : Disk). walk (page_of x.view) (bounds_of c.args.bounds) (c.args.level - 1) c.in_ok-child.child [] None ≡ Some w.here) (sym (read.device.only.disk keeps)) w.here_is in
            answer_is c.get_under.result (λ (size : Option ℕ). option_map (λ (n : ℕ). take n c.get_under.new.buffer) size) (value_at w.here.pairs c.args.key.now) (value_at found.pairs c.args.key.now) (sym w.value) (under.value keeps1 w.here here);
        buffer = under.buffer;
        reads = search rules;
      };
      kept = c.get_under.ensures.kept;
      leaf = λ keeps found walked.
          let w = c.in_ok-child.ensures.way keeps found walked in
          let keeps1 = still_honest (d.state c.args.device.now) (d.state c.page_around.new.device) read.device.only.same keeps in
          let here = subst (λ (x : Disk). walk (page_of x.view) (bounds_of c.args.bounds) (c.args.level - 1) c.in_ok-child.child [] None ≡ Some w.here) (sym (read.device.only.disk keeps)) w.here_is in
          let leaf = c.get_under.new.places.leaf in
          on_more c.get_under.result (c.get_under.ensures.leaf keeps1 w.here here)
          (λ l.
          leaf_of_part (page_of (d.state c.args.device.now).disk.view) (bounds_of c.args.bounds) leaf w.here found w.part
          (subst (λ (x : Disk). IsLeafUnder (page_of x.view) (bounds_of c.args.bounds) leaf w.here) (read.device.only.disk keeps) l));
      work =
          let ne = c.if-level-eq0.false in
          let more : 8 + 8 * (c.args.level - 1 + 1) ≡ 8 * (c.args.level + 1) = omega (arith, ne) in
          subst (λ (n : ℕ). MadeAtMost n 0 0 (d.state c.args.device.now) (d.state c.get_under.new.device)) more
          (most_then c.in_ok-child.ensures.work c.get_under.ensures.work);
    }
