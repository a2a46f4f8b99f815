use Rattle.site_records.specs.LayoutLaws.{record_in-layout}
use Rattle.site_records.proofs.ChunkLaws.{chunks_law, words_law}
use Rattle.site_records.proofs.LayoutTells.{found_small}
use Rattle.site_records.proofs.laws.layouts_hold.Goals as goal

pub returns : goal.returns
returns c = λ s site. record {
  records = λ selector. record_in-layout s selector site.sorted;
  chunks = λ selector v k fits. chunks_law s selector v k site.sorted (found_small s site selector) fits;
  words = λ word selector. words_law s word selector site.sorted;
}
