use Rattle.std.proofs.lemmas.Bool.{and_parts, leb-true, ltb-true}
use Rattle.std.specs.Prelude.{◌^◌, length, nat_le, nat_lt}
use Rattle.common_types.specs.Names.{is_field, is_word}
use Rattle.host_types.specs.Items.{is_selector, is_title, is_host, is_typed_item}
use Rattle.host_types.specs.ValidChanges.{ChangesKeepSites, FreshSites}
use Rattle.host_types.specs.declared.change.Change.TheVariants.{Put, Remove, Move, SetHost, SetAdmin, Post}
use Rattle.host_types.proofs.FreshSite.{fresh_keeps}
use Rattle.host_types.proofs.ValidPut.{put_keeps}
use Rattle.host_types.proofs.ValidRemove.{remove_keeps, host_keeps, admin_keeps}
use Rattle.host_types.proofs.ValidMove.{move_keeps}
use Rattle.host_types.proofs.ValidPost.{post_keeps}
use Rattle.host_types.proofs.laws.changes_keep_sites_valid.Goals as goal

fresh : FreshSites
fresh host port admin title stamp host_is given fits admin_is title_is early =
    let host_parts = and_parts (nat_le (length host) 100) (is_word host) host_is in
    let admin_parts = and_parts (nat_le (length admin) 100) (is_field admin) admin_is in
    let title_parts = and_parts (nat_le (length title) 69) (is_field title) title_is in
    fresh_keeps host port admin title stamp (leb-true _ _ host_parts.0) host_parts.1 given fits (leb-true _ _ admin_parts.0) admin_parts.1 (leb-true _ _ title_parts.0) title_parts.1 early

changed : ChangesKeepSites
changed s t (Put selector item) now site typed early h =
    let parts = and_parts (is_selector selector) (is_typed_item item) typed in
    put_keeps s t selector item now site parts.0 parts.1 early h
changed s t (Remove selector) now site typed early h = remove_keeps s t selector site h
changed s t (Move from to) now site typed early h = move_keeps s t from to now site (and_parts (is_selector from) (is_selector to) typed).1 early h
changed s t (SetHost host port) now site typed early h =
    let parts = and_parts (is_host host) (nat_lt port (2 ^ 16)) typed in
    host_keeps s t host port site parts.0 (ltb-true port (2 ^ 16) parts.1) h
changed s t (SetAdmin admin) now site typed early h = admin_keeps s t admin site typed h
changed s t (Post board title text) now site typed early h =
    let parts = and_parts (is_selector board) (is_title title) typed in
    post_keeps s t board title text now site parts.0 parts.1 early h

pub returns-clause-fresh : goal.returns-clause-fresh
returns-clause-fresh c = fresh

pub returns-clause-changed : goal.returns-clause-changed
returns-clause-changed c = changed
