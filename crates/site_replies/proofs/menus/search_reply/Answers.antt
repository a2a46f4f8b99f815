use Rattle.std.proofs.Common.{List, ℕ, ◌≡◌, ◌∙◌, ap}
use Rattle.host_types.specs.Visible.{visible}
use Rattle.word_search.specs.Search.{search_of}
use Rattle.word_search.specs.Finds.{finds_of}
use Rattle.site_replies.specs.Reply.{menu_reply, locals}
use Rattle.site_replies.proofs.AfterReads.{same_address}
use Rattle.site_replies.proofs.FoundMenus.{all_found, found_menu}
use Rattle.site_replies.proofs.menus.search_reply.Goals as goal

pub returns : goal.returns
returns g c =
    let a = g.S.SiteKeeper.site_state c.args.site.now in
    let b = g.S.SiteKeeper.site_state c.search.new.self in
    let s = visible a.site c.args.now in
    record {
      reply = record {
        gives = λ honest.
            let found = c.as_slice.ensures ∙ c.in_ok-found.ensures.found honest in
            c.in_ok-finds_reply.ensures.reply s (same_address a b c.front.result c.search.ensures.kept honest c.front.ensures) (all_found s c.args.scope.now c.words_asked.result.now c.as_slice.result.now found)
            ∙ found_menu s c.args.is_plus c.args.scope.now c.words_asked.result.now c.as_slice.result.now found
            ∙ ap (λ (words : List ℕ). menu_reply s c.args.is_plus (locals (search_of s c.args.scope.now words))) c.words_asked.ensures;
        only = record { kept = c.search.ensures.kept; lacking = c.search.ensures.lacking; no_new_crash_state = c.search.ensures.at_crash };
        fault = tt;
        counts = c.in_ok-found.ensures.reads;
      };
    }
