-- Menus and errors behind a rewritten request.
use Rattle.std.proofs.Common.{◌≡◌, ℕ, Bool, true, false, List, [], ◌∷◌, ◌++◌, ap, sym, ◌∙◌, refl, append_assoc, flat_map}
use Rattle.std.specs.List.{AllByRecursion, list_any}
use Rattle.host_types.specs.Lines.{begins, is_lf}
use Rattle.text_writer.specs.Errors.{error_reply, plain_error, plus_error}
use Rattle.text_writer.specs.Menu.{IsMenuLine, menu}
use Rattle.text_writer.specs.Text.{line_end, text_end}
use Rattle.text_writer.specs.declared.error.ErrorText.{ErrorText}
use Rattle.old_clients.proofs.Requests.{head_lacks, tail_lacks}
use Rattle.old_clients.specs.AdaptedReply.{adapted_reply, head_line, info, informed}

rest_of_line : (bs rest : List ℕ) → list_any is_lf bs ≡ false → informed false (bs ++ 13 ∷ 10 ∷ rest) ≡ bs ++ 13 ∷ 10 ∷ informed true rest
rest_of_line [] rest none = refl
rest_of_line (b ∷ bs) rest none = ap (λ l. b ∷ l) (rw (head_lacks b bs none) (rest_of_line bs rest (tail_lacks b bs none)))

whole_line : (bs rest : List ℕ) → list_any is_lf bs ≡ false → begins 46 bs ≡ false → informed true (bs ++ 13 ∷ 10 ∷ rest) ≡ info ++ bs ++ 13 ∷ 10 ∷ informed true rest
whole_line [] rest none no_period = refl
whole_line (b ∷ bs) rest none no_period = rw no_period (ap (λ l. info ++ b ∷ l) (rw (head_lacks b bs none) (rest_of_line bs rest (tail_lacks b bs none))))

menu_line : (line rest : List ℕ) → IsMenuLine line → informed true (line ++ rest) ≡ (info ++ line) ++ informed true rest
menu_line line rest is =
    ap (λ l. informed true (l ++ rest)) is.ended
    ∙ ap (informed true) (append_assoc is.content line_end rest)
    ∙ whole_line is.content rest is.one is.no_period
    ∙ ap (λ l. info ++ l) (sym (append_assoc is.content line_end (informed true rest)))
    ∙ ap (λ l. (info ++ l) ++ informed true rest) (sym is.ended)

lines_informed : (ls : List (List ℕ)) → AllByRecursion IsMenuLine ls → informed true (flat_map (λ line. line) ls ++ text_end) ≡ flat_map (λ line. info ++ line) ls ++ text_end
lines_informed [] all = refl
lines_informed (l ∷ ls) all =
    ap (informed true) (append_assoc l (flat_map (λ line. line) ls) text_end)
    ∙ menu_line l (flat_map (λ line. line) ls ++ text_end) all.0
    ∙ ap (λ rest. (info ++ l) ++ rest) (lines_informed ls all.1)
    ∙ sym (append_assoc (info ++ l) (flat_map (λ line. info ++ line) ls) text_end)

pub menu_informed : (ls : List (List ℕ)) → AllByRecursion IsMenuLine ls → adapted_reply true (head_line ++ menu ls) ≡ head_line ++ flat_map (λ line. info ++ line) ls ++ text_end
unfolding adapted_reply menu
menu_informed ls all = ap (λ l. head_line ++ l) (lines_informed ls all)

pub error_stays : (rewritten plus : Bool) (error : ErrorText) (place : List ℕ) → adapted_reply rewritten (error_reply plus error place) ≡ error_reply plus error place
unfolding adapted_reply plain_error plus_error
error_stays false plus error place = refl
error_stays true true error place = refl
error_stays true false error place = refl
