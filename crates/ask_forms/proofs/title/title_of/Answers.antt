use Rattle.std.proofs.Common.{◌≡◌, ◌∙◌, map, ap, sym, refl}
use Rattle.host_types.specs.Names.{is_field, name_of}
use Rattle.ask_forms.specs.Post.{title_byte, title_of, or_untitled}
use Rattle.ask_forms.proofs.Titles.{can_be_title, is_title}
use Rattle.ask_forms.proofs.title.title_of.Goals as goal

pub unwrap-requires-2 : goal.unwrap-requires-2
unwrap-requires-2 c =
    let named = c.new-2.ensures ∙ ap (name_of is_field 69) (c.deref.ensures.value ∙ c.in_ok-bytes.ensures) ∙ can_be_title c.front_of-front.result.now c.front_of-front.ensures.fits in
    rw named refl

pub returns : goal.returns
unfolding title_of
returns c =
    let named = c.new-2.ensures ∙ ap (name_of is_field 69) (c.deref.ensures.value ∙ c.in_ok-bytes.ensures) ∙ can_be_title c.front_of-front.result.now c.front_of-front.ensures.fits in
    let same : c.unwrap-2.result ≡ map title_byte c.front_of-front.result.now = cc (named, c.unwrap-2.ensures) in
    same ∙ sym (is_title c.front_of-front.result.now (sym c.is_empty.ensures ∙ c.if-is_empty.false)) ∙ ap (λ l. or_untitled (map title_byte l)) c.front_of-front.ensures.bytes
