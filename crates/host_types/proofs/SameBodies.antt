-- What a copy of an item's body has.
use Rattle.std.proofs.Common.{rules, ◌≡◌}
use Rattle.std.proofs.lemmas.List.Elements.{same_from_all_zip}
use Rattle.host_types.specs.declared.item.Body.{Body}
use Rattle.host_types.specs.declared.view.View.{View}
use Rattle.host_types.specs.declared.menu.Entry.{Entry}
use Rattle.host_types.specs.declared.form.Question.{Question}
use Rattle.host_types.specs.declared.form.Question.TheVariants.{Choose}
use Rattle.host_types.specs.declared.item.Body.TheVariants.{Views, Menu, Form}
use Rattle.host_types.specs.contracts.item.BodyClone.TheImpl.{by_variants}
use Rattle.common_types.specs.contracts.bytes.BytesClone.TheImpl as bytes
use Rattle.host_types.specs.contracts.view.ViewClone.TheImpl as view
use Rattle.host_types.specs.contracts.menu.EntryClone.TheImpl as entry
use Rattle.host_types.specs.contracts.form.QuestionClone.TheImpl as question

same_view : (a b : View) → view.ghosts.is_clone a b → b ≡ a
same_view a b is = search rules

same_entry : (a b : Entry) → entry.ghosts.is_clone a b → b ≡ a
same_entry a b is = search rules

same_question : (a b : Question) → question.ghosts.is_clone a b → b ≡ a
same_question (Choose prompt l) (Choose other n) is = λ i. Choose (is.0 i) (same_from_all_zip bytes.ghosts.is_clone l n is.1 (λ a b same. same) i)
same_question a b is = search rules

pub same_body : (a b : Body) → by_variants a b → b ≡ a
same_body (Views k l) (Views m n) is = λ i. Views (is.0 i) (same_from_all_zip view.ghosts.is_clone l n is.1 same_view i)
same_body (Menu l) (Menu n) is = λ i. Menu (same_from_all_zip entry.ghosts.is_clone l n is same_entry i)
same_body (Form k l) (Form m n) is = λ i. Form (is.0 i) (same_from_all_zip question.ghosts.is_clone l n is.1 same_question i)
same_body a b is = search rules
