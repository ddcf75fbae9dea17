use Rattle.std.proofs.Common.{pos, length, sym, ap, ◌∙◌}
use Rattle.std.proofs.lemmas.List.{length-map}
use Rattle.column_base.specs.Numbers.{numbers}
use Rattle.column_base.proofs.values.PrimitiveValues.len.Goals as goal

pub returns-in-U8 : goal.returns-in-U8
returns-in-U8 g c = c.len.ensures ∙ sym (length-map c.in-U8.items.items pos) ∙ ap (λ own. length (numbers own)) (sym c.in-U8.is)

pub returns-in-U16 : goal.returns-in-U16
returns-in-U16 g c = c.len-in-U16.ensures ∙ sym (length-map c.in-U16.items.items pos) ∙ ap (λ own. length (numbers own)) (sym c.in-U16.is)

pub returns-in-U32 : goal.returns-in-U32
returns-in-U32 g c = c.len-in-U32.ensures ∙ sym (length-map c.in-U32.items.items pos) ∙ ap (λ own. length (numbers own)) (sym c.in-U32.is)

pub returns-in-U64 : goal.returns-in-U64
returns-in-U64 g c = c.len-in-U64.ensures ∙ sym (length-map c.in-U64.items.items pos) ∙ ap (λ own. length (numbers own)) (sym c.in-U64.is)

pub returns-in-I8 : goal.returns-in-I8
returns-in-I8 g c = c.len-in-I8.ensures ∙ ap (λ own. length (numbers own)) (sym c.in-I8.is)

pub returns-in-I16 : goal.returns-in-I16
returns-in-I16 g c = c.len-in-I16.ensures ∙ ap (λ own. length (numbers own)) (sym c.in-I16.is)

pub returns-in-I32 : goal.returns-in-I32
returns-in-I32 g c = c.len-in-I32.ensures ∙ ap (λ own. length (numbers own)) (sym c.in-I32.is)

pub returns-in-I64 : goal.returns-in-I64
returns-in-I64 g c = c.len-in-I64.ensures ∙ ap (λ own. length (numbers own)) (sym c.in-I64.is)
