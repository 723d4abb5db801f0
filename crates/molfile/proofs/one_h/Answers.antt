use mathlib.Core.Path.{sym, ◌∙◌}
use Rattle.molfile.proofs.Symbols.{h_first, h_then, h_second, h_third, h_no_third, h_none}
use Rattle.molfile.proofs.one_h.Goals as goal

-- `molfile::one_h` meets its contract. Assumes nothing.
pub returns-then-is_blank : goal.returns-then-is_blank
returns-then-is_blank c =
    let a = c.args in
    c.is_blank-then-is_blank.ensures ∙ sym (h_first a.a a.b a.c (sym c.is_h.ensures ∙ c.if-is_h.true) (sym c.is_blank.ensures ∙ c.if-is_blank.true))

pub returns-then-is_h : goal.returns-then-is_h
returns-then-is_h c =
    let a = c.args in
    sym (h_then a.a a.b a.c (sym c.is_h.ensures ∙ c.if-is_h.true) (sym c.is_blank.ensures ∙ c.if-is_blank.false))

pub returns-then-is_h-2 : goal.returns-then-is_h-2
returns-then-is_h-2 c =
    let a = c.args in
    c.is_blank-then-is_h-2.ensures ∙ sym (h_second a.a a.b a.c (sym c.is_blank-2.ensures ∙ c.if-is_blank-2.true) (sym c.is_h-then-is_blank-2.ensures ∙ c.if-is_h-2.true))

pub returns-then-is_blank-3 : goal.returns-then-is_blank-3
returns-then-is_blank-3 c =
    let a = c.args in
    c.is_h-then-is_blank-3.ensures ∙ sym (h_third a.a a.b a.c (sym c.is_blank-2.ensures ∙ c.if-is_blank-2.true) (sym c.is_h-then-is_blank-2.ensures ∙ c.if-is_h-2.false) (sym c.is_blank-then-is_blank-2.ensures ∙ c.if-is_blank-3.true))

pub returns-else-is_blank-3 : goal.returns-else-is_blank-3
returns-else-is_blank-3 c =
    let a = c.args in
    sym (h_no_third a.a a.b a.c (sym c.is_blank-2.ensures ∙ c.if-is_blank-2.true) (sym c.is_h-then-is_blank-2.ensures ∙ c.if-is_h-2.false) (sym c.is_blank-then-is_blank-2.ensures ∙ c.if-is_blank-3.false))

pub returns-else-is_blank-2 : goal.returns-else-is_blank-2
returns-else-is_blank-2 c =
    let a = c.args in
    sym (h_none a.a a.b a.c (sym c.is_h.ensures ∙ c.if-is_h.false) (sym c.is_blank-2.ensures ∙ c.if-is_blank-2.false))
