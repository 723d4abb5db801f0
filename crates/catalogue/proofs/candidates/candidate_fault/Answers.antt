use Prim.Native.Nat.{◌+◌, ◌≤◌}
use mathlib.Core.Bool.{true, false}
use mathlib.Core.Path.{◌≡◌, sym, ◌∙◌, ap, ap₂}
use borrow.Author.Tests.{not-true, not-false}
use lib.ListN.{length, take}
use Rattle.graph.specs.Graph.{Graph}
use Rattle.reply.specs.Read.{is_outside}
use Rattle.assembly.specs.Book.{Book, block_graph, book_of}
use Rattle.catalogue.specs.Library.{candidate_bytes, candidate_number, candidate_atom, is_full_in}
use Rattle.catalogue.proofs.Turns.{has_is, graph_is, candidate_cut, candidate_none, candidate_outside, core_full, candidate_full, candidate_well}
use Rattle.catalogue.proofs.candidates.candidate_fault.Goals as goal
use Rattle.catalogue.proofs.candidates.candidate_fault.Goals.{After-find_block-b, After-is_numbered, After-is_outside, After-is_own_full, Else-is_outside, Else-not-is_numbered, Else-xs-p, Start}

-- `catalogue::candidates::candidate_fault` meets its contract. Assumes nothing.
abbrev book : Start → Book
book s = book_of s.args.d.now (take s.args.count s.args.blocks)

abbrev book-in-After-find_block-b : After-find_block-b → Book
book-in-After-find_block-b s = book_of s.args.d.now (take s.args.count s.args.blocks)

abbrev book-in-After-is_numbered : After-is_numbered → Book
book-in-After-is_numbered s = book_of s.args.d.now (take s.args.count s.args.blocks)

abbrev book-in-Else-not-is_numbered : Else-not-is_numbered → Book
book-in-Else-not-is_numbered s = book_of s.args.d.now (take s.args.count s.args.blocks)

abbrev book-in-After-is_outside : After-is_outside → Book
book-in-After-is_outside s = book_of s.args.d.now (take s.args.count s.args.blocks)

abbrev book-in-Else-is_outside : Else-is_outside → Book
book-in-Else-is_outside s = book_of s.args.d.now (take s.args.count s.args.blocks)

abbrev book-in-After-is_own_full : After-is_own_full → Book
book-in-After-is_own_full s = book_of s.args.d.now (take s.args.count s.args.blocks)

whole : (c : Else-xs-p) → let a = c.args in a.p + candidate_bytes ≤ length a.xs.now
whole c = c.if-xs-p.false

has : (c : After-is_numbered) → c.is_numbered.result ≡ (book-in-After-is_numbered c).has (candidate_number c.args.xs.now c.args.p)
has c = has_is c.args.d.now (take c.args.count c.args.blocks) _ c.le16_at-number.result c.find_block-b.result c.le16_at-number.ensures c.find_block-b.ensures _ c.is_numbered.ensures

has-in-Else-not-is_numbered : (c : Else-not-is_numbered) → c.is_numbered.result ≡ (book-in-Else-not-is_numbered c).has (candidate_number c.args.xs.now c.args.p)
has-in-Else-not-is_numbered c = has_is c.args.d.now (take c.args.count c.args.blocks) _ c.le16_at-number.result c.find_block-b.result c.le16_at-number.ensures c.find_block-b.ensures _ c.is_numbered.ensures

found : (c : Else-not-is_numbered) → (book-in-Else-not-is_numbered c).has (candidate_number c.args.xs.now c.args.p) ≡ true
found c = sym (has-in-Else-not-is_numbered c) ∙ not-false c.is_numbered.result c.if-not-is_numbered.false-raw

block : (c : After-find_block-b) → block_graph c.args.d.now c.find_block-b.result ≡ (book-in-After-find_block-b c).graph (candidate_number c.args.xs.now c.args.p)
block c = graph_is c.args.d.now (take c.args.count c.args.blocks) _ c.le16_at-number.result c.find_block-b.result c.le16_at-number.ensures c.find_block-b.ensures

block-in-After-is_outside : (c : After-is_outside) → block_graph c.args.d.now c.find_block-b.result ≡ (book-in-After-is_outside c).graph (candidate_number c.args.xs.now c.args.p)
block-in-After-is_outside c = graph_is c.args.d.now (take c.args.count c.args.blocks) _ c.le16_at-number.result c.find_block-b.result c.le16_at-number.ensures c.find_block-b.ensures

block-in-Else-is_outside : (c : Else-is_outside) → block_graph c.args.d.now c.find_block-b.result ≡ (book-in-Else-is_outside c).graph (candidate_number c.args.xs.now c.args.p)
block-in-Else-is_outside c = graph_is c.args.d.now (take c.args.count c.args.blocks) _ c.le16_at-number.result c.find_block-b.result c.le16_at-number.ensures c.find_block-b.ensures

block-in-After-is_own_full : (c : After-is_own_full) → block_graph c.args.d.now c.find_block-b.result ≡ (book-in-After-is_own_full c).graph (candidate_number c.args.xs.now c.args.p)
block-in-After-is_own_full c = graph_is c.args.d.now (take c.args.count c.args.blocks) _ c.le16_at-number.result c.find_block-b.result c.le16_at-number.ensures c.find_block-b.ensures

outside : (c : After-is_outside) → let n = candidate_number c.args.xs.now c.args.p in
    c.is_outside.result ≡ is_outside ((book-in-After-is_outside c).graph n).atoms (candidate_atom c.args.xs.now c.args.p)
outside c = c.is_outside.ensures ∙ ap₂ is_outside (ap (λ (g : Graph). g.atoms) (block-in-After-is_outside c)) c.byte_at-own.ensures

outside-in-Else-is_outside : (c : Else-is_outside) → let n = candidate_number c.args.xs.now c.args.p in
    c.is_outside.result ≡ is_outside ((book-in-Else-is_outside c).graph n).atoms (candidate_atom c.args.xs.now c.args.p)
outside-in-Else-is_outside c = c.is_outside.ensures ∙ ap₂ is_outside (ap (λ (g : Graph). g.atoms) (block-in-Else-is_outside c)) c.byte_at-own.ensures

inside : (c : Else-is_outside) → let n = candidate_number c.args.xs.now c.args.p in
    is_outside ((book-in-Else-is_outside c).graph n).atoms (candidate_atom c.args.xs.now c.args.p) ≡ false
inside c = sym (outside-in-Else-is_outside c) ∙ c.if-is_outside.false

own-full : (c : After-is_own_full) → let n = candidate_number c.args.xs.now c.args.p in
    c.is_own_full.result ≡ is_full_in ((book-in-After-is_own_full c).graph n) (candidate_atom c.args.xs.now c.args.p)
own-full c = c.is_own_full.ensures ∙ ap₂ is_full_in (block-in-After-is_own_full c) c.byte_at-own.ensures

pub returns-then-xs-p : goal.returns-then-xs-p
returns-then-xs-p c = let a = c.args in λ core atom e. sym (candidate_cut (book (goal.at.returns-then-xs-p c).Start) core a.xs.now atom a.p c.if-xs-p.true)

pub returns-then-not-is_numbered : goal.returns-then-not-is_numbered
returns-then-not-is_numbered c = let a = c.args in λ core atom e. sym (candidate_none (book (goal.at.returns-then-not-is_numbered c).Start) core a.xs.now atom a.p (whole (goal.at.returns-then-not-is_numbered c).Else-xs-p) (sym (has (goal.at.returns-then-not-is_numbered c).After-is_numbered) ∙ not-true c.is_numbered.result c.if-not-is_numbered.true-raw))

pub returns-then-is_outside : goal.returns-then-is_outside
returns-then-is_outside c = let a = c.args in λ core atom e. sym (candidate_outside (book (goal.at.returns-then-is_outside c).Start) core a.xs.now atom a.p (whole (goal.at.returns-then-is_outside c).Else-xs-p) (found (goal.at.returns-then-is_outside c).Else-not-is_numbered) (sym (outside (goal.at.returns-then-is_outside c).After-is_outside) ∙ c.if-is_outside.true))

pub returns-then-full : goal.returns-then-full
returns-then-full c = let a = c.args in λ core atom e. sym (core_full (book (goal.at.returns-then-full c).Start) core a.xs.now atom a.p (whole (goal.at.returns-then-full c).Else-xs-p) (found (goal.at.returns-then-full c).Else-not-is_numbered) (inside (goal.at.returns-then-full c).Else-is_outside) (sym e ∙ c.if-full.true))

pub returns-then-is_own_full : goal.returns-then-is_own_full
returns-then-is_own_full c = let a = c.args in λ core atom e. sym (candidate_full (book (goal.at.returns-then-is_own_full c).Start) core a.xs.now atom a.p (whole (goal.at.returns-then-is_own_full c).Else-xs-p) (found (goal.at.returns-then-is_own_full c).Else-not-is_numbered) (inside (goal.at.returns-then-is_own_full c).Else-is_outside) (sym e ∙ c.if-full.false) (sym (own-full (goal.at.returns-then-is_own_full c).After-is_own_full) ∙ c.if-is_own_full.true))

pub returns : goal.returns
returns c = let a = c.args in λ core atom e. sym (candidate_well (book (goal.at.returns c).Start) core a.xs.now atom a.p (whole (goal.at.returns c).Else-xs-p) (found (goal.at.returns c).Else-not-is_numbered) (inside (goal.at.returns c).Else-is_outside) (sym e ∙ c.if-full.false) (sym (own-full (goal.at.returns c).After-is_own_full) ∙ c.if-is_own_full.false))
