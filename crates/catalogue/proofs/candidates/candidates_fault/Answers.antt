use Prim.Native.Nat.{ℕ, suc, ◌-◌}
use mathlib.Core.Path.{◌≡◌, refl, sym, ◌∙◌, ap}
use native.Mathlib.Omega.{arith}
use lib.ListN.{take}
use Rattle.graph.specs.Graph.{Graph}
use Rattle.assembly.specs.Book.{Book, block_graph, book_of}
use Rattle.catalogue.specs.Library.{is_full_in, candidates_fault}
use Rattle.catalogue.proofs.Sound.{joins}
use Rattle.catalogue.proofs.Turns.{no_candidates, wrong_candidate, next_candidate}
use Rattle.catalogue.proofs.candidates.candidates_fault.Goals as goal
use Rattle.catalogue.proofs.candidates.candidates_fault.Goals.{At-loop-left, In-loop-left, Start}

abbrev book : Start → Book
book s = book_of s.args.d.now (take s.args.count s.args.blocks)

abbrev book-in-At-loop-left : At-loop-left → Book
book-in-At-loop-left s = book_of s.args.d.now (take s.args.count s.args.blocks)

abbrev book-in-In-loop-left : In-loop-left → Book
book-in-In-loop-left s = book_of s.args.d.now (take s.args.count s.args.blocks)

abbrev core : Start → Graph
core s = block_graph s.args.d.now s.args.core

abbrev core-in-At-loop-left : At-loop-left → Graph
core-in-At-loop-left s = block_graph s.args.d.now s.args.core

abbrev core-in-In-loop-left : In-loop-left → Graph
core-in-In-loop-left s = block_graph s.args.d.now s.args.core

-- what is left to do
left : (c : At-loop-left) → let a = c.args in
    candidates_fault (book-in-At-loop-left c) (core-in-At-loop-left c) a.xs.now a.atom a.many a.first ≡ candidates_fault (book-in-At-loop-left c) (core-in-At-loop-left c) a.xs.now a.atom c.loop-left.left c.loop-left.p
left c = c.loop-left.invariant.1 (core-in-At-loop-left c) c.args.atom c.is_full-full.ensures

-- and one candidate at least
turned : (c : In-loop-left) → let a = c.args in
    (g : Graph) (b : ℕ) → c.is_full-full.result ≡ is_full_in g b → candidates_fault (book-in-In-loop-left c) g a.xs.now b a.many a.first ≡ candidates_fault (book-in-In-loop-left c) g a.xs.now b (suc (c.loop-left.left - 1)) c.loop-left.p
turned c g b e =
    let a = c.args in
    let one : c.loop-left.left ≡ suc (c.loop-left.left - 1) = omega arith in
    c.loop-left.invariant.1 g b e ∙ ap (λ (n : ℕ). candidates_fault (book-in-In-loop-left c) g a.xs.now b n c.loop-left.p) one

left_one : (c : In-loop-left) → let a = c.args in
    candidates_fault (book-in-In-loop-left c) (core-in-In-loop-left c) a.xs.now a.atom a.many a.first ≡ candidates_fault (book-in-In-loop-left c) (core-in-In-loop-left c) a.xs.now a.atom (suc (c.loop-left.left - 1)) c.loop-left.p
left_one c = turned c (core-in-In-loop-left c) c.args.atom c.is_full-full.ensures

pub loop-left-init : goal.loop-left-init
loop-left-init c = (c.requires, λ g a e. refl)

pub candidate_fault-f-requires : goal.candidate_fault-f-requires
candidate_fault-f-requires c = c.loop-left.invariant.0

pub returns-then-f-ne0 : goal.returns-then-f-ne0
returns-then-f-ne0 c =
    let a = c.args in
    let f = c.candidate_fault-f.ensures (core (goal.at.returns-then-f-ne0 c).Start) a.atom c.is_full-full.ensures in
    f ∙ sym (left_one (goal.at.returns-then-f-ne0 c).In-loop-left ∙ wrong_candidate (book (goal.at.returns-then-f-ne0 c).Start) (core (goal.at.returns-then-f-ne0 c).Start) a.xs.now a.atom c.loop-left.p (c.loop-left.left - 1) (λ e. c.if-f-ne0.true (f ∙ e)))

pub loop-left-preserved : goal.loop-left-preserved
loop-left-preserved c =
    let a = c.args in (
      (joins (book (goal.at.loop-left-preserved c).Start) (core (goal.at.loop-left-preserved c).Start) a.xs.now a.atom c.loop-left.p (sym (c.candidate_fault-f.ensures (core (goal.at.loop-left-preserved c).Start) a.atom c.is_full-full.ensures) ∙ c.if-f-ne0.false)).within,
      λ g b e. turned (goal.at.loop-left-preserved c).In-loop-left g b e ∙ next_candidate (book (goal.at.loop-left-preserved c).Start) g a.xs.now b c.loop-left.p (c.loop-left.left - 1) (sym (c.candidate_fault-f.ensures g b e) ∙ c.if-f-ne0.false),
    )

pub returns : goal.returns
returns c =
    let a = c.args in
    let e : c.loop-left.left ≡ 0 = omega arith in
    sym (left (goal.at.returns c).At-loop-left ∙ ap (λ (n : ℕ). candidates_fault (book (goal.at.returns c).Start) (core (goal.at.returns c).Start) a.xs.now a.atom n c.loop-left.p) e ∙ no_candidates (book (goal.at.returns c).Start) (core (goal.at.returns c).Start) a.xs.now a.atom c.loop-left.p)
