use Prim.Native.Nat.{ℕ, min}
use mathlib.Core.Bool.{Bool, true, false}
use mathlib.Core.Path.{◌≡◌, refl, sym, ap, ◌∙◌}
use native.Mathlib.Omega.{arith}
use lib.Dec.{leb}
use lib.ListN.{length, take, length-take}
use borrow.Author.Tests.{eq-eqb, ne_eqb, le-leb, lt-leb, leb-true, leb-false}
use borrow.Author.Rules.{rules}
use Rattle.assembly.specs.Book.{used, is_numbered, most_blocks}
use Rattle.assembly.specs.declared.BlockAt.{BlockAt}
use Rattle.deck.proofs.is_unfit.Goals as goal
use Rattle.deck.proofs.is_unfit.Goals.{After-is_numbered, Start}

-- `deck::is_unfit` meets its contract. Assumes nothing.
used-is : (c : After-is_numbered) → let a = c.args in used (take a.count a.blocks) a.number ≡ c.is_numbered.result
used-is c = let a = c.args in sym (c.is_numbered.ensures ∙ ap (λ (b : BlockAt). is_numbered b a.number) c.find_block.ensures)

-- as many blocks as there can be are there exactly where so many are counted
full : (n : ℕ) → leb most_blocks (min n most_blocks) ≡ leb most_blocks n
full n = go (leb most_blocks n) refl
  where
    go : (t : Bool) → leb most_blocks n ≡ t → leb most_blocks (min n most_blocks) ≡ t
    go true e = le-leb most_blocks (min n most_blocks) (omega (arith, leb-true most_blocks n e))
    go false e = lt-leb most_blocks (min n most_blocks) (omega (arith, leb-false most_blocks n e))

counted : (s : Start) → leb most_blocks (length (take s.args.count s.args.blocks)) ≡ leb most_blocks s.args.count
counted s =
    let n : length s.args.blocks ≡ most_blocks = search rules in
    ap (leb most_blocks) (length-take s.args.count s.args.blocks ∙ ap (min s.args.count) n) ∙ full s.args.count

pub returns-then-number-eq0 : goal.returns-then-number-eq0
returns-then-number-eq0 c = simp (eq-eqb c.args.number 0 c.if-number-eq0.true)

pub returns-then-is_numbered : goal.returns-then-is_numbered
returns-then-is_numbered c = rw (used-is (goal.at.returns-then-is_numbered c).After-is_numbered ∙ c.if-is_numbered.true, ne_eqb c.args.number 0 c.if-number-eq0.false)

pub returns : goal.returns
returns c = let a = c.args in
    rw (used-is (goal.at.returns c).After-is_numbered ∙ c.if-is_numbered.false, ne_eqb a.number 0 c.if-number-eq0.false, counted (goal.at.returns c).Start)
