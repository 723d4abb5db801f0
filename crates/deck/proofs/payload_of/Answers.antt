use Prim.Native.Nat.{◌+◌, ◌*◌}
use mathlib.Core.List.{List}
use mathlib.Core.Path.{◌≡◌, sym, ap, ◌∙◌}
use lib.ListN.{take}
use borrow.Author.Tests.{not-true, not-false}
use Rattle.records.specs.Records.{block_kind}
use Rattle.assembly.specs.Book.{is_numbered, used}
use Rattle.assembly.specs.declared.BlockAt.{BlockAt}
use Rattle.deck.specs.Deck.{Span}
use Rattle.deck.proofs.Parts.{no_payload, has_payload, part_at}
use Rattle.deck.proofs.payload_of.Goals as goal
use Rattle.deck.proofs.payload_of.Goals.{After-is_numbered, Start}

-- `deck::payload_of` meets its contract. Assumes nothing.
abbrev blocks : Start → List BlockAt
blocks s = take s.args.count s.args.blocks

abbrev blocks-in-After-is_numbered : After-is_numbered → List BlockAt
blocks-in-After-is_numbered s = take s.args.count s.args.blocks

abbrev span : BlockAt → Span
span b = record { from = b.start; len = block_kind.fixed + block_kind.item * b.bonds }

used-is : (c : After-is_numbered) → used (blocks-in-After-is_numbered c) c.args.number ≡ c.is_numbered.result
used-is c = sym (c.is_numbered.ensures ∙ ap (λ (b : BlockAt). is_numbered b c.args.number) c.find_block-b.ensures)

pub returns-then-not-is_numbered : goal.returns-then-not-is_numbered
returns-then-not-is_numbered c = part_at (sym (no_payload (blocks (goal.at.returns-then-not-is_numbered c).Start) c.args.number (used-is (goal.at.returns-then-not-is_numbered c).After-is_numbered ∙ not-true c.is_numbered.result c.if-not-is_numbered.true-raw))) c.part.ensures

pub returns : goal.returns
returns c = part_at (ap span c.find_block-b.ensures ∙ sym (has_payload (blocks (goal.at.returns c).Start) c.args.number (used-is (goal.at.returns c).After-is_numbered ∙ not-false c.is_numbered.result c.if-not-is_numbered.false-raw))) c.part-2.ensures
