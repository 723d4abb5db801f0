use Prim.Native.Nat.{ℕ}
use mathlib.Core.Path.{sym, ap, ap₂, ◌∙◌}
use lib.Bits.{bit_xor}
use Rattle.graph.specs.Sets.{firsts}
use Rattle.sighted.specs.Sighted.{sets_in, seen_in, seen_of}
use Rattle.sighted.proofs.see.Goals as goal

pub search-requires : goal.search-requires
search-requires c = (c.within-m.ensures.1, c.start-first.ensures, ap₂ bit_xor (c.first_atoms.ensures ∙ ap firsts (sym c.within-m.ensures.0)) c.start-first.ensures)

pub returns : goal.returns
unfolding seen_of
returns c = let e = c.within-m.ensures.0 in c.search.ensures ∙ ap (λ (m : ℕ). seen_in (sets_in c.args.s.now) m c.args.a m) e
